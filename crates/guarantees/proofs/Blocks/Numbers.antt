-- The numbers of reading a block: each refusal but 19 is one of `refusals`, so that accepted means none of them. Assumes nothing.
use mathlib.Core.Path.{◌≡◌, refl}
use Prim.Native.Nat.{ℕ, ◌+◌}
use native.Mathlib.Omega.{arith}
use mathlib.Core.Bool.{Bool, true, false, cond}
use mathlib.Core.List.{List, [], ◌∷◌}
use lib.Dec.{leb}
use lib.ListN.{length}
use borrow.Author.Tests.{leb-false}
use Rattle.bits.specs.Strings.{same}
use Rattle.bits.specs.Bytes.{bits_of}
use Rattle.block.specs.declared.Method.{Method}
use Rattle.block.specs.declared.Method.TheVariants as method
use Rattle.block.specs.declared.Parity.{Parity}
use Rattle.block.specs.declared.Mark.{Mark}
use Rattle.block.specs.declared.Field.{Field}
use Rattle.block.specs.declared.Field.TheVariants.{Start, StartDle, Header, HeaderDle, Text, Clear, ClearDle}
use Rattle.block.specs.declared.Judged.{Judged}
use Rattle.block.specs.declared.Judged.TheVariants.{Is, Ends, NoStart, OutOfPlace, DleOutOfPlace}
use Rattle.block.specs.Signs.{CodeTable, sign_of}
use Rattle.block.specs.Characters.{is_seven, carries, character, parity_right}
use Rattle.block.specs.Walk.{Stop, ended, refused, Walked, judge, cut, onward, walk}
use Rattle.block.specs.Marks.{counted, check_bytes}
use Rattle.block.specs.Check.{check_of, check_length}
use Rattle.block.specs.Read.{Framed, found, unframed, ask, ask_parities, ask_end, ask_walk, framed, first_asked, then_asked, ask_check, Parts, parts_of, output_length, ReadAnswer, taken, refusal, read_block}
use Rattle.block.specs.Limits.{counted_limit, line_limit}
use Rattle.block.proofs.CheckLaws.{check_length_lem}
use Rattle.block.proofs.Walks.{marks-within}
use Rattle.guarantees.specs.Lines.{is_one_of}
use Rattle.guarantees.specs.Blocks.{number_of, refusals, AcceptsByNumber}
use Rattle.guarantees.proofs.Lines.Numbers.{Numbered, listed, for_output, only_last, listed_not_last}

-- ---- a refusal before 18 has one of the numbers

-- a list with the numbers that every method can give
record Lists (ns : List ℕ) : Type 0 where
  not_carried : is_one_of ns 58 ≡ true
  too_long : is_one_of ns 11 ≡ true
  wrong_parity : is_one_of ns 12 ≡ true
  no_start : is_one_of ns 13 ≡ true
  out_of_place : is_one_of ns 14 ≡ true
  no_end : is_one_of ns 15 ≡ true
  check_long : is_one_of ns 53 ≡ true
  too_many : is_one_of ns 17 ≡ true

abbrev StopIn : List ℕ → Stop → Type 0
StopIn ns (ended f e) = Unit
StopIn ns (refused n v) = is_one_of ns n ≡ true

abbrev FramedIn : List ℕ → Framed → Type 0
FramedIn ns (found ks f e) = Unit
FramedIn ns (unframed n v) = is_one_of ns n ≡ true

module _ (table : CodeTable) {ns : List ℕ} (lists : Lists ns) where
  cut_in : (f : Field) → StopIn ns (cut f)
  cut_in Start = lists.no_start
  cut_in StartDle = lists.no_start
  cut_in Header = lists.no_end
  cut_in HeaderDle = lists.no_end
  cut_in Text = lists.no_end
  cut_in Clear = lists.no_end
  cut_in ClearDle = lists.no_end

  onward_in : (go : Field → Walked) → ((g : Field) → StopIn ns (go g).stop) → (f : Field) (at : ℕ) (j : Judged) → StopIn ns (onward go f at j).stop
  onward_in go h f at (Is k g) = h g
  onward_in go h f at (Ends e) = tt
  onward_in go h f at NoStart = lists.no_start
  onward_in go h f at OutOfPlace = lists.out_of_place
  onward_in go h f at DleOutOfPlace = lists.out_of_place

  walk_in : (seven : Bool) (line : List ℕ) (at : ℕ) (f : Field) → StopIn ns (walk table seven line at f).stop
  walk_in seven [] at f = cut_in f
  walk_in seven (b ∷ line) at f = onward_in (walk table seven line (at + 1)) (walk_in seven line (at + 1)) f at (judge seven f (sign_of table (character seven b)))

  ask_in : (holds : Bool) (n v : ℕ) (next : Framed) → (holds ≡ false → is_one_of ns n ≡ true) → FramedIn ns next → FramedIn ns (ask holds n v next)
  ask_in true n v next b h = h
  ask_in false n v next b h = b refl

  parities_in : (p : Parity) (line : List ℕ) (at : ℕ) (next : Framed) → FramedIn ns next → FramedIn ns (ask_parities p line at next)
  parities_in p [] at next h = h
  parities_in p (b ∷ line) at next h =
      ask_in (parity_right p b) 12 at (ask_parities p line (at + 1) next) (λ e. lists.wrong_parity) (parities_in p line (at + 1) next h)

  either_in : (t : Bool) (a b : Framed) → FramedIn ns a → FramedIn ns b → FramedIn ns (cond t a b)
  either_in true a b h k = h
  either_in false a b h k = k

  end_in : (m : Method) (line : List ℕ) (ks : List Mark) (s : Stop) → (leb (length ks + check_length m) (length line) ≡ false → is_one_of ns 52 ≡ true)
      → StopIn ns s → FramedIn ns (ask_end m line ks s)
  end_in m line ks (refused n v) short h = h
  end_in m line ks (ended f e) short h =
      ask_in (leb (length ks + check_length m) (length line)) 52 (length ks) _ short
      (ask_in (leb (length line) (length ks + check_length m)) 53 (length ks) _ (λ q. lists.check_long)
      (ask_in (leb (length (counted ks line)) counted_limit) 17 0 (found ks f e) (λ q. lists.too_many) tt))

  framed_in : (m : Method) (p : Parity) (line : List ℕ)
      → (leb (length (walk table (is_seven m) line 0 Start).marks + check_length m) (length line) ≡ false → is_one_of ns 52 ≡ true) → FramedIn ns (framed table m p line)
  unfolding framed
  framed_in m p line short =
      let w = walk table (is_seven m) line 0 Start in
      let next = ask_walk m line w in
      let h = end_in m line w.marks w.stop short (walk_in (is_seven m) line 0 Start) in
      ask_in (carries table m) 58 0 _ (λ e. lists.not_carried)
      (ask_in (leb (length line) line_limit) 11 0 _ (λ e. lists.too_long)
      (either_in (is_seven m) (ask_parities p line 0 next) next (parities_in p line 0 next h) h))

abbrev pub FramedNumbered : Framed → Type 0
FramedNumbered = FramedIn refusals

pub framed_numbered : (table : CodeTable) (m : Method) (p : Parity) (line : List ℕ) → FramedNumbered (framed table m p line)
framed_numbered table m p line =
    framed_in table {ns = refusals}
    (record { not_carried = refl; too_long = refl; wrong_parity = refl; no_start = refl; out_of_place = refl; no_end = refl; check_long = refl; too_many = refl })
    m p line (λ e. refl)

-- ---- a line of method 1 is never short of its check, which has no bytes

abbrev others : List ℕ
others = 58 ∷ 11 ∷ 12 ∷ 13 ∷ 14 ∷ 15 ∷ 53 ∷ 17 ∷ []

-- the walk's marks are no more than the line's bytes
framed-others : (table : CodeTable) (p : Parity) (line : List ℕ) → FramedIn others (framed table method.Parity p line)
framed-others table p line =
    let seven = is_seven method.Parity in
    let needed = length (walk table seven line 0 Start).marks + check_length method.Parity in
    framed_in table {ns = others}
    (record { not_carried = refl; too_long = refl; wrong_parity = refl; no_start = refl; out_of_place = refl; no_end = refl; check_long = refl; too_many = refl })
    method.Parity p line
    (λ e. absurd (omega (arith, marks-within table seven line 0 Start, check_length_lem method.Parity, leb-false needed (length line) e)))

-- ---- 18, 54 and 19

abbrev pub answer : Bool → Bool → Bool → Parts → ReadAnswer
answer first second fits b = cond first (cond second (cond fits (taken b) (refusal 19 (output_length b))) (refusal 54 0)) (refusal 18 0)

abbrev AnswerNumbered : ReadAnswer → Type 0
AnswerNumbered (taken b) = Unit
AnswerNumbered (refusal n v) = Numbered refusals 19 n

answer_numbered : (first second fits : Bool) (b : Parts) → AnswerNumbered (answer first second fits b)
answer_numbered true true true b = tt
answer_numbered true true false b = for_output refl
answer_numbered true false fits b = listed refl
answer_numbered false second fits b = listed refl

by_number : (a : ReadAnswer) → AnswerNumbered a → AcceptsByNumber a
by_number (taken b) h = (λ u. refl, λ u. tt)
by_number (refusal n v) h = only_last refusals 19 n refl h

module _ (table : CodeTable) (m : Method) (p : Parity) (line : List ℕ) (room : ℕ) where
  check_numbered : (w : Framed) → FramedNumbered w → AnswerNumbered (ask_check m p line room w)
  check_numbered (unframed n v) h = listed h
  check_numbered (found ks f e) h =
      let b = parts_of m line ks f e in
      let received = bits_of (check_bytes ks line) in
      let computed = check_of m p (counted ks line) in
      answer_numbered (same (first_asked m received) (first_asked m computed)) (same (then_asked m received) (then_asked m computed)) (leb (output_length b) room) b

  pub accepts_by_number : AcceptsByNumber (read_block table m p line room)
  unfolding read_block
  accepts_by_number = by_number (read_block table m p line room) (check_numbered (framed table m p line) (framed_numbered table m p line))

pub never_short : (table : CodeTable) (p : Parity) (line : List ℕ) (room : ℕ) → number_of (read_block table method.Parity p line room) ≡ 52 → ⊥
unfolding read_block
never_short table p line room = go (framed table method.Parity p line) (framed-others table p line)
  where
    checked : (first second fits : Bool) (b : Parts) → number_of (answer first second fits b) ≡ 52 → ⊥
    checked true true true b e = omega arith
    checked true true false b e = omega arith
    checked true false fits b e = omega arith
    checked false second fits b e = omega arith

    go : (w : Framed) → FramedIn others w → number_of (ask_check method.Parity p line room w) ≡ 52 → ⊥
    go (unframed n v) h e = listed_not_last others 52 n refl h e
    go (found ks f d) h e =
        let b = parts_of method.Parity line ks f d in
        let received = bits_of (check_bytes ks line) in
        let computed = check_of method.Parity p (counted ks line) in
        checked (same received computed) (same [] []) (leb (output_length b) room) b e
