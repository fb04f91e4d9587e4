-- One SYN more ahead of a line: it is left out, and what follows stands one place further. Assumes nothing.
use mathlib.Core.Path.{◌≡◌, refl, ap, ◌∙◌}
use Prim.Native.Nat.{ℕ, suc, ◌+◌, ◌-◌, ◌≤◌}
use native.Mathlib.Numerals.{add-one}
use native.Mathlib.Omega.{arith}
use mathlib.Core.Bool.{Bool, true, false, cond}
use mathlib.Core.List.{List, [], ◌∷◌}
use lib.Dec.{leb, leb-suc-suc}
use lib.ListN.{length}
use borrow.Author.Tests.{le-leb}
use Rattle.bits.specs.Strings.{same}
use Rattle.bits.specs.Bytes.{bits_of}
use Rattle.block.specs.declared.Method.{Method}
use Rattle.block.specs.declared.Parity.{Parity}
use Rattle.block.specs.declared.Mark.TheVariants.{LeftOut}
use Rattle.block.specs.declared.Field.{Field}
use Rattle.block.specs.declared.Field.TheVariants.{Start, StartDle, Header, HeaderDle, Text, Clear, ClearDle}
use Rattle.block.specs.declared.Judged.{Judged}
use Rattle.block.specs.declared.Judged.TheVariants.{Is, Ends, NoStart, OutOfPlace, DleOutOfPlace}
use Rattle.block.specs.Signs.{CodeTable, Sign, soh, stx, etx, dle, syn, etb, us, other, sign_of}
use Rattle.block.specs.Characters.{is_seven, carries, character, parity_right, sent}
use Rattle.block.specs.Walk.{Stop, ended, refused, Walked, ahead, halt, cut, in_start, judge, onward, walk}
use Rattle.block.specs.Marks.{counted, check_bytes}
use Rattle.block.specs.Check.{check_of, check_length}
use Rattle.block.specs.Read.{Framed, found, unframed, ask, ask_parities, ask_end, ask_walk, framed, Parts, parts_of, output_length, first_asked, then_asked, ask_check, read_block}
use Rattle.block.specs.Limits.{counted_limit, line_limit}
use Rattle.block.proofs.Start.{syn_ahead}
use Rattle.block.proofs.Tables.{value-below, sign_syn}
use Rattle.guarantees.specs.LeadingFill.{moved_value, moved_answer}
use Rattle.guarantees.proofs.Blocks.Numbers.{answer}
use Rattle.guarantees.proofs.Written.Walk.{low-back}
use Rattle.guarantees.proofs.Written.Parities.{right-character}

-- ---- the walk, one place further

abbrev moved_stop : Stop → Stop
moved_stop (ended f e) = ended f e
moved_stop (refused n v) = refused n (moved_value 1 n v)

abbrev moved_walk : Walked → Walked
moved_walk w = record { marks = w.marks; stop = moved_stop w.stop }

cut_moved : (f : Field) → halt (cut f) ≡ moved_walk (halt (cut f))
cut_moved Start = refl
cut_moved StartDle = refl
cut_moved Header = refl
cut_moved HeaderDle = refl
cut_moved Text = refl
cut_moved Clear = refl
cut_moved ClearDle = refl

onward-moved : (go next : Field → Walked) → ((g : Field) → next g ≡ moved_walk (go g)) → (f : Field) (at : ℕ) → 1 ≤ at → (j : Judged)
    → onward next f (at + 1) j ≡ moved_walk (onward go f at j)
onward-moved go next h f at l (Is k g) = ap (ahead k) (h g)
onward-moved go next h f at l (Ends e) = refl
onward-moved go next h f at l NoStart = refl
onward-moved go next h f at l OutOfPlace = refl
onward-moved go next h f at l DleOutOfPlace = let e : at + 1 - 1 ≡ at - 1 + 1 = omega arith in ap (λ n. halt (refused 14 n)) e

walk-moved : (table : CodeTable) (seven : Bool) (line : List ℕ) (at : ℕ) (f : Field) → 1 ≤ at → walk table seven line (at + 1) f ≡ moved_walk (walk table seven line at f)
walk-moved table seven [] at f l = cut_moved f
walk-moved table seven (b ∷ rest) at f l =
    onward-moved (walk table seven rest (at + 1)) (walk table seven rest (at + 1 + 1)) (λ g. walk-moved table seven rest (at + 1) g (omega arith)) f at l
    (judge seven f (sign_of table (character seven b)))

-- from place 0 on: before the first byte stands no DLE that could be out of place
start-moved : (table : CodeTable) (seven : Bool) (line : List ℕ) → walk table seven line 1 Start ≡ moved_walk (walk table seven line 0 Start)
start-moved table seven [] = refl
start-moved table seven (b ∷ rest) = go (sign_of table (character seven b))
  where
    on : (g : Field) → ahead LeftOut (walk table seven rest 2 g) ≡ moved_walk (ahead LeftOut (walk table seven rest 1 g))
    on g = ap (ahead LeftOut) (walk-moved table seven rest 1 g (omega arith))

    at_dle : (t : Bool) → onward (walk table seven rest 2) Start 1 (cond t NoStart (Is LeftOut StartDle))
        ≡ moved_walk (onward (walk table seven rest 1) Start 0 (cond t NoStart (Is LeftOut StartDle)))
    at_dle true = refl
    at_dle false = on StartDle

    go : (s : Sign) → onward (walk table seven rest 2) Start 1 (in_start seven s)
        ≡ moved_walk (onward (walk table seven rest 1) Start 0 (in_start seven s))
    go soh = on Header
    go stx = on Text
    go etx = refl
    go dle = at_dle seven
    go syn = on Start
    go etb = refl
    go us = refl
    go other = refl

-- ---- the questions up to 17

abbrev pub moved_framed : Framed → Framed
moved_framed (found ks f e) = found (LeftOut ∷ ks) f e
moved_framed (unframed n v) = unframed n (moved_value 1 n v)

ask-moved : (holds : Bool) (n v : ℕ) (next : Framed) → ask holds n (moved_value 1 n v) (moved_framed next) ≡ moved_framed (ask holds n v next)
ask-moved true n v next = refl
ask-moved false n v next = refl

parities_moved : (p : Parity) (line : List ℕ) (at : ℕ) (next : Framed)
    → ask_parities p line (at + 1) (moved_framed next) ≡ moved_framed (ask_parities p line at next)
parities_moved p [] at next = refl
parities_moved p (b ∷ line) at next =
    ap (ask (parity_right p b) 12 (at + 1)) (parities_moved p line (at + 1) next)
    ∙ ask-moved (parity_right p b) 12 at (ask_parities p line (at + 1) next)

end_moved : (m : Method) (b : ℕ) (line : List ℕ) (w : Walked)
    → ask_walk m (b ∷ line) (ahead LeftOut (moved_walk w)) ≡ moved_framed (ask_walk m line w)
end_moved m b line w = go w.stop
  where
    go : (s : Stop) → ask_end m (b ∷ line) (LeftOut ∷ w.marks) (moved_stop s) ≡ moved_framed (ask_end m line w.marks s)
    go (refused n v) = refl
    go (ended f e) =
        let ks = w.marks in
        let few = leb (length (counted ks line)) counted_limit in
        let n : suc (length ks) + check_length m ≡ suc (length ks + check_length m) = omega arith in
        let short = leb (length ks + check_length m) (length line) in
        let long = leb (length line) (length ks + check_length m) in
        let counted-few = ask few 17 0 (found ks f e) in
        rw (
          ask-moved few 17 0 (found ks f e),
          n,
          leb-suc-suc (length ks + check_length m) (length line),
          leb-suc-suc (length line) (length ks + check_length m),
          ← add-one (length ks),
          ask-moved long 53 (length ks) counted-few,
        )
        (ask-moved short 52 (length ks) (ask long 53 (length ks) counted-few))

-- SYN is read where SYN is sent
pub syn_sign : (table : CodeTable) (seven : Bool) (p : Parity) → sign_of table (character seven (sent seven p table.SYN)) ≡ syn
syn_sign table seven p = ap (sign_of table) (low-back seven p table.SYN (omega (arith, value-below table 4 refl))) ∙ sign_syn table

either_moved : (table : CodeTable) (seven : Bool) (p : Parity) (line : List ℕ) (next : Framed)
    → cond seven (ask_parities p (sent seven p table.SYN ∷ line) 0 (moved_framed next)) (moved_framed next)
    ≡ moved_framed (cond seven (ask_parities p line 0 next) next)
unfolding sent
either_moved table true p line next = rw (right-character p table.SYN) (parities_moved p line 0 next)
either_moved table false p line next = refl

-- ---- 18, 54 and 19

answer-moved : (first second fits : Bool) (b : Parts) → answer first second fits b ≡ moved_answer 1 (answer first second fits b)
answer-moved true true true b = refl
answer-moved true true false b = refl
answer-moved true false fits b = refl
answer-moved false second fits b = refl

check-moved : (m : Method) (p : Parity) (b : ℕ) (line : List ℕ) (room : ℕ) (w : Framed)
    → ask_check m p (b ∷ line) room (moved_framed w) ≡ moved_answer 1 (ask_check m p line room w)
check-moved m p b line room (unframed n v) = refl
check-moved m p b line room (found ks f e) =
    let parts = parts_of m line ks f e in
    let received = bits_of (check_bytes ks line) in
    let computed = check_of m p (counted ks line) in
    answer-moved (same (first_asked m received) (first_asked m computed)) (same (then_asked m received) (then_asked m computed)) (leb (output_length parts) room) parts

-- ---- the line

module _ (table : CodeTable) (m : Method) (p : Parity) (line : List ℕ) where
  abbrev longer : List ℕ
  longer = sent (is_seven m) p table.SYN ∷ line

  abbrev walked : Walked
  walked = walk table (is_seven m) line 0 Start

  walked-moved : ask_walk m longer (walk table (is_seven m) longer 0 Start) ≡ moved_framed (ask_walk m line walked)
  walked-moved =
      ap (ask_walk m longer) (syn_ahead table (is_seven m) (sent (is_seven m) p table.SYN) line 0 (syn_sign table (is_seven m) p) ∙ ap (ahead LeftOut) (start-moved table (is_seven m) line))
      ∙ end_moved m (sent (is_seven m) p table.SYN) line walked

  pub framed-moved : length longer ≤ line_limit → framed table m p longer ≡ moved_framed (framed table m p line)
  unfolding framed
  framed-moved l =
      let h : length line ≤ line_limit = omega arith in
      rw (le-leb (length longer) line_limit l, le-leb (length line) line_limit h)
      (ap (ask (carries table m) 58 0) (ap (λ next. cond (is_seven m) (ask_parities p longer 0 next) next) walked-moved
      ∙ either_moved table (is_seven m) p line (ask_walk m line walked)) ∙ ask-moved (carries table m) 58 0 _)

  pub read_moved : (room : ℕ) → length longer ≤ line_limit → read_block table m p longer room ≡ moved_answer 1 (read_block table m p line room)
  unfolding read_block
  read_moved room l = ap (ask_check m p longer room) (framed-moved l) ∙ check-moved m p _ line room (framed table m p line)
