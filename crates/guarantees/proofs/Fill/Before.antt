-- Lines taken before fill was left out ahead of the start read as before: behind the start both walks are one. Assumes nothing.
use mathlib.Core.Path.{◌≡◌, refl, ap, ◌∙◌}
use Prim.Native.Nat.{ℕ, ◌+◌}
use native.Mathlib.Omega.{arith}
use mathlib.Core.Bool.{Bool, true, false, cond}
use mathlib.Core.List.{List, [], ◌∷◌}
use lib.Dec.{leb}
use lib.ListN.{length}
use Rattle.block.specs.declared.Method.{Method}
use Rattle.block.specs.declared.Parity.{Parity}
use Rattle.block.specs.declared.Field.{Field}
use Rattle.block.specs.declared.Field.TheVariants.{Start, StartDle, Header, HeaderDle, Text, Clear, ClearDle}
use Rattle.block.specs.declared.Judged.{Judged}
use Rattle.block.specs.declared.Judged.TheVariants.{Is, Ends, NoStart, OutOfPlace, DleOutOfPlace}
use Rattle.block.specs.Signs.{CodeTable, Sign, soh, stx, etx, dle, syn, etb, us, other, sign_of}
use Rattle.block.specs.Characters.{is_seven, carries, character, parity_right}
use Rattle.block.specs.Walk.{Walked, ahead, in_start, in_start_dle, in_header, in_header_dle, in_text, in_clear, in_clear_dle, judge, onward, walk}
use Rattle.block.specs.Read.{Framed, found, unframed, ask, ask_parities, ask_walk, framed, ask_check, read_block}
use Rattle.block.specs.Limits.{line_limit}
use Rattle.guarantees.specs.Blocks.{Accepts}
use Rattle.guarantees.specs.Fill.{first_sign}
use Rattle.guarantees.specs.LeadingFill.{in_start_before, judge_before, walk_before, framed_before, read_before, BeginsWithSyn, ReadAsBefore}

-- ---- a walk that is behind the start stays there

abbrev Behind : Field → Type 0
Behind Start = ⊥
Behind StartDle = Unit
Behind Header = Unit
Behind HeaderDle = Unit
Behind Text = Unit
Behind Clear = Unit
Behind ClearDle = Unit

abbrev Stays : Judged → Type 0
Stays (Is k g) = Behind g
Stays (Ends e) = Unit
Stays NoStart = Unit
Stays OutOfPlace = Unit
Stays DleOutOfPlace = Unit

every_sign : (P : Sign → Type 0) → P soh → P stx → P etx → P dle → P syn → P etb → P us → P other → (s : Sign) → P s
every_sign P a b c d e f g h soh = a
every_sign P a b c d e f g h stx = b
every_sign P a b c d e f g h etx = c
every_sign P a b c d e f g h dle = d
every_sign P a b c d e f g h syn = e
every_sign P a b c d e f g h etb = f
every_sign P a b c d e f g h us = g
every_sign P a b c d e f g h other = h

either_stays : (t : Bool) (i j : Judged) → Stays i → Stays j → Stays (cond t i j)
either_stays true i j h k = h
either_stays false i j h k = k

stays : (seven : Bool) (f : Field) (s : Sign) → Behind f → Stays (judge seven f s)
stays seven Start s h = absurd h
stays seven StartDle s h = every_sign (λ s. Stays (in_start_dle s)) tt tt tt tt tt tt tt tt s
stays seven Header s h = every_sign (λ s. Stays (in_header seven s)) tt tt tt (either_stays seven _ _ tt tt) tt tt tt tt s
stays seven HeaderDle s h = every_sign (λ s. Stays (in_header_dle s)) tt tt tt tt tt tt tt tt s
stays seven Text s h = every_sign (λ s. Stays (in_text s)) tt tt tt tt tt tt tt tt s
stays seven Clear s h = every_sign (λ s. Stays (in_clear s)) tt tt tt tt tt tt tt tt s
stays seven ClearDle s h = every_sign (λ s. Stays (in_clear_dle s)) tt tt tt tt tt tt tt tt s

-- ---- there both walks are one

judge-same : (seven : Bool) (f : Field) (s : Sign) → Behind f → judge seven f s ≡ judge_before seven f s
judge-same seven Start s h = absurd h
judge-same seven StartDle s h = refl
judge-same seven Header s h = refl
judge-same seven HeaderDle s h = refl
judge-same seven Text s h = refl
judge-same seven Clear s h = refl
judge-same seven ClearDle s h = refl

onward-same : (go before : Field → Walked) → ((g : Field) → Behind g → go g ≡ before g) → (f : Field) (at : ℕ) (j : Judged) → Stays j
    → onward go f at j ≡ onward before f at j
onward-same go before h f at (Is k g) s = ap (ahead k) (h g s)
onward-same go before h f at (Ends e) s = refl
onward-same go before h f at NoStart s = refl
onward-same go before h f at OutOfPlace s = refl
onward-same go before h f at DleOutOfPlace s = refl

walk_same : (table : CodeTable) (seven : Bool) (line : List ℕ) (at : ℕ) (f : Field) → Behind f → walk table seven line at f ≡ walk_before table seven line at f
walk_same table seven [] at f h = refl
walk_same table seven (b ∷ rest) at f h =
    let s = sign_of table (character seven b) in
    let before = walk_before table seven rest (at + 1) in
    onward-same (walk table seven rest (at + 1)) before (walk_same table seven rest (at + 1)) f at (judge seven f s) (stays seven f s h)
    ∙ ap (onward before f at) (judge-same seven f s h)

start-same : (table : CodeTable) (seven : Bool) (line : List ℕ) → (first_sign table seven line ≡ syn → ⊥) → walk table seven line 0 Start ≡ walk_before table seven line 0 Start
start-same table seven [] h = refl
start-same table seven (b ∷ rest) h = go (sign_of table (character seven b)) h
  where
    behind : (j : Judged) → Stays j → onward (walk table seven rest 1) Start 0 j ≡ onward (walk_before table seven rest 1) Start 0 j
    behind = onward-same (walk table seven rest 1) (walk_before table seven rest 1) (walk_same table seven rest 1) Start 0

    go : (s : Sign) → (s ≡ syn → ⊥)
        → onward (walk table seven rest 1) Start 0 (in_start seven s) ≡ onward (walk_before table seven rest 1) Start 0 (in_start_before seven s)
    go soh h = behind (in_start seven soh) tt
    go stx h = behind (in_start seven stx) tt
    go etx h = refl
    go dle h = behind (in_start seven dle) (either_stays seven _ _ tt tt)
    go syn h = absurd (h refl)
    go etb h = refl
    go us h = refl
    go other h = refl

-- ---- a line that begins with SYN was refused with 11, 12 or 13

abbrev Refused : Framed → Type 0
Refused (found ks f e) = ⊥
Refused (unframed n v) = n ≡ 19 → ⊥

ask_refused : (holds : Bool) (n v : ℕ) (next : Framed) → (n ≡ 19 → ⊥) → Refused next → Refused (ask holds n v next)
ask_refused true n v next l h = h
ask_refused false n v next l h = l

parities_refused : (p : Parity) (line : List ℕ) (at : ℕ) (next : Framed) → Refused next → Refused (ask_parities p line at next)
parities_refused p [] at next h = h
parities_refused p (b ∷ line) at next h =
    ask_refused (parity_right p b) 12 at (ask_parities p line (at + 1) next) (λ q. omega arith) (parities_refused p line (at + 1) next h)

either_refused : (t : Bool) (a b : Framed) → Refused a → Refused b → Refused (cond t a b)
either_refused true a b h k = h
either_refused false a b h k = k

not_accepted : (m : Method) (p : Parity) (line : List ℕ) (room : ℕ) (w : Framed) → Refused w → Accepts (ask_check m p line room w) → ⊥
not_accepted m p line room (found ks f e) h a = h
not_accepted m p line room (unframed n v) h a = h a

module _ (table : CodeTable) (m : Method) (p : Parity) where
  -- the questions up to 17, by the walk over a line
  abbrev framed_by : List ℕ → Walked → Framed
  framed_by line w =
      ask (carries table m) 58 0
      (ask (leb (length line) line_limit) 11 0 (cond (is_seven m) (ask_parities p line 0 (ask_walk m line w)) (ask_walk m line w)))

  walk_refused : (line : List ℕ) (w : Walked) → Refused (ask_walk m line w) → Refused (framed_by line w)
  walk_refused line w h =
      let next = ask_walk m line w in
      ask_refused (carries table m) 58 0 _ (λ q. omega arith)
      (ask_refused (leb (length line) line_limit) 11 0 _ (λ q. omega arith)
      (either_refused (is_seven m) (ask_parities p line 0 next) next (parities_refused p line 0 next h) h))

  syn_refused : (line : List ℕ) → BeginsWithSyn table m line → Refused (framed_before table m p line)
  unfolding framed_before
  syn_refused [] e = absurd (let z : ◌≡◌ {A = ℕ} 0 1 = cc in omega arith)
  syn_refused (b ∷ rest) e = walk_refused (b ∷ rest) (walk_before table (is_seven m) (b ∷ rest) 0 Start) (rw e (λ q. omega arith))

  framed-same : (line : List ℕ) → (BeginsWithSyn table m line → ⊥) → framed table m p line ≡ framed_before table m p line
  unfolding framed framed_before
  framed-same line h = ap (framed_by line) (start-same table (is_seven m) line h)

  same_answer : (line : List ℕ) (room : ℕ) → (BeginsWithSyn table m line → ⊥) → read_block table m p line room ≡ read_before table m p line room
  unfolding read_block read_before
  same_answer line room h = ap (ask_check m p line room) (framed-same line h)

  without_syn : (line : List ℕ) (room : ℕ) → Accepts (read_before table m p line room) → BeginsWithSyn table m line → ⊥
  unfolding read_before
  without_syn line room a e = not_accepted m p line room (framed_before table m p line) (syn_refused line e) a

pub read_as_before : (table : CodeTable) (m : Method) (p : Parity) → ReadAsBefore table m p
read_as_before table m p =
    record {
      same_answer = same_answer table m p;
      without_syn = without_syn table m p;
      taken_before = λ line room a. same_answer table m p line room (without_syn table m p line room a);
    }
