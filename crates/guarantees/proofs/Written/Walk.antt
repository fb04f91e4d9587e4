-- The walk over characters that are sent with their marks known beforehand: free characters, clear text, signs. Assumes nothing.
use mathlib.Core.Path.{◌≡◌, refl, ap, ◌∙◌}
use Prim.Native.Nat.{ℕ, ◌+◌, ◌<◌}
use native.Mathlib.Omega.{arith}
use mathlib.Core.Bool.{Bool, true, false, cond, not, ◌||◌, false≢true, and-eq-true_iff}
use mathlib.Core.List.{List, [], ◌∷◌, ◌++◌, map}
use lib.Dec.{eqb, ltb}
use borrow.Author.Tests.{ltb-true, eqb-true}
use Rattle.block.specs.declared.Parity.{Parity}
use Rattle.block.specs.declared.EndSign.{EndSign}
use Rattle.block.specs.declared.Mark.{Mark}
use Rattle.block.specs.declared.Mark.TheVariants.{LeftOut, TextByte, End}
use Rattle.block.specs.declared.Field.{Field}
use Rattle.block.specs.declared.Field.TheVariants.{Clear, ClearDle}
use Rattle.block.specs.declared.Judged.TheVariants.{Is, Ends}
use Rattle.block.specs.Signs.{CodeTable, Sign, soh, stx, etx, dle, syn, etb, us, other, sign_of}
use Rattle.block.specs.Characters.{character, sent}
use Rattle.block.specs.Walk.{ended, ahead, onward, judge, in_clear, walk}
use Rattle.block.specs.Write.{is_other, is_free}
use Rattle.block.proofs.CheckLaws.{with_parity-mod}
use Rattle.block.proofs.Tables.{sign_dle}
use Rattle.guarantees.proofs.Writing.{Free}

-- a character that is sent, and the mark that it is to have
pub record Marked : Type 0 where
  pub mark : Mark
  pub value : ℕ

abbrev pub sent_as : Mark → ℕ → Marked
sent_as k c = record { mark = k; value = c }

abbrev pub marks_of : List Marked → List Mark
marks_of = map (λ x. x.mark)

abbrev pub characters_of : List Marked → List ℕ
characters_of = map (λ x. x.value)

-- characters of one mark
abbrev pub marked : Mark → List ℕ → List Marked
marked k = map (sent_as k)

-- clear text: of a DLE that is sent twice, the first is left out
abbrev pub marked_twice : Bool → ℕ → List Marked → List Marked
marked_twice true b xs = sent_as LeftOut b ∷ sent_as TextByte b ∷ xs
marked_twice false b xs = sent_as TextByte b ∷ xs

abbrev pub marked_clear : CodeTable → List ℕ → List Marked
marked_clear table [] = []
marked_clear table (b ∷ bs) = marked_twice (eqb b table.DLE) b (marked_clear table bs)

-- ---- a character that is sent is the character that is read

abbrev pub Back : Bool → Parity → ℕ → Type 0
Back seven p c = character seven (sent seven p c) ≡ c

-- a sign or other character of seven bits
pub low-back : (seven : Bool) (p : Parity) (c : ℕ) → c < 128 → Back seven p c
unfolding character sent
low-back true p c h = omega (arith, with_parity-mod p c)
low-back false p c h = refl

-- every byte of methods 3 and 4
eight-back : (p : Parity) (c : ℕ) → Back false p c
unfolding character sent
eight-back p c = refl

free_back : (table : CodeTable) (seven : Bool) (p : Parity) (c : ℕ) → is_free table seven c ≡ true → Back seven p c
unfolding is_free
free_back table true p c h = low-back true p c (ltb-true c 0x80 ((and-eq-true_iff (is_other (sign_of table c)) (ltb c 0x80)).0 h).1)
free_back table false p c h = eight-back p c

is_other_lem : (s : Sign) → is_other s ≡ true → s ≡ other
is_other_lem soh h = absurd (false≢true h)
is_other_lem stx h = absurd (false≢true h)
is_other_lem etx h = absurd (false≢true h)
is_other_lem dle h = absurd (false≢true h)
is_other_lem syn h = absurd (false≢true h)
is_other_lem etb h = absurd (false≢true h)
is_other_lem us h = absurd (false≢true h)
is_other_lem other h = refl

free_other : (table : CodeTable) (seven : Bool) (c : ℕ) → is_free table seven c ≡ true → sign_of table c ≡ other
unfolding is_free
free_other table seven c h = is_other_lem (sign_of table c) ((and-eq-true_iff (is_other (sign_of table c)) (not seven || ltb c 0x80)).0 h).0

-- ---- the walk

-- the characters xs take the walk from field f to the end sign e in field g, with their marks
pub data Walks (table : CodeTable) (seven : Bool) (p : Parity) : Field → List Marked → Field → EndSign → Type 0 where
  end : {f : Field} {e : EndSign} {c : ℕ} → Back seven p c → judge seven f (sign_of table c) ≡ Ends e → Walks table seven p f (sent_as End c ∷ []) f e
  step : {f g h : Field} {e : EndSign} {k : Mark} {c : ℕ} {xs : List Marked} → Back seven p c → judge seven f (sign_of table c) ≡ Is k g
      → Walks table seven p g xs h e → Walks table seven p f (sent_as k c ∷ xs) h e

-- whatever stands behind the end sign
pub walk_is : (table : CodeTable) {seven : Bool} {p : Parity} {f g : Field} {e : EndSign} {xs : List Marked} → Walks table seven p f xs g e
    → (rest : List ℕ) (at : ℕ) → walk table seven (map (sent seven p) (characters_of xs) ++ rest) at f ≡ record { marks = marks_of xs; stop = ended g e }
walk_is table {seven = seven} {p = p} {f = f} (end {c = c} b j) rest at =
    ap (λ z. onward (walk table seven rest (at + 1)) f at (judge seven f (sign_of table z))) b ∙ ap (onward (walk table seven rest (at + 1)) f at) j
walk_is table {seven = seven} {p = p} {f = f} (step {k = k} {xs = xs} b j w) rest at =
    let go = walk table seven (map (sent seven p) (characters_of xs) ++ rest) (at + 1) in
    ap (λ z. onward go f at (judge seven f (sign_of table z))) b ∙ ap (onward go f at) j ∙ ap (ahead k) (walk_is table w rest (at + 1))

-- free characters, in a field that they do not leave
pub free_walks : (table : CodeTable) {seven : Bool} {p : Parity} {f g : Field} {e : EndSign} {k : Mark} {xs : List Marked} (bs : List ℕ) → judge seven f other ≡ Is k f
    → Free table seven bs → Walks table seven p f xs g e → Walks table seven p f (marked k bs ++ xs) g e
free_walks table [] j h w = w
free_walks table {seven = seven} {p = p} {f = f} (b ∷ bs) j h w =
    step (free_back table seven p b h.0) (ap (judge seven f) (free_other table seven b h.0) ∙ j) (free_walks table bs j h.1 w)

-- in clear text all but DLE is text
text_by : (t : Bool) (s r : Sign) → in_clear s ≡ Is TextByte Clear → in_clear r ≡ Is TextByte Clear → in_clear (cond t s r) ≡ Is TextByte Clear
text_by true s r h k = h
text_by false s r h k = k

clear_sign : (table : CodeTable) (b : ℕ) → eqb b table.DLE ≡ false → in_clear (sign_of table b) ≡ Is TextByte Clear
unfolding sign_of
clear_sign table b h =
    rw h
    (text_by (eqb b table.SOH) _ _ refl
    (text_by (eqb b table.STX) _ _ refl
    (text_by (eqb b table.ETX) _ _ refl
    (text_by (eqb b table.SYN) _ _ refl
    (text_by (eqb b table.ETB) _ _ refl
    (text_by (eqb b table.US) us other refl refl))))))

dle_sign : (table : CodeTable) (b : ℕ) → eqb b table.DLE ≡ true → sign_of table b ≡ dle
dle_sign table b h = ap (sign_of table) (eqb-true b table.DLE h) ∙ sign_dle table

pub clear_walks : (table : CodeTable) {p : Parity} {g : Field} {e : EndSign} {xs : List Marked} (bs : List ℕ) → Walks table false p Clear xs g e
    → Walks table false p Clear (marked_clear table bs ++ xs) g e
clear_walks table [] w = w
clear_walks table {p = p} {g = g} {e = e} {xs = xs} (b ∷ bs) w = go (eqb b table.DLE) refl (clear_walks table bs w)
  where
    go : (t : Bool) → eqb b table.DLE ≡ t → Walks table false p Clear (marked_clear table bs ++ xs) g e → Walks table false p Clear (marked_twice t b (marked_clear table bs) ++ xs) g e
    go true q v = step (eight-back p b) (ap in_clear (dle_sign table b q)) (step {f = ClearDle} (eight-back p b) (ap (judge false ClearDle) (dle_sign table b q)) v)
    go false q v = step (eight-back p b) (clear_sign table b q) v
