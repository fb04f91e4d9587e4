-- Zero removal a byte at a time: what a part of the line gives stands in front of what the rest gives. Assumes nothing.
use mathlib.Core.Path.{◌≡◌, refl, sym, ap, ap₂, ◌∙◌}
use mathlib.Core.Bool.{Bool, true, false, cond}
use mathlib.Core.List.{List, [], ◌∷◌, ◌++◌, append_assoc}
use Prim.Native.Nat.{ℕ, ◌+◌, ◌*◌, ◌-◌, ◌<◌, ◌≤◌}
use native.Mathlib.Omega.{arith}
use lib.Dec.{eqb, lit<}
use lib.ListN.{length, take, drop, get_or, length-append}
use lib.Seq.{slice, length-slice, take-add, take_at, drop_at}
use Rattle.std.proofs.lemmas.List.{get_or-take}
use Rattle.std.proofs.lemmas.Grind.{get_or_after_one}
use Rattle.bits.specs.Bytes.{low_bits, bits_of}
use Rattle.bits.proofs.Bytes.{length-low_bits, length-bits_of}
use Rattle.zero_removal.specs.declared.LineReader.{LineReader}
use Rattle.zero_removal.specs.declared.ByteRead.{ByteRead}
use Rattle.zero_removal.specs.declared.MissingZero.{MissingZero}
use Rattle.frame.specs.Stuffing.{Unstuffed, clean, missing, unstuff_bit, ones_after, unstuff}
use Rattle.bits.proofs.WholeBytes.{drop-take}
use Rattle.zero_removal.specs.Removal.{ones_through, ones_before, unstuff_part, in_front, Lacks}
use Rattle.zero_removal.specs.Reader.{data_of, ReaderFits, pending_bits, whole_bits, part_of, ReadsByte, left_at, first_reader}
use Rattle.frame.proofs.Words.{bits_of_on, bits_of-drop}

-- ---- bits in front

pub in_front-append : (a b : List Bool) (u : Unstuffed) → in_front a (in_front b u) ≡ in_front (a ++ b) u
in_front-append a b (clean s) = ap clean (sym (append_assoc a b s))
in_front-append a b (missing p) = refl

pub in_front-none : (u : Unstuffed) → in_front [] u ≡ u
in_front-none (clean s) = refl
in_front-none (missing p) = refl

-- what a part gives, then the rest
abbrev before : Unstuffed → Unstuffed → Unstuffed
before (clean d) u = in_front d u
before (missing p) u = missing p

before_bit : (t b : Bool) (p : ℕ) (v u : Unstuffed) → before (unstuff_bit t b p v) u ≡ unstuff_bit t b p (before v u)
before_bit true true p v u = refl
before_bit true false p v u = refl
before_bit false b p (clean d) (clean s) = refl
before_bit false b p (clean d) (missing q) = refl
before_bit false b p (missing q) u = refl

unstuff-parts : (run p : ℕ) (s t : List Bool) → unstuff run p (s ++ t) ≡ before (unstuff_part run p s) (unstuff (ones_through run s) (p + length s) t)
unfolding unstuff unstuff_part ones_through
unstuff-parts run p [] t =
    let e : p ≡ p + 0 = omega arith in
    sym (in_front-none (unstuff run (p + 0) t) ∙ ap (λ n. unstuff run n t) (sym e))
unstuff-parts run p (b ∷ s) t =
    let e : p + 1 + length s ≡ p + length (b ∷ s) = omega arith in
    ap (unstuff_bit (eqb run 5) b p) (unstuff-parts (ones_after run b) (p + 1) s t
    ∙ ap (λ n. before (unstuff_part (ones_after run b) (p + 1) s) (unstuff (ones_through (ones_after run b) s) n t)) e)
    ∙ sym (before_bit (eqb run 5) b p (unstuff_part (ones_after run b) (p + 1) s) (unstuff (ones_through (ones_after run b) s) (p + length (b ∷ s)) t))

-- ---- the same part from another place on

abbrev pub moved : ℕ → Unstuffed → Unstuffed
moved k (clean s) = clean s
moved k (missing p) = missing (k + p)

moved_bit : (k : ℕ) (t b : Bool) (p : ℕ) (v : Unstuffed) → moved k (unstuff_bit t b p v) ≡ unstuff_bit t b (k + p) (moved k v)
moved_bit k true true p v = refl
moved_bit k true false p v = refl
moved_bit k false b p (clean s) = refl
moved_bit k false b p (missing q) = refl

part_moved : (k run p : ℕ) (s : List Bool) → unstuff_part run (k + p) s ≡ moved k (unstuff_part run p s)
unfolding unstuff_part
part_moved k run p [] = refl
part_moved k run p (b ∷ s) =
    let e : k + p + 1 ≡ k + (p + 1) = omega arith in
    ap (unstuff_bit (eqb run 5) b (k + p)) (ap (λ n. unstuff_part (ones_after run b) n s) e ∙ part_moved k (ones_after run b) (p + 1) s)
    ∙ sym (moved_bit k (eqb run 5) b p (unstuff_part (ones_after run b) (p + 1) s))

part_at : (run p : ℕ) (s : List Bool) → unstuff_part run p s ≡ moved p (unstuff_part run 0 s)
part_at run p s = let e : p ≡ p + 0 = omega arith in ap (λ n. unstuff_part run n s) e ∙ part_moved p run 0 s

-- and all of the line
unstuff-moved : (k run p : ℕ) (s : List Bool) → unstuff run (k + p) s ≡ moved k (unstuff run p s)
unfolding unstuff
unstuff-moved k run p [] = go (eqb run 5)
  where
    go : (t : Bool) → cond t (missing (k + p)) (clean []) ≡ moved k (cond t (missing p) (clean []))
    go true = refl
    go false = refl
unstuff-moved k run p (b ∷ s) =
    let e : k + p + 1 ≡ k + (p + 1) = omega arith in
    ap (unstuff_bit (eqb run 5) b (k + p)) (ap (λ n. unstuff (ones_after run b) n s) e ∙ unstuff-moved k (ones_after run b) (p + 1) s)
    ∙ sym (moved_bit k (eqb run 5) b p (unstuff (ones_after run b) (p + 1) s))

pub unstuff_at : (run p : ℕ) (s : List Bool) → unstuff run p s ≡ moved p (unstuff run 0 s)
unstuff_at run p s = let e : p ≡ p + 0 = omega arith in ap (λ n. unstuff run n s) e ∙ unstuff-moved p run 0 s

pub moved_front : (k : ℕ) (f : List Bool) (v : Unstuffed) → in_front f (moved k v) ≡ moved k (in_front f v)
moved_front k f (clean s) = refl
moved_front k f (missing p) = refl

front_before : (k : ℕ) (d : List Bool) (v u : Unstuffed) → in_front d (before (moved k v) u) ≡ before (moved k (in_front d v)) u
front_before k d (clean s) u = in_front-append d s u
front_before k d (missing p) u = refl

-- ---- a byte of the line

module _ (lent : List ℕ) (end : ℕ) (fits : end ≤ 8 * length lent) where
  abbrev bits : List Bool
  bits = bits_of lent

  pub slice_rest : (i : ℕ) → 8 * i ≤ end → slice (8 * i) end bits ≡ take (end - 8 * i) (bits_of (drop i lent))
  slice_rest i h =
      let e : end ≡ 8 * i + (end - 8 * i) = omega arith in
      ap (λ k. drop (8 * i) (take k bits)) e
      ∙ drop-take (8 * i) (end - 8 * i) bits (omega (arith, length-bits_of lent)) ∙ ap (take (end - 8 * i)) (bits_of-drop i lent)

  slice_byte : (i : ℕ) → 8 * (i + 1) ≤ end → slice (8 * i) end bits ≡ low_bits 8 (get_or lent i 0) ++ slice (8 * (i + 1)) end bits
  slice_byte i h =
      let byte = low_bits 8 (get_or lent i 0) in
      let rest = bits_of (drop (i + 1) lent) in
      let k : end - 8 * i ≡ 8 + (end - 8 * (i + 1)) = omega arith in
      let l : length byte ≡ 8 = length-low_bits 8 (get_or lent i 0) in
      slice_rest i (omega arith)
      ∙ ap₂ take k (bits_of_on lent i (omega arith))
      ∙ take-add 8 (end - 8 * (i + 1)) (byte ++ rest)
      ∙ ap₂ (λ (a c : List Bool). a ++ take (end - 8 * (i + 1)) c) (take_at byte rest 8 l) (drop_at byte rest 8 l)
      ∙ ap (λ c. byte ++ c) (sym (slice_rest (i + 1) h))

  module _ (r : LineReader) (i : ℕ) (h : 8 * (i + 1) ≤ end) where
    abbrev byte : ℕ
    byte = get_or lent i 0

    abbrev ones : ℕ
    ones = ones_before r.before

    abbrev rest : Unstuffed
    rest = unstuff (ones_through ones (low_bits 8 byte)) (8 * i + length (low_bits 8 byte)) (slice (8 * (i + 1)) end bits)

    in_parts : left_at bits end i r ≡ before (moved (8 * i) (part_of r byte)) rest
    in_parts =
        ap (in_front (pending_bits r))
        (ap (unstuff ones (8 * i)) (slice_byte i h)
        ∙ unstuff-parts ones (8 * i) (low_bits 8 byte) (slice (8 * (i + 1)) end bits)
        ∙ ap (λ v. before v rest) (part_at ones (8 * i) (low_bits 8 byte)))
        ∙ front_before (8 * i) (pending_bits r) (unstuff_part ones 0 (low_bits 8 byte)) rest

    -- a zero that is missing
    pub byte_missing : {m : MissingZero} → Lacks r.before byte m → left_at bits end i r ≡ missing (8 * i + m.0)
    byte_missing l = in_parts ∙ ap (λ v. before (moved (8 * i) (in_front (pending_bits r) v)) rest) l.place_is

    -- else the bits that the byte gives
    pub byte_turn : {x : ByteRead} → ReadsByte r byte x → left_at bits end i r ≡ in_front (whole_bits x.byte) (left_at bits end (i + 1) x.next)
    byte_turn {x} e =
        let n : 8 * i + length (low_bits 8 byte) ≡ 8 * (i + 1) = omega (arith, length-low_bits 8 byte) in
        let next : rest ≡ unstuff (ones_before x.next.before) (8 * (i + 1)) (slice (8 * (i + 1)) end bits) =
        ap₂ (λ o p. unstuff o p (slice (8 * (i + 1)) end bits)) e.run_is n in
        in_parts ∙ ap (λ v. before (moved (8 * i) v) rest) e.bits_are
        ∙ ap (in_front (whole_bits x.byte ++ pending_bits x.next)) next
        ∙ sym (in_front-append (whole_bits x.byte) (pending_bits x.next) (unstuff (ones_before x.next.before) (8 * (i + 1)) (slice (8 * (i + 1)) end bits)))

-- ---- how much data there is

length_part : (t b : Bool) (p : ℕ) (u : Unstuffed) → length (data_of (unstuff_bit t b p u)) ≤ 1 + length (data_of u)
unfolding data_of
length_part true true p u = omega arith
length_part true false p u = omega arith
length_part false b p (clean s) = omega arith
length_part false b p (missing q) = omega arith

length_data : (run p : ℕ) (s : List Bool) → length (data_of (unstuff run p s)) ≤ length s
unfolding unstuff data_of
length_data run p [] = go (eqb run 5)
  where
    go : (t : Bool) → length (data_of (cond t (missing p) (clean []))) ≤ 0
    go true = omega arith
    go false = omega arith
length_data run p (b ∷ s) =
    let k = length_data (ones_after run b) (p + 1) s in
    omega (arith, length_part (eqb run 5) b p (unstuff (ones_after run b) (p + 1) s))

length_front : (w : List Bool) (u : Unstuffed) → length (data_of (in_front w u)) ≤ length w + length (data_of u)
unfolding data_of
length_front w (clean s) = omega (arith, length-append w s)
length_front w (missing p) = omega arith

pub data_of_front : (w : List Bool) (u : Unstuffed) → 0 < length (data_of (in_front w u)) → data_of (in_front w u) ≡ w ++ data_of u
unfolding data_of
data_of_front w (clean s) h = refl
data_of_front w (missing p) h = absurd (omega arith)

-- a reader that has fifteen bits to give has a whole byte of the line before it
pub byte-ahead : (lent : List ℕ) (end : ℕ) → end ≤ 8 * length lent → (i : ℕ) (r : LineReader) → r.pending < 8 → 15 ≤ length (data_of (left_at (bits_of lent) end i r))
    → 8 * (i + 1) ≤ end
byte-ahead lent end fits i r p h =
    let line = slice (8 * i) end (bits_of lent) in
    omega (
      arith,
      length_front (pending_bits r) (unstuff (ones_before r.before) (8 * i) line),
      length_data (ones_before r.before) (8 * i) line,
      length-low_bits r.pending r.held,
      length-slice (8 * i) end (bits_of lent) (omega (arith, length-bits_of lent)),
    )

-- ---- behind the opening flag

pub first_fits : ReaderFits first_reader
first_fits = record { pending_small = omega arith; held_small = lit< tt; before_small = omega arith }

pub first-left : (bits : List Bool) (end : ℕ) → left_at bits end 1 first_reader ≡ unstuff 0 8 (slice 8 end bits)
unfolding low_bits ones_before ones_through
first-left bits end = in_front-none (unstuff 0 8 (slice 8 end bits))

-- of the bytes behind the opening flag
pub byte_between : (lent : List ℕ) (last i : ℕ) → i < last - 1 → get_or (take (last - 1) (drop 1 lent)) i 0 ≡ get_or lent (i + 1) 0
byte_between lent last i h =
    let e : 1 + i ≡ i + 1 = omega arith in
    get_or-take (last - 1) (drop 1 lent) i 0 h ∙ get_or_after_one lent i 0 ∙ ap (λ k. get_or lent k 0) e
