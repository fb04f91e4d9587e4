-- Blocks of methods 1, 2 and 7: the parities of their bytes, and the sums of the matrix's rows with its check. Assumes nothing.
use mathlib.Core.Path.{◌≡◌, refl, sym, ap, ap₂, ◌∙◌}
use Prim.Native.Nat.{ℕ, zero, suc, ◌*◌, ◌≤◌}
use native.Mathlib.Omega.{arith}
use mathlib.Core.Bool.{Bool, true, false, xor}
use mathlib.Core.List.{List, [], ◌∷◌, ◌++◌}
use lib.ListN.{length, drop, length-drop}
use Rattle.bits.specs.Strings.{xor_bits, zeros, weight, parity}
use Rattle.bits.specs.Bytes.{low_bits, bits_of}
use Rattle.bits.specs.Differences.{cons_if}
use Rattle.bits.proofs.Strings.{append_split, xor_bits_comm, xor_bits_assoc, xor_bits-zeros, xor_bits_self}
use Rattle.bits.proofs.Bytes.{length-low_bits, length-bits_of, bits_of_one, bits_of_injective}
use Rattle.bits.proofs.Differences.{length-differing}
use Rattle.block.specs.declared.Method.{Method}
use Rattle.block.specs.declared.Method.TheVariants as method
use Rattle.block.specs.declared.Parity.{Parity}
use Rattle.block.specs.declared.Mark.{Mark}
use Rattle.block.specs.Signs.{CodeTable}
use Rattle.block.specs.Characters.{is_seven, is_odd}
use Rattle.block.specs.Marks.{is_counted, sift, counted, check_bytes}
use Rattle.block.specs.Check.{row_sums, matrix_check, check_of}
use Rattle.block.proofs.CheckLaws.{length-sums, check_length_lem}
use Rattle.block.proofs.Passed.{ParitiesRight}
use Rattle.guarantees.specs.Lines.{TwoAccepted, distance, AtLeast, NoBurst}
use Rattle.guarantees.specs.Blocks.{Accepted, checked_bits, blocks}
use Rattle.guarantees.proofs.Lines.Masks.{differ_where_checked, equal_where_checked, length-checked}
use Rattle.guarantees.proofs.Blocks.Framing.{Found, accepted_right, OneFraming, one_framing}
use Rattle.guarantees.proofs.Blocks.Bridge.{checked_bits_lem, all-passed, block_bridge}
use Rattle.guarantees.proofs.Blocks.RowSums.{one_more_byte}
use Rattle.guarantees.proofs.Blocks.Columns.{EqualParities, equal_parities, distance_of, at_least_two, at_least_four, at_most_two}

-- ---- method 1

pub distance-parity : (table : CodeTable) (p : Parity) → AtLeast 2 (blocks table method.Parity p)
distance-parity table p A B t =
    let s = t.same_framing in
    let o = one_framing table method.Parity p A B s in
    let ha = (all-passed table method.Parity p A o.a).parities refl in
    let hb = (all-passed table method.Parity p B o.b).parities refl in
    omega (
      arith,
      length-differing (bits_of A) (bits_of B),
      at_least_two (equal_parities p A B s.one_length ha hb)
          (λ e. t.unequal (bits_of_injective A B s.lines.0 s.lines.1 s.one_length e)),
    )

-- ---- the parities of the checked bytes

module _ (p : Parity) where
  right-sift : (is : Mark → Bool) (ks : List Mark) (line : List ℕ) → ParitiesRight p line → ParitiesRight p (sift is ks line)
  right-sift is [] line h = tt
  right-sift is (k ∷ ks) [] h = tt
  right-sift is (k ∷ ks) (b ∷ line) h = go (is k) (right-sift is ks line h.1)
    where
      go : (t : Bool) → ParitiesRight p (sift is ks line) → ParitiesRight p (cons_if t b (sift is ks line))
      go true r = (h.0, r)
      go false r = r

  right-drop : (n : ℕ) (line : List ℕ) → ParitiesRight p line → ParitiesRight p (drop n line)
  right-drop zero line h = h
  right-drop (suc n) [] h = tt
  right-drop (suc n) (b ∷ line) h = right-drop n line h.1

  right-append : (x y : List ℕ) → ParitiesRight p x → ParitiesRight p y → ParitiesRight p (x ++ y)
  right-append [] y h k = k
  right-append (b ∷ x) y h k = (h.0, right-append x y h.1 k)

-- ---- with their check the rows sum to zero

sums-append : (x y : List ℕ) → row_sums (x ++ y) ≡ xor_bits (row_sums x) (row_sums y)
unfolding row_sums
sums-append [] y = sym (xor_bits-zeros 7 (row_sums y) (length-sums y))
sums-append (b ∷ x) y = ap (xor_bits (low_bits 7 b)) (sums-append x y) ∙ sym (xor_bits_assoc (low_bits 7 b) (row_sums x) (row_sums y))

sums_one : (b : ℕ) → row_sums (b ∷ []) ≡ low_bits 7 b
unfolding row_sums
sums_one b = xor_bits_comm (low_bits 7 b) (zeros 7) ∙ xor_bits-zeros 7 (low_bits 7 b) (length-low_bits 7 b)

-- a byte whose eight bits are these seven and one more
pub low_seven : (b : ℕ) (v : List Bool) (t : Bool) → length v ≡ 7 → low_bits 8 b ≡ v ++ t ∷ [] → low_bits 7 b ≡ v
low_seven b v t l e =
    let s = one_more_byte b in
    (append_split (low_bits 7 b) v (s.0 ∷ []) (t ∷ []) (length-low_bits 7 b ∙ sym l) (sym s.1 ∙ e)).0

pub sums-zero : (p : Parity) (c : List ℕ) (b : ℕ) → low_bits 8 b ≡ matrix_check p c → row_sums (c ++ b ∷ []) ≡ zeros 7
unfolding matrix_check
sums-zero p c b e =
    let q : low_bits 7 b ≡ row_sums c = low_seven b (row_sums c) (xor (is_odd p) (parity (row_sums c))) (length-sums c) e in
    sums-append c (b ∷ []) ∙ ap (xor_bits (row_sums c)) (sums_one b ∙ q) ∙ xor_bits_self (row_sums c) ∙ ap zeros (length-sums c)

-- ---- what two lines of seven-bit characters hold in their checked bytes

abbrev pub checked_of : List Mark → List ℕ → List ℕ
checked_of ks line = counted ks line ++ check_bytes ks line

module _ (table : CodeTable) (m : Method) (p : Parity) (line : List ℕ) (r : Found table m p line) where
  checked-right : is_seven m ≡ true → ParitiesRight p (checked_of r.marks line)
  checked-right seven =
      let h = (all-passed table m p line r).parities seven in
      right-append p (counted r.marks line) (check_bytes r.marks line) (right-sift p is_counted r.marks line h)
      (right-drop p (length r.marks) line h)

  pub length-checked_of : length (checked_bits table m p line) ≡ 8 * length (checked_of r.marks line)
  length-checked_of = ap length (checked_bits_lem table m p line r) ∙ length-bits_of (checked_of r.marks line)

pub record TwoChecked (table : CodeTable) (m : Method) (p : Parity) (A B : List ℕ) (x y : List ℕ) : Type 0 where
  pub bits-x : checked_bits table m p A ≡ bits_of x
  pub bits-y : checked_bits table m p B ≡ bits_of y
  pub size : length x ≡ length y
  pub pairs : EqualParities x y
  pub unequal : bits_of x ≡ bits_of y → ⊥
  pub distance-checked : distance (blocks table m p) A B ≡ distance_of x y

pub two_checked : (table : CodeTable) (m : Method) → is_seven m ≡ true → (p : Parity) (A B : List ℕ) → TwoAccepted (blocks table m p) A B → (o : OneFraming table m p A B)
    → TwoChecked table m p A B (checked_of o.a.marks A) (checked_of o.b.marks B)
two_checked table m seven p A B t o =
    let x = checked_of o.a.marks A in
    let y = checked_of o.b.marks B in
    let s = t.same_framing in
    let ex : checked_bits table m p A ≡ bits_of x = checked_bits_lem table m p A o.a in
    let ey : checked_bits table m p B ≡ bits_of y = checked_bits_lem table m p B o.b in
    let size : length x ≡ length y =
    omega (arith, length-checked_of table m p A o.a, length-checked_of table m p B o.b, length-checked (blocks table m p) (block_bridge table m p) A B s) in
    record {
      bits-x = ex;
      bits-y = ey;
      size = size;
      pairs = equal_parities p x y size (checked-right table m p A o.a seven) (checked-right table m p B o.b seven);
      unequal = λ e. t.unequal (equal_where_checked (blocks table m p) (block_bridge table m p) A B s (ex ∙ e ∙ sym ey));
      distance-checked =
          (differ_where_checked (blocks table m p) (block_bridge table m p) A B s).1
          ∙ length-differing (checked_bits table m p A) (checked_bits table m p B) ∙ ap₂ (λ a b. weight (xor_bits a b)) ex ey;
    }

-- ---- method 2

one_character : (p : Parity) (c r : List ℕ) → length r ≡ 1 → bits_of r ≡ matrix_check p c → row_sums (c ++ r) ≡ zeros 7
one_character p c [] l e = absurd (omega arith)
one_character p c (b ∷ []) l e = sums-zero p c b (sym (bits_of_one b) ∙ e)
one_character p c (b ∷ d ∷ r) l e = absurd (omega arith)

checked_zero : (table : CodeTable) (p : Parity) (line : List ℕ) (r : Found table method.Matrix p line) → Accepted table method.Matrix p line → row_sums (checked_of r.marks line) ≡ zeros 7
unfolding check_of
checked_zero table p line r acc =
    one_character p (counted r.marks line) (check_bytes r.marks line)
    (length-drop (length r.marks) line ∙ omega (arith, (all-passed table method.Matrix p line r).closes, check_length_lem method.Matrix))
    ((accepted_right table method.Matrix p line r).0 acc)

module _ (table : CodeTable) (p : Parity) (A B : List ℕ) (t : TwoAccepted (blocks table method.Matrix p) A B) where
  o : OneFraming table method.Matrix p A B
  o = one_framing table method.Matrix p A B t.same_framing

  two : TwoChecked table method.Matrix p A B (checked_of o.a.marks A) (checked_of o.b.marks B)
  two = two_checked table method.Matrix refl p A B t o

  sums : row_sums (checked_of o.a.marks A) ≡ row_sums (checked_of o.b.marks B)
  sums = checked_zero table p A o.a t.accepted.0 ∙ sym (checked_zero table p B o.b t.accepted.1)

  four : 4 ≤ distance_of (checked_of o.a.marks A) (checked_of o.b.marks B)
  four = at_least_four two.pairs sums two.unequal

pub distance_matrix : (table : CodeTable) (p : Parity) → AtLeast 4 (blocks table method.Matrix p)
distance_matrix table p A B t = omega (arith, (two table p A B t).distance-checked, four table p A B t)

pub burst_matrix : (table : CodeTable) (p : Parity) → NoBurst 9 (blocks table method.Matrix p)
burst_matrix table p A B t b h u =
    let w = two table p A B t in
    omega (arith, four table p A B t, at_most_two w.pairs w.size (sums table p A B t) b h (rw (w.bits-x, w.bits-y) at u))
