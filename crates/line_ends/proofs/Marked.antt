-- The last bits of the line with a one behind them as a mark, and zeros behind that: zero removal gives what it gives without them, then
-- the mark and zeros. So the number that holds its bits tells by its highest one how many there are. Assumes nothing.
use mathlib.Core.Path.{◌≡◌, refl, sym, ap, ap₂, ◌∙◌, subst}
use mathlib.Core.Bool.{Bool, true, false, cond}
use mathlib.Core.List.{List, [], ◌∷◌, ◌++◌, append_assoc}
use Rattle.std.specs.Prelude.{Some, None}
use Prim.Native.Nat.{ℕ, zero, suc, ◌+◌, ◌*◌, ◌-◌, ◌%◌, ◌^◌, ◌<◌, ◌≤◌}
use native.Mathlib.Nat.{mod-lt, pow-suc, one-mul, add_comm, mod-eq_of_lt}
use native.Mathlib.Omega.{arith}
use lib.Bits.{bit_and, bit_or}
use lib.Count.{count_leading_zeros, leading_unique}
use lib.Dec.{eqb}
use lib.Pow.{pow_pos, pow-lt, pow_mono, low}
use lib.ListN.{length, length-append, length-replicate}
use Rattle.std.proofs.lemmas.Nat.{and_mask}
use Rattle.bits.specs.Strings.{zeros}
use Rattle.bits.specs.Bytes.{low_bits, value}
use Rattle.bits.proofs.Bytes.{length-low_bits, low_bits-mod, low_bits-zero, low_bits-value-zeros, low_bits_injective, value_lt, value_snoc}
use Rattle.frame.specs.Stuffing.{Unstuffed, clean, missing, ahead, unstuff_bit, ones_after, unstuff}
use Rattle.frame.proofs.Words.{join, joined-or, joined_small, joined-bits}
use Rattle.zero_removal.specs.declared.LineReader.{LineReader}
use Rattle.zero_removal.specs.declared.ByteRead.{ByteRead}
use Rattle.zero_removal.specs.declared.MissingZero.{MissingZero}
use Rattle.zero_removal.specs.Removal.{ones_before, unstuff_part, in_front, Lacks}
use Rattle.zero_removal.specs.Reader.{pending_bits, whole_bits, part_of, ReadsByte}
use Rattle.line_ends.specs.declared.LastRead.{LastRead}
use Rattle.line_ends.specs.Last.{Holds, last_of, LastBits, LacksLast}

-- ---- zero removal with a mark behind the bits

record ZerosLeft (v : Unstuffed) : Type 0 where
  count : ℕ
  are : v ≡ clean (zeros count)

zeros-left : (run p m : ℕ) → ZerosLeft (unstuff_part run p (zeros m))
unfolding unstuff_part
zeros-left run p zero = record { count = 0; are = refl }
zeros-left run p (suc m) = go (eqb run 5) (zeros-left 0 (p + 1) m)
  where
    go : (t : Bool) → ZerosLeft (unstuff_part 0 (p + 1) (zeros m)) → ZerosLeft (unstuff_bit t false p (unstuff_part 0 (p + 1) (zeros m)))
    go true z = z
    go false z = record { count = suc z.count; are = ap (ahead false) z.are }

record Mark (d : List Bool) (v : Unstuffed) : Type 0 where
  behind : ℕ
  marked : v ≡ clean (d ++ (true ∷ zeros behind))

abbrev Marks : Unstuffed → Unstuffed → Type 0
Marks (clean d) v = Mark d v
Marks (missing p) v = v ≡ missing p

marks_bit : (t b : Bool) (p : ℕ) (u v : Unstuffed) → Marks u v → Marks (unstuff_bit t b p u) (unstuff_bit t b p v)
marks_bit true true p u v h = refl
marks_bit true false p u v h = h
marks_bit false b p (clean d) v h = record { behind = h.behind; marked = ap (ahead b) h.marked }
marks_bit false b p (missing q) v h = ap (ahead b) h

marks : (run p : ℕ) (s : List Bool) (m : ℕ) → Marks (unstuff run p s) (unstuff_part run p (s ++ (true ∷ zeros m)))
unfolding unstuff unstuff_part
marks run p [] m = go (eqb run 5) (zeros-left (run + 1) (p + 1) m)
  where
    go : (t : Bool) → ZerosLeft (unstuff_part (run + 1) (p + 1) (zeros m))
        → Marks (cond t (missing p) (clean [])) (unstuff_bit t true p (unstuff_part (run + 1) (p + 1) (zeros m)))
    go true z = refl
    go false z = record { behind = z.count; marked = ap (ahead true) z.are }
marks run p (b ∷ s) m =
    marks_bit (eqb run 5) b p (unstuff (ones_after run b) (p + 1) s) (unstuff_part (ones_after run b) (p + 1) (s ++ (true ∷ zeros m))) (marks (ones_after run b) (p + 1) s m)

marks_front : (f : List Bool) (u v : Unstuffed) → Marks u v → Marks (in_front f u) (in_front f v)
marks_front f (clean d) v h =
    record { behind = h.behind; marked = ap (in_front f) h.marked ∙ ap clean (sym (append_assoc f d (true ∷ zeros h.behind))) }
marks_front f (missing p) v h = ap (in_front f) h

-- ---- the byte that code makes

module _ (byte k : ℕ) (h : k < 8) where
  abbrev pub marked_byte : ℕ
  marked_byte = byte % (1 * 2 ^ k % 256) + 1 * 2 ^ k % 256

  mark_is : 1 * 2 ^ k % 256 ≡ 2 ^ k
  mark_is = ap (λ n. n % 256) (one-mul (2 ^ k)) ∙ mod-eq_of_lt (pow-lt h)

  marked-bits : low_bits 8 marked_byte ≡ low_bits k byte ++ (true ∷ zeros (7 - k))
  unfolding low_bits
  marked-bits =
      let low = byte % 2 ^ k in
      let n : k + (8 - k) ≡ 8 = omega arith in
      let q : 8 - k ≡ suc (7 - k) = omega arith in
      let is : marked_byte ≡ join k low 1 = ap (λ m. byte % m + m) mark_is ∙ add_comm low (2 ^ k) ∙ ap (λ m. m + low) (sym (one-mul (2 ^ k))) in
      ap₂ low_bits (sym n) is
      ∙ sym (joined-bits k low (8 - k) 1 (mod-lt byte (pow_pos k)) (pow-lt {i = 0} {j = 8 - k} (omega arith)))
      ∙ ap₂ (λ s m. s ++ low_bits m 1) (low_bits-mod k byte) q
      ∙ ap (λ s. low_bits k byte ++ (true ∷ s)) (low_bits-zero (7 - k))

-- ---- the number that holds bits and mark

module _ (word n : ℕ) (small : word < 2 ^ n) (s : List Bool) (j : ℕ) (e : low_bits n word ≡ s ++ (true ∷ zeros j)) where
  mark_below : length s < n
  mark_below = omega (arith, sym (length-low_bits n word) ∙ ap length e, length-append s (true ∷ zeros j))

  word_is : word ≡ value s + 2 ^ length s
  word_is =
      let t = s ++ (true ∷ []) in
      let l : length t + j ≡ n = omega (arith, sym (length-low_bits n word) ∙ ap length e, length-append s (true ∷ zeros j), length-append s (true ∷ []), length-replicate j false) in
      let v : low_bits n word ≡ low_bits n (value t) =
      e ∙ sym (append_assoc s (true ∷ []) (zeros j)) ∙ sym (low_bits-value-zeros t j) ∙ ap (λ w. low_bits w (value t)) l in
      low_bits_injective n word (value t) small (value_below t n (omega arith)) v ∙ value_snoc s true
    where
      value_below : (t : List Bool) (n : ℕ) → length t ≤ n → value t < 2 ^ n
      value_below t n h = omega (arith, value_lt t, pow_mono {i = length t} {j = n} h)

  top_is : n ≤ 32 → count_leading_zeros 32 word ≡ 31 - length s
  top_is h =
      let l = length s in
      sym (leading_unique 32 word (31 - l) (suc l) (omega (arith, mark_below))
      (omega (arith, word_is, value_lt s, pow-suc 2 l)) (omega (arith, word_is, pow-suc 2 l)))

  -- as code finds it
  abbrev bits : ℕ
  bits = 31 - count_leading_zeros 32 word % 32

  pub below_mark : n ≤ 32 → Holds s (record { bits = bits; held = bit_and word (1 * 2 ^ bits % 4294967296 - 1) })
  below_mark h =
      let l = length s in
      let counted : bits ≡ l = omega (arith, mark_below, top_is h) in
      let one : 1 * 2 ^ l % 4294967296 ≡ 2 ^ l =
      ap (λ m. m % 4294967296) (one-mul (2 ^ l)) ∙ mod-eq_of_lt (pow-lt {i = l} {j = 32} (omega (arith, mark_below))) in
      record {
        counted = counted;
        held_is =
            ap (λ m. bit_and word (1 * 2 ^ m % 4294967296 - 1)) counted ∙ ap (λ m. bit_and word (m - 1)) one ∙ and_mask word l
            ∙ ap (λ m. m % 2 ^ l) (word_is ∙ add_comm (value s) (2 ^ l) ∙ ap (λ m. m + value s) (sym (one-mul (2 ^ l)))) ∙ low 1 l (value_lt s);
      }

-- as code reads it: k modulo 8
abbrev pub marked_code : ℕ → ℕ → ℕ
marked_code byte k = byte % (1 * 2 ^ (k % 8) % 256) + 1 * 2 ^ (k % 8) % 256

pub read_marked : (byte k : ℕ) {r : LineReader} {x : ByteRead} (h : k < 8) → ReadsByte r (marked_code byte k) x → ReadsByte r (marked_byte byte k h) x
read_marked byte k {r} {x} h e = subst (λ (j : ℕ). ReadsByte r (byte % (1 * 2 ^ j % 256) + 1 * 2 ^ j % 256) x) (mod-eq_of_lt h) e

lacks_marked : (byte k before : ℕ) {m : MissingZero} (h : k < 8) → Lacks before (marked_code byte k) m → Lacks before (marked_byte byte k h) m
lacks_marked byte k before {m} h e = subst (λ (j : ℕ). Lacks before (byte % (1 * 2 ^ j % 256) + 1 * 2 ^ j % 256) m) (mod-eq_of_lt h) e

-- ---- the last bits of the line

module _ (r : LineReader) (byte k : ℕ) (h : k < 8) where
  abbrev line : Unstuffed
  line = last_of r byte k

  last_marks : Marks line (part_of r (marked_byte byte k h))
  last_marks =
      let ones = ones_before r.before in
      let s = low_bits k byte in
      subst (λ t. Marks line (in_front (pending_bits r) (unstuff_part ones 0 t))) (sym (marked-bits byte k h))
      (marks_front (pending_bits r) (unstuff ones 0 s) (unstuff_part ones 0 (s ++ (true ∷ zeros (7 - k)))) (marks ones 0 s (7 - k)))

  pub last_missing : {m : MissingZero} → Lacks r.before (marked_code byte k) m → LacksLast line m
  last_missing {m} l =
      let e = lacks_marked byte k r.before h l in
      record { place_is = go line (subst (Marks line) (ap (in_front (pending_bits r)) e.place_is) last_marks); place_small = e.place_small }
    where
      go : (u : Unstuffed) → Marks u (missing m.0) → u ≡ missing m.0
      go (clean d) g = absurd (let q = g.marked in let z : ◌≡◌ {A = ℕ} 0 1 = cc in omega arith)
      go (missing p) g = sym g

  module _ {x : ByteRead} (e : ReadsByte r (marked_byte byte k h) x) where
    -- the bits, and what they are read as
    record Found : Type 0 where
      bits : List Bool
      behind : ℕ
      left : line ≡ clean bits
      with_mark : whole_bits x.byte ++ pending_bits x.next ≡ bits ++ (true ∷ zeros behind)

    mark_found : Found
    mark_found = go line refl (subst (Marks line) e.bits_are last_marks)
      where
        go : (u : Unstuffed) → line ≡ u → Marks u (clean (whole_bits x.byte ++ pending_bits x.next)) → Found
        go (clean d) l g = let q = g.marked in record { bits = d; behind = g.behind; left = l; with_mark = cc }
        go (missing p) l g = absurd (let z : ◌≡◌ {A = ℕ} 0 1 = cc in omega arith)

    abbrev s : List Bool
    s = mark_found.bits

    pub last_part : x.byte ≡ None → {y : LastRead}
        → ((n : ℕ) (s : List Bool) (j : ℕ) → n ≤ 32 → x.next.held < 2 ^ n → low_bits n x.next.held ≡ s ++ (true ∷ zeros j) → Holds s y)
        → LastBits line y
    last_part w found =
        let f = mark_found in
        let fit = e.fits in
        let p = x.next.pending in
        let q : low_bits p x.next.held ≡ s ++ (true ∷ zeros f.behind) =
        ap (λ v. whole_bits v ++ pending_bits x.next) (sym w) ∙ f.with_mark in
        record {
          bits = s;
          left = f.left;
          below = omega (arith, mark_below x.next.held p fit.held_small s f.behind q, fit.pending_small);
          holds = found p s f.behind (omega (arith, fit.pending_small)) fit.held_small q;
        }

    module _ {b : ℕ} (small : b < 256) (w : x.byte ≡ Some b) where
      abbrev word : ℕ
      word = bit_or b (x.next.held * 256 % 4294967296)

      pub last_whole : {y : LastRead}
          → ((n : ℕ) (s : List Bool) (j : ℕ) → n ≤ 32 → word < 2 ^ n → low_bits n word ≡ s ++ (true ∷ zeros j) → Holds s y)
          → LastBits line y
      last_whole found =
          let f = mark_found in
          let fit = e.fits in
          let held = x.next.held in
          let p = x.next.pending in
          let both = join 8 b held in
          let is : word ≡ both = joined-or 8 b p held small fit.held_small (omega (arith, fit.pending_small)) in
          let low : word < 2 ^ (8 + p) =
          subst (λ (m : ℕ). m < 2 ^ (8 + p)) (sym is) (subst (λ (n : ℕ). both < 2 ^ n) (add_comm p 8) (joined_small 8 b p held small fit.held_small)) in
          let joins : low_bits 8 b ++ pending_bits x.next ≡ s ++ (true ∷ zeros f.behind) =
          ap (λ v. whole_bits v ++ pending_bits x.next) (sym w) ∙ f.with_mark in
          let g : low_bits (8 + p) word ≡ s ++ (true ∷ zeros f.behind) =
          ap (low_bits (8 + p)) is ∙ sym (joined-bits 8 b p held small fit.held_small) ∙ joins in
          record {
            bits = s;
            left = f.left;
            below = omega (arith, mark_below word (8 + p) low s f.behind g, fit.pending_small);
            holds = found (8 + p) s f.behind (omega (arith, fit.pending_small)) low g;
          }
