-- One pass with the check: what is left to pass gives the whole. Assumes nothing.
use mathlib.Core.Path.{◌≡◌, refl, sym, ap, ap₂, subst, ◌∙◌}
use mathlib.Core.Bool.{Bool}
use mathlib.Core.List.{List, ◌++◌, append_assoc}
use Prim.Native.Nat.{ℕ, suc, ◌+◌, ◌*◌, ◌-◌, ◌/◌, ◌%◌, ◌^◌, ◌<◌, ◌≤◌}
use native.Mathlib.Nat.{mod-eq_of_lt}
use native.Mathlib.Omega.{arith}
use lib.Bits.{bit_and}
use lib.ListN.{length, take, drop, get_or, length-append}
use lib.Pow.{pow-lt, shr_lt}
use lib.Seq.{slice, take_at, drop_at, drop-drop}
use Rattle.std.specs.Prelude.{Some, None}
use Rattle.std.proofs.lemmas.Nat.{and_mask}
use Rattle.bits.specs.Bytes.{low_bits, bits_of, value, pack_into}
use Rattle.bits.proofs.Bytes.{length-low_bits, low_bits-append, low_bits-value, value-low_bits, value_lt}
use Rattle.registers.specs.Register.{enter_by_table, enter_bits_by_table, enter_all_by_table, enter_string_by_table}
use Rattle.frame.specs.Stuffing.{Unstuffed, clean, missing, unstuff}
use Rattle.zero_removal.specs.declared.LineReader.{LineReader}
use Rattle.zero_removal.specs.declared.ByteRead.{ByteRead}
use Rattle.zero_removal.specs.declared.MissingZero.{MissingZero}
use Rattle.frame.proofs.Words.{bits_of_on}
use Rattle.zero_removal.specs.Removal.{ones_before, in_front, Lacks}
use Rattle.zero_removal.specs.Reader.{ReaderFits, pending_bits, whole_bits, ReadsByte, left_at, first_reader}
use Rattle.zero_removal.proofs.Parts.{in_front-none, moved, unstuff_at, moved_front, slice_rest, byte_missing, byte_turn, first_fits, first-left}
use Rattle.line_ends.specs.declared.LastRead.{LastRead}
use Rattle.line_ends.specs.Last.{last_of, LastBits, LacksLast}
use Rattle.frame_walk.specs.Walk.{closed, refused}
use Rattle.frame_walk.specs.Steps.{passed}

-- ---- a byte entered, and fewer than eight bits

string-byte : (table : List ℕ) (register byte : ℕ) (s : List Bool)
    → enter_string_by_table table register (low_bits 8 byte ++ s) ≡ enter_string_by_table table (enter_by_table table register (byte % 256)) s
unfolding enter_string_by_table enter_all_by_table pack_into
string-byte table register byte s =
    let x = low_bits 8 byte ++ s in
    let l = length-low_bits 8 byte in
    let m = length-append (low_bits 8 byte) s in
    let n = length s / 8 in
    let q : length x / 8 ≡ suc n = omega arith in
    let r : length x % 8 ≡ length s % 8 = omega arith in
    let e : 8 * suc n ≡ 8 + 8 * n = omega arith in
    let v : value (take 8 x) ≡ byte % 256 = ap value (take_at (low_bits 8 byte) s 8 l) ∙ value-low_bits 8 byte in
    let d = drop_at (low_bits 8 byte) s 8 l in
    let whole : enter_all_by_table table register (pack_into (suc n) x) ≡ enter_all_by_table table (enter_by_table table register (byte % 256)) (pack_into n s) =
    ap₂ (λ a b. enter_all_by_table table (enter_by_table table register a) (pack_into n b)) v d in
    let rest : drop (8 * suc n) x ≡ drop (8 * n) s = ap (λ k. drop k x) e ∙ sym (drop-drop (8 * n) 8 x) ∙ ap (drop (8 * n)) d in
    ap₂ (λ k i. enter_bits_by_table table (enter_all_by_table table register (pack_into k x)) (value (drop (8 * k) x)) i) q r
    ∙ ap₂ (λ a b. enter_bits_by_table table a (value b) (length s % 8)) whole rest

string-few : (table : List ℕ) (register : ℕ) (s : List Bool) → length s < 8 → enter_string_by_table table register s ≡ enter_bits_by_table table register (value s) (length s)
unfolding enter_string_by_table enter_all_by_table pack_into
string-few table register s h =
    let q : length s / 8 ≡ 0 = omega (arith, h) in
    let r : length s % 8 ≡ length s = omega (arith, h) in
    ap₂ (λ k i. enter_bits_by_table table (enter_all_by_table table register (pack_into k s)) (value (drop (8 * k) s)) i) q r

passed-byte : (table : List ℕ) (end register count b : ℕ) → b < 256 → (u : Unstuffed)
    → passed table end register count (in_front (low_bits 8 b) u) ≡ passed table end (enter_by_table table register b) (count + 8) u
unfolding passed
passed-byte table end register count b small (missing p) = refl
passed-byte table end register count b small (clean s) =
    let n : count + length (low_bits 8 b ++ s) ≡ count + 8 + length s = omega (arith, length-low_bits 8 b, length-append (low_bits 8 b) s) in
    ap₂ (closed end) n (string-byte table register b s ∙ ap (λ x. enter_string_by_table table (enter_by_table table register x) s) (mod-eq_of_lt small))

-- ---- the loop over whole bytes

pub record Passing (table : List ℕ) (start : ℕ) (lent : List ℕ) (end register count index : ℕ) (r : LineReader) : Type 0 where
  pub left : passed table end register count (left_at (bits_of lent) end index r) ≡ passed table end start 0 (unstuff 0 8 (slice 8 end (bits_of lent)))
  pub fits : ReaderFits r
  pub within : 8 * index ≤ end
  pub counted : count + 8 ≤ 8 * index

pub pass_begin : (table : List ℕ) (start : ℕ) (lent : List ℕ) (end : ℕ) → 8 ≤ end → {r : LineReader} → r ≡ first_reader → Passing table start lent end start 0 1 r
pass_begin table start lent end h e =
    rw e
    (record {
      left = ap (passed table end start 0) (first-left (bits_of lent) end);
      fits = first_fits;
      within = omega arith;
      counted = omega arith;
    })

module _ {table : List ℕ} {start : ℕ} {lent : List ℕ} {end register count index : ℕ} {r : LineReader} (wide : end + 8 ≤ 8 * length lent)
    (j : Passing table start lent end register count index r) (h : 8 * (index + 1) ≤ end) where
  fit : end ≤ 8 * length lent
  fit = omega arith

  pub pass_missing : {m : MissingZero} → Lacks r.before (get_or lent index 0) m
      → refused 33 (8 * index + m.0) ≡ passed table end start 0 (unstuff 0 8 (slice 8 end (bits_of lent)))
  unfolding passed
  pass_missing l = sym (ap (passed table end register count) (byte_missing lent end fit r index h l)) ∙ j.left

  module _ {x : ByteRead} (e : ReadsByte r (get_or lent index 0) x) where
    turned : left_at (bits_of lent) end index r ≡ in_front (whole_bits x.byte) (left_at (bits_of lent) end (index + 1) x.next)
    turned = byte_turn lent end fit r index h e

    pub pass_turn : {b : ℕ} → x.byte ≡ Some b → b < 256 → {next : ℕ} → next ≡ enter_by_table table register b
        → Passing table start lent end next (count + 8) (index + 1) x.next
    pass_turn {b} w small q =
        let after = left_at (bits_of lent) end (index + 1) x.next in
        record {
          left =
              ap (λ n. passed table end n (count + 8) after) q
              ∙ sym (passed-byte table end register count b small after)
              ∙ ap (λ v. passed table end register count (in_front (whole_bits v) after)) (sym w)
              ∙ ap (passed table end register count) (sym turned) ∙ j.left;
          fits = e.fits;
          within = h;
          counted = omega (arith, j.counted);
        }

    pub pass_part : x.byte ≡ None → Passing table start lent end register count (index + 1) x.next
    pass_part w =
        let after = left_at (bits_of lent) end (index + 1) x.next in
        record {
          left =
              ap (passed table end register count) (sym (in_front-none after) ∙ ap (λ v. in_front (whole_bits v) after) (sym w) ∙ sym turned)
              ∙ j.left;
          fits = e.fits;
          within = h;
          counted = omega (arith, j.counted);
        }

-- ---- the bits behind them

-- the bits from the last byte on
left_last : (lent : List ℕ) (end : ℕ) → end + 8 ≤ 8 * length lent → (r : LineReader)
    → left_at (bits_of lent) end (end / 8) r ≡ moved (8 * (end / 8)) (last_of r (get_or lent (end / 8) 0) (end % 8))
left_last lent end fits r =
    let i = end / 8 in
    let k = end % 8 in
    let byte = get_or lent i 0 in
    let n : end - 8 * i ≡ k = omega arith in
    let e : 8 ≡ k + (8 - k) = omega arith in
    let rest = bits_of (drop (i + 1) lent) in
    let high = low_bits (8 - k) (byte / 2 ^ k) in
    let ones = ones_before r.before in
    ap (λ s. in_front (pending_bits r) (unstuff ones (8 * i) s))
    (slice_rest lent end (omega arith) i (omega arith)
    ∙ ap₂ take n (bits_of_on lent i (omega arith))
    ∙ ap (λ s. take k (s ++ rest)) (ap (λ w. low_bits w byte) e ∙ low_bits-append k (8 - k) byte)
    ∙ ap (take k) (append_assoc (low_bits k byte) high rest)
    ∙ take_at (low_bits k byte) (high ++ rest) k (length-low_bits k byte))
    ∙ ap (in_front (pending_bits r)) (unstuff_at ones (8 * i) (low_bits k byte))
    ∙ moved_front (8 * i) (pending_bits r) (unstuff ones 0 (low_bits k byte))

module _ (table : List ℕ) (register count : ℕ) (r : LineReader) (lent : List ℕ) (end : ℕ) (fits : end + 8 ≤ 8 * length lent) where
  abbrev i : ℕ
  i = end / 8

  abbrev pub left_over : Unstuffed
  left_over = last_of r (get_or lent i 0) (end % 8)

  pub last_missing : {m : MissingZero} → LacksLast left_over m → refused 33 (8 * i + m.0) ≡ passed table end register count (left_at (bits_of lent) end i r)
  unfolding passed
  last_missing l = ap (passed table end register count) (sym (left_last lent end fits r ∙ ap (moved (8 * i)) l.place_is))

  module _ {x : LastRead} (found : LastBits left_over x) where
    abbrev s : List Bool
    s = found.bits

    left : left_at (bits_of lent) end i r ≡ clean s
    left = left_last lent end fits r ∙ ap (moved (8 * i)) found.left

    -- as code holds them
    low_held : bit_and x.held 255 ≡ value s % 256
    low_held = and_mask x.held 8 ∙ ap (λ n. n % 256) found.holds.held_is

    passes : {next : ℕ} → next ≡ enter_string_by_table table register s
        → closed end (count + x.bits) next ≡ passed table end register count (left_at (bits_of lent) end i r)
    unfolding passed
    passes e = ap₂ (closed end) (ap (λ k. count + k) found.holds.counted) e ∙ ap (passed table end register count) (sym left)

    pub last_part : x.bits < 8 → {next : ℕ} → next ≡ enter_bits_by_table table register (bit_and x.held 255) x.bits
        → closed end (count + x.bits) next ≡ passed table end register count (left_at (bits_of lent) end i r)
    last_part h en =
        let few : length s < 8 = omega (arith, h, found.holds.counted) in
        let byte : value s < 2 ^ 8 = omega (arith, value_lt s, pow-lt few) in
        passes (en
        ∙ ap₂ (enter_bits_by_table table register) (low_held ∙ mod-eq_of_lt byte) found.holds.counted
        ∙ sym (string-few table register s few))

    -- the bits are a byte's, and those behind it
    in_two : 8 ≤ length s → low_bits 8 (value s) ++ low_bits (length s - 8) (value s / 256) ≡ s
    in_two h =
        let w : 8 + (length s - 8) ≡ length s = omega (arith, h) in
        sym (low_bits-append 8 (length s - 8) (value s)) ∙ ap (λ n. low_bits n (value s)) w ∙ low_bits-value s

    pub last_byte : 8 ≤ x.bits → {whole next : ℕ} → whole ≡ enter_by_table table register (bit_and x.held 255)
        → next ≡ enter_bits_by_table table whole (bit_and (x.held / 256) 255) (x.bits - 8)
        → closed end (count + x.bits) next ≡ passed table end register count (left_at (bits_of lent) end i r)
    last_byte h {whole} ew en =
        let many : 8 ≤ length s = omega (arith, h, found.holds.counted) in
        let k = length s - 8 in
        let rest = low_bits k (value s / 256) in
        let l : length rest ≡ k = length-low_bits k (value s / 256) in
        let few : length rest < 8 = omega (arith, l, found.below, many) in
        let wide : length s ≡ k + 8 = omega (arith, many) in
        let high : value s / 256 < 2 ^ k = shr_lt k 8 (subst (λ (n : ℕ). value s < 2 ^ n) wide (value_lt s)) in
        let byte : value s / 256 < 2 ^ 8 = omega (arith, high, pow-lt {i = k} {j = 8} (omega (arith, found.below, many))) in
        let held : bit_and (x.held / 256) 255 ≡ value rest =
        and_mask (x.held / 256) 8 ∙ ap (λ n. n / 256 % 256) found.holds.held_is ∙ mod-eq_of_lt byte
        ∙ sym (value-low_bits k (value s / 256) ∙ mod-eq_of_lt high) in
        let bits : x.bits - 8 ≡ length rest = omega (arith, found.holds.counted, l) in
        passes (en
        ∙ ap₂ (enter_bits_by_table table whole) held bits
        ∙ sym (string-few table whole rest few)
        ∙ ap (λ w. enter_string_by_table table w rest) (ew ∙ ap (enter_by_table table register) low_held)
        ∙ sym (string-byte table register (value s) rest)
        ∙ ap (enter_string_by_table table register) (in_two many))
