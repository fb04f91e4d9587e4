-- The loop that hands out the content: its invariant, that what is left to store gives the whole, where it begins, its turns and its
-- end. Assumes nothing.
use mathlib.Core.Path.{◌≡◌, refl, sym, ap, ap₂, ◌∙◌}
use mathlib.Core.Bool.{Bool, true, false}
use mathlib.Core.List.{List, ◌∷◌, ◌++◌}
use Prim.Native.Nat.{ℕ, ◌+◌, ◌*◌, ◌-◌, ◌/◌, ◌<◌, ◌≤◌}
use native.Mathlib.Nat.{mod-eq_of_lt}
use lib.Dec.{ltb}
use borrow.Author.Tests.{ltb-true, ltb-false}
use native.Mathlib.Numerals.{add-one}
use native.Mathlib.Omega.{arith}
use lib.ListN.{length, take, drop, get_or, set, length-set, length-append}
use lib.Seq.{sets, take_at, drop_at}
use Rattle.std.specs.Prelude.{Some, None, Result, Ok, Err, IsOk}
use Rattle.bits.specs.Bytes.{low_bits, bits_of, value, pack_into}
use Rattle.bits.proofs.Bytes.{length-low_bits, value-low_bits}
use Rattle.bits.proofs.WholeBytes.{pack_into_next, pack_into-none}
use Rattle.zero_removal.specs.declared.LineReader.{LineReader}
use Rattle.zero_removal.specs.declared.ByteRead.{ByteRead}
use Rattle.zero_removal.specs.declared.ReceivedByte.{ReceivedByte}
use Rattle.zero_removal.specs.declared.MissingZero.{MissingZero}
use Rattle.zero_removal.specs.Removal.{in_front, Receives}
use Rattle.zero_removal.specs.Reader.{data_of, ReaderFits, left_at, whole_bits, ReadsByte, first_reader}
use Rattle.zero_removal.proofs.Parts.{byte_missing, byte_turn, data_of_front, byte-ahead, first_fits, first-left}
use Rattle.frame_reader.specs.Steps.{data_between}

-- ---- whole bytes stored

packed_next : (s t : List Bool) (byte n : ℕ) → byte ≡ value (take 8 s) → t ≡ drop 8 s → 0 < n → byte ∷ pack_into (n - 1) t ≡ pack_into n s
packed_next s t byte n b e h = ap₂ (λ x y. x ∷ pack_into (n - 1) y) b e ∙ sym (pack_into_next n s h)

-- ---- the first n bytes stored

pub record HandingOut (lent : List ℕ) (end n : ℕ) (first out : List ℕ) (reader : LineReader) (index i : ℕ) : Type 0 where
  pub to_store : sets out i (pack_into (n - i) (data_of (left_at (bits_of lent) end index reader))) ≡ sets first 0 (pack_into n (data_between (bits_of lent) end))
  pub enough : 8 * (n - i) + 8 ≤ length (data_of (left_at (bits_of lent) end index reader))
  pub fits : ReaderFits reader
  pub within : i ≤ n
  pub size : length out ≡ length first

pub hand_begin : (lent : List ℕ) (end n : ℕ) (first : List ℕ) → 8 * n + 8 ≤ length (data_between (bits_of lent) end)
    → {r : LineReader} → r ≡ first_reader → HandingOut lent end n first first r 1 0
hand_begin lent end n first h q =
    let e : n - 0 ≡ n = omega arith in
    let d = ap data_of (first-left (bits_of lent) end) in
    rw q
    (record {
      to_store = ap₂ (λ k s. sets first 0 (pack_into k s)) e d;
      enough = omega (arith, ap length d);
      fits = first_fits;
      within = omega arith;
      size = refl;
    })

module _ {lent : List ℕ} {end n : ℕ} {first out : List ℕ} {r : LineReader} {index i : ℕ} (fit : end ≤ 8 * length lent)
    (o : HandingOut lent end n first out r index i) (more : i < n) where
  pub hand_ahead : 8 * (index + 1) ≤ end
  hand_ahead = byte-ahead lent end fit index r o.fits.pending_small (omega (arith, o.enough))

  -- no zero is missing, for there are bits to give
  pub hand_sound : (u : Result ReceivedByte MissingZero) → Receives r.before (get_or lent index 0) u → IsOk u
  unfolding data_of
  hand_sound (Ok g) l = refl
  hand_sound (Err m) l =
      let z = ap (λ u. length (data_of u)) (byte_missing lent end fit r index hand_ahead l) in
      absurd (omega (arith, o.enough))

  module _ {x : ByteRead} (e : ReadsByte r (get_or lent index 0) x) where
    abbrev now : List Bool
    now = data_of (left_at (bits_of lent) end index r)

    abbrev after : List Bool
    after = data_of (left_at (bits_of lent) end (index + 1) x.next)

    turned : left_at (bits_of lent) end index r ≡ in_front (whole_bits x.byte) (left_at (bits_of lent) end (index + 1) x.next)
    turned = byte_turn lent end fit r index hand_ahead e

    given : now ≡ whole_bits x.byte ++ after
    given =
        ap data_of turned
        ∙ data_of_front (whole_bits x.byte) (left_at (bits_of lent) end (index + 1) x.next)
        (omega (arith, ap (λ u. length (data_of u)) turned, o.enough))

    pub hand_turn : {byte : ℕ} → x.byte ≡ Some byte → byte < 256 → HandingOut lent end n first (set out i byte) x.next (index + 1) (i + 1)
    hand_turn {byte} w small =
        let b : now ≡ low_bits 8 byte ++ after = given ∙ ap (λ v. whole_bits v ++ after) w in
        let l = length-low_bits 8 byte in
        let m = ap length b ∙ length-append (low_bits 8 byte) after in
        let v : byte ≡ value (take 8 now) =
        sym (ap (λ z. value (take 8 z)) b ∙ ap value (take_at (low_bits 8 byte) after 8 l) ∙ value-low_bits 8 byte ∙ mod-eq_of_lt small) in
        let g : after ≡ drop 8 now = sym (ap (drop 8) b ∙ drop_at (low_bits 8 byte) after 8 l) in
        let h : n - (i + 1) ≡ n - i - 1 = omega arith in
        let p : 0 < n - i = omega arith in
        record {
          to_store =
              ap₂ (λ j q. sets (set out i byte) j (pack_into q after)) (add-one i) h
              ∙ ap (sets out i) (packed_next now after byte (n - i) v g p) ∙ o.to_store;
          enough = omega (arith, o.enough);
          fits = e.fits;
          within = omega arith;
          size = length-set out i byte ∙ o.size;
        }

    pub hand_part : x.byte ≡ None → HandingOut lent end n first out x.next (index + 1) i
    hand_part w =
        let b : now ≡ after = given ∙ ap (λ v. whole_bits v ++ after) w in
        record {
          to_store = ap (λ u. sets out i (pack_into (n - i) u)) (sym b) ∙ o.to_store;
          enough = omega (arith, o.enough, ap length b);
          fits = e.fits;
          within = o.within;
          size = o.size;
        }

-- the first byte behind the opening flag stands before the closing one
pub hand_room : (lent : List ℕ) (end n : ℕ) → 0 < n → end ≤ 8 * length lent → 8 * n + 8 ≤ length (data_between (bits_of lent) end) → 16 ≤ end
hand_room lent end n some fit h =
    let d = ap length (ap data_of (first-left (bits_of lent) end)) in
    byte-ahead lent end fit 1 first_reader first_fits.pending_small (omega (arith, d))

-- the line holds all of them
pub hand_all : {lent : List ℕ} {end n : ℕ} {first out : List ℕ} {r : LineReader} {index i : ℕ} → end ≤ 8 * length lent → HandingOut lent end n first out r index i
    → end / 8 ≤ index → n ≤ i
hand_all {n = n} {index = index} {i = i} fit o h = go (ltb i n) refl
  where
    go : (t : Bool) → ltb i n ≡ t → n ≤ i
    go true q = let k = hand_ahead fit o (ltb-true i n q) in absurd (omega arith)
    go false q = ltb-false i n q

pub hand_end : {lent : List ℕ} {end n : ℕ} {first out : List ℕ} {r : LineReader} {index i : ℕ} → HandingOut lent end n first out r index i → n ≤ i
    → out ≡ sets first 0 (pack_into n (data_between (bits_of lent) end))
hand_end {lent} {end} {n} {out = out} {r = r} {index = index} {i = i} o h =
    let z : n - i ≤ 0 = omega arith in
    sym (ap (sets out i) (pack_into-none (n - i) (data_of (left_at (bits_of lent) end index r)) z)) ∙ o.to_store
