-- Frames whose content is zeros: their check is a sum of powers of x. A frame that differs from such a one by a multiple of the generator
-- is accepted too. Assumes nothing.
use mathlib.Core.Path.{◌≡◌, sym, ap, ap₂, ◌∙◌}
use Prim.Native.Nat.{ℕ, ◌+◌, ◌-◌, ◌*◌, ◌≤◌}
use native.Mathlib.Omega.{arith}
use mathlib.Core.Bool.{Bool}
use mathlib.Core.List.{List, [], ◌∷◌, ◌++◌, map}
use lib.Dec.{T}
use lib.ListN.{length, length-append}
use lib.Seq.{take_at, drop_at}
use Rattle.bits.specs.Strings.{xor_bits, zeros}
use Rattle.bits.specs.Differences.{set_from, differing}
use Rattle.bits.proofs.Strings.{length-zeros, xor_bits-zeros, zeros-append}
use Rattle.bits.proofs.Differences.{length-differing}
use Rattle.division.specs.Division.{divide, remainder}
use Rattle.division.proofs.Linear.{remainder-append}
use Rattle.division.proofs.Detection.{difference}
use Rattle.division.proofs.Sums.{degrees, length-degrees, sum, sum_is, sum_is_lem, remainder-sum, divide-sum}
use Rattle.cyclic.specs.Check.{Parameters, formula, invert_if, check_bits}
use Rattle.cyclic.specs.Laws.{OfWidth}
use Rattle.cyclic.proofs.Checks.{length-check}
use Rattle.frame.specs.Stuffing.{behind_five}
use Rattle.frame.specs.Frame.{enclose}
use Rattle.frame.specs.Read.{found, framed, framing, framing_by, framing_of}
use Rattle.guarantees.specs.Lines.{SameFraming, distance}
use Rattle.guarantees.specs.Frames.{Accepted, checked_in, checked_bits, frames}
use Rattle.guarantees.proofs.Lines.Masks.{differ_where_checked}
use Rattle.guarantees.proofs.Lines.Cyclic.{accepted_remainder}
use Rattle.guarantees.proofs.Frames.Framing.{CheckRight, accepted_right}
use Rattle.guarantees.proofs.Frames.Bridge.{frame_bridge}
use Rattle.guarantees.proofs.Frames.Cyclic.{cyclic_frames}
use Rattle.guarantees.proofs.Frames.RoundTrip.{length_enclosed, between_enclosed, framed_enclosed}
use Rattle.guarantees.proofs.Third.{frame_has_framing}
use Rattle.witness.proofs.Sharp.{two_accepted}
use Rattle.distances.specs.Met.{MetAt}
use Rattle.distances.proofs.FewOnes.{few_ones, stuff_few, behind_few}

module _ (m : Parameters) (w : ℕ) (wide : OfWidth w m) where
  abbrev p : List Bool
  p = m.generator

  -- ---- the check of n zeros is what L leaves, moved up by them

  check-zeros : (n : ℕ) → check_bits m (zeros n) ≡ invert_if m.inverted (sum p (map (λ d. d + n) (degrees m.start)))
  unfolding check_bits formula
  check-zeros n =
      let k = length p in
      let l : length (m.start ++ zeros n) ≡ n + k =
      length-append m.start (zeros n) ∙ omega (arith, length-zeros n, wide.start-length, wide.generator.width) in
      ap (invert_if m.inverted)
      (ap₂ (λ a b. remainder p (xor_bits a (m.start ++ zeros b))) (zeros-append n k) (length-zeros n)
      ∙ ap (remainder p) (xor_bits-zeros (n + k) (m.start ++ zeros n) l)
      ∙ remainder-append p m.start (zeros n)
      ∙ ap (λ r. divide p r (zeros n)) (remainder-sum p m.start)
      ∙ divide-sum p n (degrees m.start))

  right_zeros : (n : ℕ) (c : List Bool) → length c ≡ w → check_bits m (zeros n) ≡ c → CheckRight m (zeros n ++ c)
  right_zeros n c l e =
      let k : length (zeros n) ≡ length (zeros n ++ c) - length p = omega (arith, length-append (zeros n) c, wide.generator.width) in
      drop_at (zeros n) c (length (zeros n ++ c) - length p) k ∙ sym e
      ∙ ap (check_bits m) (sym (take_at (zeros n) c (length (zeros n ++ c) - length p) k))

  -- ---- checked bits without five ones in a row, between two flags

  record Encloses (s : List Bool) : Type 0 where
    content : 1 + w ≤ length s
    within : length s ≤ 8 * m.limit + w
    few : T (few_ones 0 s)

  module _ (s : List Bool) (e : Encloses s) where
    frame_found : framed m (enclose s) ≡ found s
    frame_found =
        let k = wide.generator.width in
        framed_enclosed s m (omega (arith, e.content)) (omega (arith, e.within))

    frame_framing : framing_of m (enclose s) ≡ framing []
    unfolding framing_of
    frame_framing =
        ap (framing_by (enclose s)) frame_found
        ∙ ap (λ x. framing (set_from 8 (behind_five 0 x))) (between_enclosed s ∙ stuff_few 0 s e.few)
        ∙ ap framing (behind_few 8 0 s (omega arith) e.few)

    frame_checked : checked_bits m (enclose s) ≡ s
    unfolding checked_bits
    frame_checked = ap checked_in frame_found

    frame_length : length (enclose s) ≡ length s + 16
    frame_length = length_enclosed s ∙ ap (λ x. length x + 16) (stuff_few 0 s e.few)

    frame_accepted : CheckRight m s → Accepted m (enclose s)
    frame_accepted right = (accepted_right m (enclose s) (record { checked = s; is_found = frame_found })).1 right

  -- ---- n zeros with their check, whose division leaves r, and a string t; the difference of the two has the powers ds, whose sum is 0

  abbrev pub check_of : List Bool → List Bool
  check_of r = invert_if m.inverted r

  -- by squaring, exponents of k binary digits
  pub record Pair (k n : ℕ) (r t : List Bool) (ds : List ℕ) : Type 0 where
    pub check : T (sum_is p k (map (λ d. d + n) (degrees m.start)) r)
    pub content : 1 ≤ n
    pub within : n ≤ 8 * m.limit
    pub few_first : T (few_ones 0 (zeros n ++ check_of r))
    pub few_second : T (few_ones 0 t)
    pub size : length t ≡ n + w
    pub powers : degrees (xor_bits (zeros n ++ check_of r) t) ≡ ds
    pub no_remainder : T (sum_is p k ds (zeros w))

  module _ (k n : ℕ) (r t : List Bool) (ds : List ℕ) (q : Pair k n r t ds) where
    abbrev c : List Bool
    c = check_of r

    abbrev s : List Bool
    s = zeros n ++ c

    check_is : check_bits m (zeros n) ≡ c
    check_is = check-zeros n ∙ ap (invert_if m.inverted) (sum_is_lem p k (map (λ d. d + n) (degrees m.start)) r q.check)

    check-length : length c ≡ w
    check-length = ap length (sym check_is) ∙ length-check m (wide.start-length ∙ sym wide.generator.width) (zeros n) ∙ wide.generator.width

    length-first : length s ≡ n + w
    length-first = length-append (zeros n) c ∙ omega (arith, length-zeros n, check-length)

    a : Encloses s
    a = record { content = omega (arith, length-first, q.content); within = omega (arith, length-first, q.within); few = q.few_first }

    b : Encloses t
    b = record { content = omega (arith, q.size, q.content); within = omega (arith, q.size, q.within); few = q.few_second }

    first_accepted : Accepted m (enclose s)
    first_accepted = frame_accepted s a (right_zeros n c check-length check_is)

    one_length : length s ≡ length t
    one_length = length-first ∙ sym q.size

    one_remainder : remainder p s ≡ remainder p t
    one_remainder =
        (difference p s t one_length).1
        (remainder-sum p (xor_bits s t) ∙ ap (sum p) q.powers ∙ sum_is_lem p k ds (zeros w) q.no_remainder ∙ ap zeros (sym wide.generator.width))

    one_size : length (enclose s) ≡ length (enclose t)
    one_size = frame_length s a ∙ ap (λ k. k + 16) one_length ∙ sym (frame_length t b)

    one_framing : framing_of m (enclose s) ≡ framing_of m (enclose t)
    one_framing = frame_framing s a ∙ sym (frame_framing t b)

    same : SameFraming (frames m) (enclose s) (enclose t)
    same =
        record {
          lines = (tt, tt);
          one_length = one_size;
          has_framing = frame_has_framing m (enclose s) first_accepted;
          one_framing = one_framing;
        }

    second_accepted : Accepted m (enclose t)
    second_accepted =
        (accepted_remainder m w wide (frames m) (frame_bridge m) (cyclic_frames m w wide) (enclose s) (enclose t) first_accepted same).1
        (ap (remainder p) (frame_checked s a) ∙ one_remainder ∙ sym (ap (remainder p) (frame_checked t b)))

    differ : distance (frames m) (enclose s) (enclose t) ≡ length ds
    differ =
        (differ_where_checked (frames m) (frame_bridge m) (enclose s) (enclose t) same).1
        ∙ ap length (ap₂ differing (frame_checked s a) (frame_checked t b))
        ∙ length-differing s t ∙ sym (length-degrees (xor_bits s t)) ∙ ap length q.powers

  -- two accepted frames of n + w checked bits that differ in as many as ds has
  pub pair_met : (k n : ℕ) (r t : List Bool) (d : ℕ) (ds : List ℕ) → Pair k n r t (d ∷ ds) → MetAt (length (d ∷ ds)) (n + w) (frames m)
  pair_met k n r t d ds q =
      let c = check_of r in
      record {
        in_just =
            record {
              A = enclose (zeros n ++ c);
              B = enclose t;
              two_accepted =
                  two_accepted (frames m) (frame_has_framing m) (enclose (zeros n ++ c)) (enclose t) (tt, tt) (one_size k n r t (d ∷ ds) q)
                  (one_framing k n r t (d ∷ ds) q) (first_accepted k n r t (d ∷ ds) q, second_accepted k n r t (d ∷ ds) q)
                  (differ k n r t (d ∷ ds) q);
              bits = differ k n r t (d ∷ ds) q;
            };
        checked_length = ap length (frame_checked (zeros n ++ c) (a k n r t (d ∷ ds) q)) ∙ length-first k n r t (d ∷ ds) q;
      }
