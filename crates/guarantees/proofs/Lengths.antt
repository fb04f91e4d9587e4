-- How long a line is, by its shape, and how many zeros a frame can take. Assumes nothing.
use mathlib.Core.Path.{◌≡◌, refl, sym, ap, ◌∙◌}
use mathlib.Core.Logic.{◌↔◌}
use Prim.Native.Nat.{ℕ, zero, suc, ◌+◌, ◌*◌, ◌/◌, ◌≤◌}
use native.Mathlib.Omega.{arith}
use mathlib.Core.Bool.{Bool, true, false, cond, xor, ◌||◌}
use mathlib.Core.List.{List, [], ◌∷◌, ◌++◌, map}
use lib.Dec.{eqb}
use lib.ListN.{length, take, replicate, length-append, length-map, length-replicate}
use borrow.Author.Tests.{eqb-true, eqb-false, le-leb}
use Rattle.bits.specs.Bytes.{low_bits, bits_of, pack}
use Rattle.bits.specs.Differences.{Each}
use Rattle.division.specs.Division.{divide, remainder}
use Rattle.division.specs.Generators.{ccitt16}
use Rattle.cyclic.specs.Check.{Parameters, formula, check_bits, checked_bits, method5, method6}
use Rattle.cyclic.specs.Laws.{OfWidth}
use Rattle.cyclic.proofs.Checks.{length-check}
use Rattle.cyclic.proofs.Methods.{width_5, width_6}
use Rattle.block.specs.declared.Method.{Method}
use Rattle.block.specs.declared.Method.TheVariants as method
use Rattle.block.specs.declared.Parity.{Parity}
use Rattle.block.specs.declared.Shape.{Shape}
use Rattle.block.specs.declared.Shape.TheVariants as shape
use Rattle.block.specs.declared.EndSign.{EndSign}
use Rattle.block.specs.Signs.{CodeTable, end_byte}
use Rattle.block.specs.Characters.{is_seven, sent}
use Rattle.block.specs.Check.{check_of, check_length}
use Rattle.block.specs.Write.{is_clear, has_header, has_text, start_signs, inner_signs, is_empty, doubled, escaped, counted_bytes, framed_bytes, line_of}
use Rattle.block.proofs.CheckLaws.{length-check_of, check_length_lem}
use Rattle.block.specs.Write as blocks
use Rattle.block.specs.Limits.{counted_limit}
use Rattle.frame.specs.Stuffing.{is_fifth, run_on, zero_if, stuff}
use Rattle.frame.specs.Frame.{flag, enclose, frame_of}
use Rattle.frame.specs.Write as frames
use Rattle.guarantees.specs.Lengths.{count_dle, line_length, Written, MetByDle, longest_frame, Lengths}
use Rattle.guarantees.proofs.Writing.{Allowed, passed, passes}
use Rattle.guarantees.proofs.Frames.RoundTrip as written

-- ---- clear text

module _ (t : CodeTable) where
  length-escaped : (bs : List ℕ) → length (escaped t bs) ≡ length bs + count_dle t bs
  unfolding escaped
  length-escaped [] = refl
  length-escaped (b ∷ bs) = go (eqb b t.DLE) (length-escaped bs)
    where
      go : (dle : Bool) → length (escaped t bs) ≡ length bs + count_dle t bs
          → length (doubled dle b (escaped t bs)) ≡ length (b ∷ bs) + (cond dle 1 0 + count_dle t bs)
      go true h = omega (arith, h)
      go false h = omega (arith, h)

  -- DLE are as many as there are bytes just where every byte is one
  few_dle : (bs : List ℕ) → count_dle t bs ≤ length bs
  few_dle [] = omega arith
  few_dle (b ∷ bs) = go (eqb b t.DLE) (few_dle bs)
    where
      go : (dle : Bool) → count_dle t bs ≤ length bs → cond dle 1 0 + count_dle t bs ≤ length (b ∷ bs)
      go true h = omega arith
      go false h = omega arith

  all_dle : (bs : List ℕ) → (count_dle t bs ≡ length bs) ↔ Each (λ b. b ≡ t.DLE) bs
  all_dle [] = (λ e. tt, λ a. refl)
  all_dle (b ∷ bs) = go (eqb b t.DLE) refl (all_dle bs)
    where
      go : (dle : Bool) → eqb b t.DLE ≡ dle → (count_dle t bs ≡ length bs) ↔ Each (λ c. c ≡ t.DLE) bs
          → (cond dle 1 0 + count_dle t bs ≡ length (b ∷ bs)) ↔ ((b ≡ t.DLE) × Each (λ c. c ≡ t.DLE) bs)
      go true q i = (λ e. (eqb-true b t.DLE q, i.0 (omega (arith, e))), λ a. omega (arith, i.1 a.1))
      go false q i = (λ e. absurd (omega (arith, e, few_dle bs)), λ a. absurd (eqb-false b t.DLE q a.0))

-- ---- lines

module _ (t : CodeTable) (m : Method) (p : Parity) (e : EndSign) (head body : List ℕ) where
  -- by shape, of any header and text
  length-line : (s : Shape) → length (line_of t m p s e head body)
      ≡ length head + cond (is_clear s) (length (escaped t body) + 1) (length body) + length (start_signs t s) + length (inner_signs t s) + 1 + check_length m
  unfolding line_of framed_bytes
  length-line s = go (is_clear s) (length-check_of m p (counted_bytes t m p s e head body))
    where
      go : (clear : Bool) → length (pack (check_of m p (counted_bytes t m p s e head body))) ≡ check_length m
          → length (map (sent (is_seven m) p) (start_signs t s ++ (head ++ (inner_signs t s ++ cond clear (escaped t body ++ t.DLE ∷ end_byte t e ∷ []) (body ++ end_byte t e ∷ [])))) ++ pack (check_of m p (counted_bytes t m p s e head body)))
          ≡ length head + cond clear (length (escaped t body) + 1) (length body) + length (start_signs t s) + length (inner_signs t s) + 1 + check_length m
      go true c = simp (length-append, length-map) (omega (arith, c))
      go false c = simp (length-append, length-map) (omega (arith, c))

no_bytes : (bs : List ℕ) → is_empty bs ≡ true → length bs ≡ 0
no_bytes bs h = eqb-true (length bs) 0 h

line : (t : CodeTable) (m : Method) (s : Shape) (head body bytes : List ℕ) → Written t m s head body bytes
    → length bytes ≡ line_length m s (length head) (length body) (count_dle t body)
line t m s head body bytes w =
    let q = passed t m w.0 s w.1 head body bytes w.2 w.3 in
    ap length q.line_is ∙ by_shape s q.allowed.header-fits q.allowed.text-fits
  where
    by_shape : (r : Shape) → has_header r || is_empty head ≡ true → has_text r || is_empty body ≡ true
        → length (line_of t m w.0 r w.1 head body) ≡ line_length m r (length head) (length body) (count_dle t body)
    by_shape shape.Header h k = omega (arith, length-line t m w.0 w.1 head body shape.Header, no_bytes body k)
    by_shape shape.Text h k = omega (arith, length-line t m w.0 w.1 head body shape.Text, no_bytes head h)
    by_shape shape.HeaderText h k = omega (arith, length-line t m w.0 w.1 head body shape.HeaderText)
    by_shape shape.ClearText h k = omega (arith, length-line t m w.0 w.1 head body shape.ClearText, no_bytes head h, length-escaped t body)
    by_shape shape.HeaderClearText h k = omega (arith, length-line t m w.0 w.1 head body shape.HeaderClearText, length-escaped t body)

-- ---- zero insertion: a zero for each five bits at most

stuff_short : (run : ℕ) (s : List Bool) → run ≤ 4 → 5 * length (stuff run s) ≤ 6 * length s + run
unfolding stuff is_fifth run_on
stuff_short run [] h = omega arith
stuff_short run (true ∷ s) h = go (eqb run 4) refl (λ r. stuff_short r s)
  where
    go : (fifth : Bool) → eqb run 4 ≡ fifth → ((r : ℕ) → r ≤ 4 → 5 * length (stuff r s) ≤ 6 * length s + r)
        → 5 * length ((true ∷ zero_if fifth) ++ stuff (cond fifth 0 (run + 1)) s) ≤ 6 * length (true ∷ s) + run
    go true q i = omega (arith, i 0 (omega arith), eqb-true run 4 q)
    go false q i = let n = eqb-false run 4 q in omega (arith, i (run + 1) (omega arith))
stuff_short run (false ∷ s) h = omega (arith, stuff_short 0 s (omega arith))

frame : (w : ℕ) (m : Parameters) → OfWidth w m → (content : List Bool) → length (frame_of m content) ≤ longest_frame (length content + w)
unfolding frame_of checked_bits
frame w m o content =
    let s = content ++ check_bits m content in
    let c : length (check_bits m content) ≡ w = length-check m (o.start-length ∙ sym o.generator.width) content ∙ o.generator.width in
    let n : length s ≡ length content + w = length-append content (check_bits m content) ∙ ap (λ k. length content + k) c in
    omega (arith, written.length_enclosed s, stuff_short 0 s (omega arith))

-- by the claimed bits
frame_claimed : (w : ℕ) (m : Parameters) → OfWidth w m → (claimed : ℕ) (lent : List ℕ) (f : List Bool) (room : ℕ)
    → frames.write_frame m claimed lent room ≡ frames.written f → length f ≤ longest_frame (claimed + w)
frame_claimed w m o claimed lent f room e =
    let k = written.was_written m claimed lent f room e in
    omega (arith, ap length k.bits, frame w m o (take claimed (bits_of lent)), k.length-content)

-- by computation, as row 12
met_by_ff : (room : ℕ) → 7 ≤ room
    → (f : List Bool) × (frames.write_frame method5 16 (0xFF ∷ 0xFF ∷ []) room ≡ frames.written f) × (length f ≡ 8 * 2 + 32 + (8 * 2 + 16) / 5)
unfolding low_bits bits_of divide remainder ccitt16 formula check_bits checked_bits method5 is_fifth run_on stuff flag enclose frame_of frames.write_frame frames.write_bits xor
met_by_ff room h =
    let f = frame_of method5 (bits_of (0xFF ∷ 0xFF ∷ [])) in
    (f, ap (λ x. frames.ask x 23 7 (frames.written f)) (le-leb 7 room h), refl)

-- clear text under a method whose check has two bytes
module _ (t : CodeTable) (m : Method) (two : check_length m ≡ 2) (head body bytes : List ℕ) (w : Written t m shape.ClearText head body bytes) where
  size : length bytes ≡ length body + count_dle t body + 6
  size = omega (arith, line t m shape.ClearText head body bytes w, two)

  clear_line : length bytes ≤ 2 * length body + 6
  clear_line = omega (arith, size, few_dle t body)

  met_by_dle : MetByDle t body bytes
  met_by_dle = (λ e. (all_dle t body).0 (omega (arith, size, e)), λ a. omega (arith, size, (all_dle t body).1 a))

-- ---- as many DLE as a block can count

carried : (seven : Bool) → seven || true ≡ true
carried true = refl
carried false = refl

each_dle : (t : CodeTable) (n : ℕ) → Each (λ b. b ≡ t.DLE) (replicate n t.DLE)
each_dle t zero = tt
each_dle t (suc n) = (refl, each_dle t n)

module _ (t : CodeTable) (p : Parity) (e : EndSign) (n room : ℕ) (few : n + 1 ≤ counted_limit) (fits : 2 * n + 6 ≤ room) where
  abbrev body : List ℕ
  body = replicate n t.DLE

  abbrev bytes : List ℕ
  bytes = line_of t method.Cyclic p shape.ClearText e [] body

  allowed : Allowed t false shape.ClearText [] body
  allowed = record { carried = refl; header-fits = refl; text-fits = refl; header_free = tt; text_free = tt }

  size_met : length bytes ≡ 2 * n + 6
  size_met =
      let d = (all_dle t body).1 (each_dle t n) in
      omega (arith, length-line t method.Cyclic p e [] body shape.ClearText, length-escaped t body, d, length-replicate n t.DLE, check_length_lem method.Cyclic)

  clear_line_met : (line : List ℕ) × (blocks.write_block t method.Cyclic p shape.ClearText e [] body room ≡ blocks.written line) × (length line ≡ 2 * n + 6)
  unfolding blocks.counted_length
  clear_line_met = (
    bytes,
    passes t method.Cyclic p shape.ClearText e [] body room (carried t.seven_bit) allowed (omega (arith, length-replicate n t.DLE)) (omega (arith, size_met)),
    size_met,
  )

pub lengths : Lengths
lengths =
    record {
      line = line;
      clear_line_3 = λ t. clear_line t method.Cyclic (check_length_lem method.Cyclic);
      clear_line_4 = λ t. clear_line t method.CyclicAlternative (check_length_lem method.CyclicAlternative);
      met_by_dle_3 = λ t. met_by_dle t method.Cyclic (check_length_lem method.Cyclic);
      met_by_dle_4 = λ t. met_by_dle t method.CyclicAlternative (check_length_lem method.CyclicAlternative);
      clear_line_met = clear_line_met;
      frame = frame;
      frame_5 = λ claimed lent f room e. omega (arith, frame_claimed 16 method5 width_5 claimed lent f room e);
      frame_6 = λ claimed lent f room e. omega (arith, frame_claimed 32 method6 width_6 claimed lent f room e);
      bytes_5 = λ content f room e. omega (arith, frame_claimed 16 method5 width_5 (8 * length content) content f room e);
      met_by_ff = met_by_ff;
    }
