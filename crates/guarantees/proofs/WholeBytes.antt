-- Only the questions of the length moved: before them the rules are the same, and at a multiple of 8 they answer the same.
-- Assumes nothing.
use mathlib.Core.Path.{◌≡◌, refl, sym, ap, ◌∙◌, subst}
use Prim.Native.Nat.{ℕ, ◌+◌, ◌-◌, ◌*◌, ◌%◌, ◌≤◌}
use native.Mathlib.Omega.{arith}
use mathlib.Core.Bool.{Bool, true, false, cond}
use mathlib.Core.List.{List}
use lib.Dec.{leb, eqb}
use lib.ListN.{length, take, drop}
use lib.Seq.{take_all, take_at, length-take-le}
use borrow.Author.Tests.{leb-true, leb-false, le-leb, eqb-true, eqb-false}
use Rattle.bits.specs.Strings.{same}
use Rattle.bits.specs.Bytes.{bits_of, bytes_for, pack}
use Rattle.bits.proofs.Bytes.{length-bits_of}
use Rattle.bits.proofs.Packing.{length-pack, bits_of-pack}
use Rattle.cyclic.specs.Check.{Parameters, check_bits, method5, method6}
use Rattle.cyclic.proofs.Methods.{width_5, width_6}
use Rattle.frame.specs.Stuffing.{Unstuffed, clean, missing, unstuff}
use Rattle.frame.specs.Frame.{width, limit_bits, flag, frame_of}
use Rattle.frame.specs.Read as reads
use Rattle.frame.specs.Write as writes
use Rattle.guarantees.specs.Lines.{is_one_of}
use Rattle.guarantees.specs.Frames.{checked_in, checked_bits, refusals, AcceptsByNumber, number_of}
use Rattle.guarantees.specs.WholeBytes.{write_of_bytes, ask_length_of_bytes, ask_zeros_of_bytes, framed_of_bytes, framing_of_bytes, read_bits_of_bytes, read_frame_of_bytes, Was34, TakenOrLater, KeepsReading, WholeBytes, ContentBits, AnyBits}
use Rattle.guarantees.proofs.Frames.Numbers.{answer, accepts_by_number, lent_by_number}
use Rattle.guarantees.proofs.Frames.Framing.{lengths, passed, accepted_found}
use Rattle.guarantees.proofs.Frames.Taken.{taken_passed}
use Rattle.guarantees.proofs.Frames.RoundTrip.{was_written}

-- two tests that hold together
leb-same : (a b c d : ℕ) → (a ≤ b → c ≤ d) → (c ≤ d → a ≤ b) → leb a b ≡ leb c d
leb-same a b c d to from = go (leb a b) refl (leb c d) refl
  where
    go : (s : Bool) → leb a b ≡ s → (t : Bool) → leb c d ≡ t → s ≡ t
    go true p true q = refl
    go false p false q = refl
    go true p false q = let k = to (leb-true a b p) in let n = leb-false c d q in absurd (omega arith)
    go false p true q = let k = from (leb-true c d q) in let n = leb-false a b p in absurd (omega arith)

-- ---- writing

same_writing : (m : Parameters) (content : List ℕ) (room : ℕ) → writes.write_frame m (8 * length content) content room ≡ write_of_bytes m content room
unfolding writes.write_frame writes.write_bits
same_writing m content room =
    let c = bits_of content in
    let n = length-bits_of content in
    let all : take (8 * length content) c ≡ c = take_all (8 * length content) c (omega (arith, n)) in
    ap (λ t. writes.ask t 66 0 (writes.write_bits m (take (8 * length content) c) room)) (le-leb (8 * length content) (8 * length content) (omega arith))
    ∙ ap (λ s. writes.write_bits m s room) all
    ∙ ap (λ t. writes.ask t 21 0 (writes.ask (leb (length c) (limit_bits m)) 22 0 (writes.ask_room (frame_of m c) room)))
    (leb-same 1 (length c) 1 (length content) (λ h. omega (arith, n)) (λ h. omega (arith, n)))
    ∙ ap (λ t. writes.ask (leb 1 (length content)) 21 0 (writes.ask t 22 0 (writes.ask_room (frame_of m c) room)))
    (leb-same (length c) (limit_bits m) (length content) m.limit (λ h. omega (arith, n)) (λ h. omega (arith, n)))

-- ---- no answer is 34

no_34 : (a : reads.ReadAnswer) → AcceptsByNumber a → number_of a ≡ 34 → ⊥
no_34 (reads.taken content) h e = omega (arith, e)
no_34 (reads.refusal n v) h e = let q : n ≡ 38 = h.1 (ap (is_one_of refusals) e) in omega (arith, e, q)

never_34 : (m : Parameters) (frame : List Bool) (room : ℕ) → number_of (reads.read_bits m frame room) ≡ 34 → ⊥
never_34 m frame room = no_34 (reads.read_bits m frame room) (accepts_by_number m frame room)

lent_never_34 : (m : Parameters) (told : ℕ) (lent : List ℕ) (room : ℕ) → number_of (reads.read_frame m told lent room) ≡ 34 → ⊥
lent_never_34 m told lent room = no_34 (reads.read_frame m told lent room) (lent_by_number m told lent room)

-- ---- reading

-- what was framed is framed, or it was 34 and its length is asked anew
data Moved (m : Parameters) (before now : reads.Framed) : Type 0 where
  kept : before ≡ now → Moved m before now
  part_of_byte : (s : List Bool) → (length s % 8 ≡ 0 → ⊥) → before ≡ reads.unframed 34 0 → now ≡ reads.ask_length m s → Moved m before now

-- a question ahead of them is the same
ask_moved : {m : Parameters} (holds : Bool) (n v : ℕ) {before now : reads.Framed} → Moved m before now
    → Moved m (reads.ask holds n v before) (reads.ask holds n v now)
ask_moved true n v h = h
ask_moved false n v h = kept refl

answer_later : (right fits : Bool) (content : List Bool) → TakenOrLater (answer right fits content)
answer_later true true content = tt
answer_later true false content = refl
answer_later false fits content = refl

module _ (m : Parameters) (eights : width m % 8 ≡ 0) where
  length_moved : (s : List Bool) → Moved m (ask_length_of_bytes m s) (reads.ask_length m s)
  length_moved s = go (eqb (length s % 8) 0) refl
    where
      go : (t : Bool) → eqb (length s % 8) 0 ≡ t
          → Moved m
          (reads.ask t 34 0 (reads.ask (leb (8 + width m) (length s)) 35 0 (reads.ask (leb (length s) (8 * m.limit + width m)) 36 0 (reads.found s))))
          (reads.ask_length m s)
      go true e =
          let whole = eqb-true (length s % 8) 0 e in
          kept
          (ap (λ t. reads.ask t 35 0 (reads.ask (leb (length s) (8 * m.limit + width m)) 36 0 (reads.found s)))
          (leb-same (8 + width m) (length s) (1 + width m) (length s) (λ h. omega arith) (λ h. omega arith)))
      go false e = part_of_byte s (eqb-false (length s % 8) 0 e) refl refl

  zeros_moved : (u : Unstuffed) → Moved m (ask_zeros_of_bytes m u) (reads.ask_zeros m u)
  zeros_moved (missing p) = kept refl
  zeros_moved (clean s) = length_moved s

  moved : (frame : List Bool) → Moved m (framed_of_bytes m frame) (reads.framed m frame)
  unfolding reads.framed
  moved frame =
      ask_moved (leb 16 (length frame)) 32 0
      (ask_moved (same (take 8 frame) flag) 32 0
      (ask_moved (same (drop (length frame - 8) frame) flag) 32 0
      (zeros_moved (unstuff 0 8 (reads.between frame)))))

  module _ (frame : List Bool) (room : ℕ) where
    abbrev check : reads.Framed → reads.ReadAnswer
    check = reads.ask_check m room

    same_answer : (Was34 (read_bits_of_bytes m frame room) → ⊥) → reads.read_bits m frame room ≡ read_bits_of_bytes m frame room
    unfolding reads.read_bits
    same_answer other = go (moved frame)
      where
        go : Moved m (framed_of_bytes m frame) (reads.framed m frame) → check (reads.framed m frame) ≡ check (framed_of_bytes m frame)
        go (kept e) = ap check (sym e)
        go (part_of_byte s part before now) = absurd (other (ap (λ w. number_of (check w)) before))

    same_framing : (Was34 (read_bits_of_bytes m frame room) → ⊥) → reads.framing_of m frame ≡ framing_of_bytes m frame
    unfolding reads.framing_of
    same_framing other = go (moved frame)
      where
        go : Moved m (framed_of_bytes m frame) (reads.framed m frame) → reads.framing_by frame (reads.framed m frame) ≡ framing_of_bytes m frame
        go (kept e) = ap (reads.framing_by frame) (sym e)
        go (part_of_byte s part before now) = absurd (other (ap (λ w. number_of (check w)) before))

    same_content : (content : List Bool) → reads.read_bits m frame room ≡ reads.taken content → length content % 8 ≡ 0
        → read_bits_of_bytes m frame room ≡ reads.taken content
    unfolding reads.read_bits
    same_content content e whole = sym (same_answer (λ was. go was (moved frame))) ∙ e
      where
        go : Was34 (read_bits_of_bytes m frame room) → Moved m (framed_of_bytes m frame) (reads.framed m frame) → ⊥
        go was (kept q) = never_34 m frame room (ap (λ w. number_of (check w)) (sym q) ∙ was)
        go was (part_of_byte s part before now) =
            let t = taken_passed m frame room e in
            let r = t.framing.checked in
            let l = lengths m r s (sym now ∙ t.framing.is_found) in
            let n = length-take-le (length r - width m) r (omega arith) in
            part (omega (arith, ap length l.0, l.1, n, ap length t.is_content))

    length_later : (s : List Bool) → TakenOrLater (check (reads.ask_length m s))
    length_later s = go (leb (1 + width m) (length s)) (leb (length s) (limit_bits m + width m))
      where
        go : (some within : Bool) → TakenOrLater (check (reads.ask some 35 0 (reads.ask within 36 0 (reads.found s))))
        go false within = refl
        go true false = refl
        go true true =
            let c = reads.content_of m s in
            answer_later (same (reads.check_in m s) (check_bits m c)) (leb (bytes_for (length c)) room) c

    was_34 : Was34 (read_bits_of_bytes m frame room) → TakenOrLater (reads.read_bits m frame room)
    unfolding reads.read_bits
    was_34 was = go (moved frame)
      where
        go : Moved m (framed_of_bytes m frame) (reads.framed m frame) → TakenOrLater (check (reads.framed m frame))
        go (kept e) = absurd (never_34 m frame room (ap (λ w. number_of (check w)) (sym e) ∙ was))
        go (part_of_byte s part before now) = subst TakenOrLater (ap check (sym now)) (length_later s)

  -- of the bytes lent, where 31 is asked first

  module _ (told : ℕ) (lent : List ℕ) (room : ℕ) where
    abbrev frame : List Bool
    frame = take told (bits_of lent)

    same_lent : (Was34 (read_frame_of_bytes m told lent room) → ⊥) → reads.read_frame m told lent room ≡ read_frame_of_bytes m told lent room
    unfolding reads.read_frame
    same_lent other = go (leb told (8 * length lent)) other
      where
        go : (t : Bool) → (Was34 (cond t (read_bits_of_bytes m frame room) (reads.refusal 31 0)) → ⊥)
            → cond t (reads.read_bits m frame room) (reads.refusal 31 0) ≡ cond t (read_bits_of_bytes m frame room) (reads.refusal 31 0)
        go true other = same_answer frame room other
        go false other = refl

    lent_was_34 : Was34 (read_frame_of_bytes m told lent room) → TakenOrLater (reads.read_frame m told lent room)
    unfolding reads.read_frame
    lent_was_34 was = go (leb told (8 * length lent)) was
      where
        go : (t : Bool) → Was34 (cond t (read_bits_of_bytes m frame room) (reads.refusal 31 0))
            → TakenOrLater (cond t (reads.read_bits m frame room) (reads.refusal 31 0))
        go true was = was_34 frame room was
        go false was = absurd (omega (arith, was))

  keeps_reading : KeepsReading m
  keeps_reading =
      record {
        same_answer = same_answer;
        same_lent = same_lent;
        same_framing = same_framing;
        same_content = λ frame content room. same_content frame room content;
        was_34 = was_34;
        lent_was_34 = lent_was_34;
      }

pub whole_bytes : WholeBytes
whole_bytes =
    record {
      same_writing = same_writing;
      keeps_reading_5 = keeps_reading method5 (let w = width_5.generator.width in omega arith);
      keeps_reading_6 = keeps_reading method6 (let w = width_6.generator.width in omega arith);
      never_34 = never_34;
      lent_never_34 = lent_never_34;
    }

-- ---- any number of bits

content_bits : (m : Parameters) (most checked : ℕ) → limit_bits m ≤ most → limit_bits m + width m ≤ checked → ContentBits m most checked
unfolding checked_bits
content_bits m most checked few short =
    record {
      written = λ claimed lent frame room e. let k = was_written m claimed lent frame room e in (k.some, omega (arith, k.within));
      taken =
          λ frame content room e.
          let t = taken_passed m frame room e in
          let s = t.framing.checked in
          let a = passed m s frame t.framing.is_found in
          let n = length-take-le (length s - width m) s (omega arith) in
          (omega (arith, a.content, n, ap length t.is_content), omega (arith, a.within, n, ap length t.is_content));
      accepted =
          λ frame acc.
          let r = accepted_found m frame acc in
          omega (arith, ap (λ w. length (checked_in w)) r.is_found, (passed m r.checked frame r.is_found).within);
    }

-- the limits of the methods
limit_5 : limit_bits method5 ≡ 32768
unfolding method5
limit_5 = refl

limit_6 : limit_bits method6 ≡ 524288
unfolding method6
limit_6 = refl

pub any_bits : AnyBits
unfolding writes.write_frame reads.read_output
any_bits =
    record {
      bits_5 = content_bits method5 _ _ (omega (arith, limit_5)) (omega (arith, limit_5, width_5.generator.width));
      bits_6 = content_bits method6 _ _ (omega (arith, limit_6)) (omega (arith, limit_6, width_6.generator.width));
      spare_ignored =
          λ m claimed x y room h k e.
          ap (λ t. writes.ask t 66 0 (writes.write_bits m (take claimed (bits_of x)) room)) (le-leb _ _ h ∙ sym (le-leb _ _ k))
          ∙ ap (λ c. writes.ask (leb claimed (8 * length y)) 66 0 (writes.write_bits m c room)) e;
      spare_zero =
          λ content out.
          let n = bytes_for (length content) in
          ap bits_of (take_at (pack content) (drop n out) n (length-pack content)) ∙ bits_of-pack content;
    }
