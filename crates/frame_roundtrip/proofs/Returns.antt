-- A written frame comes back: by the second property its content is read where the output holds it, and the questions before the
-- output's do not depend on its length. Assumes nothing.
use mathlib.Core.Path.{◌≡◌, refl, sym, ap, ap₂, ◌∙◌}
use Prim.Native.Nat.{ℕ, ◌*◌, ◌≤◌}
use native.Mathlib.Omega.{arith}
use mathlib.Core.Bool.{Bool, true, false, cond}
use mathlib.Core.List.{List, ◌++◌}
use lib.Dec.{leb}
use Rattle.std.specs.Prelude.{Result, Ok, Err}
use lib.ListN.{length, take, drop, length-append, length-take}
use lib.Seq.{take-append-le}
use Rattle.bits.specs.Strings.{same}
use Rattle.bits.specs.Bytes.{bits_of, bytes_for, pack}
use Rattle.bits.specs.Calls.{called}
use Rattle.bits.proofs.Bytes.{length-bits_of, bits_of-append}
use Rattle.bits.proofs.Packing.{length-pack, take-bits_of-pack}
use Rattle.cyclic.specs.Check.{Parameters, check_bits}
use Rattle.frame.specs.declared.FrameMethod.{FrameMethod}
use Rattle.frame.specs.declared.FrameMethod.TheVariants.{Cyclic16, Cyclic32}
use Rattle.frame.specs.declared.WriteRefusal.{WriteRefusal}
use Rattle.frame.specs.declared.ReadRefusal.{ReadRefusal}
use Rattle.frame.specs.Frame.{parameters_of}
use Rattle.frame.specs.Read.{Framed, found, unframed, framed, check_in, content_of, ReadAnswer, taken, refusal, ask_check, read_bits, read_frame, read_output}
use Rattle.frame.specs.Write as writing
use Rattle.frame.specs.Answers.{of_read, of_read_answer, after_reading, read_call, of_written, of_write_answer, write_call}
use Rattle.guarantees.specs.Second.{FrameReadsBack}
use Rattle.guarantees.proofs.Second.{second_property}
use Rattle.guarantees.proofs.Frames.RoundTrip.{was_written}
use Rattle.roundtrip.specs.declared.RoundTripError.{RoundTripError}
use Rattle.roundtrip.specs.declared.RoundTripError.TheVariants.{NotRead}
use Rattle.roundtrip.specs.Returns.{Returned, returned}
use Rattle.frame_roundtrip.specs.Returns.{frame_back, frame_answer, frame_output, frame_returns, ContentOf, of_frame_return}
use Rattle.roundtrip.proofs.Comparing.{joined}
use Rattle.roundtrip.proofs.Comparing as comparing

-- ---- what the output's length changes

not_taken : (n v : ℕ) (s : List Bool) → refusal n v ≡ taken s → ⊥
not_taken n v s e = let z : ◌≡◌ {A = ℕ} 0 1 = cc in omega arith

same_content : (a b : List Bool) → taken a ≡ taken b → a ≡ b
same_content a b e = cc

abbrev content_bytes : List Bool → ℕ
content_bytes s = bytes_for (length s)

-- 38, of the content s
abbrev by_room : List Bool → ℕ → ReadAnswer
by_room = comparing.by_room taken refusal content_bytes 38 same_content not_taken

other_room : (m : Parameters) (told : ℕ) (lent : List ℕ) (room space : ℕ) (s : List Bool) → read_frame m told lent room ≡ taken s
    → read_frame m told lent space ≡ by_room s space
unfolding read_frame read_bits
other_room m told lent room space s e = of_lent (leb told (8 * length lent)) e
  where
    of-framed : (f : Framed) → ask_check m room f ≡ taken s → ask_check m space f ≡ by_room s space
    of-framed (unframed n v) q = absurd (not_taken n v s q)
    of-framed (found d) q =
        let a = content_of m d in
        let last = comparing.of_room taken refusal content_bytes 38 same_content not_taken (leb (content_bytes a) room) a s space in
        comparing.behind taken refusal content_bytes 38 same_content not_taken (same (check_in m d) (check_bits m a)) 37 0 s space last q

    of_lent : (enough : Bool) → cond enough (ask_check m room (framed m (take told (bits_of lent)))) (refusal 31 0) ≡ taken s
        → cond enough (ask_check m space (framed m (take told (bits_of lent)))) (refusal 31 0) ≡ by_room s space
    of_lent true q = of-framed (framed m (take told (bits_of lent))) q
    of_lent false q = absurd (not_taken 31 0 s q)

reads_back : (m : FrameMethod) → FrameReadsBack (parameters_of m)
reads_back Cyclic16 = second_property.frame_reads_back_5
reads_back Cyclic32 = second_property.frame_reads_back_6

-- ---- the calls

module _ (m : FrameMethod) (claimed : ℕ) (lent frame out : List ℕ) where
  abbrev rule : writing.WriteAnswer
  rule = writing.write_frame (parameters_of m) claimed lent (length frame)

  abbrev back : ReadAnswer
  back = frame_back claimed lent (length out)

  abbrev content : List Bool
  content = take claimed (bits_of lent)

  -- what write_frame ensures
  abbrev Writes : Result ℕ WriteRefusal → List ℕ → Type 0
  Writes w frame₁ = called (of_written w) frame₁ ≡ write_call m claimed lent frame

  -- what the function ensures
  abbrev Returns : Result Bool (RoundTripError WriteRefusal ReadRefusal) → List ℕ → List ℕ → Type 0
  Returns r frame₁ out₁ = returned (of_frame_return r) frame₁ out₁ ≡ frame_returns (parameters_of m) claimed lent frame out

  -- the first bits are the frame
  pub record WrittenFrame (n : ℕ) (frame₁ : List ℕ) : Type 0 where
    pub bits : List Bool
    pub by_rule : rule ≡ writing.written bits
    pub size : n ≡ length bits
    pub bytes : frame₁ ≡ pack bits ++ drop (bytes_for (length bits)) frame

  pub written_frame : (w : Result ℕ WriteRefusal) {frame₁ : List ℕ} → Writes w frame₁ → {n : ℕ} → w ≡ Ok n → WrittenFrame n frame₁
  unfolding writing.write_output
  written_frame w {frame₁ = frame₁} h {n} q = go rule refl (sym (ap of_written q) ∙ ap (λ c. c.answer) h) (ap (λ c. c.output) h)
    where
      go : (a : writing.WriteAnswer) → rule ≡ a → of_written (Ok n) ≡ of_write_answer a → frame₁ ≡ writing.write_output a frame → WrittenFrame n frame₁
      go (writing.refusal k v) r g o = let z : ◌≡◌ {A = ℕ} 0 1 = cc in absurd (omega arith)
      go (writing.written l) r g o = record { bits = l; by_rule = r; size = cc; bytes = o }

  -- what read_frame ensures of n bits of these bytes
  abbrev Reads : ℕ → List ℕ → Result ℕ ReadRefusal → List ℕ → Type 0
  Reads n l r out₁ = called (of_read r) out₁ ≡ read_call m n l out

  pub record TakenBack (read : ℕ) (out₁ : List ℕ) : Type 0 where
    pub fits : leb (bytes_for claimed) (length out) ≡ true
    pub enough : claimed ≤ 8 * length lent
    pub room : bytes_for claimed ≤ length out₁
    pub equal : ContentOf claimed lent read out₁

  module _ {n : ℕ} {frame₁ : List ℕ} (w : WrittenFrame n frame₁) (r : Result ℕ ReadRefusal) {out₁ : List ℕ} (h : Reads n frame₁ r out₁) where
    abbrev answered : Bool → ReadAnswer
    answered fits = cond fits (taken content) (refusal 38 (bytes_for claimed))

    length-content : length content ≡ claimed
    length-content = (was_written (parameters_of m) claimed lent w.bits (length frame) w.by_rule).length-content

    read_back : read_frame (parameters_of m) n frame₁ (length out) ≡ back
    read_back =
        ap (λ k. read_frame (parameters_of m) k frame₁ (length out)) w.size
        ∙ ap (λ l. read_frame (parameters_of m) (length w.bits) l (length out)) w.bytes
        ∙ other_room (parameters_of m) (length w.bits) (pack w.bits ++ drop (bytes_for (length w.bits)) frame) (bytes_for claimed) (length out) content
        (reads_back m claimed lent w.bits (length frame) (bytes_for claimed) (drop (bytes_for (length w.bits)) frame) w.by_rule (omega arith))
        ∙ ap (λ k. cond (leb (bytes_for k) (length out)) (taken content) (refusal 38 (bytes_for k))) length-content

    back_is : called (of_read r) out₁ ≡ after_reading back out
    back_is = h ∙ ap (λ z. after_reading z out) read_back

    -- where the frame was written, of the answer that reading it back gives
    of_written_lem : {answer : Returned} → answer ≡ frame_answer (writing.written w.bits) back → frame₁ ≡ writing.write_output rule frame
        → returned answer frame₁ out₁ ≡ frame_returns (parameters_of m) claimed lent frame out
    of_written_lem a l =
        joined (a ∙ ap (λ z. frame_answer z back) (sym w.by_rule)) l
        (ap (λ c. c.output) back_is ∙ ap (λ z. frame_output z back out) (sym w.by_rule))

    pub taken_back : {read : ℕ} → r ≡ Ok read → TakenBack read out₁
    unfolding read_output
    taken_back {read} q = go (leb (bytes_for claimed) (length out)) refl (sym (ap of_read q) ∙ ap (λ c. c.answer) back_is) (ap (λ c. c.output) back_is)
      where
        go : (fits : Bool) → leb (bytes_for claimed) (length out) ≡ fits → of_read (Ok read) ≡ of_read_answer (answered fits)
            → out₁ ≡ read_output (answered fits) out → TakenBack read out₁
        go false t g o = let z : ◌≡◌ {A = ℕ} 0 1 = cc in absurd (omega arith)
        go true t g o =
            let rest = drop (bytes_for (length content)) out in
            let size : read ≡ length content = cc in
            let n : length (pack content) ≡ bytes_for claimed = length-pack content ∙ ap bytes_for length-content in
            let starts : take claimed (bits_of out₁) ≡ content =
            ap₂ (λ k l. take k (bits_of l)) (sym length-content) o ∙ ap (take (length content)) (bits_of-append (pack content) rest)
            ∙ take-append-le (length content) (bits_of (pack content)) (bits_of rest) (omega (arith, length-bits_of (pack content), length-pack content))
            ∙ take-bits_of-pack content in
            record {
              fits = t;
              enough = omega (arith, length-content, length-take claimed (bits_of lent), length-bits_of lent);
              room = omega (arith, ap length o, length-append (pack content) rest, n);
              equal = record { as_many = size ∙ length-content; bits_read = starts };
            }

    pub taken_returns : {read : ℕ} → r ≡ Ok read → {equal : Bool} → (ContentOf claimed lent read out₁ → equal ≡ true) → frame₁ ≡ writing.write_output rule frame → Returns (Ok equal) frame₁ out₁
    taken_returns q decided l =
        let t = taken_back q in
        of_written_lem
        (ap (λ z. of_frame_return (Ok z)) (decided t.equal) ∙ ap (λ z. frame_answer (writing.written w.bits) (answered z)) (sym t.fits))
        l

    pub refused_returns : {x : ReadRefusal} → r ≡ Err x → frame₁ ≡ writing.write_output rule frame → Returns (Err (NotRead x)) frame₁ out₁
    refused_returns {x} q l = of_written_lem (go (leb (bytes_for claimed) (length out)) (sym (ap of_read q) ∙ ap (λ c. c.answer) back_is)) l
      where
        go : (fits : Bool) → of_read (Err x) ≡ of_read_answer (answered fits)
            → of_frame_return (Err (NotRead x)) ≡ frame_answer (writing.written w.bits) (answered fits)
        go true g = let z : ◌≡◌ {A = ℕ} 0 1 = cc in absurd (omega arith)
        go false g = cc
