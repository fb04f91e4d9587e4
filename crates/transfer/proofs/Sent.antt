-- A line that was sent is the one that the named block's own method writes. Assumes nothing.
use Rattle.std.proofs.Common.{◌≡◌, ℕ, ◌^◌, ◌<◌, List, ◌++◌, length, take, drop, refl, sym, ap, ◌∙◌, arith}
use lib.Seq.{take-append_seam}
use Rattle.bits.specs.Calls.{Call, called}
use Rattle.block.specs.Write.{WriteAnswer, written, refusal, write_output}
use Rattle.block.specs.Answers as block
use Rattle.block.specs.Answers.{Numbers, after_writing}
use Rattle.orders.specs.Methods.{method_of}
use Rattle.sender.specs.declared.Station.{Station}
use Rattle.sender.specs.Ring.{bytes_at, submitted_after}
use Rattle.sender.specs.Sender.{Verdict, clear, no, of_number}
use Rattle.sender.specs.Sending.{method_at, line_by, written_by, sending}
use Rattle.sender.specs.Answers.{sent_of}
use Rattle.sender.specs.History.{History}
use Rattle.sender.proofs.Passed.{Ready, number_passed}
use Rattle.transfer.specs.Transfer.{Sent}

-- what was written, from the answer and the output
wrote : (a : WriteAnswer) (len : ℕ) (output after line : List ℕ) → called (block.line len) after ≡ after_writing a output → line ≡ take len after → a ≡ written line
unfolding write_output
wrote (written l) len output after line e f =
    let same : block.line len ≡ block.line (length l) = ap (λ (c : Call Numbers). c.answer) e in
    let size : len ≡ length l = cc in
    let behind : after ≡ l ++ drop (length l) output = ap (λ (c : Call Numbers). c.output) e in
    ap written (sym (f ∙ ap (λ k. take k after) size ∙ ap (take (length l)) behind ∙ take-append_seam l (drop (length l) output)))
wrote (refusal k value) len output after line e f =
    let same : block.line len ≡ block.refused k value = ap (λ (c : Call Numbers). c.answer) e in
    let z : ◌≡◌ {A = ℕ} 0 1 = cc in absurd (omega arith)

pub sent_line : {n w : ℕ} {h : History} {number len : ℕ} {line : List ℕ} (x : Sent n w h number len line)
    → sending n w h.station h.store number (length x.output) ≡ written line
sent_line {n} {w} {h} {number} {len} {line} x =
    wrote (sending n w h.station h.store number (length x.output)) len x.output x.after line
    (ap (λ a. called (sent_of a) x.after) (sym x.written) ∙ x.meets) x.line_is

-- so the number is that of a stored block
module _ (n w : ℕ) (s : Station) (store : List ℕ) (number room : ℕ) where
  abbrev d : ℕ
  d = submitted_after n s number

  pub record Written (line : List ℕ) : Type 0 where
    pub ready : Ready n w s (length store)
    pub below : number < 2 ^ n
    pub within : d < s.stored
    pub line_is : line_by (method_of (method_at s d)) (bytes_at w s store d) room ≡ written line

  pub line_written : (line : List ℕ) → sending n w s store number room ≡ written line → Written line
  unfolding sending
  line_written line = go (of_number n w s (length store) number) refl
    where
      by : WriteAnswer
      by = line_by (method_of (method_at s d)) (bytes_at w s store d) room

      go : (v : Verdict) → of_number n w s (length store) number ≡ v → written_by v by ≡ written line → Written line
      go clear e f =
          let c = number_passed n w s (length store) number e in
          record { ready = c.0; below = c.1; within = c.2; line_is = f }
      go (no k value) e f = let z : ◌≡◌ {A = ℕ} 0 1 = cc in absurd (omega arith)
