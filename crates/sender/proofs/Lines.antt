-- The line of a stored block: what `send` answers from the questions as they were answered, and that of an output a line asks its length
-- alone. Assumes nothing.
use Rattle.std.proofs.Common.{◌≡◌, ℕ, ◌≤◌, Bool, true, false, List, [], length, leb, ap, ◌∙◌, arith, le-leb}
use Rattle.bits.specs.Calls.{called}
use Rattle.block.specs.declared.Parity.TheVariants.{Even}
use Rattle.block.specs.declared.Shape.TheVariants.{ClearText}
use Rattle.block.specs.declared.EndSign.TheVariants.{Etx}
use Rattle.block.specs.Signs.{koi7}
use Rattle.block.specs.Write.{written, ask, write_block, counted_length, line_of, write_output}
use Rattle.block.specs.declared.Link.{Link}
use Rattle.block.specs.Answers.{Numbers, refused, of_write_answer, after_writing, write_call}
use Rattle.orders.specs.declared.CyclicMethod.{CyclicMethod}
use Rattle.orders.specs.declared.CyclicMethod.TheVariants.{Cyclic, CyclicAlternative}
use Rattle.orders.specs.Methods.{as_method, method_of, link_of}
use Rattle.sender.specs.declared.Station.{Station}
use Rattle.sender.specs.Ring.{bytes_at, submitted_after}
use Rattle.sender.specs.Sender.{clear, no, of_number}
use Rattle.sender.specs.Sending.{method_at, line_by, written_by, sending, send_call}

-- ---- 6 for the output, and no other question

few-counted : (bytes : List ℕ) → length bytes ≤ 4095 → counted_length koi7 ClearText [] bytes ≤ 4096
unfolding counted_length
few-counted bytes h = omega arith

pub line_asks_output : (m : CyclicMethod) (bytes : List ℕ) (room : ℕ) → length bytes ≤ 4095
    → line_by m bytes room
    ≡ ask (leb (length (line_of koi7 (as_method m) Even ClearText Etx [] bytes)) room) 6 (length (line_of koi7 (as_method m) Even ClearText Etx [] bytes))
    (written (line_of koi7 (as_method m) Even ClearText Etx [] bytes))
unfolding write_block
line_asks_output Cyclic bytes room h = rw (le-leb (counted_length koi7 ClearText [] bytes) 4096 (few-counted bytes h))
line_asks_output CyclicAlternative bytes room h = rw (le-leb (counted_length koi7 ClearText [] bytes) 4096 (few-counted bytes h))

-- so a refused line is refused with 6
pub refused-with-6 : (m : CyclicMethod) (bytes : List ℕ) (room : ℕ) {k value : ℕ} → length bytes ≤ 4095
    → refused k value ≡ of_write_answer (line_by m bytes room) → k ≡ 6
refused-with-6 m bytes room {k} {value} h e =
    go (leb (length line) room) (e ∙ ap of_write_answer (line_asks_output m bytes room h))
  where
    line : List ℕ
    line = line_of koi7 (as_method m) Even ClearText Etx [] bytes

    go : (t : Bool) → refused k value ≡ of_write_answer (ask t 6 (length line) (written line)) → k ≡ 6
    go true f = let z : ◌≡◌ {A = ℕ} 0 1 = cc in absurd (omega arith)
    go false f = cc

-- ---- what is answered

-- what the writer of blocks answers, of the link of a stored block and of its bytes
pub written_under : (w : ℕ) (s : Station) (store out : List ℕ) (d : ℕ) {byte : ℕ} {l : Link} {bytes : List ℕ} → bytes ≡ bytes_at w s store d
    → byte ≡ method_at s d → l ≡ link_of byte
    → write_call l.code l.method l.parity ClearText Etx [] bytes out ≡ after_writing (line_by (method_of (method_at s d)) (bytes_at w s store d) (length out)) out
written_under w s store out d {byte} {l} {bytes} e f g =
    ap (λ (x : Link). write_call x.code x.method x.parity ClearText Etx [] bytes out) (g ∙ ap link_of f)
    ∙ ap (λ bs. after_writing (line_by (method_of (method_at s d)) bs (length out)) out) e

module _ (n w : ℕ) (s : Station) (store : List ℕ) (number : ℕ) (out : List ℕ) where
  pub send_refused : {k value : ℕ} → no k value ≡ of_number n w s (length store) number
      → called (refused k value) out ≡ send_call n w s store number out
  unfolding sending write_output
  send_refused q =
      ap (λ v. after_writing (written_by v (line_by (method_of (method_at s (submitted_after n s number))) (bytes_at w s store (submitted_after n s number)) (length out))) out) q

  pub send_done : clear ≡ of_number n w s (length store) number → {d : ℕ} {answer : Numbers} {after : List ℕ} → d ≡ submitted_after n s number
      → called answer after ≡ after_writing (line_by (method_of (method_at s d)) (bytes_at w s store d) (length out)) out
      → called answer after ≡ send_call n w s store number out
  unfolding sending
  send_done q e f =
      f ∙ ap (λ d. after_writing (line_by (method_of (method_at s d)) (bytes_at w s store d) (length out)) out) e
      ∙ ap (λ v. after_writing (written_by v (line_by (method_of (method_at s (submitted_after n s number))) (bytes_at w s store (submitted_after n s number)) (length out))) out) q
