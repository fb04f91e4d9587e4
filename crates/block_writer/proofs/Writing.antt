-- Question 6, and the questions before it: the answer is the rule's. Assumes nothing.
use mathlib.Core.Path.{◌≡◌, sym, ap, ap₂, ◌∙◌}
use Prim.Native.Nat.{ℕ, ◌≤◌, ◌<◌}
use mathlib.Core.Bool.{Bool, true, false, cond}
use mathlib.Core.List.{List, []}
use lib.ListN.{length}
use borrow.Author.Tests.{le-leb, lt-leb}
use Rattle.bits.specs.Calls.{called}
use Rattle.block.specs.declared.Method.{Method}
use Rattle.block.specs.declared.Parity.{Parity}
use Rattle.block.specs.declared.Shape.{Shape}
use Rattle.block.specs.declared.EndSign.{EndSign}
use Rattle.block.specs.Signs.{CodeTable}
use Rattle.block.specs.Characters.{is_seven, carries}
use Rattle.block.specs.Write.{line_of, WriteAnswer, written, refusal, write_block, write_output}
use Rattle.block.specs.declared.WriteRefusal.{WriteRefusal}
use Rattle.block.specs.Answers.{Numbers, line, refused, write_number, write_value, after_writing}
use Rattle.block.specs.Limits.{counted_limit}
use Rattle.block_store.specs.Store.{Stored}
use Rattle.block_store.proofs.Stores.{stored_front}
use Rattle.std.specs.Prelude.{Result, Ok, Err}
use Rattle.block_parts.specs.Parts.{ask_parts, after_asked}
use Rattle.block_parts.proofs.Asking.{parts-passed}
use Rattle.block_writer.specs.Writing.{ask_room}

-- ---- question 6

module _ (bytes out : List ℕ) {needed : ℕ} (n : needed ≡ length bytes) where
  pub room_short : length out < needed → called (refused 6 needed) out ≡ after_writing (ask_room bytes (length out)) out
  unfolding write_output
  room_short h =
      ap (λ k. called (refused 6 k) out) n
      ∙ ap (λ t. after_writing (cond t (written bytes) (refusal 6 (length bytes))) out) (sym (lt-leb (length bytes) (length out) (rw (← n) h)))

  pub room_enough : {after : List ℕ} {next : ℕ} → needed ≤ length out → Stored out 0 bytes after next
      → called (line needed) after ≡ after_writing (ask_room bytes (length out)) out
  unfolding write_output
  room_enough h s =
      let fits : length bytes ≤ length out = rw n at h in
      ap₂ called (ap line n) (stored_front s fits)
      ∙ ap (λ t. after_writing (cond t (written bytes) (refusal 6 (length bytes))) out) (sym (le-leb (length bytes) (length out) fits))

-- ---- the questions on the link and on the parts come first

module _ (t : CodeTable) (m : Method) (p : Parity) (s : Shape) (e : EndSign) (head body out : List ℕ) {yes : Bool} (carried : yes ≡ carries t m) where
  pub code_refused : yes ≡ false → called (refused 58 0) out ≡ after_writing (write_block t m p s e head body (length out)) out
  unfolding write_block write_output
  code_refused h = rw (sym carried ∙ h)

  module _ (h : yes ≡ true) (r : Result Unit WriteRefusal) {seven : Bool} (v : seven ≡ is_seven m)
      (asked : (next : WriteAnswer) → after_asked r next ≡ ask_parts t seven s head body next) where
    first : (next : WriteAnswer) → after_asked r next ≡ ask_parts t (is_seven m) s head body next
    first next = asked next ∙ ap (λ x. ask_parts t x s head body next) v

    parts_first : after_asked r (ask_room (line_of t m p s e head body) (length out)) ≡ write_block t m p s e head body (length out)
    unfolding write_block ask_parts
    parts_first = rw (sym carried ∙ h) (first (ask_room (line_of t m p s e head body) (length out)))

    pub parts_refused : {w : WriteRefusal} → r ≡ Err w → called (refused (write_number w) (write_value w)) out ≡ after_writing (write_block t m p s e head body (length out)) out
    unfolding write_output
    parts_refused {w} q =
        ap (λ a. after_writing a out) (ap (λ (x : Result Unit WriteRefusal). after_asked x (ask_room (line_of t m p s e head body) (length out))) (sym q) ∙ parts_first)

    pub parts_allowed : r ≡ Ok tt → (length head ≤ counted_limit) × (length body ≤ counted_limit)
    parts_allowed q = parts-passed t (is_seven m) s head body (ap (λ (x : Result Unit WriteRefusal). after_asked x (written [])) (sym q) ∙ first (written []))

    pub parts_written_lem : {answer : Numbers} {after : List ℕ} → r ≡ Ok tt
        → called answer after ≡ after_writing (ask_room (line_of t m p s e head body) (length out)) out
        → called answer after ≡ after_writing (write_block t m p s e head body (length out)) out
    parts_written_lem q c =
        c ∙ ap (λ a. after_writing a out) (ap (λ (x : Result Unit WriteRefusal). after_asked x (ask_room (line_of t m p s e head body) (length out))) (sym q) ∙ parts_first)
