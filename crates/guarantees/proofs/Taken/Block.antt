-- Writing the parts that were read gives the line without its fill signs: the parts pass the writer's questions 1 to 6 in turn, and
-- its line is what is left of the line read. Assumes nothing.
use mathlib.Core.Path.{◌≡◌, sym, ap, subst, ◌∙◌}
use Prim.Native.Nat.{ℕ, zero, suc, ◌≤◌}
use native.Mathlib.Omega.{arith}
use mathlib.Core.Bool.{false}
use mathlib.Core.List.{List, [], ◌∷◌}
use lib.ListN.{length, drop}
use Rattle.bits.specs.Bytes.{Bytes, pack}
use Rattle.bits.proofs.Packing.{pack-bits_of}
use Rattle.block.specs.declared.Method.{Method}
use Rattle.block.specs.declared.Parity.{Parity}
use Rattle.block.specs.declared.EndSign.{EndSign}
use Rattle.block.specs.declared.Mark.{Mark}
use Rattle.block.specs.declared.Field.{Field}
use Rattle.block.specs.declared.Field.TheVariants.{Start}
use Rattle.block.specs.Signs.{CodeTable}
use Rattle.block.specs.Characters.{is_seven}
use Rattle.block.specs.Marks.{counted, check_bytes, header, text, has_inner, shape_of}
use Rattle.block.specs.Check.{check_of}
use Rattle.block.specs.Read.{Parts}
use Rattle.block.specs.Write.{written, counted_bytes, counted_length, framed_bytes, line_of, write_block}
use Rattle.block.specs.Limits.{counted_limit}
use Rattle.guarantees.specs.Fill.{unfilled, without_fill}
use Rattle.block.proofs.Passed.{Passed, passed}
use Rattle.guarantees.specs.Second.{ReadWritesBack}
use Rattle.guarantees.proofs.Blocks.Framing.{CheckRight}
use Rattle.guarantees.proofs.Writing.{passes}
use Rattle.guarantees.proofs.Written.Lengths.{length-counted}
use Rattle.guarantees.proofs.Taken.Characters.{resent}
use Rattle.guarantees.proofs.Taken.UnfilledBlock.{BlockLeft}
use Rattle.guarantees.proofs.Taken.UnfilledLine.{block_left}
use Rattle.guarantees.proofs.Taken.Questions.{taken_passed}

bytes_drop : (n : ℕ) (bs : List ℕ) → Bytes bs → Bytes (drop n bs)
bytes_drop zero bs h = h
bytes_drop (suc n) [] h = tt
bytes_drop (suc n) (b ∷ bs) h = bytes_drop n bs h.1

-- ---- the line

module _ (table : CodeTable) (m : Method) (p : Parity) (line : List ℕ) (ks : List Mark) (f : Field) (e : EndSign) (bytes : Bytes line) (w : Passed table m p line ks f e)
    (right : CheckRight m p ks line) (b : BlockLeft table (is_seven m) p false f e ks line (unfilled table (is_seven m) line Start)) where
  counted_again : counted ks line ≡ counted_bytes table m p b.kind e b.head b.body
  unfolding counted_bytes
  counted_again = b.is_left.sent-count

  check_again : pack (check_of m p (counted_bytes table m p b.kind e b.head b.body)) ≡ check_bytes ks line
  check_again =
      ap (λ bs. pack (check_of m p bs)) (sym counted_again) ∙ ap pack (sym right) ∙ pack-bits_of (check_bytes ks line) (bytes_drop (length ks) line bytes)

  line_again : line_of table m p b.kind e b.head b.body ≡ without_fill table m line
  unfolding line_of framed_bytes without_fill
  line_again = rw check_again (sym b.is_left.sent_whole)

  written_again : (space : ℕ) → length (without_fill table m line) ≤ space
      → write_block table m p (shape_of (has_inner ks) f) e (header (is_seven m) ks line) (text (is_seven m) ks line) space ≡ written (without_fill table m line)
  written_again space fits =
      let few : counted_length table b.kind b.head b.body ≤ counted_limit =
      omega (arith, w.few, ap length counted_again, length-counted table m p b.kind e b.head b.body) in
      let l : length (line_of table m p b.kind e b.head b.body) ≤ space = rw line_again fits in
      rw (b.is_left.is_inner_lem, b.is_shape, b.is_left.is_header_lem, b.is_left.is_text_lem)
      (passes table m p b.kind e b.head b.body space w.carried b.allowed few l ∙ ap written line_again)

pub read_writes_back : ReadWritesBack
read_writes_back table m p line b room space bytes h fits =
    let t = taken_passed table m p line room h in
    let r = t.framing in
    let w = passed table m p line r.marks r.field r.end r.is_found in
    let again = resent (is_seven m) p line bytes w.parities in
    let left = block_left table (is_seven m) p false line again 0 (ap (λ w. w.stop) w.walked) in
    ap (λ (b : Parts). write_block table m p b.shape b.end b.header b.text space) (sym t.parts)
    ∙ written_again table m p line r.marks r.field r.end bytes w t.check-right
    (subst (λ ks. BlockLeft table (is_seven m) p false r.field r.end ks line (unfilled table (is_seven m) line Start)) (ap (λ w. w.marks) w.walked) left) space fits
