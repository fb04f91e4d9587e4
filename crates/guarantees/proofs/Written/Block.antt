-- Reading a written line gives back its parts: the questions up to 19 in turn. Assumes nothing.
use mathlib.Core.Path.{◌≡◌, sym, ap, ap₂, ◌∙◌}
use Prim.Native.Nat.{ℕ, ◌+◌, ◌≤◌}
use native.Mathlib.Omega.{arith}
use mathlib.Core.Bool.{Bool, true, cond}
use mathlib.Core.List.{List, ◌++◌, map}
use lib.ListN.{length, length-append}
use borrow.Author.Tests.{le-leb}
use Rattle.bits.specs.Bytes.{bits_of, pack}
use Rattle.block.specs.declared.Method.{Method}
use Rattle.block.specs.declared.Parity.{Parity}
use Rattle.block.specs.declared.Shape.{Shape}
use Rattle.block.specs.declared.EndSign.{EndSign}
use Rattle.block.specs.declared.Mark.{Mark}
use Rattle.block.specs.declared.Field.{Field}
use Rattle.block.specs.declared.Field.TheVariants.{Start}
use Rattle.block.specs.Signs.{CodeTable}
use Rattle.block.specs.Characters.{is_seven, carries, character, sent}
use Rattle.block.specs.Walk.{walk, ended}
use Rattle.block.specs.Marks.{is_header, is_text, is_counted, sift, counted, check_bytes}
use Rattle.block.specs.Check.{check_of, check_length}
use Rattle.block.specs.Read.{Framed, found, framed, ask_parities, ask_end, Parts, parts_of, output_length, taken, ask_room, ask_check, read_block}
use Rattle.block.specs.Write.{counted_bytes, counted_length, line_of}
use Rattle.block.specs.Limits.{counted_limit, line_limit}
use Rattle.block.proofs.Asked.{ask_equal}
use Rattle.block.proofs.CheckLaws.{check_short, length-check_of}
use Rattle.guarantees.specs.Second.{parts_written, WrittenReadsBack}
use Rattle.guarantees.proofs.Writing.{Allowed, passed}
use Rattle.guarantees.proofs.Written.Walk.{Marked, marks_of, characters_of, walk_is}
use Rattle.guarantees.proofs.Written.Line.{marked_line, framed_bytes_lem, end_field, line_walks}
use Rattle.guarantees.proofs.Written.Parts.{pick, header_picked, text_picked, counted_picked, shape_back, sift-sent, length-sent, check_bytes_lem, characters_back}
use Rattle.guarantees.proofs.Written.Parities.{written_parities}
use Rattle.guarantees.proofs.Written.Lengths.{check-back, marks_short, length-counted}

-- ---- a line that passes the questions up to 18, and 54

record PassesReading (table : CodeTable) (m : Method) (p : Parity) (line : List ℕ) (ks : List Mark) (f : Field) (e : EndSign) : Type 0 where
  carried : carries table m ≡ true
  short : length line ≤ line_limit
  parities : (next : Framed) → cond (is_seven m) (ask_parities p line 0 next) next ≡ next
  walked : walk table (is_seven m) line 0 Start ≡ record { marks = ks; stop = ended f e }
  check_follows : length line ≡ length ks + check_length m
  count : length (counted ks line) ≤ counted_limit
  check-right : bits_of (check_bytes ks line) ≡ check_of m p (counted ks line)

module _ (table : CodeTable) {m : Method} {p : Parity} {line : List ℕ} {ks : List Mark} {f : Field} {e : EndSign} (h : PassesReading table m p line ks f e) where
  abbrev needed : ℕ
  needed = length ks + check_length m

  framed_found : framed table m p line ≡ found ks f e
  unfolding framed
  framed_found =
      rw (h.carried, le-leb (length line) line_limit h.short, h.walked)
      (h.parities (ask_end m line ks (ended f e)) ∙ rw (le-leb needed (length line) (omega (arith, h.check_follows)), le-leb (length line) needed (omega (arith, h.check_follows)), le-leb _ _ h.count))

  line_taken : (b : Parts) (space : ℕ) → parts_of m line ks f e ≡ b → output_length b ≤ space → read_block table m p line space ≡ taken b
  unfolding read_block
  line_taken b space q fits =
      let l : output_length (parts_of m line ks f e) ≤ space = omega (arith, ap output_length q) in
      ap (ask_check m p line space) framed_found ∙ ask_equal m _ _ (ask_room (parts_of m line ks f e) space) h.check-right ∙ rw (le-leb _ _ l) (ap taken q)

-- ---- the written line passes them

module _ (table : CodeTable) (m : Method) (p : Parity) (s : Shape) (e : EndSign) (head body : List ℕ) (k : carries table m ≡ true) (c : Allowed table (is_seven m) s head body)
    (few : counted_length table s head body ≤ counted_limit) where
  abbrev xs : List Marked
  xs = marked_line table s e head body

  abbrev counted_written : List ℕ
  counted_written = counted_bytes table m p s e head body

  abbrev send : ℕ → ℕ
  send = sent (is_seven m) p

  abbrev check : List ℕ
  check = pack (check_of m p counted_written)

  abbrev line : List ℕ
  line = map send (characters_of xs) ++ check

  line_is : line_of table m p s e head body ≡ line
  unfolding line_of
  line_is = ap (λ z. z ++ check) (framed_bytes_lem table m p s e head body)

  counted_is : counted (marks_of xs) line ≡ counted_written
  unfolding counted_bytes
  counted_is = sift-sent send check is_counted xs ∙ ap (map send) (counted_picked table s e head body)

  count_is : length (counted (marks_of xs) line) ≡ counted_length table s head body
  count_is = ap length counted_is ∙ length-counted table m p s e head body

  length-line : length line ≡ length (marks_of xs) + check_length m
  length-line = length-append (map send (characters_of xs)) check ∙ ap₂ ◌+◌ (length-sent send xs) (length-check_of m p counted_written)

  reads : PassesReading table m p line (marks_of xs) (end_field s) e
  reads =
      record {
        carried = k;
        short = omega (arith, length-line, marks_short table s e head body few, check_short m);
        parities = written_parities p m (characters_of xs) counted_written;
        walked = walk_is table (line_walks table (is_seven m) p s e head body c) check 0;
        check_follows = length-line;
        count = omega (arith, count_is, few);
        check-right = ap bits_of (check_bytes_lem send check xs) ∙ check-back m p counted_written ∙ ap (check_of m p) (sym counted_is);
      }

  -- header and text, by the test of their mark
  part_back : (is : Mark → Bool) → map (character (is_seven m)) (sift is (marks_of xs) line) ≡ pick is xs
  part_back is = ap (map (character (is_seven m))) (sift-sent send check is xs) ∙ characters_back table is (line_walks table (is_seven m) p s e head body c)

  parts_are : parts_of m line (marks_of xs) (end_field s) e ≡ parts_written table s e head body
  parts_are =
      let a = shape_back table s e head body in
      let h = part_back is_header ∙ header_picked table s e head body in
      let t = part_back is_text ∙ text_picked table s e head body in
      let n = count_is in
      cc

pub written_reads_back : WrittenReadsBack
written_reads_back table m p s e head body line room space w h =
    let q = passed table m p s e head body line room w in
    let k = q.code_carried in
    let a = q.allowed in
    let n = q.count in
    ap (λ z. read_block table m p z space) (q.line_is ∙ line_is table m p s e head body k a n)
    ∙ line_taken table (reads table m p s e head body k a n) (parts_written table s e head body) space (parts_are table m p s e head body k a n) h
