-- Reading as a whole: a framing that was found, then 18, 54 and 19, and the output. Assumes nothing.
use mathlib.Core.Path.{◌≡◌, refl, sym, ap, ap₂, subst, ◌∙◌}
use Prim.Native.Nat.{ℕ, ◌+◌, ◌≤◌, ◌<◌}
use native.Mathlib.Nat.{zero-add}
use native.Mathlib.Omega.{arith}
use mathlib.Core.Bool.{Bool, true, false, cond}
use mathlib.Core.List.{List, [], ◌∷◌, ◌++◌, map}
use lib.Dec.{leb}
use lib.ListN.{length, drop, length-append, length-map}
use lib.Seq.{sets, sets-eq}
use borrow.Author.Tests.{le-leb, lt-leb}
use Rattle.bits.specs.Bytes.{bits_of}
use Rattle.bits.specs.Differences.{cons_if}
use Rattle.block.specs.declared.Method.{Method}
use Rattle.block.specs.declared.Parity.{Parity}
use Rattle.block.specs.declared.EndSign.{EndSign}
use Rattle.block.specs.declared.Mark.{Mark}
use Rattle.block.specs.declared.Field.{Field}
use Rattle.block.specs.declared.ReadRefusal.{ReadRefusal}
use Rattle.block.specs.Signs.{CodeTable}
use Rattle.block.specs.Characters.{is_seven, character}
use Rattle.block.specs.Marks.{is_header, is_text, sift, has_inner, shape_of}
use Rattle.block.specs.Check.{check_of}
use Rattle.block.specs.Read.{Framed, found, unframed, ask_same, ask_room, ask_check, Parts, ReadAnswer, taken, parts_of, output_length, read_block, read_output}
use Rattle.block.specs.Read as rule
use Rattle.bits.specs.Calls.{called}
use Rattle.block.specs.Answers.{Numbers, block, refused, shape_number, end_number, read_number, read_value, of_read_answer, after_reading}
use Rattle.block.specs.Limits.{line_limit}
use Rattle.block.proofs.Lists.{map-append}
use Rattle.block.proofs.Passed.{Passed, passed}
use Rattle.block_framing.specs.declared.Segments.{Segments}
use Rattle.std.specs.Prelude.{Result, Ok, Err}
use Rattle.block_framing.specs.Framings.{no_tally, tallied, start_of, framing_at, WalkAnswer, framed, refusal, of_walk, framed_answer, header_in, text_in, counted_in, Ordered, Segmented}
use Rattle.block_framing.proofs.FramingLaws.{segmented, Tallied, tally_counts, framing_shape}
use Rattle.block_framing.proofs.Reading.{Carries, framing_carries}
use Rattle.block_check.specs.Asked.{after_asked}
use Rattle.block_reader.specs.Counts.{CountsKept, held_by}

length-sift : (is : Mark → Bool) (ks : List Mark) (line : List ℕ) → length (sift is ks line) ≤ length line
length-sift is [] line = omega arith
length-sift is (k ∷ ks) [] = omega arith
length-sift is (k ∷ ks) (b ∷ line) = go (is k) (length-sift is ks line)
  where
    go : (t : Bool) → length (sift is ks line) ≤ length line → length (cons_if t b (sift is ks line)) ≤ length (b ∷ line)
    go true h = omega arith
    go false h = omega arith

-- a refusal leaves the output
is_refused : {a : ReadAnswer} {n v : ℕ} (out : List ℕ) → a ≡ rule.refusal n v → called (refused n v) out ≡ after_reading a out
unfolding read_output
is_refused out q = sym (ap (λ x. after_reading x out) q)

-- ---- the framing that was found

record Found (t : CodeTable) (m : Method) (p : Parity) (line : List ℕ) (r : Segments) : Type 0 where
  pub marks : List Mark
  pub field : Field
  pub end : EndSign
  pub rules : rule.framed t m p line ≡ found marks field end
  pub framing : r ≡ framing_at (start_of t (is_seven m) line) field end (tallied no_tally 0 marks) (length marks)

found_framing : (t : CodeTable) (m : Method) (p : Parity) (line : List ℕ) (r : Segments) → framed r ≡ framed_answer t (is_seven m) line (rule.framed t m p line) → Found t m p line r
found_framing t m p line r q = go (rule.framed t m p line) refl
  where
    go : (x : Framed) → rule.framed t m p line ≡ x → Found t m p line r
    go (found ks f e) s =
        let c : framed r ≡ framed (framing_at (start_of t (is_seven m) line) f e (tallied no_tally 0 ks) (length ks)) = q ∙ ap (framed_answer t (is_seven m) line) s in
        record { marks = ks; field = f; end = e; rules = s; framing = cc }
    go (unframed n v) s =
        let c : framed r ≡ refusal n v = q ∙ ap (framed_answer t (is_seven m) line) s in
        absurd (let z : ◌≡◌ {A = ℕ} 0 1 = cc in omega arith)

module _ (t : CodeTable) (m : Method) (p : Parity) (line : List ℕ) (r : Segments) (q : framed r ≡ framed_answer t (is_seven m) line (rule.framed t m p line)) where
  x : Found t m p line r
  x = found_framing t m p line r q

  abbrev ks : List Mark
  ks = x.marks

  through : Passed t m p line ks x.field x.end
  through = passed t m p line ks x.field x.end x.rules

  finds : Segmented t (is_seven m) line ks r
  finds =
      subst (λ (y : Segments). Segmented t (is_seven m) line ks y) (sym x.framing) (segmented t (is_seven m) line ks x.field x.end through.walked)

  carried : Carries x.end (tallied no_tally 0 ks) (length ks) r
  carried =
      subst (λ (y : Segments). Carries x.end (tallied no_tally 0 ks) (length ks) y) (sym x.framing)
      (framing_carries (start_of t (is_seven m) line) x.field x.end (tallied no_tally 0 ks) (length ks))

  tally : Tallied ks line
  tally = tally_counts ks line (omega (arith, through.closes))

  pub ordered : Ordered r (length line)
  ordered = finds.ordered

  header-length : r.header ≡ length (map (character (is_seven m)) (sift is_header ks line))
  header-length = carried.headers ∙ tally.headers ∙ sym (length-map (sift is_header ks line) (character (is_seven m)))

  text-length : r.text ≡ length (map (character (is_seven m)) (sift is_text ks line))
  text-length = carried.texts ∙ tally.texts ∙ sym (length-map (sift is_text ks line) (character (is_seven m)))

  -- the lengths are small enough to be added
  pub lengths_small : (r.header ≤ line_limit) × (r.text ≤ line_limit)
  lengths_small = (
    omega (arith, carried.headers, tally.headers, length-sift is_header ks line, through.short),
    omega (arith, carried.texts, tally.texts, length-sift is_text ks line, through.short),
  )

  abbrev parts : Parts
  parts = parts_of m line ks x.field x.end

  needed : r.header + r.text ≡ output_length parts
  needed = ap₂ (λ i j. i + j) header-length text-length

  pub counts_kept : CountsKept t (is_seven m) r line
  counts_kept = record { header = carried.headers ∙ tally.headers ∙ ap length finds.headers; text = carried.texts ∙ tally.texts ∙ ap length finds.texts }

  -- ---- what a taken block answers and puts out

  taken_numbers : held_by r ≡ of_read_answer (taken parts)
  taken_numbers =
      let s : r.shape ≡ shape_of (has_inner ks) x.field =
      ap (λ (y : Segments). y.shape) x.framing ∙ framing_shape t (is_seven m) line ks x.field x.end through.walked in
      ap₂ (λ i j. block (shape_number i) (end_number j) r.header r.text r.counted) s carried.ends
      ∙ ap₂ (λ i j. block (shape_number (shape_of (has_inner ks) x.field)) (end_number x.end) i j r.counted) header-length text-length
      ∙ ap (block (shape_number (shape_of (has_inner ks) x.field)) (end_number x.end) (length (map (character (is_seven m)) (sift is_header ks line))) (length (map (character (is_seven m)) (sift is_text ks line)))) (carried.counts ∙ tally.counts)

  taken_output : (out : List ℕ) {after : List ℕ} → r.header + r.text ≤ length out
      → after ≡ sets out 0 (map (character (is_seven m)) (header_in t (is_seven m) r line ++ text_in t (is_seven m) r line)) → after ≡ read_output (taken parts) out
  unfolding read_output
  taken_output out h s =
      let g = character (is_seven m) in
      let both : map g (header_in t (is_seven m) r line ++ text_in t (is_seven m) r line) ≡ map g (sift is_header ks line) ++ map g (sift is_text ks line) =
      ap (map g) (ap₂ ◌++◌ (sym finds.headers) (sym finds.texts)) ∙ map-append g (sift is_header ks line) (sift is_text ks line) in
      let vs = map g (sift is_header ks line) ++ map g (sift is_text ks line) in
      let n : length vs ≡ output_length parts = length-append (map g (sift is_header ks line)) (map g (sift is_text ks line)) in
      s ∙ ap (sets out 0) both ∙ sets-eq vs out 0 (omega (arith, n, needed)) ∙ ap (λ k. vs ++ drop k out) (zero-add (length vs) ∙ n)

  -- ---- 18, 54 and 19

  module _ (out : List ℕ) (c : Result Unit ReadRefusal)
      (asked : (next : ReadAnswer) → after_asked c next ≡ ask_same m (bits_of (drop r.after line)) (check_of m p (counted_in t (is_seven m) r line)) next) where
    answered : after_asked c (ask_room parts (length out)) ≡ read_block t m p line (length out)
    unfolding read_block
    answered =
        asked (ask_room parts (length out))
        ∙ ap₂ (λ n bs. ask_same m (bits_of (drop n line)) (check_of m p bs) (ask_room parts (length out))) carried.behind (sym finds.counts)
        ∙ sym (ap (ask_check m p line (length out)) x.rules)

    pub wrong_check : {w : ReadRefusal} → c ≡ Err w → called (refused (read_number w) (read_value w)) out ≡ after_reading (read_block t m p line (length out)) out
    wrong_check {w} e =
        is_refused out (sym answered ∙ ap (λ (z : Result Unit ReadRefusal). after_asked z (ask_room parts (length out))) e)

    module _ (e : c ≡ Ok tt) where
      right_check : read_block t m p line (length out) ≡ ask_room parts (length out)
      right_check = sym answered ∙ ap (λ (z : Result Unit ReadRefusal). after_asked z (ask_room parts (length out))) e

      by_room : {enough : Bool} → leb (output_length parts) (length out) ≡ enough
          → read_block t m p line (length out) ≡ cond enough (taken parts) (rule.refusal 19 (output_length parts))
      by_room q = right_check ∙ ap (λ x. cond x (taken parts) (rule.refusal 19 (output_length parts))) q

      pub output_short : length out < r.header + r.text → called (refused 19 (r.header + r.text)) out ≡ after_reading (read_block t m p line (length out)) out
      output_short h =
          is_refused out (by_room (lt-leb (output_length parts) (length out) (omega (arith, needed))) ∙ ap (rule.refusal 19) (sym needed))

      pub is_taken : r.header + r.text ≤ length out → {numbers : Numbers} {after : List ℕ} → numbers ≡ held_by r
          → after ≡ sets out 0 (map (character (is_seven m)) (header_in t (is_seven m) r line ++ text_in t (is_seven m) r line))
          → called numbers after ≡ after_reading (read_block t m p line (length out)) out
      is_taken h n s =
          ap₂ called (n ∙ taken_numbers) (taken_output out h s)
          ∙ sym (ap (λ z. after_reading z out) (by_room (le-leb (output_length parts) (length out) (omega (arith, needed)))))

-- ---- what the walk answers

pub walk_found : {w : Result Segments ReadRefusal} {r : Segments} {answer : WalkAnswer} → of_walk w ≡ answer → w ≡ Ok r → framed r ≡ answer
walk_found e q = sym (ap of_walk q) ∙ e

pub no_framing : (t : CodeTable) (m : Method) (p : Parity) (line out : List ℕ) {w : Result Segments ReadRefusal} {r : ReadRefusal} → of_walk w ≡ framed_answer t (is_seven m) line (rule.framed t m p line) → w ≡ Err r
    → called (refused (read_number r) (read_value r)) out ≡ after_reading (read_block t m p line (length out)) out
unfolding read_block
no_framing t m p line out {w} {r} e q = is_refused out (go (rule.framed t m p line) refl)
  where
    go : (x : Framed) → rule.framed t m p line ≡ x → ask_check m p line (length out) (rule.framed t m p line) ≡ rule.refusal (read_number r) (read_value r)
    go (found ks f d) s =
        let c : refusal (read_number r) (read_value r) ≡ framed (framing_at (start_of t (is_seven m) line) f d (tallied no_tally 0 ks) (length ks)) = sym (ap of_walk q) ∙ e ∙ ap (framed_answer t (is_seven m) line) s in
        absurd (let z : ◌≡◌ {A = ℕ} 0 1 = cc in omega arith)
    go (unframed n v) s =
        let c : refusal (read_number r) (read_value r) ≡ refusal n v = sym (ap of_walk q) ∙ e ∙ ap (framed_answer t (is_seven m) line) s in
        let i : n ≡ read_number r = cc in
        let j : v ≡ read_value r = cc in
        ap (ask_check m p line (length out)) s ∙ ap₂ rule.refusal i j
