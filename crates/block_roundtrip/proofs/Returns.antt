-- A written block comes back: by the second property its line is read where the output holds the parts, and the questions before
-- the output's do not depend on its length. Assumes nothing.
use mathlib.Core.Path.{◌≡◌, refl, sym, ap, ◌∙◌}
use Prim.Native.Nat.{ℕ, ◌+◌, ◌≤◌}
use native.Mathlib.Omega.{arith}
use mathlib.Core.Bool.{Bool, true, false, cond}
use mathlib.Core.List.{List, ◌++◌}
use lib.Dec.{leb}
use lib.ListN.{length, take, drop, length-append}
use lib.Seq.{take_at}
use Rattle.bits.specs.Strings.{same}
use Rattle.bits.specs.Bytes.{bits_of}
use Rattle.bits.specs.Calls.{called}
use Rattle.block.specs.declared.Method.{Method}
use Rattle.block.specs.declared.Parity.{Parity}
use Rattle.block.specs.declared.Shape.{Shape}
use Rattle.block.specs.declared.EndSign.{EndSign}
use Rattle.block.specs.declared.Block.{Block}
use Rattle.std.specs.Prelude.{Result, Ok, Err}
use Rattle.block.specs.declared.WriteRefusal.{WriteRefusal}
use Rattle.block.specs.declared.ReadRefusal.{ReadRefusal}
use Rattle.block.specs.Signs.{CodeTable}
use Rattle.block.specs.Check.{check_of}
use Rattle.block.specs.Marks.{counted, check_bytes}
use Rattle.block.specs.Read.{Framed, found, unframed, framed, Parts, parts_of, output_length, ReadAnswer, taken, refusal, first_asked, then_asked, ask_check, read_block, read_output}
use Rattle.block.specs.Write as writing
use Rattle.block.specs.Answers.{of_read, of_read_answer, after_reading, of_written, of_write_answer, after_writing}
use Rattle.guarantees.specs.Second.{parts_written}
use Rattle.guarantees.proofs.Second.{second_property}
use Rattle.roundtrip.proofs.Comparing.{joined}
use Rattle.roundtrip.proofs.Comparing as comparing
use Rattle.roundtrip.specs.declared.RoundTripError.{RoundTripError}
use Rattle.roundtrip.specs.declared.RoundTripError.TheVariants.{NotRead}
use Rattle.roundtrip.specs.Returns.{Returned, returned}
use Rattle.block_roundtrip.specs.Returns.{block_back, block_answer, block_output, block_returns, BlockOf, of_block_return}

-- ---- what the output's length changes

not_taken : (n v : ℕ) (b : Parts) → refusal n v ≡ taken b → ⊥
not_taken n v b e = let z : ◌≡◌ {A = ℕ} 0 1 = cc in omega arith

same_parts : (a b : Parts) → taken a ≡ taken b → a ≡ b
same_parts a b e = cc

-- 19, of the parts b
abbrev by_room : Parts → ℕ → ReadAnswer
by_room = comparing.by_room taken refusal output_length 19 same_parts not_taken

other_room : (table : CodeTable) (m : Method) (p : Parity) (line : List ℕ) (room space : ℕ) (b : Parts) → read_block table m p line room ≡ taken b → read_block table m p line space ≡ by_room b space
unfolding read_block
other_room table m p line room space b e = of-framed (framed table m p line) e
  where
    behind : (right : Bool) (n : ℕ) {x y : ReadAnswer} → (x ≡ taken b → y ≡ by_room b space) → cond right x (refusal n 0) ≡ taken b → cond right y (refusal n 0) ≡ by_room b space
    behind right n = comparing.behind taken refusal output_length 19 same_parts not_taken right n 0 b space

    of-framed : (f : Framed) → ask_check m p line room f ≡ taken b → ask_check m p line space f ≡ by_room b space
    of-framed (unframed n v) q = absurd (not_taken n v b q)
    of-framed (found ks f k) q =
        let received = bits_of (check_bytes ks line) in
        let computed = check_of m p (counted ks line) in
        let a = parts_of m line ks f k in
        let last = comparing.of_room taken refusal output_length 19 same_parts not_taken (leb (output_length a) room) a b space in
        behind (same (first_asked m received) (first_asked m computed)) 18 (behind (same (then_asked m received) (then_asked m computed)) 54 last) q

-- ---- the calls

module _ (table : CodeTable) (m : Method) (p : Parity) (s : Shape) (e : EndSign) (head body line out : List ℕ) where
  abbrev rule : writing.WriteAnswer
  rule = writing.write_block table m p s e head body (length line)

  abbrev back : ReadAnswer
  back = block_back table s e head body (length out)

  -- what write_block ensures
  abbrev Writes : Result ℕ WriteRefusal → List ℕ → Type 0
  Writes w line₁ = called (of_written w) line₁ ≡ after_writing rule line

  -- what the function ensures
  abbrev Returns : Result Bool (RoundTripError WriteRefusal ReadRefusal) → List ℕ → List ℕ → Type 0
  Returns r line₁ out₁ = returned (of_block_return r) line₁ out₁ ≡ block_returns table m p s e head body line out

  -- the first n bytes are the line
  pub record WrittenLine (n : ℕ) (line₁ : List ℕ) : Type 0 where
    pub bytes : List ℕ
    pub by_rule : rule ≡ writing.written bytes
    pub within : n ≤ length line₁
    pub part : take n line₁ ≡ bytes

  pub written_line : (w : Result ℕ WriteRefusal) {line₁ : List ℕ} → Writes w line₁ → {n : ℕ} → w ≡ Ok n → WrittenLine n line₁
  unfolding writing.write_output
  written_line w {line₁ = line₁} h {n} q = go rule refl (sym (ap of_written q) ∙ ap (λ c. c.answer) h) (ap (λ c. c.output) h)
    where
      go : (a : writing.WriteAnswer) → rule ≡ a → of_written (Ok n) ≡ of_write_answer a → line₁ ≡ writing.write_output a line → WrittenLine n line₁
      go (writing.refusal k v) r g o = let z : ◌≡◌ {A = ℕ} 0 1 = cc in absurd (omega arith)
      go (writing.written l) r g o =
          let size : n ≡ length l = cc in
          record {
            bytes = l;
            by_rule = r;
            within = omega (arith, ap length o, length-append l (drop (length l) line));
            part = ap (take n) o ∙ take_at l (drop (length l) line) n (sym size);
          }

  -- what read_block ensures of these bytes
  abbrev Reads : List ℕ → Result Block ReadRefusal → List ℕ → Type 0
  Reads l r out₁ = called (of_read r) out₁ ≡ after_reading (read_block table m p l (length out)) out

  pub record TakenBack (b : Block) (out₁ : List ℕ) : Type 0 where
    pub fits : leb (length head + length body) (length out) ≡ true
    pub room : length head + length body ≤ length out₁
    pub equal : BlockOf s e head body b out₁

  module _ {n : ℕ} {line₁ : List ℕ} (w : WrittenLine n line₁) (r : Result Block ReadRefusal) {out₁ : List ℕ} (h : Reads (take n line₁) r out₁) where
    abbrev answered : Bool → ReadAnswer
    answered fits = cond fits (taken (parts_written table s e head body)) (refusal 19 (length head + length body))

    read_back : read_block table m p (take n line₁) (length out) ≡ back
    read_back =
        ap (λ l. read_block table m p l (length out)) w.part
        ∙ other_room table m p w.bytes (length head + length body) (length out) (parts_written table s e head body)
        (second_property.written_reads_back table m p s e head body w.bytes (length line) (length head + length body) w.by_rule (omega arith))

    back_is : called (of_read r) out₁ ≡ after_reading back out
    back_is = h ∙ ap (λ z. after_reading z out) read_back

    -- where the line was written, of the answer that reading it back gives
    of_written_lem : {answer : Returned} → answer ≡ block_answer (writing.written w.bytes) back → line₁ ≡ writing.write_output rule line
        → returned answer line₁ out₁ ≡ block_returns table m p s e head body line out
    of_written_lem a l =
        joined (a ∙ ap (λ z. block_answer z back) (sym w.by_rule)) l
        (ap (λ c. c.output) back_is ∙ ap (λ z. block_output z back out) (sym w.by_rule))

    pub taken_back : {b : Block} → r ≡ Ok b → TakenBack b out₁
    unfolding read_output
    taken_back {b} q = go (leb (length head + length body) (length out)) refl (sym (ap of_read q) ∙ ap (λ c. c.answer) back_is) (ap (λ c. c.output) back_is)
      where
        go : (fits : Bool) → leb (length head + length body) (length out) ≡ fits
            → of_read (Ok b) ≡ of_read_answer (answered fits)
            → out₁ ≡ read_output (answered fits) out → TakenBack b out₁
        go false t g o = let z : ◌≡◌ {A = ℕ} 0 1 = cc in absurd (omega arith)
        go true t g o =
            record {
              fits = t;
              room = omega (arith, ap length o, length-append (head ++ body) (drop (length head + length body) out), length-append head body);
              equal =
                  record {
                    same_shape = cc;
                    same_end = cc;
                    header-length = cc;
                    text-length = cc;
                    parts = ap (take (length head + length body)) o ∙ take_at (head ++ body) _ (length head + length body) (length-append head body);
                  };
            }

    pub taken_returns : {b : Block} → r ≡ Ok b → {equal : Bool} → (BlockOf s e head body b out₁ → equal ≡ true)
        → line₁ ≡ writing.write_output rule line → Returns (Ok equal) line₁ out₁
    taken_returns q decided l =
        let t = taken_back q in
        of_written_lem
        (ap (λ (z : Bool). of_block_return (Ok z)) (decided t.equal) ∙ ap (λ z. block_answer (writing.written w.bytes) (answered z)) (sym t.fits))
        l

    pub refused_returns : {x : ReadRefusal} → r ≡ Err x → line₁ ≡ writing.write_output rule line → Returns (Err (NotRead x)) line₁ out₁
    refused_returns {x} q l = of_written_lem (go (leb (length head + length body) (length out)) (sym (ap of_read q) ∙ ap (λ c. c.answer) back_is)) l
      where
        go : (fits : Bool) → of_read (Err x) ≡ of_read_answer (answered fits)
            → of_block_return (Err (NotRead x)) ≡ block_answer (writing.written w.bytes) (answered fits)
        go true g = let z : ◌≡◌ {A = ℕ} 0 1 = cc in absurd (omega arith)
        go false g = cc
