-- What is written is read back, what is read writes back, and accepted blocks are those that are taken. Assumes nothing.
use mathlib.Core.Path.{◌≡◌, sym, ap, ap₂, ◌∙◌}
use Prim.Native.Nat.{ℕ, zero, suc, ◌+◌, ◌-◌, ◌≤◌}
use native.Mathlib.Omega.{arith}
use mathlib.Core.Bool.{Bool, true}
use mathlib.Core.List.{List, [], ◌∷◌, ◌++◌}
use lib.Dec.{leb}
use lib.ListN.{length, take, drop, take-append-drop}
use lib.Seq.{take_at, drop_at}
use borrow.Author.Tests.{leb-true}
use Rattle.bits.specs.Strings.{same}
use Rattle.bits.specs.Bytes.{bits_of, Bytes, pack}
use Rattle.bits.proofs.Strings.{same_sound, same_self}
use Rattle.bits.proofs.Packing.{pack-bits_of}
use Rattle.bits.proofs.Tests.{ask-passed}
use Rattle.cyclic.specs.Check.{Parameters, check_bits}
use Rattle.fixed_block.specs.Block.{check_length, Outcome, bytes, ask, block_of, write_fixed, content_of, check_in, read_fixed}
use Rattle.fixed_block.specs.Laws.{Accepted, AcceptedIsTaken, WrittenReads, ReadWrites}
use Rattle.fixed_block.proofs.Parts.{length-content, length-block, bits_sent}
use Rattle.fixed_block.proofs.Questions.{write-block, read-content}

-- a question that was passed
passed : (t : Bool) (number value : ℕ) {next : Outcome} {b : List ℕ} → ask t number value next ≡ bytes b → (t ≡ true) × (next ≡ bytes b)
passed t number value e = ask-passed t (λ f. let z : ◌≡◌ {A = ℕ} 0 1 = cc in absurd (omega arith)) e

same_bytes : (a b : List ℕ) → bytes a ≡ bytes b → a ≡ b
same_bytes a b e = cc

bytes-drop : (n : ℕ) (l : List ℕ) → Bytes l → Bytes (drop n l)
bytes-drop zero l h = h
bytes-drop (suc n) [] h = tt
bytes-drop (suc n) (x ∷ l) h = bytes-drop n l h.1

-- ---- what a taken block passed

record Taken (m : Parameters) (block content : List ℕ) : Type 0 where
  accepted : Accepted m block
  content_is : content_of m block ≡ content

taken : (m : Parameters) (block content : List ℕ) (room : ℕ) → read_fixed m block room ≡ bytes content → Taken m block content
unfolding read_fixed
taken m block content room e =
    let k = check_length m in
    let a = passed (leb (1 + k) (length block)) 64 0 e in
    let b = passed (leb (length block) m.limit) 65 0 a.1 in
    let c = passed (same (bits_of (check_in m block)) (check_bits m (bits_of (content_of m block)))) 18 0 b.1 in
    let d = passed (leb (length block - k) room) 19 (length block - k) c.1 in
    record {
      accepted =
          record {
            content = leb-true (1 + k) (length block) a.0;
            within = leb-true (length block) m.limit b.0;
            check = same_sound _ _ (rw c.0 tt);
          };
      content_is = same_bytes (content_of m block) content d.1;
    }

takes : (m : Parameters) (block : List ℕ) (room : ℕ) → length block - check_length m ≤ room → Accepted m block → read_fixed m block room ≡ bytes (content_of m block)
takes m block room h a =
    let s = bits_of (check_in m block) in
    read-content m block room (omega (arith, a.content)) a.within (ap (same s) (sym a.check) ∙ same_self s) h

pub accepted_is_taken : AcceptedIsTaken
accepted_is_taken m block room h = (takes m block room h, λ e. (taken m block (content_of m block) room e).accepted)

-- ---- there and back

pub written_reads : WrittenReads
unfolding write_fixed block_of
written_reads k m o content block room e more h =
    let n = length content in
    let s = pack (check_bits m (bits_of content)) in
    let a = passed (leb 1 n) 64 0 e in
    let b = passed (leb (n + check_length m) m.limit) 65 0 a.1 in
    let d = passed (leb (n + check_length m) room) 6 (n + check_length m) b.1 in
    let q : content ++ s ≡ block = same_bytes (content ++ s) block d.1 in
    let l : length block ≡ n + check_length m = ap length (sym q) ∙ length-block k m o content in
    let i : n ≡ length block - check_length m = omega arith in
    let f : content_of m block ≡ content = ap (take (length block - check_length m)) (sym q) ∙ take_at content s (length block - check_length m) i in
    let g : check_in m block ≡ s = ap (drop (length block - check_length m)) (sym q) ∙ drop_at content s (length block - check_length m) i in
    takes m block more (omega arith)
    (record {
      content = omega (arith, leb-true 1 n a.0);
      within = omega (arith, leb-true (n + check_length m) m.limit b.0);
      check = ap bits_of g ∙ bits_sent k m o (bits_of content) ∙ ap (λ x. check_bits m (bits_of x)) (sym f);
    })
    ∙ ap bytes f

pub read_writes : ReadWrites
unfolding block_of
read_writes k m o block content room by e more h =
    let t = taken m block content room e in
    let q = t.content_is in
    let l : length content ≡ length block - check_length m = ap length (sym q) ∙ length-content m block in
    let s : pack (check_bits m (bits_of content)) ≡ check_in m block =
    ap (λ x. pack (check_bits m (bits_of x))) (sym q) ∙ ap pack (sym t.accepted.check)
    ∙ pack-bits_of (check_in m block) (bytes-drop (length block - check_length m) block by) in
    write-block m content more (omega (arith, t.accepted.content)) (omega (arith, t.accepted.content, t.accepted.within)) (omega (arith, t.accepted.content))
    ∙ ap bytes (ap₂ ◌++◌ (sym q) s ∙ take-append-drop (length block - check_length m) block)
