-- A check of up to four bytes, sent, and a block stored in two steps. Assumes nothing.
use mathlib.Core.Path.{◌≡◌, refl, sym, ap, ap₂, ◌∙◌}
use Prim.Native.Nat.{ℕ, zero, suc, ◌+◌, ◌*◌, ◌%◌, ◌/◌, ◌≤◌}
use native.Mathlib.Omega.{arith}
use mathlib.Core.Bool.{Bool}
use mathlib.Core.List.{List, ◌∷◌, ◌++◌, append_assoc}
use lib.ListN.{length, take, drop}
use lib.Seq.{drop-drop}
use Rattle.std.proofs.Math.Seq.{take-append_seam, drop-append_seam}
use borrow.Rule.Slice.PartMut.{put_mid}
use Rattle.bits.specs.Bytes.{low_bits, pack}
use Rattle.bits.proofs.Packing.{little_endian, pack-low_bits}
use Rattle.cyclic.specs.Check.{Parameters, check_bits}
use Rattle.cyclic.specs.Laws.{OfWidth}
use Rattle.fixed_block.specs.Block.{check_length}
use Rattle.fixed_block.proofs.Parts.{length-width}

take-little_endian : (k n x : ℕ) → k ≤ n → take k (little_endian n x) ≡ little_endian k x
take-little_endian zero n x h = refl
take-little_endian (suc k) zero x h = absurd (omega arith)
take-little_endian (suc k) (suc n) x h = ap (λ l. x % 256 ∷ l) (take-little_endian k n (x / 256) (omega arith))

pub check_sent : (k : ℕ) (m : Parameters) → OfWidth (8 * k) m → k ≤ 4 → (number : ℕ) (s : List Bool) {sent : List ℕ} → sent ≡ pack (low_bits 32 number)
    → low_bits (8 * k) number ≡ check_bits m s → take (check_length m) sent ≡ pack (check_bits m s)
check_sent k m o h number s e b =
    ap₂ take (length-width k m o) (e ∙ pack-low_bits 4 number) ∙ take-little_endian k 4 number h ∙ sym (pack-low_bits k number) ∙ ap pack b

-- content, then check, behind each other in the output
pub stored_both : (content sent out : List ℕ) (k : ℕ) → put_mid (length content) k (content ++ drop (length content) out) sent ≡ (content ++ sent) ++ drop (length content + k) out
stored_both content sent out k =
    let n = length content in
    ap₂ (λ x y. x ++ (sent ++ drop k y)) (take-append_seam content (drop n out)) (drop-append_seam content (drop n out))
    ∙ ap (λ y. content ++ (sent ++ y)) (drop-drop k n out) ∙ sym (append_assoc content sent (drop (n + k) out))
