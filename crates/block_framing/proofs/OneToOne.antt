-- No two ends of the walk have one answer: `find_framing` leaves nothing open. Assumes nothing.
use mathlib.Core.Path.{◌≡◌, ap}
use Prim.Native.Nat.{ℕ}
use Rattle.std.specs.Prelude.{Result, Ok, Err}
use native.Mathlib.Omega.{arith}
use Rattle.block.specs.declared.ReadRefusal.{ReadRefusal}
use Rattle.block.specs.Answers.{read_number, read_value}
use Rattle.block.proofs.OneToOne.{of_read_injective}
use Rattle.block_framing.specs.declared.Segments.{Segments}
use Rattle.block_framing.specs.Framings.{refusal, of_walk}

-- number and value tell the refusals apart, as they do those of reading
refusal_back : (r s : ReadRefusal) → refusal (read_number r) (read_value r) ≡ refusal (read_number s) (read_value s) → r ≡ s
refusal_back r s e =
    let n : read_number r ≡ read_number s = cc in
    let v : read_value r ≡ read_value s = cc in
    let q = of_read_injective (Err r) (Err s) (rw (n, v)) in
    cc

pub of_walk_injective : (v w : Result Segments ReadRefusal) → of_walk v ≡ of_walk w → v ≡ w
of_walk_injective (Ok f) (Ok g) e = let q : f ≡ g = cc in ap Ok q
of_walk_injective (Ok f) (Err s) e = let z : ◌≡◌ {A = ℕ} 0 1 = cc in absurd (omega arith)
of_walk_injective (Err r) (Ok g) e = let z : ◌≡◌ {A = ℕ} 0 1 = cc in absurd (omega arith)
of_walk_injective (Err r) (Err s) e = ap Err (refusal_back r s e)
