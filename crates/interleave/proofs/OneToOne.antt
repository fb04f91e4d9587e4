-- No two answers of a call have one number. Assumes nothing.
use Rattle.std.proofs.Common.{◌≡◌, ℕ, Result, Ok, Err, refl, ap, arith}
use Rattle.interleave.specs.declared.InterleaveRefusal.{InterleaveRefusal}
use Rattle.interleave.specs.declared.InterleaveRefusal.TheVariants.{NoRows, OutputShort}
use Rattle.interleave.specs.Answers.{number_of, verdict_of}

number_of_injective : (r s : InterleaveRefusal) → number_of r ≡ number_of s → r ≡ s
number_of_injective NoRows NoRows e = refl
number_of_injective OutputShort OutputShort e = refl
number_of_injective NoRows OutputShort e = absurd (omega arith)
number_of_injective OutputShort NoRows e = absurd (omega arith)

pub verdict_of_injective : (a b : Result Unit InterleaveRefusal) → verdict_of a ≡ verdict_of b → a ≡ b
verdict_of_injective (Ok passed) (Ok passed') e = refl
verdict_of_injective (Err r) (Err s) e =
    let same : number_of r ≡ number_of s = cc in
    ap Err (number_of_injective r s same)
verdict_of_injective (Ok passed) (Err s) e = absurd (let z : ◌≡◌ {A = ℕ} 0 1 = cc in omega arith)
verdict_of_injective (Err r) (Ok passed) e = absurd (let z : ◌≡◌ {A = ℕ} 0 1 = cc in omega arith)
