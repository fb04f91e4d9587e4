-- No two answers of `find_framing` are one in document 01's numbers: it leaves nothing open. Assumes nothing.
use mathlib.Core.Path.{◌≡◌, ap, ap₂, ◌∙◌}
use Prim.Native.Nat.{ℕ}
use Rattle.std.specs.Prelude.{Result, Ok, Err}
use native.Mathlib.Omega.{arith}
use Rattle.frame.specs.declared.ReadRefusal.{ReadRefusal}
use Rattle.frame.specs.Answers.{read_number, read_value}
use Rattle.frame.proofs.OneToOne.{of_read_injective}
use Rattle.frame_framing.specs.declared.Body.{Body}
use Rattle.frame_framing.specs.Framing.{unframed, of_framing}

-- number and value tell the refusals apart, as they do those of reading
refusal_back : (r s : ReadRefusal) → unframed (read_number r) (read_value r) ≡ unframed (read_number s) (read_value s) → r ≡ s
refusal_back r s e =
    let n : read_number r ≡ read_number s = cc in
    let v : read_value r ≡ read_value s = cc in
    let q = of_read_injective (Err r) (Err s) (rw (n, v)) in
    cc

pub of_framing_injective : (v w : Result Body ReadRefusal) → of_framing v ≡ of_framing w → v ≡ w
of_framing_injective (Ok f) (Ok g) e =
    let a : f.end ≡ g.end = cc in
    let b : f.count ≡ g.count = cc in
    let c : f.right ≡ g.right = cc in
    ap (λ x. Ok (record { end = x; count = f.count; right = f.right })) a ∙ ap₂ (λ x y. Ok (record { end = g.end; count = x; right = y })) b c
of_framing_injective (Ok f) (Err s) e = let z : ◌≡◌ {A = ℕ} 0 1 = cc in absurd (omega arith)
of_framing_injective (Err r) (Ok g) e = let z : ◌≡◌ {A = ℕ} 0 1 = cc in absurd (omega arith)
of_framing_injective (Err r) (Err s) e = ap Err (refusal_back r s e)
