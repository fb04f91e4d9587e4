-- The numbers of the methods, within what code computes with. Assumes nothing.
use mathlib.Core.Path.{◌≡◌}
use Prim.Native.Nat.{ℕ, ◌%◌, ◌≤◌}
use native.Mathlib.Omega.{arith}
use Rattle.cyclic.specs.Check.{Parameters, method5, method6}
use Rattle.cyclic.proofs.Methods.{width_5, width_6}
use Rattle.frame.specs.declared.FrameMethod.{FrameMethod}
use Rattle.frame.specs.declared.FrameMethod.TheVariants as method
use Rattle.frame.specs.Frame.{parameters_of, width}

-- the most bytes of a content in any method
abbrev pub content_limit : ℕ
content_limit = 65536

pub record Sizes (m : Parameters) : Type 0 where
  pub whole_bytes_lem : width m % 8 ≡ 0
  pub width_small : width m ≤ 32
  pub width_large : 16 ≤ width m
  pub limit_small : m.limit ≤ content_limit

pub sizes : (m : FrameMethod) → Sizes (parameters_of m)
unfolding method5 method6
sizes method.Cyclic16 =
    let w = width_5.generator.width in
    record { whole_bytes_lem = omega arith; width_small = omega arith; width_large = omega arith; limit_small = omega arith }
sizes method.Cyclic32 =
    let w = width_6.generator.width in
    record { whole_bytes_lem = omega arith; width_small = omega arith; width_large = omega arith; limit_small = omega arith }
