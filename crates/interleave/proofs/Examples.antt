-- The examples, computed. Assumes nothing.
use Rattle.std.proofs.Common.{refl, arith}
use Rattle.interleave.specs.Interleave.{column, order, interleave, place, deinterleave}
use Rattle.interleave.specs.Examples.{Examples}

pub examples : Examples
unfolding column order interleave place deinterleave
examples = record { sent = refl; back = refl; met = refl; two_columns = omega arith }
