-- `sum_kept` meets its contract. The loop's invariant: what is left of the segment gives the whole. Assumes nothing.
use Rattle.std.proofs.Common.{◌≡◌, true, false, drop}
use Rattle.block.specs.Signs.{table_of}
use Rattle.block.specs.Check.{xor_all}
use Rattle.block_framing.specs.Framings.{kept_bytes}
use Rattle.block_segments.specs.Kept.{kept_of}
use Rattle.block_segments.proofs.sum.sum_kept.Given as goal

abbrev pub invariant-loop-b : goal.invariant-loop-b
invariant-loop-b l = xor_all l.sum (kept_of l.keeping (drop l.b-index l.part)) ≡ xor_all l.start (kept_bytes (table_of l.fn.code) l.clear true false l.part)
