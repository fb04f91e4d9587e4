-- `add_both_kept` meets its contract. The loop's invariant: of both sums, what is left of the segment gives the whole. Assumes nothing.
use Rattle.std.proofs.Common.{◌≡◌, ◌/◌, ◌%◌, true, false, drop}
use Rattle.block.specs.Signs.{table_of}
use Rattle.block.specs.Check.{xor_all}
use Rattle.block_framing.specs.Framings.{kept_bytes}
use Rattle.block_segments.specs.Kept.{kept_of}
use Rattle.block_diagonals.specs.Sums.{turn_all}
use Rattle.block_diagonals.proofs.add_both_kept.Given as goal

abbrev pub invariant-loop-b : goal.invariant-loop-b
invariant-loop-b l =
    record {
      rows : xor_all l.sums (kept_of l.keeping (drop l.b-index l.part)) ≡ xor_all (l.number / 256) (kept_bytes (table_of l.fn.code) l.clear true false l.part);
      diagonals : turn_all l.register (kept_of l.keeping (drop l.b-index l.part)) ≡ turn_all (l.number % 256) (kept_bytes (table_of l.fn.code) l.clear true false l.part);
    }
