-- `copy_kept` meets its contract. The loop's invariant: what is left to store, laid over the output, gives the whole. Assumes nothing.
use Rattle.std.proofs.Common.{false, map, drop, ◌≤◌}
use Rattle.block.specs.Signs.{table_of}
use Rattle.block.specs.Characters.{character}
use Rattle.block_framing.specs.Framings.{kept_bytes}
use Rattle.block_segments.specs.Kept.{kept_of}
use Rattle.block_segments.proofs.Copying.{Copying}
use Rattle.block_segments.proofs.copy.copy_kept.Given as goal

abbrev pub invariant-loop-b : goal.invariant-loop-b
invariant-loop-b l =
    record {
      few : l.n ≤ l.b-index;
      left : Copying (map (character l.seven) (kept_bytes (table_of l.fn.code) l.clear l.seven false l.part)) l.initial.out l.out (map (character l.seven) (kept_of l.keeping (drop l.b-index l.part))) l.n;
    }
