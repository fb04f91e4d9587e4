-- `enter_clear` meets its contract. The loop's invariant: what is left of the segment gives the whole. The measure is what is left.
-- Assumes nothing.
use Rattle.std.proofs.Common.{◌≡◌, true, false, length}
use Rattle.generator16.specs.Register.{register_after}
use Rattle.block.specs.Signs.{table_of}
use Rattle.block_framing.specs.Framings.{kept_bytes}
use Rattle.block_segments.specs.Kept.{kept_of}
use Rattle.block_register.proofs.enter_clear.Given as goal

abbrev pub invariant-loop-b : goal.invariant-loop-b
invariant-loop-b g l =
    record {
      clear : l.keeping.clear ≡ true;
      eight : l.keeping.seven ≡ false;
      left : register_after g.G.Generator.generator l.register (kept_of l.keeping l.rest) ≡ register_after g.G.Generator.generator l.start (kept_bytes (table_of l.fn.code) true false false l.part);
    }

abbrev pub decreases-loop-b : goal.decreases-loop-b
decreases-loop-b g l = length l.rest
