-- `enter_gathered` meets its contract. The loop's invariant: what is left of the segment gives the whole. Assumes nothing.
use Rattle.std.proofs.Common.{◌≡◌, false, length}
use Rattle.std.specs.Slice.Iter.{chunks_rest, chunks_size}
use Rattle.generator16.specs.Register.{register_after}
use Rattle.block.specs.Signs.{table_of}
use Rattle.block_framing.specs.Framings.{kept_bytes}
use Rattle.block_register.proofs.enter_gathered.Given as goal

abbrev pub invariant-loop-piece : goal.invariant-loop-piece
invariant-loop-piece g l =
    record {
      room : length l.gathered ≡ 256;
      size : chunks_size l.piece-iterator ≡ 256;
      left : register_after g.G.Generator.generator l.register (kept_bytes (table_of l.fn.code) false false false (chunks_rest l.piece-iterator)) ≡ register_after g.G.Generator.generator l.start (kept_bytes (table_of l.fn.code) false false false l.part);
    }
