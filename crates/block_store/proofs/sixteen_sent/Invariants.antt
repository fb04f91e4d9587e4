-- `sixteen_sent` meets its contract. The loop's invariant: the bytes passed are those of the first characters, and behind them stand
-- the characters. Assumes nothing.
use Rattle.std.proofs.Common.{◌≡◌, length, map, take, drop}
use Rattle.block.specs.Characters.{sent}
use Rattle.block_store.proofs.sixteen_sent.Given as goal

abbrev pub invariant-loop-byte : goal.invariant-loop-byte
invariant-loop-byte l = record { long : length l.byte-items ≡ 16; made : take l.byte-index l.byte-items ≡ map (sent l.seven l.parity) (take l.byte-index l.part); behind : drop l.byte-index l.byte-items ≡ drop l.byte-index l.part }
