-- Beyond the owner's sentences: under a 16-bit check two bits pass at 32,767 apart and nowhere else, and their number is never odd,
-- so that shorter lines differ in at least four bits. Assumes nothing.
use Rattle.std.specs.Prelude.{◌≡◌, ℕ, ◌≤◌, ◌<◌, Bool, List, length}
use Rattle.cyclic.specs.Check.{Parameters, method5}
use Rattle.block.specs.declared.Method.{Method}
use Rattle.block.specs.declared.Method.TheVariants as method
use Rattle.block.specs.declared.Parity.{Parity}
use Rattle.block.specs.Signs.{CodeTable}
use Rattle.block.specs.Read.{Parts, taken, read_block}
use Rattle.frame.specs.Read as frame-reading
use Rattle.guarantees.specs.Lines.{Lines, TwoAccepted, distance}
use Rattle.guarantees.specs.Blocks.{blocks}
use Rattle.guarantees.specs.Frames.{frames}
use Rattle.guarantees.specs.Third.{AnyMethod, lines_of, Has16Bits}

-- two unequal accepted lines of fewer than `size` checked bits differ in at least n bits
abbrev pub AtLeastBelow : ℕ → ℕ → Lines → Type 0
AtLeastBelow n size L = (A B : L.Line) → TwoAccepted L A B → length (L.checked_bits A) < size → n ≤ distance L A B

-- blocks, by the counted number with which reading takes A
abbrev pub BlocksAtLeast : ℕ → ℕ → CodeTable → Method → Parity → Type 0
BlocksAtLeast n most t m p =
    (A B : List ℕ) → TwoAccepted (blocks t m p) A B → (b : Parts) (room : ℕ) → read_block t m p A room ≡ taken b → b.counted ≤ most
    → n ≤ distance (blocks t m p) A B

-- frames, by the bits of the content with which reading takes A
abbrev pub FramesAtLeast : ℕ → ℕ → Parameters → Type 0
FramesAtLeast n most m =
    (A B : List Bool) → TwoAccepted (frames m) A B → (content : List Bool) (room : ℕ)
    → frame-reading.read_bits m A room ≡ frame-reading.taken content → length content ≤ most → n ≤ distance (frames m) A B

pub record BeyondTheOwner : Type 0 where
  -- fewer than 32,768 checked bits
  pub distance_16 : (m : AnyMethod) → Has16Bits m → AtLeastBelow 4 32768 (lines_of m)
  -- so up to 4,093 bytes, which are 32,760 checked bits
  pub distance_3 : (t : CodeTable) (p : Parity) → BlocksAtLeast 4 4093 t method.Cyclic p
  pub distance_4 : (t : CodeTable) (p : Parity) → BlocksAtLeast 4 4093 t method.CyclicAlternative p
  -- and a content of up to 32,751 bits, with its check of 16
  pub distance_5 : FramesAtLeast 4 32751 method5
