-- What the steps of the reader compute. The rules do not rest on these definitions. Assumes nothing.
use Rattle.std.specs.Prelude.{ℕ, Bool, List}
use Rattle.std.proofs.Math.Seq.{slice}
use Rattle.frame.specs.Stuffing.{unstuff}
use Rattle.zero_removal.specs.Reader.{data_of}

-- the bits of content and check between the flags, where the closing flag stands at the place `end`
abbrev pub data_between : List Bool → ℕ → List Bool
data_between bits end = data_of (unstuff 0 8 (slice 8 end bits))
