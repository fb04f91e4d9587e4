-- Runs of data: the bytes that a field passes over without a change. Assumes nothing.
use Rattle.block.specs.declared.Mark.{Mark}
use Rattle.block.specs.declared.Mark.TheVariants.{LeftOut, HeaderByte, TextByte}
use Rattle.block.specs.declared.Field.{Field}
use Rattle.block.specs.declared.Field.TheVariants.{Start, StartDle, Header, HeaderDle, Text, Clear, ClearDle}

-- the mark of data in a field
abbrev pub data_mark : Field → Mark
data_mark Start = LeftOut
data_mark StartDle = LeftOut
data_mark Header = HeaderByte
data_mark HeaderDle = LeftOut
data_mark Text = TextByte
data_mark Clear = TextByte
data_mark ClearDle = LeftOut
