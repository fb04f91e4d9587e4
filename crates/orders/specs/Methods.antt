-- The methods that an order can name, and the bytes that keep them in a record (document 02, card 14). Assumes nothing.
use Rattle.std.specs.Prelude.{ℕ, Bool, cond, ◌||◌, ◌==◌}
use Rattle.block.specs.declared.Method.{Method}
use Rattle.block.specs.declared.Method.TheVariants as method
use Rattle.block.specs.declared.Parity.TheVariants.{Even}
use Rattle.block.specs.declared.Code.TheVariants.{Koi7}
use Rattle.block.specs.declared.Link.{Link}
use Rattle.orders.specs.declared.CyclicMethod.{CyclicMethod}
use Rattle.orders.specs.declared.CyclicMethod.TheVariants.{Cyclic, CyclicAlternative}

abbrev pub as_method : CyclicMethod → Method
as_method Cyclic = method.Cyclic
as_method CyclicAlternative = method.CyclicAlternative

-- a method is kept by its number
abbrev pub byte_of : CyclicMethod → ℕ
byte_of Cyclic = 3
byte_of CyclicAlternative = 4

-- and 0 stands for the method before any order, which is 4
abbrev pub is_method : ℕ → Bool
is_method byte = byte == 0 || byte == 3 || byte == 4

abbrev pub method_of : ℕ → CyclicMethod
method_of byte = cond (byte == 3) Cyclic CyclicAlternative

-- methods 3 and 4 do without the parity, and KOI-7 is the code of all but the block calls (document 02, card 7)
abbrev pub link_of : ℕ → Link
link_of byte = record { method = as_method (method_of byte); parity = Even; code = Koi7 }
