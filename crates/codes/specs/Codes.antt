-- The numbers that C passes: document 01's numbers of methods and shapes, 0 and 1 for parity, 0 and 1 for KOI-7 and DKOI, the end
-- signs by their bytes in KOI-7, and the degrees of the polynomials of fixed blocks. Assumes nothing.
use Rattle.std.specs.Prelude.{ℕ, cond, eqb, Option, Some, None}
use Rattle.block.specs.declared.Method.{Method}
use Rattle.block.specs.declared.Method.TheVariants as method
use Rattle.block.specs.declared.Parity.{Parity}
use Rattle.block.specs.declared.Parity.TheVariants as parity
use Rattle.block.specs.declared.Link.{Link}
use Rattle.block.specs.declared.Shape.{Shape}
use Rattle.block.specs.declared.Shape.TheVariants as shape
use Rattle.block.specs.declared.EndSign.{EndSign}
use Rattle.block.specs.declared.EndSign.TheVariants as end
use Rattle.block.specs.declared.Code.{Code}
use Rattle.block.specs.declared.Code.TheVariants as characters
use Rattle.block.specs.Signs.{koi7}
use Rattle.frame.specs.declared.FrameMethod.{FrameMethod}
use Rattle.frame.specs.declared.FrameMethod.TheVariants as frame
use Rattle.fixed_block.specs.declared.Polynomial.{Polynomial}
use Rattle.fixed_block.specs.declared.Polynomial.TheVariants as polynomial
use Rattle.orders.specs.declared.CyclicMethod.{CyclicMethod}
use Rattle.orders.specs.declared.CyclicMethod.TheVariants as cyclic
use Rattle.codes.specs.declared.Format.{Format}

abbrev pub method_of : ℕ → Option Method
method_of code =
    cond (eqb code 1) (Some method.Parity)
    (cond (eqb code 2) (Some method.Matrix)
    (cond (eqb code 3) (Some method.Cyclic)
    (cond (eqb code 4) (Some method.CyclicAlternative)
    (cond (eqb code 7) (Some method.Diagonal) None))))

abbrev pub parity_of : ℕ → Option Parity
parity_of code = cond (eqb code 0) (Some parity.Even) (cond (eqb code 1) (Some parity.Odd) None)

abbrev pub shape_of : ℕ → Option Shape
shape_of code =
    cond (eqb code 1) (Some shape.Header)
    (cond (eqb code 2) (Some shape.Text)
    (cond (eqb code 3) (Some shape.HeaderText)
    (cond (eqb code 4) (Some shape.ClearText)
    (cond (eqb code 5) (Some shape.HeaderClearText) None))))

abbrev pub end_of : ℕ → Option EndSign
end_of code = cond (eqb code koi7.ETX) (Some end.Etx) (cond (eqb code koi7.ETB) (Some end.Etb) (cond (eqb code koi7.US) (Some end.Us) None))

abbrev pub characters_of : ℕ → Option Code
characters_of code = cond (eqb code 0) (Some characters.Koi7) (cond (eqb code 1) (Some characters.Dkoi) None)

-- method, parity and the code of the characters, where all are known
abbrev pub link_by : Option Method → Option Parity → Option Code → Option Link
link_by None p c = None
link_by (Some m) None c = None
link_by (Some m) (Some p) None = None
link_by (Some m) (Some p) (Some c) = Some (record { method = m; parity = p; code = c })

abbrev pub link_of : ℕ → ℕ → ℕ → Option Link
link_of m p c = link_by (method_of m) (parity_of p) (characters_of c)

-- shape and end sign, where both are known
abbrev pub format_by : Option Shape → Option EndSign → Option Format
format_by None e = None
format_by (Some s) None = None
format_by (Some s) (Some e) = Some (record { shape = s; end = e })

abbrev pub format_of : ℕ → ℕ → Option Format
format_of s e = format_by (shape_of s) (end_of e)

abbrev pub frame_method_of : ℕ → Option FrameMethod
frame_method_of code = cond (eqb code 5) (Some frame.Cyclic16) (cond (eqb code 6) (Some frame.Cyclic32) None)

abbrev pub polynomial_of : ℕ → Option Polynomial
polynomial_of degree =
    cond (eqb degree 8) (Some polynomial.Degree8)
    (cond (eqb degree 16) (Some polynomial.Degree16) (cond (eqb degree 24) (Some polynomial.Degree24) None))

abbrev pub cyclic_method_of : ℕ → Option CyclicMethod
cyclic_method_of code = cond (eqb code 3) (Some cyclic.Cyclic) (cond (eqb code 4) (Some cyclic.CyclicAlternative) None)
