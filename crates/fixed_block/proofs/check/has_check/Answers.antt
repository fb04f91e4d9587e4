-- `has_check` meets its contract: the last bits of the block are those of its check. Assumes nothing.
use Rattle.bits.specs.Bytes.{bits_of}
use Rattle.fixed_polynomials.specs.Polynomials.{degree8, degree16, degree24}
use Rattle.fixed_polynomials.proofs.Polynomials.{widths}
use Rattle.fixed_block.specs.Block.{parameters, content_of, check_in}
use Rattle.fixed_block.proofs.Parts.{split_bits, length-check_in}
use Rattle.fixed_block.proofs.check.has_check.Goals as goal

pub returns-in-Degree8 : goal.returns-in-Degree8
unfolding parameters
returns-in-Degree8 c =
    let b = c.args.block.now in
    rw c.in-Degree8.is
    (c.receives.ensures (bits_of (content_of degree8 b)) (bits_of (check_in degree8 b)) (split_bits degree8 b)
    (length-check_in 1 degree8 widths.degree_8 b (rw c.in-Degree8.is at c.requires.long)))

pub returns-in-Degree16 : goal.returns-in-Degree16
unfolding parameters
returns-in-Degree16 c =
    let b = c.args.block.now in
    rw c.in-Degree16.is
    (c.receives-in-Degree16.ensures (bits_of (content_of degree16 b)) (bits_of (check_in degree16 b)) (split_bits degree16 b)
    (length-check_in 2 degree16 widths.degree_16 b (rw c.in-Degree16.is at c.requires.long)))

pub returns-in-Degree24 : goal.returns-in-Degree24
unfolding parameters
returns-in-Degree24 c =
    let b = c.args.block.now in
    rw c.in-Degree24.is
    (c.receives-in-Degree24.ensures (bits_of (content_of degree24 b)) (bits_of (check_in degree24 b)) (split_bits degree24 b)
    (length-check_in 3 degree24 widths.degree_24 b (rw c.in-Degree24.is at c.requires.long)))
