-- `Fixed16::receives` meets its contract: the register is the residue exactly where the check is right. Assumes nothing.
use Rattle.std.proofs.Common.{rules}
use lib.Dec.{lit<}
use Rattle.bits.specs.Bytes.{bits_of}
use Rattle.cyclic.proofs.Methods.{began}
use Rattle.fixed_polynomials.specs.Polynomials.{degree16}
use Rattle.fixed_polynomials.proofs.Polynomials.{widths}
use Rattle.fixed_polynomials.proofs.Received.{received, residue_16}
use Rattle.fixed_check.proofs.degree16.Fixed16.receives.Goals as goal

pub returns : goal.returns
returns c contents check parts wide =
    received 16 degree16 widths.degree_16 c.new.result.register c.enter-after.result.register 0x0621 (bits_of c.args.block.now) contents check (search rules) (lit< tt) (began c.new.ensures) c.enter-after.ensures residue_16 parts wide
