-- `Fixed24::receives` meets its contract: the register's 24 bits are the residue exactly where the check is right. Assumes nothing.
use Rattle.std.proofs.Common.{◌∙◌, ◌%◌, ◌^◌}
use native.Mathlib.Nat.{mod-lt}
use lib.Dec.{lit<}
use Rattle.std.proofs.lemmas.Nat.{and_mask}
use Rattle.bits.specs.Bytes.{bits_of}
use Rattle.bits.proofs.Bytes.{low_bits-mod}
use Rattle.cyclic.proofs.Methods.{began}
use Rattle.fixed_polynomials.specs.Polynomials.{degree24}
use Rattle.fixed_polynomials.proofs.Polynomials.{widths}
use Rattle.fixed_polynomials.proofs.Received.{received, residue_24}
use Rattle.fixed_check.proofs.degree24.Fixed24.receives.Goals as goal

pub returns : goal.returns
returns c contents check parts wide =
    let r = c.enter-after.result.register in
    rw (and_mask r 24)
    (received 24 degree24 widths.degree_24 c.new.result.register (r % 2 ^ 24) 0x95fc3c (bits_of c.args.block.now) contents check (mod-lt r (lit< tt)) (lit< tt) (began c.new.ensures)
    (low_bits-mod 24 r ∙ c.enter-after.ensures) residue_24 parts wide)
