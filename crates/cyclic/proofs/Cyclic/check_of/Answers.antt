-- `Cyclic::check_of` meets its contract: a register that began at the method's start holds its formula. Assumes nothing.
use Rattle.bits.specs.Bytes.{bits_of}
use Rattle.cyclic.proofs.Methods.{holds_check}
use Rattle.cyclic.proofs.Cyclic.check_of.Goals as goal

pub returns : goal.returns
returns g c =
    let m = g.Self.Cyclic in
    holds_check m.width m.method g.met.Self.Cyclic.of_width (bits_of c.args.content.now) (m.register_bits c.new.result) (m.register_bits c.enter.result) (m.number_bits c.check.result)
    c.new.ensures c.enter.ensures c.check.ensures
