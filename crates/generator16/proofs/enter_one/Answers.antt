-- `enter_one` meets its contract: a register that holds the same bits is the same number. Assumes nothing.
use mathlib.Core.Path.{sym, ap, ◌∙◌}
use mathlib.Core.List.{[], ◌∷◌}
use borrow.Author.Rules.{rules}
use Rattle.bits.proofs.Bytes.{bits_of_one}
use Rattle.registers.specs.Register.{enter}
use Rattle.generator16.proofs.Registers.{is_register}
use Rattle.generator16.proofs.enter_one.Goals as goal

pub returns : goal.returns
returns g c =
    let a = c.args in
    let m = g.G.Generator in
    let l = g.met.G.Generator16 in
    let bits = ap (enter m.generator (m.register_bits a.start)) (sym (bits_of_one a.byte)) in
    is_register m.generator l.width l.bits_of_number a.start (a.byte ∷ []) c.enter_byte.result (search rules) (search rules) (c.enter_byte.ensures ∙ bits)
