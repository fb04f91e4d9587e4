-- `enter_run` meets its contract: a register that holds the same bits is the same number. Assumes nothing.
use borrow.Author.Rules.{rules}
use Rattle.generator16.proofs.Registers.{is_register}
use Rattle.generator16.proofs.enter_run.Goals as goal

pub returns : goal.returns
returns g c =
    let a = c.args in
    let l = g.met.G.Generator16 in
    is_register g.G.Generator.generator l.width l.bits_of_number a.start a.run.now c.enter_content.result (search rules) (search rules) c.enter_content.ensures
