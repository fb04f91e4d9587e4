-- `run` meets its contract: what is left behind the sixteens that pass gives the whole. Assumes nothing.
use Rattle.std.proofs.Common.{◌*◌, arith}
use Rattle.runs.proofs.Runs.{whole}
use Rattle.runs.proofs.run.Goals as goal

pub overflow_add-result : goal.overflow_add-result
overflow_add-result g c =
    let first = c.sixteens_passed-passed in
    omega (arith, (whole (g.T.ByteTest.passing c.args.test) c.args.part.now (16 * first.result) first.ensures.0 first.ensures.1 c.short_run.ensures).1)

pub returns : goal.returns
returns g c =
    let first = c.sixteens_passed-passed in
    (whole (g.T.ByteTest.passing c.args.test) c.args.part.now (16 * first.result) first.ensures.0 first.ensures.1 c.short_run.ensures).0
