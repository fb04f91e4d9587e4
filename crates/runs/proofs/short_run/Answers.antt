-- `short_run` meets its contract: the place that the library finds is the first that fails. Assumes nothing.
use Rattle.std.proofs.Common.{rules, ◌≡◌, true, false}
use Rattle.std.proofs.lemmas.Iterator.{IsFirst-from_position, YieldsList-from_slice}
use borrow.Author.Tests.{tests}
use Rattle.runs.proofs.Runs.{first_at}
use Rattle.runs.proofs.short_run.Goals as goal

pub returns : goal.returns
returns g c =
    let test = g.T.ByteTest.passing c.args.test in
    rw c.unwrap_or.ensures
    (first_at test c.args.part.now c.position.result
    (IsFirst-from_position _ _ c.position.result (λ b. test b ≡ false) (λ b. test b ≡ true) c.position.ensures.ran (YieldsList-from_slice c.args.part.now cc) (λ x q k. search (rules, tests)) (λ x q k. search (rules, tests))))
