-- `sixteens_passed` meets its contract: each sixteen ahead of the place that the library finds passes. Assumes nothing.
use Rattle.std.proofs.Common.{rules}
use Rattle.std.proofs.lemmas.Iterator.{IsFirst-from_position, YieldsList-from_slice}
use borrow.Author.Tests.{tests}
use Rattle.std.specs.Bool.{⊤}
use Rattle.block.specs.Scan.{AllPass}
use Rattle.runs.proofs.Runs.{sixteens_at}
use Rattle.runs.proofs.sixteens_passed.Goals as goal

pub returns : goal.returns
returns g c =
    let test = g.T.ByteTest.passing c.args.test in
    let e = c.as_chunks.ensures in
    rw c.unwrap_or.ensures
    (sixteens_at test c.args.part.now c.position.result e.front e.front_len
    (IsFirst-from_position _ _ c.position.result (λ s. ⊤) (λ s. AllPass test s 0 16) c.position.ensures.ran (YieldsList-from_slice c.as_chunks.result.0.now cc) (λ x q k. search (rules, tests)) (λ x q k. search (rules, tests))))
