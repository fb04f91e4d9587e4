-- `read_framed` meets its contract: questions 18, 54 and 19, then header and text handed out. Assumes nothing.
use native.Mathlib.Omega.{arith}
use Rattle.std.proofs.lemmas.Result.{err_from_is_err_and}
use Rattle.block.specs.Signs.{table_of}
use Rattle.block_reader.proofs.ReadBlock.{ordered, lengths_small, counts_kept, wrong_check, output_short, is_taken}
use Rattle.block_reader.proofs.read.read_framed.Goals as goal

pub invariant_of-framed-clause-ordered : goal.invariant_of-framed-clause-ordered
invariant_of-framed-clause-ordered c =
    let a = c.args in
    ordered (table_of a.link.code) a.link.method a.link.parity a.line.now a.f c.requires

pub invariant_of-framed-clause-counts_kept : goal.invariant_of-framed-clause-counts_kept
invariant_of-framed-clause-counts_kept c =
    let a = c.args in
    counts_kept (table_of a.link.code) a.link.method a.link.parity a.line.now a.f c.requires

pub returns-in_err-ask_check : goal.returns-in_err-ask_check
returns-in_err-ask_check c =
    let a = c.args in
    let p = err_from_is_err_and c.from_residual.result c.from_residual.ensures.1 in
    rw (p.1, p.2)
    (wrong_check (table_of a.link.code) a.link.method a.link.parity a.line.now a.f c.requires a.out.now c.ask_check.result c.ask_check.ensures c.in_err-ask_check.was)

pub overflow_add-needed : goal.overflow_add-needed
overflow_add-needed c =
    let a = c.args in
    let small = lengths_small (table_of a.link.code) a.link.method a.link.parity a.line.now a.f c.requires in
    omega (arith, small.0, small.1)

pub returns-then-needed-out : goal.returns-then-needed-out
returns-then-needed-out c =
    let a = c.args in
    output_short (table_of a.link.code) a.link.method a.link.parity a.line.now a.f c.requires a.out.now c.ask_check.result c.ask_check.ensures c.in_ok-ask_check.was c.if-needed-out.true

pub returns : goal.returns
returns c =
    let a = c.args in
    is_taken (table_of a.link.code) a.link.method a.link.parity a.line.now a.f c.requires a.out.now c.ask_check.result c.ask_check.ensures c.in_ok-ask_check.was c.if-needed-out.false c.held-block.ensures c.hand_out.ensures
