-- `ask_parts` meets its contract: at each `return` the questions passed on the way say which answer is the rule's. Assumes nothing.
use mathlib.Core.Path.{sym, ◌∙◌}
use borrow.Author.Tests.{lt-ltb, le-ltb}
use Rattle.block.specs.Signs.{table_of}
use Rattle.block_scan.proofs.Bytes.{plain_free}
use Rattle.block_parts.proofs.Asking as asking
use Rattle.block_parts.proofs.ask_parts.Goals as goal

pub returns-then-seven-clear : goal.returns-then-seven-clear
returns-then-seven-clear c next =
    let a = c.args in
    sym (asking.ask_carried (table_of a.code) a.seven a.parts.now.shape a.parts.now.header.now a.parts.now.text.now next c.is_clear-clear.ensures c.if-seven-clear.true)

pub returns-then-not-parts_fit : goal.returns-then-not-parts_fit
returns-then-not-parts_fit c next =
    let a = c.args in
    sym
    (asking.ask_carried (table_of a.code) a.seven a.parts.now.shape a.parts.now.header.now a.parts.now.text.now next c.is_clear-clear.ensures c.if-seven-clear.false ∙ asking.ask-fit (table_of a.code) a.seven a.parts.now.shape a.parts.now.header.now a.parts.now.text.now next c.parts_fit.ensures c.if-not-parts_fit.true)

pub returns-then-head-header : goal.returns-then-head-header
returns-then-head-header c next =
    let a = c.args in
    sym
    (asking.to_header (table_of a.code) a.seven a.parts.now.shape a.parts.now.header.now a.parts.now.text.now next c.is_clear-clear.ensures c.if-seven-clear.false c.parts_fit.ensures c.if-not-parts_fit.false
    ∙ asking.ask-header (table_of a.code) a.seven a.parts.now.shape a.parts.now.header.now a.parts.now.text.now next (c.plain_run-head.ensures ∙ plain_free (table_of a.code) a.seven 0 a.parts.now.header.now) (lt-ltb _ _ c.if-head-header.true))

pub returns-then-body-text : goal.returns-then-body-text
returns-then-body-text c next =
    let a = c.args in
    sym
    (asking.to_text (table_of a.code) a.seven a.parts.now.shape a.parts.now.header.now a.parts.now.text.now next c.is_clear-clear.ensures c.if-seven-clear.false c.parts_fit.ensures c.if-not-parts_fit.false
    (c.plain_run-head.ensures ∙ plain_free (table_of a.code) a.seven 0 a.parts.now.header.now) (le-ltb _ _ c.if-head-header.false)
    ∙ asking.ask-text (table_of a.code) a.seven a.parts.now.shape a.parts.now.header.now a.parts.now.text.now next c.is_clear-clear.ensures c.text_run-body.ensures
    (lt-ltb _ _ c.if-body-text.true))

pub returns-then-not-count_fits : goal.returns-then-not-count_fits
returns-then-not-count_fits c next =
    let a = c.args in
    sym
    (asking.to_count (table_of a.code) a.seven a.parts.now.shape a.parts.now.header.now a.parts.now.text.now next c.is_clear-clear.ensures c.if-seven-clear.false c.parts_fit.ensures c.if-not-parts_fit.false
    (c.plain_run-head.ensures ∙ plain_free (table_of a.code) a.seven 0 a.parts.now.header.now) (le-ltb _ _ c.if-head-header.false) c.text_run-body.ensures (le-ltb _ _ c.if-body-text.false)
    ∙ asking.ask-count (table_of a.code) a.seven a.parts.now.shape a.parts.now.header.now a.parts.now.text.now next (c.count_fits.ensures a.code) c.if-not-count_fits.true)

pub returns : goal.returns
returns c next =
    let a = c.args in
    sym
    (asking.to_count (table_of a.code) a.seven a.parts.now.shape a.parts.now.header.now a.parts.now.text.now next c.is_clear-clear.ensures c.if-seven-clear.false c.parts_fit.ensures c.if-not-parts_fit.false
    (c.plain_run-head.ensures ∙ plain_free (table_of a.code) a.seven 0 a.parts.now.header.now) (le-ltb _ _ c.if-head-header.false) c.text_run-body.ensures (le-ltb _ _ c.if-body-text.false)
    ∙ asking.ask-count (table_of a.code) a.seven a.parts.now.shape a.parts.now.header.now a.parts.now.text.now next (c.count_fits.ensures a.code) c.if-not-count_fits.false)
