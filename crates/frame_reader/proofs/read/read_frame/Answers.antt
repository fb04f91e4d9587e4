-- `read_frame` meets its contract: a framing, then questions 37 and 38, then the content handed out. Assumes nothing.
use native.Mathlib.Omega.{arith}
use lib.ListN.{length}
use borrow.Author.Tests.{not-true, not-false}
use Rattle.frame.proofs.Sizes.{sizes}
use Rattle.frame_reader.proofs.ReadFrame.{framing_found, no_framing, is_refused, wrong_check, content-bits, output_short, is_taken}
use Rattle.frame_reader.proofs.read.read_frame.Goals as goal

pub returns-in_default : goal.returns-in_default
returns-in_default c =
    let a = c.args in
    is_refused a.out.now (no_framing a.method a.lent.now a.bits c.find_framing-framing.ensures (length a.out.now) c.unwrap_err.ensures)

pub returns-then-not-f : goal.returns-then-not-f
returns-then-not-f c =
    let a = c.args in
    let f = framing_found a.method a.lent.now a.bits c.find_framing-framing.ensures c.in-Ok.is in
    is_refused a.out.now (wrong_check f a.out.now (not-true _ c.if-not-f.true))

pub overflow_sub-content : goal.overflow_sub-content
overflow_sub-content c =
    let a = c.args in
    let f = framing_found a.method a.lent.now a.bits c.find_framing-framing.ensures c.in-Ok.is in
    omega (arith, f.counted, f.has_content)

pub returns-then-needed-out : goal.returns-then-needed-out
returns-then-needed-out c =
    let a = c.args in
    let f = framing_found a.method a.lent.now a.bits c.find_framing-framing.ensures c.in-Ok.is in
    let right = not-false _ c.if-not-f.false in
    is_refused a.out.now (output_short f a.out.now right c.check_width.ensures (omega arith) c.if-needed-out.true)

pub hand_out-requires : goal.hand_out-requires
hand_out-requires c =
    let a = c.args in
    let f = framing_found a.method a.lent.now a.bits c.find_framing-framing.ensures c.in-Ok.is in
    let right = not-false _ c.if-not-f.false in
    let n = content-bits f a.out.now right c.check_width.ensures in
    let w = (sizes a.method).width_large in
    (omega (arith, n, f.has_content), f.end_within, omega (arith, n, f.has_content, w), omega arith)

pub returns : goal.returns
returns c =
    let a = c.args in
    let f = framing_found a.method a.lent.now a.bits c.find_framing-framing.ensures c.in-Ok.is in
    let right = not-false _ c.if-not-f.false in
    is_taken f a.out.now right c.check_width.ensures (omega arith) c.if-needed-out.false c.hand_out.ensures
