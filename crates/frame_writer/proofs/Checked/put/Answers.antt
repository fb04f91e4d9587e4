-- `put` meets its contract: a flag, content and check, and a flag, put one after the other. Assumes nothing.
use mathlib.Core.Path.{refl, sym, ap, ap₂, ◌∙◌}
use native.Mathlib.Omega.{arith}
use mathlib.Core.List.{[], ◌++◌, append-nil}
use lib.ListN.{set, length-set}
use Rattle.bits.specs.Calls.{called}
use Rattle.frame.specs.Write.{write_output}
use Rattle.frame.specs.Answers.{frame}
use Rattle.frame_writer.specs.Steps.{checked}
use Rattle.frame_writer.proofs.Writers.{put_begin, room}
use Rattle.frame_writer.proofs.Written.{body, last, tail, parts, opened-length, length-enclose, put_enclosed, body_put, last_put, all_put, counted, closed, frame_le}
use Rattle.frame_writer.proofs.Checked.put.Goals as goal

pub bounds-out-0 : goal.bounds-out-0
bounds-out-0 c = omega (arith, c.requires, length-enclose (checked c.args.self))

pub put_bytes-body-requires : goal.put_bytes-body-requires
put_bytes-body-requires c =
    let f = c.args.self in
    let out = c.args.out.now in
    room (body f) (last f ++ tail f) (put_begin (set out 0 0x7E) c.open.result (checked f)) (parts f)
    (omega (arith, c.requires, length-set out 0 0x7E, opened-length c.open.ensures.0 (checked f)))

pub put_last-rest-requires : goal.put_last-rest-requires
put_last-rest-requires c =
    let p = c.put_bytes-body in
    let f = c.args.self in
    let out = c.args.out.now in (
      f.content.bits_few,
      room (last f) (tail f) (body_put f p.ensures p.auto.out) refl
          (omega (arith, c.requires, length-set out 0 0x7E, opened-length c.open.ensures.0 (checked f))),
    )

pub put_bytes-tail-requires : goal.put_bytes-tail-requires
put_bytes-tail-requires c =
    let p = c.put_bytes-body in
    let q = c.put_last-rest in
    let f = c.args.self in
    let out = c.args.out.now in
    room (tail f) [] (last_put f p.ensures p.auto.out q.ensures q.auto.out) (sym (append-nil (tail f)))
    (omega (arith, c.requires, length-set out 0 0x7E, opened-length c.open.ensures.0 (checked f)))

pub put_flag-requires : goal.put_flag-requires
put_flag-requires c =
    let p = c.put_bytes-body in
    let q = c.put_last-rest in
    let r = c.put_bytes-tail in
    let f = c.args.self in
    let k = all_put f p.ensures p.auto.out q.ensures q.auto.out r.ensures r.auto.out in
    omega (arith, c.requires, counted (checked f) c.open.ensures.0 k.counts, r.auto.out, q.auto.out, p.auto.out, length-set c.args.out.now 0 0x7E)

pub bits-requires : goal.bits-requires
bits-requires c =
    let p = c.put_bytes-body in
    let q = c.put_last-rest in
    let r = c.put_bytes-tail in
    let f = c.args.self in
    let k = all_put f p.ensures p.auto.out q.ensures q.auto.out r.ensures r.auto.out in
    omega (arith, f.content.bytes_small, f.check_small, frame_le f, closed (checked f) c.open.ensures.0 k.counts c.put_flag.result c.put_flag.ensures.0)

pub returns : goal.returns
unfolding write_output
returns c =
    let p = c.put_bytes-body in
    let q = c.put_last-rest in
    let r = c.put_bytes-tail in
    let g = c.put_flag in
    let f = c.args.self in
    let k = all_put f p.ensures p.auto.out q.ensures q.auto.out r.ensures r.auto.out in
    ap₂ called (ap frame (c.bits.ensures ∙ closed (checked f) c.open.ensures.0 k.counts g.result g.ensures.0)) (put_enclosed (checked f) c.args.out.now c.open.ensures.0 c.requires k g.ensures.1)
