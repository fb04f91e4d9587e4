-- `last_notes` meets its contract. Assumes nothing.
use Rattle.std.proofs.Common.{◌≡◌, ◌-◌, length, drop, ap, ◌∙◌, arith, lt-ltb, le-ltb, length-drop}
use Rattle.std.proofs.lemmas.List.{take_all}
use Rattle.replay.specs.Replay.{last_notes, last_record}
use Rattle.replay.proofs.records.last_notes.Goals as goal

pub returns-in-Some : goal.returns-in-Some
unfolding last_notes
returns-in-Some c =
    let trace = c.args.trace.now in
    let bytes = c.in-Some.bytes.now in
    let s = c.in-Some.ensures.cases in
    let e : bytes ≡ last_record trace = s.1 in
    let l : length bytes ≡ length trace - (length trace - 16) = ap length e ∙ length-drop (length trace - 16) trace in
    let m : length (drop 4 bytes) ≡ length bytes - 4 = length-drop 4 bytes in
    rw (le-ltb (length trace) 16 (omega (arith, s.2)))
    (c.copy_from_slice.ensures.after ∙ take_all 12 (drop 4 bytes) (omega arith) ∙ ap (drop 4) e)

pub returns-in_default : goal.returns-in_default
unfolding last_notes
returns-in_default c = rw (lt-ltb (length c.args.trace.now) 16 c.in_default.ensures.cases)
