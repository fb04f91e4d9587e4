-- The receiver's calls: it is told an order with its number, or a block's number beside its line (document 02, card 14). Assumes nothing.
use Rattle.std.specs.Prelude.{ℕ, ◌+◌, ◌%◌, ◌^◌, Bool, cond, not, ◌&&◌, ◌||◌, ◌==◌, nat_lt, List}
use Rattle.number.specs.Number as number
use Rattle.number.specs.Number.{Verdict, within, verdict_for}
use Rattle.block.specs.declared.Link.{Link}
use Rattle.block.specs.Signs.{table_of}
use Rattle.block.specs.Read as reads
use Rattle.block.specs.Read.{Parts, ReadAnswer, read_block, read_output}
use Rattle.orders.specs.declared.CyclicMethod.{CyclicMethod}
use Rattle.orders.specs.Methods.{is_method, byte_of, link_of}
use Rattle.receiver.specs.declared.Receiver.{Receiver}

-- of n and w: c = 0 and method 4
abbrev pub fresh : ℕ → ℕ → Receiver
fresh n w = record { n = n; w = w; c = 0; method = 0; waiting = 0; number = 0 }

-- ---- questions

-- two bytes that keep methods; and an order that waits does not wait for c or for a number not below the modulus
unfoldable pub record_right : Receiver → Bool
record_right r =
    is_method r.method && is_method r.waiting && (r.waiting == 0 || (nat_lt r.number (2 ^ r.n) && not (r.number == r.c)))

-- n from 1 to 7? 41. The record right? 51. Then the number check and its questions: 41, 51, 42, 43
unfoldable pub verdict_on : Receiver → ℕ → Verdict
verdict_on r b = number.ask (within 1 7 r.n) 41 (number.ask (record_right r) 51 (verdict_for r.n r.w r.c b))

-- ---- the method changes once c is the order's number

-- an order of the method `waiting` from `number` on, 0 for none, where c is awaited
abbrev pub is_due : ℕ → ℕ → ℕ → Bool
is_due c waiting number = not (waiting == 0) && number == c

abbrev pub awaiting : Receiver → ℕ → ℕ → ℕ → Receiver
awaiting r c waiting number =
    cond (is_due c waiting number)
    (record r { c = c; method = waiting; waiting = 0; number = 0 })
    (record r { c = c; waiting = waiting; number = number })

-- an answer, and the record afterwards
pub record Outcome (Answer : Type 0) : Type 0 where
  pub answer : Answer
  pub receiver : Receiver

-- ---- an order is told

-- noted, or the number of a refusal
pub data OrderAnswer : Type 0 where
  noted : OrderAnswer
  not_noted : ℕ → OrderAnswer

-- does no order wait? 67
abbrev pub noting : Receiver → ℕ → CyclicMethod → Outcome OrderAnswer
noting r k m =
    cond (r.waiting == 0)
    (record { answer = noted; receiver = awaiting r r.c (byte_of m) k })
    (record { answer = not_noted 67; receiver = r })

abbrev pub on_order : Receiver → ℕ → CyclicMethod → Verdict → Outcome OrderAnswer
on_order r k m number.new = noting r k m
on_order r k m number.repeat = noting r k m
on_order r k m number.lost = noting r k m
on_order r k m (number.refused q) = record { answer = not_noted q; receiver = r }

unfoldable pub telling_order : Receiver → ℕ → CyclicMethod → Outcome OrderAnswer
telling_order r k m = on_order r k m (verdict_on r k)

-- ---- a block's number is told beside its line

pub data BlockAnswer : Type 0 where
  taken : Parts → BlockAnswer
  repeated : BlockAnswer
  lost : BlockAnswer
  refused : ℕ → ℕ → BlockAnswer

-- c moves on by 1 where the line is taken; a refused line leaves the record
abbrev pub on_line : Receiver → ReadAnswer → Outcome BlockAnswer
on_line r (reads.taken parts) = record { answer = taken parts; receiver = awaiting r ((r.c + 1) % 2 ^ r.n) r.waiting r.number }
on_line r (reads.refusal q value) = record { answer = refused q value; receiver = r }

-- under a link, a line is read into an output of `room` bytes
abbrev pub read_under : Link → List ℕ → ℕ → ReadAnswer
read_under l line room = read_block (table_of l.code) l.method l.parity line room

abbrev pub reading_line : Receiver → List ℕ → ℕ → Outcome BlockAnswer
reading_line r line room = on_line r (read_under (link_of r.method) line room)

-- only what the number check calls new is read
abbrev pub on_block : Receiver → List ℕ → ℕ → Verdict → Outcome BlockAnswer
on_block r line room number.new = reading_line r line room
on_block r line room number.repeat = record { answer = repeated; receiver = r }
on_block r line room number.lost = record { answer = lost; receiver = r }
on_block r line room (number.refused q) = record { answer = refused q 0; receiver = r }

unfoldable pub telling_block : Receiver → ℕ → List ℕ → ℕ → Outcome BlockAnswer
telling_block r b line room = on_block r line room (verdict_on r b)

-- the output afterwards, as `read_block` leaves it
abbrev pub output_after : BlockAnswer → List ℕ → List ℕ
output_after (taken parts) out = read_output (reads.taken parts) out
output_after repeated out = out
output_after lost out = out
output_after (refused q value) out = out
