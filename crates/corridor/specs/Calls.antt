-- What the C calls answer, by the rules of blocks, frames, numbers, the sender, interleaving, replay, joined checks and fixed blocks.
-- Assumes nothing.
use Rattle.std.specs.Prelude.{ℕ, List, [], ◌∷◌, length, replicate, Option, Some, None}
use Rattle.bits.specs.Bytes.{low_bits}
use Rattle.bits.specs.Calls as rule
use Rattle.block.specs.Answers as block
use Rattle.frame.specs.Answers as frame
use Rattle.number.specs.Number.{Outcome, receiving}
use Rattle.sender.specs.declared.Station.{Station}
use Rattle.sender.specs.Sender as sender
use Rattle.sender.specs.Sending as sending
use Rattle.interleave.specs.Calls.{Verdict, clear, no}
use Rattle.interleave.specs.Calls as interleaving
use Rattle.replay.specs.declared.PanelReading.{PanelReading}
use Rattle.replay.specs.declared.ServiceReading.{ServiceReading}
use Rattle.replay.specs.Replay.{Answer, reading, refused, panel_call, service_call}
use Rattle.answers.specs.declared.ValueNumbers.{ValueNumbers}
use Rattle.answers.specs.declared.VerdictNumbers.{VerdictNumbers}
use Rattle.answers.specs.Numbers.{read_numbers, written_numbers, frame_numbers, verdict_numbers}
use Rattle.sender_answers.specs.Numbers.{sender_numbers}
use Rattle.cyclic.specs.Check.{Parameters}
use Rattle.joining.specs.Joining.{join}
use Rattle.join_answers.specs.Numbers.{join_numbers}
use Rattle.fixed_block.specs.declared.Polynomial.{Polynomial}
use Rattle.fixed_block.specs.Block as fixed
use Rattle.fixed_answers.specs.Numbers.{fixed_numbers}
use Rattle.block.specs.declared.Link.{Link}
use Rattle.frame.specs.declared.FrameMethod.{FrameMethod}
use Rattle.codes.specs.declared.Format.{Format}
use Rattle.orders.specs.declared.CyclicMethod.{CyclicMethod}
use Rattle.receiver.specs.declared.Receiver.{Receiver}
use Rattle.receiver.specs.Receiver as receiver
use Rattle.receiver.specs.Answers as receiving_station
use Rattle.receiver_answers.specs.Numbers.{order_number, told_numbers}
use Rattle.codes.specs.Codes.{link_of, format_of, frame_method_of, polynomial_of, cyclic_method_of}

-- the number that a call returns, and the answer and the output afterwards
pub record Call : Type 0 where
  pub number : ℕ
  pub answer : List ℕ
  pub output : List ℕ

abbrev pub called : ℕ → List ℕ → List ℕ → Call
called number answer output = record { number = number; answer = answer; output = output }

-- a code outside its list: 1, an answer of zeros, and the output as it was
abbrev pub unknown_code : ℕ → List ℕ → Call
unknown_code places out = called 1 (replicate places 0) out

-- an answer with one value
abbrev pub value_call : ValueNumbers → List ℕ → Call
value_call numbers output = called numbers.number (numbers.value ∷ []) output

-- ---- blocks

abbrev pub after_reading_block : rule.Call block.Numbers → Call
after_reading_block c = called (read_numbers c.answer).number (read_numbers c.answer).values c.output

abbrev pub read_block_by : Option Link → List ℕ → List ℕ → Call
read_block_by None line out = unknown_code 5 out
read_block_by (Some l) line out = after_reading_block (block.read_call l.code l.method l.parity line out)

-- of `method`, `parity`, `code`, the line and the output
abbrev pub read_block_call : ℕ → ℕ → ℕ → List ℕ → List ℕ → Call
read_block_call m p c line out = read_block_by (link_of m p c) line out

abbrev pub after_writing_block : rule.Call block.Numbers → Call
after_writing_block c = value_call (written_numbers c.answer) c.output

abbrev pub write_block_by : Option Link → Option Format → List ℕ → List ℕ → List ℕ → Call
write_block_by None f header text out = unknown_code 1 out
write_block_by (Some l) None header text out = unknown_code 1 out
write_block_by (Some l) (Some f) header text out = after_writing_block (block.write_call l.code l.method l.parity f.shape f.end header text out)

-- of `method`, `parity`, `code`, `shape`, `end_sign`, header, text and the output
abbrev pub write_block_call : ℕ → ℕ → ℕ → ℕ → ℕ → List ℕ → List ℕ → List ℕ → Call
write_block_call m p c s e header text out = write_block_by (link_of m p c) (format_of s e) header text out

-- ---- frames

abbrev pub frame_call : rule.Call frame.Numbers → Call
frame_call c = value_call (frame_numbers c.answer) c.output

abbrev pub read_frame_by : Option FrameMethod → ℕ → List ℕ → List ℕ → Call
read_frame_by None bits lent out = unknown_code 1 out
read_frame_by (Some m) bits lent out = frame_call (frame.read_call m bits lent out)

-- of `method`, the told bits, the bytes lent and the output
abbrev pub read_frame_call : ℕ → ℕ → List ℕ → List ℕ → Call
read_frame_call m bits lent out = read_frame_by (frame_method_of m) bits lent out

abbrev pub write_frame_by : Option FrameMethod → ℕ → List ℕ → List ℕ → Call
write_frame_by None bits lent out = unknown_code 1 out
write_frame_by (Some m) bits lent out = frame_call (frame.write_call m bits lent out)

-- of `method`, the claimed bits, the bytes lent and the output
abbrev pub write_frame_call : ℕ → ℕ → List ℕ → List ℕ → Call
write_frame_call m bits lent out = write_frame_by (frame_method_of m) bits lent out

-- ---- numbers

-- the verdict and the awaited number after it; no output is lent
abbrev pub received_by : VerdictNumbers → ℕ → Call
received_by numbers c = called numbers.number (numbers.verdict ∷ c ∷ []) []

abbrev pub after_receiving : Outcome → Call
after_receiving o = received_by (verdict_numbers o.verdict) o.c

-- of n, w, c and the received number
abbrev pub receive_call : ℕ → ℕ → ℕ → ℕ → Call
receive_call n w c number = after_receiving (receiving n w c number)

-- ---- the sender

-- the number that a call returns, its value, and record and store afterwards
pub record StationCall : Type 0 where
  pub number : ℕ
  pub value : ℕ
  pub station : Station
  pub store : List ℕ

abbrev pub station_called : ℕ → ℕ → Station → List ℕ → StationCall
station_called number value station store = record { number = number; value = value; station = station; store = store }

abbrev pub after_sending : sender.Outcome → List ℕ → StationCall
after_sending o store = station_called (sender_numbers o.answer).number (sender_numbers o.answer).value o.station store

abbrev pub after_submitting : rule.Call sender.Outcome → StationCall
after_submitting c = after_sending c.answer c.output

-- of n, w, the record, the store and the block
abbrev pub submit_call : ℕ → ℕ → Station → List ℕ → List ℕ → StationCall
submit_call n w station store block = after_submitting (sender.submit_call n w station store block)

-- of n, w, the record, the store and the named number
abbrev pub acknowledge_call : ℕ → ℕ → Station → List ℕ → ℕ → StationCall
acknowledge_call n w station store number = after_sending (sender.acknowledging n w station (length store) number) store

-- ---- interleaving

abbrev pub verdict_number : Verdict → ℕ
verdict_number clear = 0
verdict_number (no number) = number

-- no value goes with the number
abbrev pub after_interleaving : rule.Call Verdict → Call
after_interleaving c = called (verdict_number c.answer) [] c.output

-- of d, the text and the output
abbrev pub interleave_call : ℕ → List ℕ → List ℕ → Call
interleave_call d text out = after_interleaving (interleaving.interleave_call d text out)

-- of d, the line and the output
abbrev pub deinterleave_call : ℕ → List ℕ → List ℕ → Call
deinterleave_call d line out = after_interleaving (interleaving.deinterleave_call d line out)

-- ---- replay

-- the number that a call returns, its value, and record, awaited number, notes and store afterwards
pub record ReplayCall : Type 0 where
  pub number : ℕ
  pub value : ℕ
  pub station : Station
  pub c : ℕ
  pub notes : List ℕ
  pub store : List ℕ

abbrev pub replay_called : ℕ → ℕ → Station → ℕ → List ℕ → List ℕ → ReplayCall
replay_called number value station c notes store =
    record { number = number; value = value; station = station; c = c; notes = notes; store = store }

-- after a refusal record and c are as they were; the panel's reader is lent no notes
abbrev pub panel_by : Answer PanelReading → Station → ℕ → List ℕ → ReplayCall
panel_by (reading r) station c store = replay_called 0 0 r.station r.c [] store
panel_by (refused number value) station c store = replay_called number value station c [] store

abbrev pub after_panel : rule.Call (Answer PanelReading) → Station → ℕ → ReplayCall
after_panel call station c = panel_by call.answer station c call.output

-- of n, w, the trace, the store, and record and c as they were lent
abbrev pub replay_panel_call : ℕ → ℕ → List ℕ → List ℕ → Station → ℕ → ReplayCall
replay_panel_call n w trace store station c = after_panel (panel_call n w trace store) station c

-- the notes too
abbrev pub service_by : Answer ServiceReading → Station → ℕ → List ℕ → List ℕ → ReplayCall
service_by (reading r) station c notes store = replay_called 0 0 r.station r.c r.notes store
service_by (refused number value) station c notes store = replay_called number value station c notes store

abbrev pub after_service : rule.Call (Answer ServiceReading) → Station → ℕ → List ℕ → ReplayCall
after_service call station c notes = service_by call.answer station c notes call.output

abbrev pub replay_service_call : ℕ → ℕ → List ℕ → List ℕ → Station → ℕ → List ℕ → ReplayCall
replay_service_call n w trace store station c notes = after_service (service_call n w trace store) station c notes

-- ---- joined checks

-- of a method of w bits, both checks and both lengths; no output is lent
abbrev pub join_call : Parameters → ℕ → ℕ → ℕ → ℕ → ℕ → Call
join_call m w first j second k = value_call (join_numbers (join m (low_bits w first) j (low_bits w second) k)) []

-- ---- fixed blocks

abbrev pub fixed_call : rule.Call fixed.Answer → Call
fixed_call c = value_call (fixed_numbers c.answer) c.output

abbrev pub write_fixed_by : Option Polynomial → List ℕ → List ℕ → Call
write_fixed_by None content out = unknown_code 1 out
write_fixed_by (Some p) content out = fixed_call (fixed.write_call p content out)

-- of `degree`, the content and the output
abbrev pub write_fixed_call : ℕ → List ℕ → List ℕ → Call
write_fixed_call d content out = write_fixed_by (polynomial_of d) content out

abbrev pub read_fixed_by : Option Polynomial → List ℕ → List ℕ → Call
read_fixed_by None block out = unknown_code 1 out
read_fixed_by (Some p) block out = fixed_call (fixed.read_call p block out)

-- of `degree`, the block and the output
abbrev pub read_fixed_call : ℕ → List ℕ → List ℕ → Call
read_fixed_call d block out = read_fixed_by (polynomial_of d) block out

-- ---- orders of another method

abbrev pub order_by : Option CyclicMethod → ℕ → ℕ → Station → StationCall
order_by None n w station = station_called 1 0 station []
order_by (Some m) n w station = after_sending (sender.ordering n w station m) []

-- of n, w, the record and `method`; no store is lent
abbrev pub order_call : ℕ → ℕ → Station → ℕ → StationCall
order_call n w station method = order_by (cyclic_method_of method) n w station

-- of n, w, the record, the store, the named number and the output
abbrev pub send_call : ℕ → ℕ → Station → List ℕ → ℕ → List ℕ → Call
send_call n w station store number out = after_writing_block (sending.send_call n w station store number out)

-- the number that a call returns, its answer, and record and output afterwards
pub record ReceiverCall : Type 0 where
  pub number : ℕ
  pub answer : List ℕ
  pub receiver : Receiver
  pub output : List ℕ

abbrev pub receiver_called : ℕ → List ℕ → Receiver → List ℕ → ReceiverCall
receiver_called number answer r output = record { number = number; answer = answer; receiver = r; output = output }

abbrev pub after_telling_order : receiver.Outcome receiver.OrderAnswer → ReceiverCall
after_telling_order o = receiver_called (order_number o.answer) [] o.receiver []

abbrev pub tell_order_by : Option CyclicMethod → Receiver → ℕ → ReceiverCall
tell_order_by None r number = receiver_called 1 [] r []
tell_order_by (Some m) r number = after_telling_order (receiver.telling_order r number m)

-- of the record, the order's number and `method`; no output is lent
abbrev pub tell_order_call : Receiver → ℕ → ℕ → ReceiverCall
tell_order_call r number method = tell_order_by (cyclic_method_of method) r number

abbrev pub after_telling_block : rule.Call (receiver.Outcome receiving_station.TellNumbers) → ReceiverCall
after_telling_block c =
    receiver_called (told_numbers c.answer.answer).number (told_numbers c.answer.answer).values c.answer.receiver c.output

-- of the record, the block's number, the line and the output
abbrev pub tell_block_call : Receiver → ℕ → List ℕ → List ℕ → ReceiverCall
tell_block_call r number line out = after_telling_block (receiving_station.block_call r number line out)
