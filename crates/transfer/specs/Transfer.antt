-- A fresh sender and a fresh receiver of one n and w. The receiver gets each order that was not refused and each sent line at once and
-- unaltered, with output enough, and only taken blocks are acknowledged (document 02, card 14). Assumes nothing.
use Rattle.std.specs.Prelude.{◌≡◌, ℕ, ◌+◌, ◌%◌, ◌^◌, ◌<◌, ◌≤◌, List, [], ◌∷◌, ◌++◌, map, length, get_or, take, drop, Result, Ok, Err}
use Rattle.bits.specs.Calls.{called}
use Rattle.number.specs.Number.{new}
use Rattle.block.specs.declared.Block as block
use Rattle.block.specs.declared.Shape.TheVariants.{ClearText}
use Rattle.block.specs.declared.EndSign.TheVariants.{Etx}
use Rattle.orders.specs.declared.CyclicMethod.{CyclicMethod}
use Rattle.sender.specs.declared.SenderRefusal.{SenderRefusal}
use Rattle.sender.specs.declared.SenderResult.{SenderResult}
use Rattle.sender.specs.Ring.{bytes_at, submitted_after}
use Rattle.sender.specs.Sender.{submit_call, acknowledging, ordering}
use Rattle.sender.specs.Sending.{send_call}
use Rattle.sender.specs.Answers.{outcome_of, sent_of}
use Rattle.sender.specs.History as history
use Rattle.sender.specs.History.{Block, History, after_submission, after_acknowledgement, after_order, no_block, Kept}
use Rattle.receiver.specs.declared.Receiver.{Receiver}
use Rattle.receiver.specs.declared.OrderResult.{OrderResult}
use Rattle.receiver.specs.declared.Told.{Told}
use Rattle.receiver.specs.declared.Told.TheVariants.{New, Repeat, Lost}
use Rattle.receiver.specs.declared.BlockRefusal.{BlockRefusal}
use Rattle.receiver.specs.declared.BlockResult.{BlockResult}
use Rattle.receiver.specs.Receiver as receiver
use Rattle.receiver.specs.Receiver.{verdict_on, telling_order}
use Rattle.receiver.specs.Answers.{order_outcome, block_outcome, block_call}

-- what the sender did, the receiver's record, and the bytes of each block taken, in order
pub record System : Type 0 where
  pub history : History
  pub receiver : Receiver
  pub received : List (List ℕ)

abbrev pub begin : ℕ → ℕ → List ℕ → System
begin n w store = record { history = history.begin store; receiver = receiver.fresh n w; received = [] }

-- the bytes of the stored block with this number
abbrev pub named : ℕ → ℕ → History → ℕ → List ℕ
named n w h number = bytes_at w h.station h.store (submitted_after n h.station number)

-- of an answer and the output that the call left: what was taken stands at its start
abbrev pub received_after : Result Told BlockRefusal → List ℕ → List (List ℕ) → List (List ℕ)
received_after (Ok (New b)) output received = received ++ (take (b.header + b.text) output ∷ [])
received_after (Ok Repeat) output received = received
received_after (Ok Lost) output received = received
received_after (Err r) output received = received

-- what holds of `send`: its result by its contract, of a line of `len` bytes
pub record Sent (n w : ℕ) (h : History) (number len : ℕ) (line : List ℕ) : Type 0 where
  pub result : Result ℕ SenderRefusal
  pub output : List ℕ
  pub after : List ℕ
  pub meets : called (sent_of result) after ≡ send_call n w h.station h.store number output
  pub written : result ≡ Ok len
  pub line_is : line ≡ take len after

-- steps with results as the contracts of the calls promise them, each from the records and the store that the step before left
pub data Steps (n w : ℕ) : System → System → Type 0 where
  none : {s : System} → Steps n w s s
  submit : {s s' : System} (bytes : List ℕ) (r : SenderResult) (after : List ℕ)
      → called (outcome_of r) after ≡ submit_call n w s.history.station s.history.store bytes
      → Steps n w (record s { history = after_submission s.history bytes r after }) s' → Steps n w s s'
  -- only taken blocks are acknowledged
  acknowledge : {s s' : System} (number : ℕ) (r : SenderResult)
      → outcome_of r ≡ acknowledging n w s.history.station (length s.history.store) number
      → (after_acknowledgement s.history r).freed ≤ length s.received
      → Steps n w (record s { history = after_acknowledgement s.history r }) s' → Steps n w s s'
  order_refused : {s s' : System} (m : CyclicMethod) (r : SenderResult) (x : SenderRefusal) → outcome_of r ≡ ordering n w s.history.station m
      → r.answer ≡ Err x → Steps n w (record s { history = after_order s.history m r }) s' → Steps n w s s'
  -- the receiver is told an order that was not refused at once, with its number
  order_told : {s s' : System} (m : CyclicMethod) (r : SenderResult) (number : ℕ) (t : OrderResult)
      → outcome_of r ≡ ordering n w s.history.station m → r.answer ≡ Ok number
      → order_outcome t ≡ telling_order s.receiver number m
      → Steps n w (record s { history = after_order s.history m r; receiver = t.after }) s' → Steps n w s s'
  -- and a sent line at once and unaltered, beside its block's number, with output enough
  line_told : {s s' : System} (number len : ℕ) (line : List ℕ) (t : BlockResult) (out after : List ℕ)
      → Sent n w s.history number len line → length (named n w s.history number) ≤ length out
      → called (block_outcome t) after ≡ block_call s.receiver number line out
      → Steps n w (record s { receiver = t.after; received = received_after t.answer after s.received }) s' → Steps n w s s'

-- ---- what holds after every list of steps

abbrev pub bytes_of_block : Block → List ℕ
bytes_of_block b = b.bytes

-- the first block that was submitted, not refused and not yet taken
abbrev pub awaited : System → Block
awaited s = get_or s.history.accepted (length s.received) no_block

-- a block of clear text with ETX, as its answer tells it
abbrev pub clear_block : List ℕ → block.Block
clear_block bytes = record { shape = ClearText; end = Etx; header = 0; text = length bytes; counted = length bytes + 1 }

pub record Delivers (n w : ℕ) (s : System) : Type 0 where
  -- what the sender promises alone
  pub kept : Kept n w s.history
  -- the blocks taken are the first of those submitted and not refused, in order, byte for byte
  pub in_order : s.received ≡ map bytes_of_block (take (length s.received) s.history.accepted)
  -- a sent line whose number is new is that of the awaited block, and is taken with the bytes submitted
  pub new_taken : (number len : ℕ) (line : List ℕ) (t : BlockResult) (out after : List ℕ) → Sent n w s.history number len line
      → length (named n w s.history number) ≤ length out → called (block_outcome t) after ≡ block_call s.receiver number line out
      → verdict_on s.receiver number ≡ new
      → (number ≡ (awaited s).number) × (t.answer ≡ Ok (New (clear_block (awaited s).bytes)))
      × (after ≡ (awaited s).bytes ++ drop (length (awaited s).bytes) out)
  -- and the awaited block's number is new
  pub awaited_new : length s.received < length s.history.accepted → verdict_on s.receiver (awaited s).number ≡ new
  -- no order that the sender took is refused by the receiver
  pub order_noted : (m : CyclicMethod) (r : SenderResult) (number : ℕ) (t : OrderResult) → outcome_of r ≡ ordering n w s.history.station m
      → r.answer ≡ Ok number → order_outcome t ≡ telling_order s.receiver number m → t.answer ≡ Ok tt

-- ---- and there are such steps

-- an order, which the sender refuses or the receiver is told
pub data OrderMade (n w : ℕ) (s : System) (m : CyclicMethod) : Type 0 where
  refused : (r : SenderResult) (x : SenderRefusal) → outcome_of r ≡ ordering n w s.history.station m → r.answer ≡ Err x → OrderMade n w s m
  told : (r : SenderResult) (number : ℕ) (t : OrderResult) → outcome_of r ≡ ordering n w s.history.station m → r.answer ≡ Ok number
      → order_outcome t ≡ telling_order s.receiver number m → OrderMade n w s m

-- a line sent and told, of an output of the receiver
pub record LineMade (n w : ℕ) (s : System) (number : ℕ) (out : List ℕ) : Type 0 where
  pub len : ℕ
  pub line : List ℕ
  pub sent : Sent n w s.history number len line
  pub enough : length (named n w s.history number) ≤ length out
  pub told : BlockResult
  pub after : List ℕ
  pub meets : called (block_outcome told) after ≡ block_call s.receiver number line out

-- every order can be given, and every stored block can be sent and told, into an output of the sender of 8,196 bytes and one of the
-- receiver of 4,095
pub record GoesOn (n w : ℕ) (s : System) : Type 0 where
  pub orders : (m : CyclicMethod) → OrderMade n w s m
  pub lines : (i : ℕ) (output out : List ℕ) → s.history.freed ≤ i → i < length s.history.accepted → 8196 ≤ length output → 4095 ≤ length out
      → LineMade n w s (i % 2 ^ n) out

abbrev pub EveryStepCanBeMade : Type 0
EveryStepCanBeMade = (n w : ℕ) (store : List ℕ) (s : System) → Steps n w (begin n w store) s → GoesOn n w s

-- ---- whatever is done

abbrev pub EveryNewBlockIsTaken : Type 0
EveryNewBlockIsTaken = (n w : ℕ) (store : List ℕ) (s : System) → Steps n w (begin n w store) s → Delivers n w s
