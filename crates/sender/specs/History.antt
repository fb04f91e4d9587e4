-- Lists of submissions, acknowledgements and orders from a fresh station, n and w the same throughout, record and store not altered
-- between them (document 02, cards 6 and 14). Assumes nothing.
use Rattle.std.specs.Prelude.{◌≡◌, ℕ, zero, suc, ◌+◌, ◌-◌, ◌*◌, ◌%◌, ◌^◌, ◌<◌, ◌≤◌, List, [], ◌∷◌, ◌++◌, map, length, get_or, take, Result, Ok, Err}
use Rattle.bits.specs.Calls.{called}
use Rattle.block.specs.Answers.{after_writing}
use Rattle.number.specs.History.{in_sequence}
use Rattle.orders.specs.declared.CyclicMethod.{CyclicMethod}
use Rattle.orders.specs.declared.CyclicMethod.TheVariants.{CyclicAlternative}
use Rattle.orders.specs.Methods.{method_of}
use Rattle.sender.specs.declared.Station.{Station}
use Rattle.sender.specs.declared.SenderRefusal.{SenderRefusal}
use Rattle.sender.specs.declared.SenderRefusal.TheVariants.{NotStored}
use Rattle.sender.specs.declared.SenderResult.{SenderResult}
use Rattle.sender.specs.Ring.{back, bytes_at}
use Rattle.sender.specs.Sender as rule
use Rattle.sender.specs.Sender.{submit_call, acknowledging, ordering}
use Rattle.sender.specs.Sending.{method_at, line_by, send_call}
use Rattle.sender.specs.Answers.{outcome_of, sent_of}
use Rattle.sender.specs.Right.{Agreed}

abbrev pub fresh : Station
fresh =
    record {
      next = 0;
      stored = 0;
      cell = 0;
      lengths = 0 ∷ 0 ∷ 0 ∷ 0 ∷ 0 ∷ 0 ∷ 0 ∷ [];
      method = 0;
      former = 0;
      older = 0;
    }

-- a block, the number that it was given and the method of its line
pub record Block : Type 0 where
  pub number : ℕ
  pub method : CyclicMethod
  pub bytes : List ℕ

-- ---- what was done

-- record and store; the method in force; the blocks submitted and not refused, each with the number that was answered and the method in
-- force then; and how many blocks were freed
pub record History : Type 0 where
  pub station : Station
  pub store : List ℕ
  pub in_force : CyclicMethod
  pub accepted : List Block
  pub freed : ℕ

-- a fresh station sends under method 4
abbrev pub begin : List ℕ → History
begin store = record { station = fresh; store = store; in_force = CyclicAlternative; accepted = []; freed = 0 }

abbrev pub accepted_after : Result ℕ SenderRefusal → History → List ℕ → List Block
accepted_after (Ok k) h bytes = h.accepted ++ (record { number = k; method = h.in_force; bytes = bytes } ∷ [])
accepted_after (Err x) h bytes = h.accepted

abbrev pub freed_after : Result ℕ SenderRefusal → ℕ → ℕ
freed_after (Ok count) freed = freed + count
freed_after (Err x) freed = freed

abbrev pub in_force_after : Result ℕ SenderRefusal → CyclicMethod → CyclicMethod → CyclicMethod
in_force_after (Ok k) old new = new
in_force_after (Err x) old new = old

-- of a block, the result of `submit` and the store that it left
abbrev pub after_submission : History → List ℕ → SenderResult → List ℕ → History
after_submission h bytes r store = record h { station = r.after; store = store; accepted = accepted_after r.answer h bytes }

abbrev pub after_acknowledgement : History → SenderResult → History
after_acknowledgement h r = record h { station = r.after; freed = freed_after r.answer h.freed }

abbrev pub after_order : History → CyclicMethod → SenderResult → History
after_order h m r = record h { station = r.after; in_force = in_force_after r.answer h.in_force m }

-- ---- the calls

-- calls of `submit`, `acknowledge` and `order` with results as their contracts promise them, each given the record and the store that the
-- call before left. The contracts of `submit_to` and `acknowledge_to` are the same equations
pub data Calls (n w : ℕ) : History → History → Type 0 where
  none : {h : History} → Calls n w h h
  submit : {h h' : History} (bytes : List ℕ) (r : SenderResult) (after : List ℕ)
      → called (outcome_of r) after ≡ submit_call n w h.station h.store bytes → Calls n w (after_submission h bytes r after) h' → Calls n w h h'
  acknowledge : {h h' : History} (number : ℕ) (r : SenderResult)
      → outcome_of r ≡ acknowledging n w h.station (length h.store) number → Calls n w (after_acknowledgement h r) h' → Calls n w h h'
  order : {h h' : History} (m : CyclicMethod) (r : SenderResult)
      → outcome_of r ≡ ordering n w h.station m → Calls n w (after_order h m r) h' → Calls n w h h'

-- a refused call alters nothing: neither record nor store
pub record AltersNothing : Type 0 where
  pub submitting : (n w : ℕ) (s : Station) (store block after : List ℕ) (r : SenderResult) (x : SenderRefusal)
      → called (outcome_of r) after ≡ submit_call n w s store block → r.answer ≡ Err x → (r.after ≡ s) × (after ≡ store)
  pub acknowledging : (n w : ℕ) (s : Station) (size number : ℕ) (r : SenderResult) (x : SenderRefusal)
      → outcome_of r ≡ rule.acknowledging n w s size number → r.answer ≡ Err x → r.after ≡ s
  pub ordering : (n w : ℕ) (s : Station) (m : CyclicMethod) (r : SenderResult) (x : SenderRefusal)
      → outcome_of r ≡ rule.ordering n w s m → r.answer ≡ Err x → r.after ≡ s

-- ---- the stored blocks, as record and store show them

abbrev pub block_at : ℕ → ℕ → Station → List ℕ → ℕ → Block
block_at n w s store d =
    record { number = back (2 ^ n) s.next d; method = method_of (method_at s d); bytes = bytes_at w s store d }

-- f (k - 1), .., f 1, f 0
unfoldable pub down_from : ℕ → (ℕ → Block) → List Block
down_from zero f = []
down_from (suc d) f = f d ∷ down_from d f

-- the oldest first
abbrev pub stored_blocks : ℕ → ℕ → Station → List ℕ → List Block
stored_blocks n w s store = down_from s.stored (block_at n w s store)

-- ---- what holds after every list of calls

abbrev pub number_of_block : Block → ℕ
number_of_block b = b.number

-- stands where a list has no block
abbrev pub no_block : Block
no_block = record { number = 0; method = CyclicAlternative; bytes = [] }

pub record Kept (n w : ℕ) (h : History) : Type 0 where
  -- the blocks submitted and not refused are those freed and, behind them, those stored, in order and byte for byte, each with its number
  -- and its own method
  pub blocks : h.accepted ≡ take h.freed h.accepted ++ stored_blocks n w h.station h.store
  pub totals : length h.accepted ≡ h.freed + h.station.stored
  -- their numbers run from 0 by one modulo 2^n, and the next one follows them
  pub in_turn : map number_of_block h.accepted ≡ in_sequence n 0 (length h.accepted)
  pub next : h.station.next ≡ length h.accepted % 2 ^ n
  -- naming a stored block, by its number, frees it and all before it, and answers how many
  pub frees : (i : ℕ) (r : SenderResult) → h.freed ≤ i → i < length h.accepted
      → outcome_of r ≡ acknowledging n w h.station (length h.store) (i % 2 ^ n) → r.answer ≡ Ok (suc i - h.freed)
  -- its line is the one that its own method writes
  pub lines : (i : ℕ) (r : Result ℕ SenderRefusal) (out after : List ℕ) → h.freed ≤ i → i < length h.accepted
      → called (sent_of r) after ≡ send_call n w h.station h.store (i % 2 ^ n) out
      → called (sent_of r) after
      ≡ after_writing (line_by (get_or h.accepted i no_block).method (get_or h.accepted i no_block).bytes (length out)) out
  -- naming any other number is refused with 56
  pub others : Agreed n w → w * 4096 ≤ length h.store → (number : ℕ) (r : SenderResult)
      → ((i : ℕ) → h.freed ≤ i → i < length h.accepted → i % 2 ^ n ≡ number → ⊥)
      → outcome_of r ≡ acknowledging n w h.station (length h.store) number → r.answer ≡ Err NotStored
  -- where n, w and the store are right, a block of at most 4,095 bytes is refused only while w are stored
  pub takes : Agreed n w → w * 4096 ≤ length h.store → (bytes : List ℕ) (r : SenderResult) (after : List ℕ) → length bytes ≤ 4095
      → h.station.stored < w → called (outcome_of r) after ≡ submit_call n w h.station h.store bytes → r.answer ≡ Ok h.station.next
  -- and an order only while a block from before the last order is stored
  pub changes : Agreed n w → (m : CyclicMethod) (r : SenderResult) → h.station.older ≡ 0
      → outcome_of r ≡ ordering n w h.station m → r.answer ≡ Ok h.station.next

abbrev pub EveryList : Type 0
EveryList = (n w : ℕ) (store : List ℕ) (h : History) → Calls n w (begin store) h → Kept n w h
