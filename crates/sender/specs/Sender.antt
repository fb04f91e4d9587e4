-- The sender's calls: the questions in turn, the answer, and record and store afterwards (003 par. 3.5; document 02, cards 6 and 14).
-- Assumes nothing.
use Rattle.std.specs.Prelude.{ℕ, ◌+◌, ◌-◌, ◌*◌, ◌%◌, ◌^◌, Bool, cond, ◌&&◌, ◌==◌, nat_le, nat_lt, List, length, set}
use Rattle.std.specs.List.{list_all}
use Rattle.std.proofs.lemmas.List.Edits.{sets}
use Rattle.bits.specs.Calls.{Call, called}
use Rattle.number.specs.Number.{within}
use Rattle.orders.specs.declared.CyclicMethod.{CyclicMethod}
use Rattle.orders.specs.Methods.{byte_of, is_method}
use Rattle.sender.specs.declared.Station.{Station}
use Rattle.sender.specs.Ring.{submitted_after}

-- ---- questions

-- all are passed; or the number and the value of the first that is not
pub data Verdict : Type 0 where
  clear : Verdict
  no : ℕ → ℕ → Verdict

abbrev pub ask : Bool → ℕ → ℕ → Verdict → Verdict
ask holds number value next = cond holds next (no number value)

-- w from 1 to 7 and below the modulus
unfoldable pub window_right : ℕ → ℕ → Bool
window_right n w = within 1 7 w && nat_lt w (2 ^ n)

-- at most w stored, the next cell among the w, the next number below the modulus, no length over 4,095; no more blocks from before the
-- last order than are stored, and two bytes that keep methods
unfoldable pub record_right : ℕ → ℕ → Station → Bool
record_right n w s =
    nat_le s.stored w && nat_lt s.cell w && nat_lt s.next (2 ^ n) && list_all (λ len. nat_le len 4095) s.lengths
    && nat_le s.older s.stored && is_method s.method && is_method s.former

-- n from 1 to 7? 41. The window right, and the record? 51
unfoldable pub of_record : ℕ → ℕ → Station → Verdict → Verdict
of_record n w s next = ask (within 1 7 n) 41 0 (ask (window_right n w) 51 0 (ask (record_right n w s) 51 0 next))

-- does the store hold w cells of 4,096 bytes? 6, needed bytes
abbrev pub of_store : ℕ → ℕ → Verdict → Verdict
of_store w size next = ask (nat_le (w * 4096) size) 6 (w * 4096) next

-- of a submission, behind 41, 51 and 6: is the block at most 4,095 bytes long? 57. Are fewer than w stored? 55
unfoldable pub of_submission : ℕ → ℕ → Station → ℕ → ℕ → Verdict
of_submission n w s size len =
    of_record n w s (of_store w size (ask (nat_le len 4095) 57 0 (ask (nat_lt s.stored w) 55 0 clear)))

-- the number of a stored block
abbrev pub is_stored : ℕ → Station → ℕ → Bool
is_stored n s number = nat_lt number (2 ^ n) && nat_lt (submitted_after n s number) s.stored

-- of an acknowledgement or a sending, behind 41, 51 and 6: is the named number stored? 56
unfoldable pub of_number : ℕ → ℕ → Station → ℕ → ℕ → Verdict
of_number n w s size number = of_record n w s (of_store w size (ask (is_stored n s number) 56 0 clear))

-- of an order, behind 41 and 51: is no block from before the last order stored? 67
unfoldable pub of_order : ℕ → ℕ → Station → Verdict
of_order n w s = of_record n w s (ask (s.older == 0) 67 0 clear)

-- ---- the calls

-- a block's or an order's number, or how many blocks were freed; or the number and the value of a refusal
pub data Answer : Type 0 where
  done : ℕ → Answer
  refused : ℕ → ℕ → Answer

-- the answer, and the record afterwards
pub record Outcome : Type 0 where
  pub answer : Answer
  pub station : Station

-- a refused call leaves the record
abbrev pub by_verdict : Verdict → Station → Outcome → Outcome
by_verdict clear s o = o
by_verdict (no number value) s o = record { answer = refused number value; station = s }

-- a block of this length in the next cell, with the next number
abbrev pub with_block : ℕ → ℕ → Station → ℕ → Station
with_block n w s len =
    record s { next = (s.next + 1) % 2 ^ n; stored = s.stored + 1; cell = (s.cell + 1) % w; lengths = set s.lengths s.cell len }

abbrev pub storing : ℕ → ℕ → Station → ℕ → Outcome
storing n w s len = record { answer = done s.next; station = with_block n w s len }

unfoldable pub submitting : ℕ → ℕ → Station → ℕ → ℕ → Outcome
submitting n w s size len = by_verdict (of_submission n w s size len) s (storing n w s len)

-- the block's bytes go to the start of its cell; a refused call leaves the store
abbrev pub store_after : Answer → Station → List ℕ → List ℕ → List ℕ
store_after (done number) s store block = sets store (s.cell * 4096) block
store_after (refused number value) s store block = store

abbrev pub after_submitting : Outcome → Station → List ℕ → List ℕ → Call Outcome
after_submitting o s store block = called o (store_after o.answer s store block)

abbrev pub submit_call : ℕ → ℕ → Station → List ℕ → List ℕ → Call Outcome
submit_call n w s store block = after_submitting (submitting n w s (length store) (length block)) s store block

-- only so many of the latest blocks; those that go are the oldest
abbrev pub with_latest : Station → ℕ → Station
with_latest s left = record s { stored = left; older = s.older - (s.stored - left) }

abbrev pub freeing : Station → ℕ → Outcome
freeing s left = record { answer = done (s.stored - left); station = with_latest s left }

-- the named block and all before it are freed
unfoldable pub acknowledging : ℕ → ℕ → Station → ℕ → ℕ → Outcome
acknowledging n w s size number = by_verdict (of_number n w s size number) s (freeing s (submitted_after n s number))

-- the stored blocks stay under their methods, and later ones go under this
abbrev pub with_method : Station → CyclicMethod → Station
with_method s m = record s { method = byte_of m; former = s.method; older = s.stored }

-- the answer is the next number to be given
abbrev pub changing : Station → CyclicMethod → Outcome
changing s m = record { answer = done s.next; station = with_method s m }

unfoldable pub ordering : ℕ → ℕ → Station → CyclicMethod → Outcome
ordering n w s m = by_verdict (of_order n w s) s (changing s m)
