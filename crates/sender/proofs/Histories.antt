-- Every list of submissions, acknowledgements and orders from a fresh station: totals, stored blocks, numbers and lines. Assumes nothing.
use Rattle.std.proofs.Common.{◌≡◌, ℕ, zero, suc, ◌+◌, ◌-◌, ◌*◌, ◌%◌, ◌^◌, ◌<◌, ◌≤◌, Bool, true, false, ltb, ltb-true, List, [], ◌∷◌, ◌++◌, map, length, get_or, take, drop, Result, Ok, Err, refl, sym, ap, ap₂, ◌∙◌, arith, mod-lt, mod-eq_of_lt, pow_pos, length-append, length-set}
use Rattle.std.proofs.lemmas.List.{get_or-drop, map-append}
use native.Mathlib.Nat.{mod-add-mod, zero-mod}
use lib.ListN.{take-append-drop}
use lib.Seq.{drop-append-le, drop-drop, sets, length-sets}
use Rattle.bits.specs.Calls as calls
use Rattle.bits.specs.Calls.{called}
use Rattle.block.specs.Write.{WriteAnswer}
use Rattle.block.specs.Answers.{after_writing}
use Rattle.number.specs.History.{in_sequence}
use Rattle.orders.specs.declared.CyclicMethod.{CyclicMethod}
use Rattle.orders.specs.declared.CyclicMethod.TheVariants.{Cyclic, CyclicAlternative}
use Rattle.orders.specs.Methods.{byte_of, method_of, is_method}
use Rattle.sender.specs.declared.Station.{Station}
use Rattle.sender.specs.declared.SenderRefusal.{SenderRefusal}
use Rattle.sender.specs.declared.SenderResult.{SenderResult}
use Rattle.sender.specs.Ring.{back, bytes_at, submitted_after}
use Rattle.sender.specs.declared.SenderRefusal.TheVariants.{NotStored}
use Rattle.sender.specs.Sender.{storing, freeing, changing, is_stored, done, Outcome, by_verdict, with_block, submitting, submit_call, with_latest, acknowledging, with_method, ordering}
use Rattle.sender.specs.Sending.{method_at, line_by, written_by, sending, send_call}
use Rattle.sender.specs.Answers.{outcome_of, sent_of}
use Rattle.sender.specs.Right.{Agreed, Right}
use Rattle.sender.specs.History.{fresh, Block, History, begin, accepted_after, freed_after, in_force_after, after_submission, after_acknowledgement, after_order, Calls, none, submit, acknowledge, order, block_at, down_from, stored_blocks, number_of_block, no_block, Kept, EveryList}
use Rattle.sender.proofs.Rings.{back-back, back-of}
use Rattle.sender.proofs.Passed.{Ready, submission_passed, submission_passes, number_passed, number_passes, number_refused, order_passed, order_passes, both}
use Rattle.sender.proofs.OneToOne.{answer_of_injective}
use Rattle.sender.proofs.Cells.{short-set, get_or-down_from, one_more, the_latest, under_their_methods}
use Rattle.sender.proofs.Outcomes.{submission_done, submission_refused, acknowledgement_done, acknowledgement_refused, order_done, order_refused}

-- ---- numbers in sequence

in_sequence-suc : (n c k : ℕ) → c < 2 ^ n → in_sequence n c (suc k) ≡ in_sequence n c k ++ ((c + k) % 2 ^ n ∷ [])
in_sequence-suc n c zero h =
    let e : c + 0 ≡ c = omega arith in
    ap (λ x. x ∷ []) (sym (ap (λ z. z % 2 ^ n) e ∙ mod-eq_of_lt h))
in_sequence-suc n c (suc k) h =
    let e : c + 1 + k ≡ c + suc k = omega arith in
    ap (λ l. c ∷ l)
    (in_sequence-suc n ((c + 1) % 2 ^ n) k (mod-lt (c + 1) (pow_pos n))
    ∙ ap (λ x. in_sequence n ((c + 1) % 2 ^ n) k ++ (x ∷ [])) (mod-add-mod (c + 1) (2 ^ n) k ∙ ap (λ z. z % 2 ^ n) e))

-- ---- the bytes that keep methods

byte-kept : (m : CyclicMethod) → is_method (byte_of m) ≡ true
byte-kept Cyclic = refl
byte-kept CyclicAlternative = refl

method_of-byte : (m : CyclicMethod) → method_of (byte_of m) ≡ m
method_of-byte Cyclic = refl
method_of-byte CyclicAlternative = refl

-- ---- the invariant

pub record Holds (n w : ℕ) (h : History) : Type 0 where
  pub totals : length h.accepted ≡ h.freed + h.station.stored
  pub blocks : stored_blocks n w h.station h.store ≡ drop h.freed h.accepted
  pub in_turn : map number_of_block h.accepted ≡ in_sequence n 0 (length h.accepted)
  pub next : h.station.next ≡ length h.accepted % 2 ^ n
  pub in_force : method_of h.station.method ≡ h.in_force
  pub seven : length h.station.lengths ≡ 7
  pub right : Agreed n w → Right n w h.station
  pub begun : 0 < length h.accepted → Agreed n w × (w * 4096 ≤ length h.store)

pub fresh_right : {n w : ℕ} → Agreed n w → Right n w fresh
fresh_right {n} a =
    record {
      agreed = a;
      stored_most = omega arith;
      cell_below = omega (arith, a.w_least);
      next_below = pow_pos n;
      lengths_most = refl;
      older_most = omega arith;
      method_kept = refl;
      former_kept = refl;
    }

pub begins : (n w : ℕ) (store : List ℕ) → Holds n w (begin store)
unfolding down_from
begins n w store =
    record {
      totals = refl;
      blocks = refl;
      in_turn = refl;
      next = sym (zero-mod (2 ^ n));
      in_force = refl;
      seven = refl;
      right = fresh_right;
      begun = λ some. absurd (omega arith);
    }

module _ {n w : ℕ} {h : History} (z : Holds n w h) where
  abbrev s : Station
  s = h.station

  -- ---- a submission

  more : (bytes : List ℕ) → Ready n w s (length h.store) → length bytes ≤ 4095 → s.stored < w
      → Holds n w (record h { station = with_block n w s (length bytes); store = sets h.store (s.cell * 4096) bytes; accepted = h.accepted ++ (record { number = s.next; method = h.in_force; bytes = bytes } ∷ []) })
  more bytes r few free =
      let b : Block = record { number = s.next; method = h.in_force; bytes = bytes } in
      let g = r.right in
      let room : w * 4096 ≤ length h.store = r.room in
      let t : length h.accepted ≡ h.freed + s.stored = z.totals in
      let o : s.older ≤ s.stored = g.older_most in
      let one : length (h.accepted ++ (b ∷ [])) ≡ length h.accepted + 1 = length-append h.accepted (b ∷ []) in
      let plus : length h.accepted + 1 ≡ suc (length h.accepted) = omega arith in
      let zero-first : 0 + length h.accepted ≡ length h.accepted = omega arith in
      let size : length (sets h.store (s.cell * 4096) bytes) ≡ length h.store = length-sets h.store (s.cell * 4096) bytes in
      record {
        totals = omega arith;
        blocks =
            one_more n w s h.store bytes g (z.seven) room few free ∙ ap (λ bs. bs ++ (record { number = s.next; method = method_of s.method; bytes = bytes } ∷ [])) (z.blocks)
            ∙ ap (λ m. drop h.freed h.accepted ++ (record { number = s.next; method = m; bytes = bytes } ∷ [])) (z.in_force)
            ∙ sym (drop-append-le h.freed h.accepted (b ∷ []) (omega arith));
        in_turn =
            map-append number_of_block h.accepted (b ∷ [])
            ∙ ap₂ (λ l x. l ++ (x ∷ [])) (z.in_turn) (z.next ∙ ap (λ k. k % 2 ^ n) (sym zero-first))
            ∙ sym (in_sequence-suc n 0 (length h.accepted) (pow_pos n)) ∙ ap (in_sequence n 0) (sym (one ∙ plus));
        next = ap (λ x. (x + 1) % 2 ^ n) (z.next) ∙ mod-add-mod (length h.accepted) (2 ^ n) 1 ∙ ap (λ x. x % 2 ^ n) (sym one);
        in_force = z.in_force;
        seven = length-set s.lengths s.cell (length bytes) ∙ z.seven;
        right = λ a. record {
          agreed = a;
          stored_most = omega arith;
          cell_below = mod-lt (s.cell + 1) (omega arith);
          next_below = mod-lt (s.next + 1) (pow_pos n);
          lengths_most = short-set s.lengths s.cell (length bytes) few (g.lengths_most);
          older_most = omega arith;
          method_kept = g.method_kept;
          former_kept = g.former_kept;
        };
        begun = λ some. (g.agreed, omega (arith, size, room));
      }

  -- ---- an acknowledgement

  fewer : (left : ℕ) → Ready n w s (length h.store) → left < s.stored
      → Holds n w (record h { station = with_latest s left; freed = h.freed + (s.stored - left) })
  fewer left r l =
      let g = r.right in
      let t : length h.accepted ≡ h.freed + s.stored = z.totals in
      let m : s.stored ≤ w = g.stored_most in
      let o : s.older ≤ s.stored = g.older_most in
      record {
        totals = omega arith;
        blocks =
            the_latest n w s h.store left o (omega arith) ∙ ap (drop (s.stored - left)) (z.blocks) ∙ drop-drop (s.stored - left) h.freed h.accepted;
        in_turn = z.in_turn;
        next = z.next;
        in_force = z.in_force;
        seven = z.seven;
        right = λ a. record {
          agreed = a;
          stored_most = omega arith;
          cell_below = g.cell_below;
          next_below = g.next_below;
          lengths_most = g.lengths_most;
          older_most = omega arith;
          method_kept = g.method_kept;
          former_kept = g.former_kept;
        };
        begun = z.begun;
      }

  -- ---- an order

  changed : (m : CyclicMethod) → Right n w s → s.older ≡ 0 → Holds n w (record h { station = with_method s m; in_force = m })
  changed m g o =
      record {
        totals = z.totals;
        blocks = under_their_methods n w s h.store m o ∙ z.blocks;
        in_turn = z.in_turn;
        next = z.next;
        in_force = method_of-byte m;
        seven = z.seven;
        right = λ a. record {
          agreed = a;
          stored_most = g.stored_most;
          cell_below = g.cell_below;
          next_below = g.next_below;
          lengths_most = g.lengths_most;
          older_most = omega arith;
          method_kept = byte-kept m;
          former_kept = g.method_kept;
        };
        begun = z.begun;
      }

  -- ---- call after call

  pub submission_holds : (bytes : List ℕ) (r : SenderResult) (after : List ℕ) → called (outcome_of r) after ≡ submit_call n w s h.store bytes
      → Holds n w (after_submission h bytes r after)
  submission_holds bytes r after e = go r.answer refl
    where
      go : (a : Result ℕ SenderRefusal) → r.answer ≡ a
          → Holds n w (record h { station = r.after; store = after; accepted = accepted_after a h bytes })
      go (Ok k) q =
          let f = submission_done n w s h.store bytes r.answer e q in
          let g = submission_passed n w s (length h.store) (length bytes) (f.0) in
          rw (f.1, f.2, f.3) (more bytes (g.0) (g.1) (g.2))
      go (Err x) q =
          let f = submission_refused n w s h.store bytes r.answer e q in
          rw (f.0, f.1) z

  pub acknowledgement_holds : (number : ℕ) (r : SenderResult) → outcome_of r ≡ acknowledging n w s (length h.store) number
      → Holds n w (after_acknowledgement h r)
  acknowledgement_holds number r e = go r.answer refl
    where
      go : (a : Result ℕ SenderRefusal) → r.answer ≡ a → Holds n w (record h { station = r.after; freed = freed_after a h.freed })
      go (Ok k) q =
          let f = acknowledgement_done n w s (length h.store) number r.answer e q in
          let g = number_passed n w s (length h.store) number (f.0) in
          rw (f.1, f.2) (fewer (submitted_after n s number) (g.0) (g.2))
      go (Err x) q = rw (acknowledgement_refused n w s (length h.store) number r.answer e q) z

  pub order_holds : (m : CyclicMethod) (r : SenderResult) → outcome_of r ≡ ordering n w s m → Holds n w (after_order h m r)
  order_holds m r e = go r.answer refl
    where
      go : (a : Result ℕ SenderRefusal) → r.answer ≡ a → Holds n w (record h { station = r.after; in_force = in_force_after a h.in_force m })
      go (Ok k) q =
          let f = order_done n w s m r.answer e q in
          let g = order_passed n w s (f.0) in
          rw (f.2) (changed m (g.0) (g.1))
      go (Err x) q = rw (order_refused n w s m r.answer e q) z

  -- ---- what the invariant says

  ready : Agreed n w → w * 4096 ≤ length h.store → Ready n w s (length h.store)
  ready a room = record { right = z.right a; room = room }

  -- the accepted block with d blocks after it is the stored one
  pub accepted_at : (d : ℕ) → d < s.stored → get_or h.accepted (length h.accepted - suc d) no_block ≡ block_at n w s h.store d
  accepted_at d l =
      let t : length h.accepted ≡ h.freed + s.stored = z.totals in
      let k = s.stored - suc d in
      let e : length h.accepted - suc d ≡ h.freed + k = omega arith in
      let f : k + suc d ≡ s.stored = omega arith in
      ap (λ i. get_or h.accepted i no_block) e ∙ sym (get_or-drop h.freed h.accepted k no_block)
      ∙ ap (λ bs. get_or bs k no_block) (sym (z.blocks))
      ∙ ap (λ j. get_or (down_from j (block_at n w s h.store)) k no_block) (sym f)
      ∙ get_or-down_from k d (block_at n w s h.store) no_block

  -- of a stored block by its place among those accepted
  record Place (i : ℕ) : Type 0 where
    d : ℕ
    within : d < s.stored
    place : length h.accepted - suc d ≡ i
    ready : Ready n w s (length h.store)
    behind : submitted_after n s (i % 2 ^ n) ≡ d

  place_of : (i : ℕ) → h.freed ≤ i → i < length h.accepted → Place i
  place_of i a l =
      let t : length h.accepted ≡ h.freed + s.stored = z.totals in
      let some = z.begun (omega arith) in
      let y = ready some.0 some.1 in
      let m : s.stored ≤ w = y.right.stored_most in
      let b : w < 2 ^ n = y.right.agreed.w_below in
      let d = length h.accepted - suc i in
      let same : length h.accepted - suc d ≡ i = omega arith in
      let at : back (2 ^ n) s.next d ≡ i % 2 ^ n = back-of (2 ^ n) s.next (length h.accepted) d (z.next) (omega arith) (omega arith) ∙ ap (λ k. k % 2 ^ n) same in
      record {
        d = d;
        within = omega arith;
        place = same;
        ready = y;
        behind = ap (back (2 ^ n) s.next) (sym at) ∙ back-back (2 ^ n) s.next d (omega arith);
      }

  frees : (i : ℕ) (r : SenderResult) → h.freed ≤ i → i < length h.accepted → outcome_of r ≡ acknowledging n w s (length h.store) (i % 2 ^ n)
      → r.answer ≡ Ok (suc i - h.freed)
  unfolding acknowledging
  frees i r a l e =
      let t : length h.accepted ≡ h.freed + s.stored = z.totals in
      let p = place_of i a l in
      let few : submitted_after n s (i % 2 ^ n) < s.stored = omega (arith, p.behind, p.within) in
      let passes = number_passes n w s (length h.store) (i % 2 ^ n) p.ready (mod-lt i (pow_pos n)) few in
      let count : s.stored - submitted_after n s (i % 2 ^ n) ≡ suc i - h.freed = omega (arith, p.behind, p.place, p.within) in
      answer_of_injective r.answer (Ok (suc i - h.freed))
      (ap (λ (x : Outcome). x.answer) e
      ∙ ap (λ v. (by_verdict v s (freeing s (submitted_after n s (i % 2 ^ n)))).answer) passes
      ∙ ap done count)

  -- the line of that block is the one that its own method writes
  pub line_at : (i room : ℕ) → h.freed ≤ i → i < length h.accepted
      → sending n w s h.store (i % 2 ^ n) room ≡ line_by (get_or h.accepted i no_block).method (get_or h.accepted i no_block).bytes room
  unfolding sending
  line_at i room a l =
      let p = place_of i a l in
      let few : submitted_after n s (i % 2 ^ n) < s.stored = omega (arith, p.behind, p.within) in
      let passes = number_passes n w s (length h.store) (i % 2 ^ n) p.ready (mod-lt i (pow_pos n)) few in
      let e : get_or h.accepted i no_block ≡ block_at n w s h.store p.d = ap (λ j. get_or h.accepted j no_block) (sym p.place) ∙ accepted_at p.d p.within in
      ap (λ v. written_by v (line_by (method_of (method_at s (submitted_after n s (i % 2 ^ n)))) (bytes_at w s h.store (submitted_after n s (i % 2 ^ n))) room)) passes
      ∙ ap (λ d. line_by (method_of (method_at s d)) (bytes_at w s h.store d) room) p.behind
      ∙ sym (ap (λ (b : Block). line_by b.method b.bytes room) e)

  lines : (i : ℕ) (r : Result ℕ SenderRefusal) (out after : List ℕ) → h.freed ≤ i → i < length h.accepted
      → called (sent_of r) after ≡ send_call n w s h.store (i % 2 ^ n) out
      → called (sent_of r) after
      ≡ after_writing (line_by (get_or h.accepted i no_block).method (get_or h.accepted i no_block).bytes (length out)) out
  lines i r out after a l e = e ∙ ap (λ (line : WriteAnswer). after_writing line out) (line_at i (length out) a l)

  others : Agreed n w → w * 4096 ≤ length h.store → (number : ℕ) (r : SenderResult)
      → ((i : ℕ) → h.freed ≤ i → i < length h.accepted → i % 2 ^ n ≡ number → ⊥)
      → outcome_of r ≡ acknowledging n w s (length h.store) number → r.answer ≡ Err NotStored
  unfolding acknowledging
  others a room number r ne e =
      answer_of_injective r.answer (Err NotStored)
      (ap (λ (x : Outcome). x.answer) e
      ∙ ap (λ v. (by_verdict v s (freeing s (submitted_after n s number))).answer)
      (number_refused n w s (length h.store) number (ready a room) (go (is_stored n s number) refl)))
    where
      go : (t : Bool) → is_stored n s number ≡ t → t ≡ false
      go false q = refl
      go true q =
          let f = both (ltb number (2 ^ n)) (ltb (submitted_after n s number) s.stored) q in
          let i : number < 2 ^ n = ltb-true number (2 ^ n) f.0 in
          let d = submitted_after n s number in
          let l : d < s.stored = ltb-true d s.stored f.1 in
          let t : length h.accepted ≡ h.freed + s.stored = z.totals in
          let y = z.right a in
          let k : s.stored ≤ w = y.stored_most in
          let b : w < 2 ^ n = y.agreed.w_below in
          let at : back (2 ^ n) s.next d ≡ (length h.accepted - suc d) % 2 ^ n = back-of (2 ^ n) s.next (length h.accepted) d (z.next) (omega arith) (omega arith) in
          absurd (ne (length h.accepted - suc d) (omega arith) (omega arith) (sym at ∙ back-back (2 ^ n) s.next number i))

  takes : Agreed n w → w * 4096 ≤ length h.store → (bytes : List ℕ) (r : SenderResult) (after : List ℕ) → length bytes ≤ 4095 → s.stored < w
      → called (outcome_of r) after ≡ submit_call n w s h.store bytes → r.answer ≡ Ok s.next
  unfolding submitting
  takes a room bytes r after few free e =
      let passes = submission_passes n w s (length h.store) (length bytes) (ready a room) few free in
      answer_of_injective r.answer (Ok s.next)
      (ap (λ (c : calls.Call Outcome). c.answer.answer) e
      ∙ ap (λ v. (by_verdict v s (storing n w s (length bytes))).answer) passes)

  changes : Agreed n w → (m : CyclicMethod) (r : SenderResult) → s.older ≡ 0 → outcome_of r ≡ ordering n w s m → r.answer ≡ Ok s.next
  unfolding ordering
  changes a m r o e =
      answer_of_injective r.answer (Ok s.next)
      (ap (λ (x : Outcome). x.answer) e ∙ ap (λ v. (by_verdict v s (changing s m)).answer) (order_passes n w s (z.right a) o))

  pub kept : Kept n w h
  kept =
      record {
        blocks = sym (ap (λ bs. take h.freed h.accepted ++ bs) (z.blocks) ∙ take-append-drop h.freed h.accepted);
        totals = z.totals;
        in_turn = z.in_turn;
        next = z.next;
        frees = frees;
        lines = lines;
        others = others;
        takes = takes;
        changes = changes;
      }

onward : {n w : ℕ} {h h' : History} → Calls n w h h' → Holds n w h → Holds n w h'
onward none z = z
onward (submit bytes r after e rest) z = onward rest (submission_holds z bytes r after e)
onward (acknowledge number r e rest) z = onward rest (acknowledgement_holds z number r e)
onward (order m r e rest) z = onward rest (order_holds z m r e)

-- document 02, cards 6 and 14: what record and store hold after every list of the calls
pub every_list : EveryList
every_list n w store h made = kept (onward made (begins n w store))
