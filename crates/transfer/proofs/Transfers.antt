-- Every new block is taken with the bytes submitted: the receiver's record is at all times the one that follows from the sender's and from
-- the number of blocks taken. Assumes nothing.
use Rattle.std.proofs.Common.{◌≡◌, ℕ, suc, ◌+◌, ◌-◌, ◌%◌, ◌^◌, ◌<◌, ◌≤◌, Bool, true, false, cond, ltb, leb, List, [], ◌∷◌, ◌++◌, map, length, get_or, take, drop, Result, Ok, Err, refl, sym, ap, ap₂, ◌∙◌, subst, arith, mod-lt, pow_pos, le-leb, ltb-true, ltb-false, length-append}
use Rattle.std.proofs.lemmas.List.{map-append}
use borrow.Author.Tests.{lt-leb}
use native.Mathlib.Numerals.{add-one}
use native.Mathlib.Nat.{zero-mod}
use lib.Seq.{take-suc, take-append-le, take-append_seam}
use Rattle.bits.specs.Calls.{Call, called}
use Rattle.number.specs.Number as numbering
use Rattle.number.specs.Number.{Verdict, new}
use Rattle.block.specs.declared.Parity.TheVariants.{Even}
use Rattle.block.specs.declared.Shape.TheVariants.{ClearText}
use Rattle.block.specs.declared.EndSign.TheVariants.{Etx}
use Rattle.block.specs.Signs.{koi7}
use Rattle.block.specs.Write.{counted_length}
use Rattle.block.specs.Read as reads
use Rattle.block.specs.Read.{read_output}
use Rattle.block.specs.Answers as block
use Rattle.block.specs.Answers.{Numbers, shape_number, end_number}
use Rattle.guarantees.specs.Second.{parts_written}
use Rattle.guarantees.proofs.Second.{second_property}
use Rattle.orders.specs.declared.CyclicMethod.{CyclicMethod}
use Rattle.orders.specs.declared.CyclicMethod.TheVariants.{Cyclic, CyclicAlternative}
use Rattle.orders.specs.Methods.{as_method, byte_of, method_of, link_of}
use Rattle.sender.specs.declared.Station.{Station}
use Rattle.sender.specs.declared.SenderRefusal.{SenderRefusal}
use Rattle.sender.specs.declared.SenderResult.{SenderResult}
use Rattle.sender.specs.Ring.{back, bytes_at, submitted_after}
use Rattle.sender.specs.Sender.{submit_call, acknowledging, ordering}
use Rattle.sender.specs.Sending.{method_at, line_by}
use Rattle.sender.specs.Answers.{outcome_of}
use Rattle.sender.specs.Right.{Right}
use Rattle.sender.specs.History.{Block, History, accepted_after, freed_after, after_submission, after_acknowledgement, after_order, block_at, no_block}
use Rattle.sender.proofs.Rings.{back-back, back-of}
use Rattle.sender.proofs.Passed.{number_passed, order_passed}
use Rattle.sender.proofs.Outcomes.{submission_done, submission_refused, acknowledgement_done, acknowledgement_refused, order_done, order_refused}
use Rattle.sender.proofs.Histories.{Holds, begins, submission_holds, acknowledgement_holds, order_holds, accepted_at, kept}
use Rattle.receiver.specs.declared.Receiver.{Receiver}
use Rattle.receiver.specs.declared.OrderResult.{OrderResult}
use Rattle.receiver.specs.declared.Told.{Told}
use Rattle.receiver.specs.declared.Told.TheVariants as tells
use Rattle.receiver.specs.declared.Told.TheVariants.{New}
use Rattle.receiver.specs.declared.BlockRefusal.{BlockRefusal}
use Rattle.receiver.specs.declared.BlockRefusal.TheVariants as refuses
use Rattle.receiver.specs.declared.BlockResult.{BlockResult}
use Rattle.receiver.specs.Receiver as receiver
use Rattle.receiver.specs.Receiver.{verdict_on, awaiting, Outcome, OrderAnswer, noted, telling_order, BlockAnswer, taken, read_under, on_line, on_block, telling_block, output_after}
use Rattle.receiver.specs.Answers.{order_outcome, TellNumbers, repeat_told, lost_told, read_told, told_of, told_by, block_outcome, after_telling, block_call}
use Rattle.receiver.proofs.Verdicts as judged
use Rattle.receiver.proofs.Verdicts.{new_awaited, awaited_new, order_noted}
use Rattle.receiver.proofs.OneToOne.{order_answer_injective, answer_injective}
use Rattle.transfer.specs.Transfer.{System, begin, named, received_after, Sent, Steps, none, submit, acknowledge, order_refused as step_refused, order_told, line_told, bytes_of_block, awaited, clear_block, Delivers, EveryNewBlockIsTaken}
use Rattle.transfer.proofs.Following.{apart-either, after_taking, behind, told_at_once, one_more_taken, passes_51}
use Rattle.transfer.proofs.Sent.{sent_line, Written, line_written}

-- ---- the receiver's record that follows from the sender's

-- how many blocks stand before the first that goes under the last order's method
abbrev pub first_new : History → ℕ
first_new h = h.freed + h.station.older

abbrev pub expected : ℕ → ℕ → History → ℕ → Receiver
expected n w h t = after_taking n w h.station.former h.station.method (first_new h) t

byte-named : (m : CyclicMethod) → byte_of m ≡ 0 → ⊥
byte-named Cyclic e = omega arith
byte-named CyclicAlternative e = omega arith

module _ (n w : ℕ) (h : History) (z : Holds n w h) (t : ℕ) (f : h.freed ≤ t) (l : t ≤ length h.accepted) where
  abbrev s : Station
  s = h.station

  abbrev r : Receiver
  r = expected n w h t

  -- blocks not yet taken are stored, fewer than the modulus
  near : Right n w s → length h.accepted < t + 2 ^ n
  near g =
      let e : length h.accepted ≡ h.freed + s.stored = z.totals in
      let a : s.stored ≤ w = g.stored_most in
      let b : w < 2 ^ n = g.agreed.w_below in
      omega arith

  first-near : Right n w s → first_new h < t + 2 ^ n
  first-near g =
      let e : length h.accepted ≡ h.freed + s.stored = z.totals in
      let o : s.older ≤ s.stored = g.older_most in
      omega (arith, near g)

  pub expected_right : Right n w s → judged.Right r
  expected_right g =
      record {
        n_least = g.agreed.n_least;
        n_most = g.agreed.n_most;
        w_least = g.agreed.w_least;
        w_below = g.agreed.w_below;
        record_kept = passes_51 n w s.former s.method (first_new h) t (g.former_kept) (g.method_kept) (first-near g) refl;
        c_below = mod-lt t (pow_pos n);
      }

  -- ---- a sent line whose number is new

  module _ (number room : ℕ) (line : List ℕ) (x : Written n w s h.store number room line) (is_new : verdict_on r number ≡ new) where
    abbrev d : ℕ
    d = submitted_after n s number

    abbrev bytes : List ℕ
    bytes = bytes_at w s h.store d

    g : Right n w s
    g = x.ready.right

    -- the named block has the awaited number, so it is the awaited one
    is_awaited : length h.accepted - suc d ≡ t
    is_awaited =
        let tot : length h.accepted ≡ h.freed + s.stored = z.totals in
        let i = length h.accepted - suc d in
        let k : d < s.stored = x.within in
        let a : s.stored ≤ w = g.stored_most in
        let b : w < 2 ^ n = g.agreed.w_below in
        let at : back (2 ^ n) s.next d ≡ i % 2 ^ n = back-of (2 ^ n) s.next (length h.accepted) d (z.next) (omega arith) (omega arith) in
        let c : back (2 ^ n) s.next d ≡ number = back-back (2 ^ n) s.next number (x.below) in
        let e : number ≡ t % 2 ^ n = new_awaited r number (expected_right g) (x.below) is_new in
        apart-either (2 ^ n) i t (omega (arith, near g)) (omega (arith, near g)) (sym at ∙ c ∙ e)

    awaited_block : get_or h.accepted t no_block ≡ block_at n w s h.store d
    awaited_block = ap (λ i. get_or h.accepted i no_block) (sym is_awaited) ∙ accepted_at z d (x.within)

    pub not_all : t < length h.accepted
    not_all = let tot : length h.accepted ≡ h.freed + s.stored = z.totals in let k : d < s.stored = x.within in let i : length h.accepted - suc d ≡ t = is_awaited in omega arith

    pub awaited_number : number ≡ (get_or h.accepted t no_block).number
    awaited_number = sym (ap (λ (b : Block). b.number) awaited_block ∙ back-back (2 ^ n) s.next number (x.below))

    pub awaited_bytes : (get_or h.accepted t no_block).bytes ≡ bytes
    awaited_bytes = ap (λ (b : Block). b.bytes) awaited_block

    -- both stations have it under one method
    one_method : method_at s d ≡ r.method
    unfolding method_at
    one_method = go (ltb t (first_new h)) refl
      where
        tot : length h.accepted ≡ h.freed + s.stored
        tot = z.totals

        k : d < s.stored
        k = x.within

        i : length h.accepted - suc d ≡ t
        i = is_awaited

        o : s.older ≤ s.stored
        o = g.older_most

        go : (u : Bool) → ltb t (first_new h) ≡ u → cond (leb (s.stored - s.older) d) s.former s.method ≡ cond u s.former s.method
        go true p =
            let q : t < h.freed + s.older = ltb-true t (first_new h) p in
            let j : s.stored - s.older ≤ d = omega (arith, tot, i, o, k) in
            rw (le-leb (s.stored - s.older) d j)
        go false p =
            let q : h.freed + s.older ≤ t = ltb-false t (first_new h) p in
            let j : d < s.stored - s.older = omega (arith, tot, i, o, k) in
            rw (lt-leb (s.stored - s.older) d j)

    module _ (space : ℕ) (enough : length bytes ≤ space) (named_method : t < first_new h → s.method ≡ 0 → ⊥) where
      reads_back : read_under (link_of r.method) line space ≡ reads.taken (parts_written koi7 ClearText Etx [] bytes)
      reads_back =
          second_property.written_reads_back koi7 (as_method (method_of r.method)) Even ClearText Etx [] bytes line room space
          (ap (λ byte. line_by (method_of byte) bytes room) (sym one_method) ∙ x.line_is) (omega arith)

      pub new_block_taken : telling_block r number line space
          ≡ record { answer = taken (parts_written koi7 ClearText Etx [] bytes); receiver = expected n w h (t + 1) }
      unfolding telling_block
      new_block_taken =
          let q : first_new h < t + 1 + 2 ^ n = omega (arith, first-near g) in
          ap (on_block r line space) is_new ∙ ap (on_line r) reads_back
          ∙ ap (λ (x : Receiver). record { answer = taken (parts_written koi7 ClearText Etx [] bytes); receiver = x })
          (one_more_taken n w s.former s.method (first_new h) t named_method q refl)

  -- ---- an order that was not refused

  module _ (m : CyclicMethod) (g : Right n w s) (o : s.older ≡ 0) where
    pub order_told_at_once : telling_order r s.next m
        ≡ record { answer = noted; receiver = after_taking n w s.method (byte_of m) (h.freed + s.stored) t }
    order_told_at_once =
        let tot : length h.accepted ≡ h.freed + s.stored = z.totals in
        let next : s.next ≡ (h.freed + s.stored) % 2 ^ n = z.next ∙ ap (λ k. k % 2 ^ n) tot in
        let none_waits = behind n w s.former s.method (first_new h) t (omega arith) in
        order_noted r s.next (expected_right g) (g.next_below) m (ap (λ (x : Receiver). x.waiting) none_waits)
        ∙ ap (λ k. record { answer = noted; receiver = awaiting r r.c (byte_of m) k }) next
        ∙ ap (λ (x : Receiver). record { answer = noted; receiver = x })
        (told_at_once n w s.method (byte_of m) (h.freed + s.stored) t (byte-named m) (omega arith) (omega (arith, near g)) none_waits)

  -- ---- an acknowledgement of taken blocks

  module _ (left : ℕ) (few : left ≤ s.stored) (only_taken : h.freed + (s.stored - left) ≤ t) where
    pub acknowledgement_keeps : r ≡ after_taking n w s.former s.method (h.freed + (s.stored - left) + (s.older - (s.stored - left))) t
    acknowledgement_keeps = go (ltb s.older (s.stored - left)) refl
      where
        later : ℕ
        later = h.freed + (s.stored - left) + (s.older - (s.stored - left))

        go : (u : Bool) → ltb s.older (s.stored - left) ≡ u → r ≡ after_taking n w s.former s.method later t
        go true p =
            let i : s.older < s.stored - left = ltb-true s.older (s.stored - left) p in
            let a : first_new h ≤ t = omega arith in
            let b : later ≤ t = omega arith in
            behind n w s.former s.method (first_new h) t a ∙ sym (behind n w s.former s.method later t b)
        go false p =
            let i : s.stored - left ≤ s.older = ltb-false s.older (s.stored - left) p in
            let a : first_new h ≡ later = omega arith in
            ap (λ k. after_taking n w s.former s.method k t) a

-- ---- what an answer to a block hands on

received_by : TellNumbers → List ℕ → List (List ℕ) → List (List ℕ)
received_by repeat_told output received = received
received_by lost_told output received = received
received_by (read_told (block.block shape end header text counted)) output received = received ++ (take (header + text) output ∷ [])
received_by (read_told (block.line len)) output received = received
received_by (read_told (block.refused k value)) output received = received

received_told : (a : Result Told BlockRefusal) (output : List ℕ) (received : List (List ℕ)) → received_after a output received ≡ received_by (told_of a) output received
unfolding received_by
received_told (Ok (New b)) output received = refl
received_told (Ok tells.Repeat) output received = refl
received_told (Ok tells.Lost) output received = refl
received_told (Err (refuses.Receiver r)) output received = refl
received_told (Err (refuses.Line r)) output received = refl

module _ (t : BlockResult) (out after : List ℕ) (o : Outcome BlockAnswer) (e : called (block_outcome t) after ≡ after_telling o out) where
  record_told : t.after ≡ o.receiver
  record_told = ap (λ (c : Call (Outcome TellNumbers)). c.answer.receiver) e

  answer_told : told_of t.answer ≡ told_by o.answer
  answer_told = ap (λ (c : Call (Outcome TellNumbers)). c.answer.answer) e

  output_told : after ≡ output_after o.answer out
  output_told = ap (λ (c : Call (Outcome TellNumbers)). c.output) e

  received_as : (received : List (List ℕ)) → received_after t.answer after received ≡ received_by (told_by o.answer) after received
  received_as received = received_told t.answer after received ∙ ap (λ x. received_by x after received) answer_told

-- of a block of clear text that was taken
abbrev pub parts_of : List ℕ → reads.Parts
parts_of bytes = parts_written koi7 ClearText Etx [] bytes

module _ (t : BlockResult) (out after bytes : List ℕ) (x : Receiver)
    (e : called (block_outcome t) after ≡ after_telling (record { answer = taken (parts_of bytes); receiver = x }) out) where
  abbrev o : Outcome BlockAnswer
  o = record { answer = taken (parts_of bytes); receiver = x }

  taken_output : after ≡ bytes ++ drop (length bytes) out
  unfolding read_output
  taken_output =
      let z : 0 + length bytes ≡ length bytes = omega arith in
      output_told t out after o e ∙ ap (λ k. bytes ++ drop k out) z

  taken_answer : t.answer ≡ Ok (New (clear_block bytes))
  unfolding counted_length
  taken_answer =
      let z : 0 + length bytes + 1 ≡ length bytes + 1 = omega arith in
      answer_injective t.answer (Ok (New (clear_block bytes)))
      (answer_told t out after o e ∙ ap (λ k. read_told (block.block (shape_number ClearText) (end_number Etx) 0 (length bytes) k)) z)

  taken_received : (received : List (List ℕ)) → received_after t.answer after received ≡ received ++ (bytes ∷ [])
  unfolding received_by
  taken_received received =
      received_as t out after o e received
      ∙ (let z : 0 + length bytes ≡ length bytes = omega arith in ap (λ k. received ++ (take k after ∷ [])) z)
      ∙ ap (λ l. received ++ (l ∷ [])) (ap (take (length bytes)) taken_output ∙ take-append_seam bytes (drop (length bytes) out))

-- ---- the invariant

pub record Agrees (n w : ℕ) (s : System) : Type 0 where
  pub holds : Holds n w s.history
  pub freed_taken : s.history.freed ≤ length s.received
  pub taken_accepted : length s.received ≤ length s.history.accepted
  pub in_order : s.received ≡ map bytes_of_block (take (length s.received) s.history.accepted)
  pub follows : s.receiver ≡ expected n w s.history (length s.received)
  -- where blocks from before an order are stored, the order named a method
  pub named : 0 < s.history.station.older → s.history.station.method ≡ 0 → ⊥

module _ {n w : ℕ} {s : System} (z : Agrees n w s) where
  abbrev h : History
  h = s.history

  abbrev st : Station
  st = h.station

  abbrev t : ℕ
  t = length s.received

  waiting_named : t < first_new h → st.method ≡ 0 → ⊥
  waiting_named i e = let f : h.freed ≤ t = z.freed_taken in z.named (omega arith) e

  submit_agrees : (bytes : List ℕ) (r : SenderResult) (after : List ℕ) → called (outcome_of r) after ≡ submit_call n w st h.store bytes
      → Agrees n w (record s { history = after_submission h bytes r after })
  submit_agrees bytes r after e = go r.answer refl (submission_holds (z.holds) bytes r after e)
    where
      go : (a : Result ℕ SenderRefusal) → r.answer ≡ a → Holds n w (record h { station = r.after; store = after; accepted = accepted_after a h bytes })
          → Agrees n w (record s { history = record h { station = r.after; store = after; accepted = accepted_after a h bytes } })
      go (Ok k) q i =
          let f = submission_done n w st h.store bytes r.answer e q in
          let b : Block = record { number = k; method = h.in_force; bytes = bytes } in
          let more : length (h.accepted ++ (b ∷ [])) ≡ length h.accepted + 1 = length-append h.accepted (b ∷ []) in
          record {
            holds = i;
            freed_taken = z.freed_taken;
            taken_accepted = omega (arith, z.taken_accepted, more);
            in_order = z.in_order ∙ sym (ap (map bytes_of_block) (take-append-le t h.accepted (b ∷ []) (z.taken_accepted)));
            follows = rw (f.2) (z.follows);
            named = rw (f.2) (z.named);
          }
      go (Err x) q i =
          let f = submission_refused n w st h.store bytes r.answer e q in
          record {
            holds = i;
            freed_taken = z.freed_taken;
            taken_accepted = z.taken_accepted;
            in_order = z.in_order;
            follows = rw (f.0) (z.follows);
            named = rw (f.0) (z.named);
          }

  acknowledge_agrees : (number : ℕ) (r : SenderResult) → outcome_of r ≡ acknowledging n w st (length h.store) number
      → (after_acknowledgement h r).freed ≤ t → Agrees n w (record s { history = after_acknowledgement h r })
  acknowledge_agrees number r e = go r.answer refl (acknowledgement_holds (z.holds) number r e)
    where
      go : (a : Result ℕ SenderRefusal) → r.answer ≡ a → Holds n w (record h { station = r.after; freed = freed_after a h.freed })
          → freed_after a h.freed ≤ t → Agrees n w (record s { history = record h { station = r.after; freed = freed_after a h.freed } })
      go (Ok k) q i only_taken =
          let f = acknowledgement_done n w st (length h.store) number r.answer e q in
          let left = submitted_after n st number in
          let g = number_passed n w st (length h.store) number (f.0) in
          let few : left < st.stored = g.2 in
          let count : k ≡ st.stored - left = f.1 in
          record {
            holds = i;
            freed_taken = only_taken;
            taken_accepted = z.taken_accepted;
            in_order = z.in_order;
            follows =
                rw (f.2, f.1)
                (z.follows ∙ acknowledgement_keeps n w h (z.holds) t (z.freed_taken) (z.taken_accepted) left (omega arith) (omega arith));
            named = rw (f.2) (λ (some : 0 < st.older - (st.stored - left)). z.named (omega arith));
          }
      go (Err x) q i only_taken =
          let f = acknowledgement_refused n w st (length h.store) number r.answer e q in
          record {
            holds = i;
            freed_taken = only_taken;
            taken_accepted = z.taken_accepted;
            in_order = z.in_order;
            follows = rw f (z.follows);
            named = rw f (z.named);
          }

  order_refused_agrees : (m : CyclicMethod) (r : SenderResult) (x : SenderRefusal) → outcome_of r ≡ ordering n w st m → r.answer ≡ Err x
      → Agrees n w (record s { history = after_order h m r })
  order_refused_agrees m r x e q =
      let f = order_refused n w st m r.answer e q in
      record {
        holds = order_holds (z.holds) m r e;
        freed_taken = z.freed_taken;
        taken_accepted = z.taken_accepted;
        in_order = z.in_order;
        follows = rw f (z.follows);
        named = rw f (z.named);
      }

  -- what the receiver answers to an order that the sender took
  pub order_taken : (m : CyclicMethod) (r : SenderResult) (number : ℕ) → outcome_of r ≡ ordering n w st m → r.answer ≡ Ok number
      → telling_order s.receiver number m
      ≡ record { answer = noted; receiver = after_taking n w st.method (byte_of m) (h.freed + st.stored) t }
  order_taken m r number e q =
      let f = order_done n w st m r.answer e q in
      let g = order_passed n w st (f.0) in
      ap₂ (λ (x : Receiver) k. telling_order x k m) (z.follows) (f.1)
      ∙ order_told_at_once n w h (z.holds) t (z.freed_taken) (z.taken_accepted) m (g.0) (g.1)

  order_told_agrees : (m : CyclicMethod) (r : SenderResult) (number : ℕ) (o : OrderResult) → outcome_of r ≡ ordering n w st m
      → r.answer ≡ Ok number → order_outcome o ≡ telling_order s.receiver number m
      → Agrees n w (record s { history = after_order h m r; receiver = o.after })
  order_told_agrees m r number o e q told =
      let f = order_done n w st m r.answer e q in
      record {
        holds = order_holds (z.holds) m r e;
        freed_taken = z.freed_taken;
        taken_accepted = z.taken_accepted;
        in_order = z.in_order;
        follows = rw (f.2) (ap (λ (x : Outcome OrderAnswer). x.receiver) (told ∙ order_taken m r number e q));
        named = rw (f.2) (λ some. byte-named m);
      }

  -- ---- a line is sent

  -- what the receiver answers to a line whose number is new
  pub line_taken : (number len : ℕ) (line out : List ℕ) → (x : Sent n w h number len line)
      → length (named n w h number) ≤ length out → verdict_on s.receiver number ≡ new
      → block_call s.receiver number line out
      ≡ after_telling (record { answer = taken (parts_of (named n w h number)); receiver = expected n w h (t + 1) }) out
  line_taken number len line out x enough is_new =
      let y = line_written n w st h.store number (length x.output) line (sent_line x) in
      let q : verdict_on (expected n w h t) number ≡ new = ap (λ (r : Receiver). verdict_on r number) (sym (z.follows)) ∙ is_new in
      ap (λ (r : Receiver). after_telling (telling_block r number line (length out)) out) (z.follows)
      ∙ ap (λ (o : Outcome BlockAnswer). after_telling o out)
      (new_block_taken n w h (z.holds) t (z.freed_taken) (z.taken_accepted) number (length x.output) line y q (length out) enough waiting_named)

  -- one more block is taken
  taken_agrees : (b : BlockResult) (out after : List ℕ) (bytes : List ℕ) → t < length h.accepted → (awaited s).bytes ≡ bytes
      → called (block_outcome b) after ≡ after_telling (record { answer = taken (parts_of bytes); receiver = expected n w h (t + 1) }) out
      → Agrees n w (record s { receiver = b.after; received = received_after b.answer after s.received })
  taken_agrees b out after bytes l same e =
      let one : received_after b.answer after s.received ≡ s.received ++ (bytes ∷ []) = taken_received b out after bytes (expected n w h (t + 1)) e s.received in
      let count : length (s.received ++ (bytes ∷ [])) ≡ t + 1 = length-append s.received (bytes ∷ []) in
      subst (λ (bs : List (List ℕ)). Agrees n w (record s { receiver = b.after; received = bs })) (sym one)
      (record {
        holds = z.holds;
        freed_taken = omega (arith, count, z.freed_taken);
        taken_accepted = omega (arith, count);
        in_order =
            ap₂ (λ bs x. bs ++ (x ∷ [])) (z.in_order) (sym same)
            ∙ sym (map-append bytes_of_block (take t h.accepted) (awaited s ∷ []))
            ∙ ap (map bytes_of_block) (sym (take-suc h.accepted t no_block l))
            ∙ ap (λ k. map bytes_of_block (take k h.accepted)) (sym (count ∙ add-one t));
        follows = record_told b out after (record { answer = taken (parts_of bytes); receiver = expected n w h (t + 1) }) e ∙ ap (expected n w h) (sym count);
        named = z.named;
      })

  -- a line that is not read leaves all as it was
  unread_agrees : (b : BlockResult) (out after : List ℕ) (a : BlockAnswer) → ((output : List ℕ) → received_by (told_by a) output s.received ≡ s.received)
      → called (block_outcome b) after ≡ after_telling (record { answer = a; receiver = s.receiver }) out
      → Agrees n w (record s { receiver = b.after; received = received_after b.answer after s.received })
  unread_agrees b out after a leaves e =
      let o : Outcome BlockAnswer = record { answer = a; receiver = s.receiver } in
      let none_more : received_after b.answer after s.received ≡ s.received = received_as b out after o e s.received ∙ leaves after in
      subst (λ (bs : List (List ℕ)). Agrees n w (record s { receiver = b.after; received = bs })) (sym none_more)
      (subst (λ (r : Receiver). Agrees n w (record s { receiver = r })) (sym (record_told b out after o e)) z)

  line_agrees : (number len : ℕ) (line : List ℕ) (b : BlockResult) (out after : List ℕ) → Sent n w h number len line
      → length (named n w h number) ≤ length out → called (block_outcome b) after ≡ block_call s.receiver number line out
      → Agrees n w (record s { receiver = b.after; received = received_after b.answer after s.received })
  unfolding telling_block received_by
  line_agrees number len line b out after x enough told = go (verdict_on s.receiver number) refl
    where
      go : (v : Verdict) → verdict_on s.receiver number ≡ v → Agrees n w (record s { receiver = b.after; received = received_after b.answer after s.received })
      go new p =
          let y = line_written n w st h.store number (length x.output) line (sent_line x) in
          let q : verdict_on (expected n w h t) number ≡ new = ap (λ (r : Receiver). verdict_on r number) (sym (z.follows)) ∙ p in
          taken_agrees b out after (named n w h number)
          (not_all n w h (z.holds) t (z.freed_taken) (z.taken_accepted) number (length x.output) line y q)
          (awaited_bytes n w h (z.holds) t (z.freed_taken) (z.taken_accepted) number (length x.output) line y q)
          (told ∙ line_taken number len line out x enough p)
      go numbering.repeat p =
          unread_agrees b out after receiver.repeated (λ output. refl) (told ∙ ap (λ v. after_telling (on_block s.receiver line (length out) v) out) p)
      go numbering.lost p =
          unread_agrees b out after receiver.lost (λ output. refl) (told ∙ ap (λ v. after_telling (on_block s.receiver line (length out) v) out) p)
      go (numbering.refused k) p =
          unread_agrees b out after (receiver.refused k 0) (λ output. refl) (told ∙ ap (λ v. after_telling (on_block s.receiver line (length out) v) out) p)

  -- ---- what it promises

  new_taken : (number len : ℕ) (line : List ℕ) (b : BlockResult) (out after : List ℕ) → Sent n w h number len line
      → length (named n w h number) ≤ length out → called (block_outcome b) after ≡ block_call s.receiver number line out
      → verdict_on s.receiver number ≡ new
      → (number ≡ (awaited s).number) × (b.answer ≡ Ok (New (clear_block (awaited s).bytes)))
      × (after ≡ (awaited s).bytes ++ drop (length (awaited s).bytes) out)
  new_taken number len line b out after x enough told p =
      let y = line_written n w st h.store number (length x.output) line (sent_line x) in
      let q : verdict_on (expected n w h t) number ≡ new = ap (λ (r : Receiver). verdict_on r number) (sym (z.follows)) ∙ p in
      let e = told ∙ line_taken number len line out x enough p in
      let same : (awaited s).bytes ≡ named n w h number =
      awaited_bytes n w h (z.holds) t (z.freed_taken) (z.taken_accepted) number (length x.output) line y q in
      let bytes = named n w h number in (
        awaited_number n w h (z.holds) t (z.freed_taken) (z.taken_accepted) number (length x.output) line y q,
        taken_answer b out after bytes (expected n w h (t + 1)) e ∙ ap (λ bs. Ok (New (clear_block bs))) (sym same),
        taken_output b out after bytes (expected n w h (t + 1)) e ∙ ap (λ bs. bs ++ drop (length bs) out) (sym same),
      )

  awaited_is_new : t < length h.accepted → verdict_on s.receiver (awaited s).number ≡ new
  awaited_is_new l =
      let f : h.freed ≤ t = z.freed_taken in
      let tot : length h.accepted ≡ h.freed + st.stored = z.holds.totals in
      let some = z.holds.begun (omega arith) in
      let g = z.holds.right some.0 in
      let a : st.stored ≤ w = g.stored_most in
      let b : w < 2 ^ n = g.agreed.w_below in
      let d = length h.accepted - suc t in
      let i : length h.accepted - suc d ≡ t = omega arith in
      let at : back (2 ^ n) st.next d ≡ t % 2 ^ n =
      back-of (2 ^ n) st.next (length h.accepted) d (z.holds.next) (omega arith) (omega arith) ∙ ap (λ k. k % 2 ^ n) i in
      let e : (awaited s).number ≡ t % 2 ^ n =
      ap (λ k. (get_or h.accepted k no_block).number) (sym i) ∙ ap (λ (b : Block). b.number) (accepted_at (z.holds) d (omega arith)) ∙ at in
      let below : t % 2 ^ n < 2 ^ n = mod-lt t (pow_pos n) in
      ap (λ (r : Receiver). verdict_on r (awaited s).number) (z.follows)
      ∙ awaited_new (expected n w h t) (awaited s).number (expected_right n w h (z.holds) t f (z.taken_accepted) g) (omega (arith, e, below)) e

  order_is_noted : (m : CyclicMethod) (r : SenderResult) (number : ℕ) (o : OrderResult) → outcome_of r ≡ ordering n w st m
      → r.answer ≡ Ok number → order_outcome o ≡ telling_order s.receiver number m → o.answer ≡ Ok tt
  order_is_noted m r number o e q told =
      order_answer_injective o.answer (Ok tt) (ap (λ (x : Outcome OrderAnswer). x.answer) (told ∙ order_taken m r number e q))

  delivers : Delivers n w s
  delivers =
      record { kept = kept (z.holds); in_order = z.in_order; new_taken = new_taken; awaited_new = awaited_is_new; order_noted = order_is_noted }

pub run_agrees : {n w : ℕ} {s s' : System} → Steps n w s s' → Agrees n w s → Agrees n w s'
run_agrees none z = z
run_agrees (submit bytes r after e rest) z = run_agrees rest (submit_agrees z bytes r after e)
run_agrees (acknowledge number r e only_taken rest) z = run_agrees rest (acknowledge_agrees z number r e only_taken)
run_agrees (step_refused m r x e q rest) z = run_agrees rest (order_refused_agrees z m r x e q)
run_agrees (order_told m r number t e q told rest) z = run_agrees rest (order_told_agrees z m r number t e q told)
run_agrees (line_told number len line t out after x enough told rest) z =
    run_agrees rest (line_agrees z number len line t out after x enough told)

pub begins_agree : (n w : ℕ) (store : List ℕ) → Agrees n w (begin n w store)
begins_agree n w store =
    record {
      holds = begins n w store;
      freed_taken = omega arith;
      taken_accepted = omega arith;
      in_order = refl;
      follows = rw (zero-mod (2 ^ n));
      named = λ some e. omega arith;
    }

-- document 02, card 14: every new block is taken with the bytes submitted
pub every_new_block_is_taken : EveryNewBlockIsTaken
every_new_block_is_taken n w store s steps = delivers (run_agrees steps (begins_agree n w store))
