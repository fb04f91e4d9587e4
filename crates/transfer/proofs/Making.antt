-- The steps can be made: a result that meets its contract stands at each. Assumes nothing.
use Rattle.std.proofs.Common.{◌≡◌, ℕ, suc, ◌+◌, ◌-◌, ◌*◌, ◌%◌, ◌^◌, ◌<◌, ◌≤◌, Bool, true, false, cond, leb, eqb, List, [], length, get_or, drop, Result, Ok, Err, refl, sym, ap, ◌∙◌, arith, le-leb, length-take, mod-lt, pow_pos}
use lib.Seq.{take-append_seam}
use Rattle.bits.specs.Calls.{called}
use Rattle.number.specs.Number as numbering
use Rattle.number.specs.Number.{Verdict, new, difference, judged}
use Rattle.block.specs.declared.Parity.TheVariants.{Even}
use Rattle.block.specs.declared.Shape.TheVariants.{ClearText}
use Rattle.block.specs.declared.EndSign.TheVariants.{Etx}
use Rattle.block.specs.Signs.{koi7}
use Rattle.block.specs.Write.{WriteAnswer, written, write_output, line_of, counted_length}
use Rattle.block.specs.Read as reads
use Rattle.block.specs.Read.{read_output}
use Rattle.block.specs.Answers as block
use Rattle.block.specs.Answers.{after_writing, shape_number, end_number}
use Rattle.guarantees.proofs.Lengths.{lengths}
use Rattle.orders.specs.declared.CyclicMethod.{CyclicMethod}
use Rattle.orders.specs.declared.CyclicMethod.TheVariants.{Cyclic, CyclicAlternative}
use Rattle.orders.specs.Methods.{as_method, byte_of}
use Rattle.sender.specs.declared.Station.{Station}
use Rattle.sender.specs.declared.SenderRefusal.{SenderRefusal}
use Rattle.sender.specs.Ring.{cell_at, bytes_at, submitted_after}
use Rattle.sender.specs.Right.{Right}
use Rattle.sender.specs.Sending.{line_by}
use Rattle.sender.specs.History.{Block, History, block_at, no_block}
use Rattle.sender.proofs.Cells.{short_at}
use Rattle.sender.proofs.Lines.{line_asks_output}
use Rattle.sender.proofs.Histories.{accepted_at, line_at}
use Rattle.sender.proofs.Results.{Change, change}
use Rattle.receiver.specs.declared.Receiver.{Receiver}
use Rattle.receiver.specs.declared.Told.TheVariants.{New, Repeat, Lost}
use Rattle.receiver.specs.Receiver.{verdict_on, on_block, telling_block}
use Rattle.receiver.specs.Answers.{read_told, after_telling, block_call}
use Rattle.receiver.proofs.Verdicts.{right_judged}
use Rattle.transfer.specs.Transfer.{System, named, Sent, clear_block, OrderMade, refused, told, LineMade, GoesOn, EveryStepCanBeMade}
use Rattle.transfer.proofs.Following.{after_taking}
use Rattle.transfer.proofs.Transfers.{Agrees, expected, expected_right, parts_of, order_taken, line_taken, run_agrees, begins_agree}

-- ---- the line of a block of at most 4,095 bytes takes at most 8,196

line-most : (m : CyclicMethod) (bytes : List ℕ) → length bytes ≤ 4095 → length (line_of koi7 (as_method m) Even ClearText Etx [] bytes) ≤ 8196
line-most Cyclic bytes h =
    let line = line_of koi7 (as_method Cyclic) Even ClearText Etx [] bytes in
    let e : line_by Cyclic bytes (length line) ≡ written line = line_asks_output Cyclic bytes (length line) h ∙ rw (le-leb (length line) (length line) (omega arith)) in
    omega (arith, lengths.clear_line_3 koi7 [] bytes line (Even, Etx, length line, e))
line-most CyclicAlternative bytes h =
    let line = line_of koi7 (as_method CyclicAlternative) Even ClearText Etx [] bytes in
    let e : line_by CyclicAlternative bytes (length line) ≡ written line = line_asks_output CyclicAlternative bytes (length line) h ∙ rw (le-leb (length line) (length line) (omega arith)) in
    omega (arith, lengths.clear_line_4 koi7 [] bytes line (Even, Etx, length line, e))

line-written : (m : CyclicMethod) (bytes : List ℕ) (room : ℕ) → length bytes ≤ 4095 → 8196 ≤ room
    → line_by m bytes room ≡ written (line_of koi7 (as_method m) Even ClearText Etx [] bytes)
line-written m bytes room h k =
    line_asks_output m bytes room h
    ∙ rw (le-leb (length (line_of koi7 (as_method m) Even ClearText Etx [] bytes)) room (omega (arith, line-most m bytes h)))

-- what the number check judges it does not refuse
never_refused : (w d k : ℕ) → judged w d ≡ numbering.refused k → ⊥
never_refused w d k e = go (eqb d 0) (leb d w) e
  where
    go : (t u : Bool) → cond t new (cond u numbering.repeat numbering.lost) ≡ numbering.refused k → ⊥
    go true u f = let x : ◌≡◌ {A = ℕ} 0 1 = cc in omega arith
    go false true f = let x : ◌≡◌ {A = ℕ} 0 1 = cc in omega arith
    go false false f = let x : ◌≡◌ {A = ℕ} 0 1 = cc in omega arith

module _ {n w : ℕ} {s : System} (z : Agrees n w s) where
  abbrev h : History
  h = s.history

  abbrev st : Station
  st = h.station

  abbrev t : ℕ
  t = length s.received

  order_made : (m : CyclicMethod) → OrderMade n w s m
  order_made m = go (x.result.answer) refl
    where
      x : Change n w st m
      x = change n w st m

      go : (a : Result ℕ SenderRefusal) → x.result.answer ≡ a → OrderMade n w s m
      go (Ok number) q =
          told x.result number (record { answer = Ok tt; after = after_taking n w st.method (byte_of m) (h.freed + st.stored) t }) (x.meets) q
          (sym (order_taken z m x.result number (x.meets) q))
      go (Err r) q = refused x.result r (x.meets) q

  module _ (i : ℕ) (a : h.freed ≤ i) (l : i < length h.accepted) where
    abbrev number : ℕ
    number = i % 2 ^ n

    abbrev b : Block
    b = get_or h.accepted i no_block

    right : Right n w st
    right = z.holds.right (z.holds.begun (omega arith)).0

    short_stored : (d : ℕ) → length (bytes_at w st h.store d) ≤ 4095
    short_stored d =
        let cell = cell_at w st d in
        omega (arith, short_at st.lengths cell (right.lengths_most), length-take (get_or st.lengths cell 0) (drop (cell * 4096) h.store))

    short : length b.bytes ≤ 4095
    short =
        let tot : length h.accepted ≡ h.freed + st.stored = z.holds.totals in
        let d = length h.accepted - suc i in
        let e : length h.accepted - suc d ≡ i = omega arith in
        let same : b ≡ block_at n w st h.store d = ap (λ k. get_or h.accepted k no_block) (sym e) ∙ accepted_at (z.holds) d (omega arith) in
        omega (arith, ap (λ (x : Block). length x.bytes) same, short_stored d)

    abbrev line : List ℕ
    line = line_of koi7 (as_method b.method) Even ClearText Etx [] b.bytes

    module _ (output out : List ℕ) (room : 8196 ≤ length output) (space : 4095 ≤ length out) where
      line_sent : Sent n w h number (length line) line
      unfolding write_output
      line_sent =
          record {
            result = Ok (length line);
            output = output;
            after = write_output (written line) output;
            meets =
                sym (ap (λ (x : WriteAnswer). after_writing x output) (line_at (z.holds) i (length output) a l ∙ line-written b.method b.bytes (length output) short room));
            written = refl;
            line_is = sym (take-append_seam line (drop (length line) output));
          }

      enough : length (named n w h number) ≤ length out
      enough = omega (arith, short_stored (submitted_after n st number))

      line_made : LineMade n w s number out
      unfolding telling_block counted_length
      line_made = go (verdict_on s.receiver number) refl
        where
          judged_so : verdict_on s.receiver number ≡ judged w (difference (2 ^ n) (t % 2 ^ n) number)
          judged_so =
              ap (λ (r : Receiver). verdict_on r number) (z.follows)
              ∙ right_judged (expected n w h t) number (expected_right n w h (z.holds) t (z.freed_taken) (z.taken_accepted) right) (mod-lt i (pow_pos n))

          on : {v : Verdict} → verdict_on s.receiver number ≡ v → after_telling (on_block s.receiver line (length out) v) out ≡ block_call s.receiver number line out
          on e = sym (ap (λ v. after_telling (on_block s.receiver line (length out) v) out) e)

          go : (v : Verdict) → verdict_on s.receiver number ≡ v → LineMade n w s number out
          go new e =
              let bytes = named n w h number in
              let zero-first : length bytes + 1 ≡ 0 + length bytes + 1 = omega arith in
              record {
                len = length line;
                line = line;
                sent = line_sent;
                enough = enough;
                told = record { answer = Ok (New (clear_block bytes)); after = expected n w h (t + 1) };
                after = read_output (reads.taken (parts_of bytes)) out;
                meets =
                    ap
                    (λ k. called (record { answer = read_told (block.block (shape_number ClearText) (end_number Etx) 0 (length bytes) k); receiver = expected n w h (t + 1) }) (read_output (reads.taken (parts_of bytes)) out))
                    zero-first
                    ∙ sym (line_taken z number (length line) line out line_sent enough e);
              }
          go numbering.repeat e =
              record {
                len = length line;
                line = line;
                sent = line_sent;
                enough = enough;
                told = record { answer = Ok Repeat; after = s.receiver };
                after = out;
                meets = on e;
              }
          go numbering.lost e =
              record {
                len = length line;
                line = line;
                sent = line_sent;
                enough = enough;
                told = record { answer = Ok Lost; after = s.receiver };
                after = out;
                meets = on e;
              }
          go (numbering.refused k) e = absurd (never_refused w (difference (2 ^ n) (t % 2 ^ n) number) k (sym judged_so ∙ e))

  goes_on : GoesOn n w s
  goes_on = record { orders = order_made; lines = λ i output out a l room space. line_made i a l output out room space }

-- after every list of steps the next can be made
pub every_step_can_be_made : EveryStepCanBeMade
every_step_can_be_made n w store s steps = goes_on (run_agrees steps (begins_agree n w store))
