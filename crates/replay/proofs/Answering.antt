-- What the readers are answered, from the questions as they were answered and the end of the replay. Assumes nothing.
use Rattle.std.proofs.Common.{◌≡◌, ℕ, List, length, refl, ap, ◌∙◌}
use Rattle.bits.specs.Calls.{Call, called}
use Rattle.sender.specs.Sender.{Verdict, clear, no}
use Rattle.replay.specs.declared.PanelReading.{PanelReading}
use Rattle.replay.specs.declared.ServiceReading.{ServiceReading}
use Rattle.replay.specs.Replay.{State, Answer, reading, refused, of_trace, end_state, panel_reading, panel_after, panel_call, service_after, service_call, last_notes}

-- ---- the panel's reader

module _ (n w : ℕ) (trace store : List ℕ) where
  pub panel_refused : {number value : ℕ} → no number value ≡ of_trace n w (length store) trace
      → called (refused number value) store ≡ panel_call n w trace store
  panel_refused e = ap (λ v. panel_after v store (end_state n w trace store)) e

  pub panel_done : clear ≡ of_trace n w (length store) trace → {s : State} → s ≡ end_state n w trace store
      → called (reading (panel_reading s)) s.store ≡ panel_call n w trace store
  panel_done e f =
      ap (λ (x : State). called (reading (panel_reading x)) x.store) f ∙ ap (λ v. panel_after v store (end_state n w trace store)) e

-- ---- the service reader is answered the same, and the notes

unfoldable pub noted : List ℕ → Answer PanelReading → Answer ServiceReading
noted notes (reading r) = reading (record { station = r.station; c = r.c; notes = notes })
noted notes (refused number value) = refused number value

unfoldable pub noted_call : List ℕ → Call (Answer PanelReading) → Call (Answer ServiceReading)
noted_call notes x = called (noted notes x.answer) x.output

noted_after : (v : Verdict) (store notes : List ℕ) (s : State) → noted_call notes (panel_after v store s) ≡ service_after v store notes s
unfolding noted noted_call
noted_after clear store notes s = refl
noted_after (no number value) store notes s = refl

pub noted_answer : (n w : ℕ) (trace store notes : List ℕ) → notes ≡ last_notes trace → {x : Call (Answer PanelReading)}
    → x ≡ panel_call n w trace store → noted_call notes x ≡ service_call n w trace store
noted_answer n w trace store notes e f =
    ap (noted_call notes) f ∙ noted_after (of_trace n w (length store) trace) store notes (end_state n w trace store)
    ∙ ap (λ l. service_after (of_trace n w (length store) trace) store l (end_state n w trace store)) e
