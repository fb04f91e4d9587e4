-- Traces that agree in what a reader sees (document 02, card 9). Assumes nothing.
use Rattle.std.specs.Prelude.{◌≡◌, ℕ, ◌+◌, ◌*◌, ◌<◌, List, length, get_or, Result}
use Rattle.bits.specs.Calls.{called}
use Rattle.replay.specs.declared.PanelReading.{PanelReading}
use Rattle.replay.specs.declared.ServiceReading.{ServiceReading}
use Rattle.replay.specs.declared.ReplayRefusal.{ReplayRefusal}
use Rattle.replay.specs.Replay.{last_record, panel_call, service_call}
use Rattle.replay.specs.Answers.{answer_of}

-- two traces of one length that agree in bytes 0 to 3 of each record
pub record Agree (t u : List ℕ) : Type 0 where
  pub one_length : length t ≡ length u
  pub bytes : (i j : ℕ) → j < 4 → 16 * i + j < length t → get_or t (16 * i + j) 0 ≡ get_or u (16 * i + j) 0

-- results as the contracts promise them, of such traces, under the same n, w and length of the store: they are the same, refusals with
-- their values included. The bytes in the stores may differ
abbrev pub PanelSeesFourBytes : Type 0
PanelSeesFourBytes = (n w : ℕ) (t u store other after after' : List ℕ) (r r' : Result PanelReading ReplayRefusal) → Agree t u
    → length store ≡ length other → called (answer_of r) after ≡ panel_call n w t store
    → called (answer_of r') after' ≡ panel_call n w u other → r ≡ r'

-- where the last records agree too
abbrev pub ServiceSeesTheLastRecord : Type 0
ServiceSeesTheLastRecord = (n w : ℕ) (t u store other after after' : List ℕ) (r r' : Result ServiceReading ReplayRefusal) → Agree t u
    → last_record t ≡ last_record u → length store ≡ length other → called (answer_of r) after ≡ service_call n w t store
    → called (answer_of r') after' ≡ service_call n w u other → r ≡ r'
