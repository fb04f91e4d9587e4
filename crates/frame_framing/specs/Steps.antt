-- What the steps of the framing compute. The rules do not rest on these definitions. Assumes nothing.
use Rattle.std.specs.Prelude.{◌≡◌, ℕ, ◌^◌, ◌<◌, Bool, List, length, Result}
use Rattle.bits.specs.Bytes.{low_bits, value}
use Rattle.cyclic.specs.Check.{Parameters, formula, Receives}
use Rattle.frame.specs.Frame.{width}
use Rattle.frame.specs.Read.{ask_length}
use Rattle.frame_walk.specs.declared.Walk.{Walk}
use Rattle.frame.specs.declared.ReadRefusal.{ReadRefusal}
use Rattle.frame_framing.specs.declared.Body.{Body}
use Rattle.frame_framing.specs.Framing.{of_framing, answer_of}

-- a number that content and check leave exactly where the check is the rule's
pub record Leaves (m : Parameters) (fixed : ℕ) : Type 0 where
  pub wide : ℕ
  pub width_is : width m ≡ wide
  pub receives : Receives m wide (low_bits wide fixed)
  pub small : fixed < 2 ^ wide

-- the answer to 35 and 36, where the walk passed the bits s
abbrev pub Asked : Parameters → Walk → Result Body ReadRefusal → Type 0
Asked m w r =
    (s : List Bool) → w.count ≡ length s → w.register ≡ value (formula m s) → of_framing r ≡ answer_of m w.end (ask_length m s)
