-- The calls: the questions in turn, and the output afterwards (document 02, card 8). Assumes nothing.
use Rattle.std.specs.Prelude.{ℕ, Bool, cond, nat_le, List, ◌++◌, length, drop}
use Rattle.bits.specs.Calls.{Call, called}
use Rattle.interleave.specs.Interleave.{interleave, deinterleave}

-- all are passed; or the number of the first that is not
pub data Verdict : Type 0 where
  clear : Verdict
  no : ℕ → Verdict

abbrev pub ask : Bool → ℕ → Verdict → Verdict
ask holds number next = cond holds next (no number)

-- is d at least 1? 59. Does the output, of so many bytes, hold n? 60
abbrev pub asking : ℕ → ℕ → ℕ → Verdict
asking d n room = ask (nat_le 1 d) 59 (ask (nat_le n room) 60 clear)

-- the bytes, then what stood behind them; a refused call leaves the output
abbrev pub output_after : Verdict → List ℕ → List ℕ → List ℕ
output_after clear bytes out = bytes ++ drop (length bytes) out
output_after (no number) bytes out = out

abbrev pub after_asking : Verdict → List ℕ → List ℕ → Call Verdict
after_asking verdict bytes out = called verdict (output_after verdict bytes out)

-- of d, the text and the output
abbrev pub interleave_call : ℕ → List ℕ → List ℕ → Call Verdict
interleave_call d text out = after_asking (asking d (length text) (length out)) (interleave d text) out

-- of d, the line and the output
abbrev pub deinterleave_call : ℕ → List ℕ → List ℕ → Call Verdict
deinterleave_call d line out = after_asking (asking d (length line) (length out)) (deinterleave d line) out
