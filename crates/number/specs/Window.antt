-- The window (document 02, card 2) beside document 01's rule: with w half the modulus, numbers are judged as before. Assumes nothing.
use Rattle.std.specs.Prelude.{◌≡◌, ℕ, ◌/◌, ◌^◌, cond, ◌==◌, nat_le, nat_lt}
use Rattle.number.specs.Number.{Verdict, new, repeat, lost, difference, ask, within, outcome, receiving}

-- document 01, part 5. d = 0: new; d up to half the modulus: repeat; otherwise: lost
abbrev pub judged_before : ℕ → ℕ → Verdict
judged_before m d = cond (d == 0) new (cond (nat_le d (m / 2)) repeat lost)

-- n from 1 to 7? 41. c below the modulus? 42. b below it? 43
unfoldable pub verdict_before : ℕ → ℕ → ℕ → Verdict
verdict_before n c b =
    ask (within 1 7 n) 41 (ask (nat_lt c (2 ^ n)) 42 (ask (nat_lt b (2 ^ n)) 43 (judged_before (2 ^ n) (difference (2 ^ n) c b))))

-- the verdict is document 01's, and c moves by it: of every n, since one that is not from 1 to 7 is refused with 41 by both
abbrev pub JudgedAsBefore : Type 0
JudgedAsBefore = (n c b : ℕ) → receiving n (2 ^ n / 2) c b ≡ outcome n (2 ^ n / 2) c (verdict_before n c b)
