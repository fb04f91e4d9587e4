-- The number check in the papers' numbers: document 01, part 5, with the window of document 02, card 2, and 003 par. 3.2 to 3.4.
-- Assumes nothing.
use Rattle.std.specs.Prelude.{◌≡◌, ℕ, ◌+◌, ◌-◌, ◌%◌, ◌^◌, ◌<◌, Bool, cond, ◌&&◌, ◌==◌, nat_le, nat_lt}

-- new, repeat or lost; or the number of the question that was answered no
pub data Verdict : Type 0 where
  new : Verdict
  repeat : Verdict
  lost : Verdict
  refused : ℕ → Verdict

-- a verdict, and the record after it: n, the link's window w and the awaited number c
pub record Outcome : Type 0 where
  pub verdict : Verdict
  pub n : ℕ
  pub w : ℕ
  pub c : ℕ

-- d = c − b modulo m, the difference wrapping below zero
unfoldable pub difference : ℕ → ℕ → ℕ → ℕ
difference m c b = (c + (m - b % m)) % m

-- what that means: d is the residue of the whole number c − b, so the one number below m that added to b gives c modulo m
pub record Residue (m c b d : ℕ) : Type 0 where
  pub below : d < m
  pub congruent : (b + d) % m ≡ c % m

-- d = 0: new; d from 1 to w: repeat; a larger d: lost
abbrev pub judged : ℕ → ℕ → Verdict
judged w d = cond (d == 0) new (cond (nat_le d w) repeat lost)

-- a question: where its answer is no, its number; else what follows
abbrev pub ask : Bool → ℕ → Verdict → Verdict
ask holds number next = cond holds next (refused number)

-- x from lo to hi
abbrev pub within : ℕ → ℕ → ℕ → Bool
within lo hi x = nat_le lo x && nat_le x hi

-- n from 1 to 7? 41. w from 1 to the modulus less 1? 51. c below the modulus? 42. b below it? 43
unfoldable pub verdict_for : ℕ → ℕ → ℕ → ℕ → Verdict
verdict_for n w c b =
    ask (within 1 7 n) 41 (ask (within 1 (2 ^ n - 1) w) 51 (ask (nat_lt c (2 ^ n)) 42 (ask (nat_lt b (2 ^ n)) 43
    (judged w (difference (2 ^ n) c b)))))

-- on new, c moves on by 1 modulo 2^n; else it stays
abbrev pub awaited_after : ℕ → ℕ → Verdict → ℕ
awaited_after n c new = (c + 1) % 2 ^ n
awaited_after n c repeat = c
awaited_after n c lost = c
awaited_after n c (refused number) = c

-- n and w stay
abbrev pub outcome : ℕ → ℕ → ℕ → Verdict → Outcome
outcome n w c v = record { verdict = v; n = n; w = w; c = awaited_after n c v }

unfoldable pub receiving : ℕ → ℕ → ℕ → ℕ → Outcome
receiving n w c b = outcome n w c (verdict_for n w c b)
