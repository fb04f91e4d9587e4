-- `receive` has a result as its contract promises it, of every number: the questions are answered no by refusals alone. Assumes nothing.
use Rattle.std.proofs.Common.{◌≡◌, ℕ, ◌-◌, ◌^◌, Bool, true, false, cond, ◌==◌, Result, Ok, Err, nat_le, nat_lt, refl, sym, ap}
use Rattle.number.specs.declared.NumberRefusal.{NumberRefusal}
use Rattle.number.specs.declared.NumberRefusal.TheVariants as refusal
use Rattle.number.specs.declared.Verdict as answer
use Rattle.number.specs.declared.Verdict.TheVariants.{New, Repeat, Lost}
use Rattle.number.specs.declared.NumberResult.{NumberResult}
use Rattle.number.specs.Number.{Verdict, difference, judged, within, verdict_for, awaited_after, outcome, receiving}
use Rattle.number.specs.Answers.{verdict_of, outcome_of}

data Told : Verdict → Type 0 where
  told : (a : Result answer.Verdict NumberRefusal) → Told (verdict_of a)

asked : (holds : Bool) (a : Result answer.Verdict NumberRefusal) {next : Verdict} → Told next → Told (cond holds next (verdict_of a))
asked true a t = t
asked false a t = told a

told_judged : (w d : ℕ) → Told (judged w d)
told_judged w d = by_tests (d == 0) (nat_le d w)
  where
    by_tests : (same within : Bool) → Told (cond same (verdict_of (Ok New)) (cond within (verdict_of (Ok Repeat)) (verdict_of (Ok Lost))))
    by_tests true t = told (Ok New)
    by_tests false true = told (Ok Repeat)
    by_tests false false = told (Ok Lost)

told_verdict : (n w c b : ℕ) → Told (verdict_for n w c b)
unfolding verdict_for
told_verdict n w c b =
    asked (within 1 7 n) (Err refusal.Modulus)
    (asked (within 1 (2 ^ n - 1) w) (Err refusal.Window)
    (asked (nat_lt c (2 ^ n)) (Err refusal.Awaited)
    (asked (nat_lt b (2 ^ n)) (Err refusal.Received) (told_judged w (difference (2 ^ n) c b)))))

pub record Reception (n w c b : ℕ) : Type 0 where
  pub result : NumberResult
  pub meets : outcome_of result ≡ receiving n w c b

pub reception : (n w c b : ℕ) → Reception n w c b
unfolding receiving
reception n w c b = go (told_verdict n w c b) refl
  where
    go : {v : Verdict} → Told v → verdict_for n w c b ≡ v → Reception n w c b
    go (told a) e =
        record {
          result = record { answer = a; after = record { n = n; w = w; c = awaited_after n c (verdict_of a) } };
          meets = ap (outcome n w c) (sym e);
        }
