-- The rule, question by question: the outcome at the first that is answered no, and where none is. Assumes nothing.
use Rattle.std.proofs.Common.{◌≡◌, ℕ, ◌-◌, ◌^◌, ◌<◌, ◌≤◌, true, false, ◌⊎◌, sym, ap, ◌∙◌, inl, inr, arith, le-ltb, lt-ltb, le-leb}
use mathlib.Core.Bool.{and-false}
use borrow.Author.Tests.{lt-leb}
use Rattle.number.specs.Number.{Verdict, refused, Outcome, difference, judged, within, verdict_for, outcome, receiving}

module _ (lo hi x : ℕ) where
  pub inside : lo ≤ x → x ≤ hi → within lo hi x ≡ true
  inside l h = rw (le-leb lo x l, le-leb x hi h)

  outside : x < lo ⊎ hi < x → within lo hi x ≡ false
  outside (inl h) = rw (lt-leb lo x h)
  outside (inr h) = rw (lt-leb x hi h, and-false)

module _ (n w c b : ℕ) where
  by_verdict : {v : Verdict} → verdict_for n w c b ≡ v → outcome n w c v ≡ receiving n w c b
  unfolding receiving
  by_verdict e = sym (ap (outcome n w c) e)

  pub bad_modulus : n < 1 ⊎ 7 < n → outcome n w c (refused 41) ≡ receiving n w c b
  unfolding verdict_for
  bad_modulus h = by_verdict (rw (outside 1 7 n h))

  module _ (n-from : 1 ≤ n) (n-to : n ≤ 7) where
    modulus : within 1 7 n ≡ true
    modulus = inside 1 7 n n-from n-to

    pub bad_window : w < 1 ⊎ 2 ^ n - 1 < w → outcome n w c (refused 51) ≡ receiving n w c b
    unfolding verdict_for
    bad_window h = by_verdict (rw (modulus, outside 1 (2 ^ n - 1) w h))

    module _ (w-from : 1 ≤ w) (w-to : w < 2 ^ n) where
      window : within 1 (2 ^ n - 1) w ≡ true
      window = inside 1 (2 ^ n - 1) w w-from (omega arith)

      pub bad_awaited : 2 ^ n ≤ c → outcome n w c (refused 42) ≡ receiving n w c b
      unfolding verdict_for
      bad_awaited h = by_verdict (rw (modulus, window, le-ltb c (2 ^ n) h))

      module _ (awaited : c < 2 ^ n) where
        pub bad_received : 2 ^ n ≤ b → outcome n w c (refused 43) ≡ receiving n w c b
        unfolding verdict_for
        bad_received h = by_verdict (rw (modulus, window, lt-ltb c (2 ^ n) awaited, le-ltb b (2 ^ n) h))

        pub all_right : {d : ℕ} {o : Outcome} → b < 2 ^ n → d ≡ difference (2 ^ n) c b → o ≡ outcome n w c (judged w d)
            → o ≡ receiving n w c b
        unfolding verdict_for
        all_right h e f = f ∙ rw e (by_verdict (rw (modulus, window, lt-ltb c (2 ^ n) awaited, lt-ltb b (2 ^ n) h)))
