-- Writing and reading question by question. Assumes nothing.
use mathlib.Core.Path.{◌≡◌, refl, ap}
use Prim.Native.Nat.{ℕ, ◌+◌, ◌-◌, ◌<◌, ◌≤◌}
use native.Mathlib.Omega.{arith}
use mathlib.Core.Bool.{true, false}
use mathlib.Core.List.{List, ◌++◌}
use lib.ListN.{length, drop}
use borrow.Author.Tests.{le-leb, lt-leb}
use Rattle.bits.specs.Calls.{called}
use Rattle.cyclic.specs.Check.{Parameters}
use Rattle.fixed_block.specs.Block.{check_length, Outcome, bytes, no, block_of, write_fixed, content_of, is_right, read_fixed, done, refused, after}

-- ---- writing

module _ (m : Parameters) (content : List ℕ) (room : ℕ) where
  pub write-64 : length content < 1 → write_fixed m content room ≡ no 64 0
  unfolding write_fixed
  write-64 h = rw (lt-leb 1 (length content) h) refl

  pub write-65 : 1 ≤ length content → m.limit < length content + check_length m → write_fixed m content room ≡ no 65 0
  unfolding write_fixed
  write-65 h l = rw (le-leb 1 (length content) h, lt-leb (length content + check_length m) m.limit l) refl

  pub write-6 : 1 ≤ length content → length content + check_length m ≤ m.limit → room < length content + check_length m
      → write_fixed m content room ≡ no 6 (length content + check_length m)
  unfolding write_fixed
  write-6 h l r =
      rw (le-leb 1 (length content) h, le-leb (length content + check_length m) m.limit l, lt-leb (length content + check_length m) room r) refl

  pub write-block : 1 ≤ length content → length content + check_length m ≤ m.limit → length content + check_length m ≤ room
      → write_fixed m content room ≡ bytes (block_of m content)
  unfolding write_fixed
  write-block h l r =
      rw (le-leb 1 (length content) h, le-leb (length content + check_length m) m.limit l, le-leb (length content + check_length m) room r) refl

-- ---- reading

module _ (m : Parameters) (block : List ℕ) (room : ℕ) where
  pub read-64 : length block ≤ check_length m → read_fixed m block room ≡ no 64 0
  unfolding read_fixed
  read-64 h = rw (lt-leb (1 + check_length m) (length block) (omega arith)) refl

  pub read-65 : check_length m < length block → m.limit < length block → read_fixed m block room ≡ no 65 0
  unfolding read_fixed
  read-65 h l = rw (le-leb (1 + check_length m) (length block) (omega arith), lt-leb (length block) m.limit l) refl

  pub read-18 : check_length m < length block → length block ≤ m.limit → is_right m block ≡ false → read_fixed m block room ≡ no 18 0
  unfolding read_fixed
  read-18 h l c = rw (le-leb (1 + check_length m) (length block) (omega arith), le-leb (length block) m.limit l, c) refl

  pub read-19 : check_length m < length block → length block ≤ m.limit → is_right m block ≡ true → room < length block - check_length m
      → read_fixed m block room ≡ no 19 (length block - check_length m)
  unfolding read_fixed
  read-19 h l c r =
      rw (le-leb (1 + check_length m) (length block) (omega arith), le-leb (length block) m.limit l, c, lt-leb (length block - check_length m) room r) refl

  pub read-content : check_length m < length block → length block ≤ m.limit → is_right m block ≡ true → length block - check_length m ≤ room
      → read_fixed m block room ≡ bytes (content_of m block)
  unfolding read_fixed
  read-content h l c r =
      rw (le-leb (1 + check_length m) (length block) (omega arith), le-leb (length block) m.limit l, c, le-leb (length block - check_length m) room r) refl

-- ---- the answer of a call

pub refuses : {number value : ℕ} {o : List ℕ} (outcome : Outcome) → outcome ≡ no number value → called (refused number value) o ≡ after outcome o
refuses outcome e = rw e refl

pub gives : {b o : List ℕ} {n : ℕ} (before : List ℕ) (outcome : Outcome) → outcome ≡ bytes b → length b ≡ n → o ≡ b ++ drop n before → called (done n) o ≡ after outcome before
gives {n = n} before outcome e l f = rw (e, l) (ap (called (done n)) f)
