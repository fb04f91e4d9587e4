-- What is proved of joined checks: each statement once, under the name that its proof carries. Assumes nothing.
use Rattle.std.specs.Prelude.{◌≡◌, ℕ, ◌+◌, ◌≤◌, ◌<◌, Bool, List, [], ◌++◌, length}
use Rattle.bits.specs.Strings.{xor_bits, zeros}
use Rattle.bits.specs.Bytes.{bits_of}
use Rattle.division.specs.Division.{remainder, power}
use Rattle.cyclic.specs.Check.{Parameters, invert_if, check_bits, method3, method4, method5, method6}
use Rattle.cyclic.specs.Laws.{OfWidth}
use Rattle.polynomials.specs.Product.{product}
use Rattle.joining.specs.Joining.{joined, Answer, check, refused, join}

-- parameters of width w that add before the division what they add behind it: ones where they invert, zeros where not
pub record Joinable (w : ℕ) (m : Parameters) : Type 0 where
  pub of_width : OfWidth w m
  pub start_is_inversion : m.start ≡ invert_if m.inverted (zeros w)

-- which the methods are
pub record JoinableMethods : Type 0 where
  pub method_3 : Joinable 16 method3
  pub method_4 : Joinable 16 method4
  pub method_5 : Joinable 16 method5
  pub method_6 : Joinable 32 method6

-- ---- of the checks of any two contents

-- it is the check of the joined content
abbrev pub JoinedCheck : Type 0
JoinedCheck =
    (w : ℕ) (m : Parameters) → Joinable w m → (c d : List Bool)
    → joined m.generator (check_bits m c) (check_bits m d) (length d) ≡ check_bits m (c ++ d)

-- of bytes within the limit it is the answer
abbrev pub JoinIsCheck : Type 0
JoinIsCheck =
    (w : ℕ) (m : Parameters) → Joinable w m → (A B : List ℕ) → length A + length B ≤ m.limit
    → join m (check_bits m (bits_of A)) (length A) (check_bits m (bits_of B)) (length B) ≡ check (check_bits m (bits_of (A ++ B)))

-- ---- of any values

-- it is the remainder of the first times x to the second part's bits, plus the second
abbrev pub JoinedSum : Type 0
JoinedSum =
    (p a b : List Bool) → length a ≡ length p → length b ≡ length p → (n : ℕ) → joined p a b n ≡ xor_bits (remainder p (a ++ zeros n)) b

-- which code computes from a power of x
abbrev pub JoinedByPower : Type 0
JoinedByPower =
    (p a b : List Bool) → 0 < length p → length a ≡ length p → length b ≡ length p → (n : ℕ)
    → joined p a b n ≡ xor_bits (product p a (power p n)) b

-- three parts give the same grouped either way
abbrev pub JoinedGroups : Type 0
JoinedGroups =
    (p a b c : List Bool) → length a ≡ length p → length b ≡ length p → length c ≡ length p → (n k : ℕ)
    → joined p (joined p a b n) c k ≡ joined p a (joined p b c k) (n + k)

-- what follows a check; a refusal stays
abbrev pub after : Answer → (List Bool → Answer) → Answer
after (check c) f = f c
after (refused number value) f = refused number value

-- so do their answers, refusals included
abbrev pub JoinGroups : Type 0
JoinGroups =
    (w : ℕ) (m : Parameters) → OfWidth w m → (a b c : List Bool) → length a ≡ w → length b ≡ w → length c ≡ w → (i j k : ℕ)
    → after (join m a i b j) (λ ab. join m ab (i + j) c k) ≡ after (join m b j c k) (λ bc. join m a i bc (j + k))

-- ---- an empty part, given with its own check, changes nothing

abbrev pub EmptyFirst : Type 0
EmptyFirst =
    (w : ℕ) (m : Parameters) → Joinable w m → (b : List Bool) → length b ≡ w → (n : ℕ) → joined m.generator (check_bits m []) b n ≡ b

abbrev pub EmptySecond : Type 0
EmptySecond =
    (w : ℕ) (m : Parameters) → Joinable w m → (a : List Bool) → length a ≡ w → joined m.generator a (check_bits m []) 0 ≡ a
