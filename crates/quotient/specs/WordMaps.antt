-- Maps of words that are built of shifts and sums, as code has them. Assumes nothing.
use Rattle.std.specs.Prelude.{ℕ, ◌*◌, ◌/◌, ◌%◌, ◌^◌}
use Rattle.std.specs.Int.Bits.{bit_xor}

-- the word itself; a map, then a shift up or down by some bits; two maps added up; one map after another
pub data WordMap : Type 0 where
  whole : WordMap
  up down : ℕ → WordMap → WordMap
  sum onward : WordMap → WordMap → WordMap

abbrev pub number : WordMap → ℕ → ℕ
number whole t = t
number (up k m) t = (number m t * 2 ^ k) % 2 ^ 64
number (down k m) t = number m t / 2 ^ k
number (sum m n) t = bit_xor (number m t) (number n t)
number (onward m n) t = number n (number m t)

-- times 1 + u and 1 + u^2 by the generator of method 6: two neighbours, and two bits ten places apart, serve all its powers
abbrev apart : ℕ → WordMap
apart k = sum whole (up k whole)

abbrev pub times_one : WordMap
times_one =
    sum whole
    (sum
    (sum (sum (up 6 (apart 10)) (up 20 (apart 10))) (sum (up 9 (apart 1)) (up 21 (apart 1))))
    (sum (sum (up 24 (apart 1)) (up 27 (apart 1))) (up 31 (apart 1))))

abbrev pub times_two : WordMap
times_two =
    sum whole
    (sum
    (sum (sum (up 12 (apart 20)) (up 40 (apart 20))) (sum (up 18 (apart 2)) (up 42 (apart 2))))
    (sum (sum (up 48 (apart 2)) (up 54 (apart 2))) (up 62 (apart 2))))
