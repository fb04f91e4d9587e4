-- Pieces of 56 bytes, summed place by place, enter the register as one piece. Assumes nothing.
use mathlib.Core.Path.{◌≡◌, refl, sym, ap, ap₂, ◌∙◌}
use Prim.Native.Nat.{ℕ, suc, ◌+◌, ◌*◌, ◌≤◌, ◌<◌}
use native.Mathlib.Omega.{arith}
use mathlib.Core.Bool.{Bool}
use mathlib.Core.List.{List, [], ◌∷◌, ◌++◌, map, append-nil}
use lib.Bits.{bit_xor}
use lib.ListN.{length, length-map, get_or, set, take, drop, take-append-drop, drop_of_length-le}
use lib.Seq.{sets, sets-eq, drop-cons}
use Rattle.bits.specs.Strings.{xor_bits, zeros}
use Rattle.bits.specs.Bytes.{low_bits}
use Rattle.bits.proofs.Strings.{xor_bits_comm, xor_bits-zeros}
use Rattle.bits.proofs.Bytes.{length-low_bits, low_bits-xor, low_bits_injective}
use Rattle.block.specs.Diagonals.{turned}
use Rattle.block.proofs.DiagonalRegister.{Seven, seven_bits, seven-zeros, sevens-bytes, xor_columns, turned-xor, turned_linear, turns, whole_turns}
use Rattle.block_diagonals.specs.Sums.{turn_in, turn_all, xor_bytes}
use Rattle.block_diagonals.proofs.Turning.{turn_all-append, bits-turn_all}

-- ---- bytes place by place

pub length-xor_bytes : (xs ys : List ℕ) → length xs ≡ length ys → length (xor_bytes xs ys) ≡ length xs
unfolding xor_bytes
length-xor_bytes [] ys l = refl
length-xor_bytes (x ∷ xs) [] l = absurd (omega arith)
length-xor_bytes (x ∷ xs) (y ∷ ys) l = ap suc (length-xor_bytes xs ys (omega arith))

columns-xor : (xs ys : List ℕ) → map (low_bits 7) (xor_bytes xs ys) ≡ xor_columns (map (low_bits 7) xs) (map (low_bits 7) ys)
unfolding xor_bytes
columns-xor [] ys = refl
columns-xor (x ∷ xs) [] = refl
columns-xor (x ∷ xs) (y ∷ ys) = ap₂ (λ c cs. c ∷ cs) (low_bits-xor 7 x y) (columns-xor xs ys)

-- ---- the register behind some bytes has seven bits

turn_all_small : (register : ℕ) (bs : List ℕ) → register < 128 → turn_all register bs < 128
unfolding turn_all
turn_all_small register [] h = h
turn_all_small register (b ∷ bs) h = turn_all_small (turn_in register b) bs (omega arith)

some_small : (register : ℕ) (bs : List ℕ) → 1 ≤ length bs → turn_all register bs < 128
unfolding turn_all
some_small register [] h = absurd (omega arith)
some_small register (b ∷ bs) h = turn_all_small (turn_in register b) bs (omega arith)

-- ---- two pieces of one length, a multiple of seven

module _ (k register : ℕ) (xs ys : List ℕ) (lx : length xs ≡ 7 * suc k) (ly : length ys ≡ 7 * suc k) where
  abbrev v : List Bool
  v = low_bits 7 register

  abbrev w : List Bool
  w = low_bits 7 (turn_all register xs)

  seven-low : (n : ℕ) → Seven (low_bits 7 n)
  seven-low n = seven_bits (low_bits 7 n) (length-low_bits 7 n)

  -- the second behind the first: turned all the way round, the first stands as it was
  behind : turned w (map (low_bits 7) ys) ≡ xor_bits w (turned (zeros 7) (map (low_bits 7) ys))
  behind =
      let l : length (map (low_bits 7) ys) ≡ 7 * suc k = length-map ys (low_bits 7) ∙ ly in
      turned_linear (sevens-bytes ys) w (seven-low (turn_all register xs))
      ∙ ap (λ n. xor_bits (turns n w) (turned (zeros 7) (map (low_bits 7) ys))) l
      ∙ ap (λ z. xor_bits z (turned (zeros 7) (map (low_bits 7) ys))) (whole_turns (suc k) (seven-low (turn_all register xs)))

  bits-summed : low_bits 7 (turn_all register (xor_bytes xs ys)) ≡ low_bits 7 (turn_all (turn_all register xs) ys)
  bits-summed =
      bits-turn_all register (xor_bytes xs ys)
      ∙ ap₂ turned (sym (xor_bits_comm v (zeros 7) ∙ xor_bits-zeros 7 v (length-low_bits 7 register))) (columns-xor xs ys)
      ∙ turned-xor (sevens-bytes xs) (sevens-bytes ys) (length-map xs (low_bits 7) ∙ lx ∙ sym ly ∙ sym (length-map ys (low_bits 7))) v (zeros 7) (seven-low register) seven-zeros
      ∙ ap (λ z. xor_bits z (turned (zeros 7) (map (low_bits 7) ys))) (sym (bits-turn_all register xs))
      ∙ sym behind ∙ sym (bits-turn_all (turn_all register xs) ys)

  pub summed : turn_all register (xor_bytes xs ys) ≡ turn_all (turn_all register xs) ys
  summed =
      low_bits_injective 7 (turn_all register (xor_bytes xs ys)) (turn_all (turn_all register xs) ys)
      (some_small register (xor_bytes xs ys) (omega (arith, length-xor_bytes xs ys (lx ∙ sym ly))))
      (some_small (turn_all register xs) ys (omega arith)) bits-summed

-- ---- the loops

-- the next place of a sum
pub next_place : (i : ℕ) (xs ys out : List ℕ) → i < length xs → i < length ys → {next : List ℕ} → next ≡ set out i (bit_xor (get_or xs i 0) (get_or ys i 0))
    → sets next (suc i) (xor_bytes (drop (suc i) xs) (drop (suc i) ys)) ≡ sets out i (xor_bytes (drop i xs) (drop i ys))
unfolding xor_bytes
next_place i xs ys out h k {next} e =
    ap (λ z. sets z (suc i) (xor_bytes (drop (suc i) xs) (drop (suc i) ys))) e
    ∙ sym (ap (sets out i) (ap₂ xor_bytes (drop-cons xs i 0 h) (drop-cons ys i 0 k)))

no_place : (i : ℕ) (xs ys out : List ℕ) → drop i ys ≡ [] → sets out i (xor_bytes (drop i xs) (drop i ys)) ≡ out
unfolding xor_bytes
no_place i xs ys out e = ap (λ z. sets out i (xor_bytes (drop i xs) z)) e ∙ go (drop i xs)
  where
    go : (zs : List ℕ) → sets out i (xor_bytes zs []) ≡ out
    go [] = refl
    go (z ∷ zs) = refl

-- all places of an output as long
pub all_places : (i : ℕ) (xs ys out₀ out : List ℕ) → length xs ≡ length ys → length out₀ ≡ length xs → drop i ys ≡ []
    → sets out i (xor_bytes (drop i xs) (drop i ys)) ≡ sets out₀ 0 (xor_bytes xs ys) → out ≡ xor_bytes xs ys
all_places i xs ys out₀ out l k e h =
    let vs = xor_bytes xs ys in
    let n : length vs ≡ length xs = length-xor_bytes xs ys l in
    let none : drop (0 + length vs) out₀ ≡ [] = drop_of_length-le out₀ (omega (arith, n)) in
    sym (no_place i xs ys out e) ∙ h ∙ sets-eq vs out₀ 0 (omega (arith, n)) ∙ ap (λ z. vs ++ z) none ∙ append-nil vs

-- the first piece, and one piece more
pub first_piece : (start n : ℕ) (part : List ℕ) {first rest : List ℕ} → first ≡ take n part → rest ≡ drop n part → turn_all (turn_all start first) rest ≡ turn_all start part
first_piece start n part {first} {rest} e f =
    sym (turn_all-append start first rest) ∙ ap (turn_all start) (ap₂ ◌++◌ e f ∙ take-append-drop n part)

pub one_piece : (start : ℕ) (part sums rest : List ℕ) {next piece left : List ℕ} → length sums ≡ 56 → length piece ≡ 56
    → turn_all (turn_all start sums) rest ≡ turn_all start part → next ≡ xor_bytes sums piece → piece ≡ take 56 rest → left ≡ drop 56 rest
    → turn_all (turn_all start next) left ≡ turn_all start part
one_piece start part sums rest {next} {piece} {left} l k h e f g =
    ap (λ z. turn_all z left) (ap (turn_all start) e ∙ summed 7 start sums piece l k)
    ∙ first_piece (turn_all start sums) 56 rest f g ∙ h
