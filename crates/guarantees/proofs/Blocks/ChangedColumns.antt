-- Columns in which two blocks differ: none, one, two, or six bits or more; and what their row sums and their register are. A column
-- stands for eight bits: seven and their parity. Assumes nothing.
use mathlib.Core.Path.{◌≡◌, refl, sym, ap, ap₂, ◌∙◌}
use Prim.Native.Nat.{ℕ, zero, suc, ◌+◌, ◌%◌, ◌≤◌}
use native.Mathlib.Omega.{arith}
use mathlib.Core.Bool.{Bool, xor}
use mathlib.Core.List.{List, [], ◌∷◌, ◌++◌}
use lib.ListN.{length, length-append, length-replicate, replicate}
use Rattle.bits.specs.Strings.{xor_bits, zeros, weight}
use Rattle.bits.proofs.Strings.{xor_bits_comm, xor_bits-zeros, weight-zero}
use Rattle.block.specs.Diagonals.{turned}
use Rattle.block.proofs.DiagonalRegister.{Seven, Sevens, no_column, one_column, length_seven, seven-xor, seven-zeros, turns, seven-turns, turns-add, turns-xor, turned-cons}

-- how many of the eight bits are set
abbrev pub column_weight : List Bool → ℕ
column_weight v = weight v + weight v % 2

-- the sum of all columns
abbrev pub sum_of : List (List Bool) → List Bool
sum_of [] = zeros 7
sum_of (v ∷ vs) = xor_bits v (sum_of vs)

pub no_weight : {v : List Bool} → Seven v → column_weight v ≡ 0 → v ≡ zeros 7
no_weight {v} s h = weight-zero v (omega arith) ∙ ap zeros (length_seven s)

-- ---- how many columns are changed

abbrev pub unchanged : ℕ → List (List Bool)
unchanged n = replicate n (zeros 7)

abbrev pub weight_of : List (List Bool) → ℕ
weight_of [] = 0
weight_of (v ∷ vs) = column_weight v + weight_of vs

pub record Column (v : List Bool) : Type 0 where
  pub bits : Seven v
  pub set : 2 ≤ column_weight v

pub data Changed : List (List Bool) → Type 0 where
  none : (n : ℕ) → Changed (unchanged n)
  one : (a b : ℕ) {v : List Bool} → Column v → Changed (unchanged a ++ v ∷ unchanged b)
  two : (a b c : ℕ) {v w : List Bool} → Column v → Column w → Changed (unchanged a ++ v ∷ (unchanged b ++ w ∷ unchanged c))
  more : (vs : List (List Bool)) → 6 ≤ weight_of vs → Changed vs

pub weight-unchanged : (n : ℕ) (vs : List (List Bool)) → weight_of (unchanged n ++ vs) ≡ weight_of vs
weight-unchanged zero vs = refl
weight-unchanged (suc n) vs = omega (arith, weight-unchanged n vs)

pub weight_two : (a b c : ℕ) (v w : List Bool)
    → weight_of (unchanged a ++ v ∷ (unchanged b ++ w ∷ unchanged c)) ≡ column_weight v + (column_weight w + weight_of (unchanged c))
weight_two a b c v w =
    weight-unchanged a (v ∷ (unchanged b ++ w ∷ unchanged c)) ∙ ap (λ n. column_weight v + n) (weight-unchanged b (w ∷ unchanged c))

unchanged_before : {vs : List (List Bool)} → Changed vs → Changed (zeros 7 ∷ vs)
unchanged_before (none n) = none (suc n)
unchanged_before (one a b h) = one (suc a) b h
unchanged_before (two a b c h k) = two (suc a) b c h k
unchanged_before (more vs l) = more (zeros 7 ∷ vs) (omega arith)

changed_before : {v : List Bool} {vs : List (List Bool)} → Column v → Changed vs → Changed (v ∷ vs)
changed_before h (none n) = one 0 n h
changed_before h (one a b k) = two 0 a b h k
changed_before {v} {vs} h (two a b c {v = w} {w = x} k l) = more (v ∷ vs) (omega (arith, weight_two a b c w x, h.set, k.set, l.set))
changed_before {v} h (more vs l) = more (v ∷ vs) (omega (arith, h.set))

pub changed : {vs : List (List Bool)} → Sevens vs → Changed vs
changed no_column = none 0
changed (one_column {c = v} {cs = vs} s h) = go (column_weight v) refl (changed h)
  where
    go : (n : ℕ) → column_weight v ≡ n → Changed vs → Changed (v ∷ vs)
    go zero e c = rw (no_weight s e) (unchanged_before c)
    go (suc zero) e c = absurd (omega arith)
    go (suc (suc n)) e c = changed_before (record { bits = s; set = omega arith }) c

-- ---- the sum and the register of changed columns

sevens-unchanged : (n : ℕ) → Sevens (unchanged n)
sevens-unchanged zero = no_column
sevens-unchanged (suc n) = one_column seven-zeros (sevens-unchanged n)

sevens_before : (n : ℕ) {vs : List (List Bool)} → Sevens vs → Sevens (unchanged n ++ vs)
sevens_before zero h = h
sevens_before (suc n) h = one_column seven-zeros (sevens_before n h)

seven-sum : {vs : List (List Bool)} → Sevens vs → Seven (sum_of vs)
seven-sum no_column = seven-zeros
seven-sum (one_column s h) = seven-xor s (seven-sum h)

zeros_left : {v : List Bool} → Seven v → xor_bits (zeros 7) v ≡ v
zeros_left {v} s = xor_bits-zeros 7 v (length_seven s)

zeros_right : {v : List Bool} → Seven v → xor_bits v (zeros 7) ≡ v
zeros_right {v} s = xor_bits_comm v (zeros 7) ∙ zeros_left s

sum_before : (n : ℕ) {vs : List (List Bool)} → Sevens vs → sum_of (unchanged n ++ vs) ≡ sum_of vs
sum_before zero h = refl
sum_before (suc n) h = zeros_left (seven-sum (sevens_before n h)) ∙ sum_before n h

sum-unchanged : (n : ℕ) → sum_of (unchanged n) ≡ zeros 7
unfolding xor
sum-unchanged zero = refl
sum-unchanged (suc n) = ap (xor_bits (zeros 7)) (sum-unchanged n)

-- the sum of one changed column and of two
pub sum_one : (a b : ℕ) {v : List Bool} → Seven v → sum_of (unchanged a ++ v ∷ unchanged b) ≡ v
sum_one a b {v} s = sum_before a (one_column s (sevens-unchanged b)) ∙ ap (xor_bits v) (sum-unchanged b) ∙ zeros_right s

pub sum_two : (a b c : ℕ) {v w : List Bool} → Seven v → Seven w → sum_of (unchanged a ++ v ∷ (unchanged b ++ w ∷ unchanged c)) ≡ xor_bits v w
sum_two a b c {v} {w} s t =
    sum_before a (one_column s (sevens_before b (one_column t (sevens-unchanged c)))) ∙ ap (xor_bits v) (sum_one b c t)

turned_before : (n : ℕ) (vs : List (List Bool)) → turned (zeros 7) (unchanged n ++ vs) ≡ turned (zeros 7) vs
unfolding turned xor
turned_before zero vs = refl
turned_before (suc n) vs = turned_before n vs

pub turned-unchanged : (n : ℕ) → turned (zeros 7) (unchanged n) ≡ zeros 7
unfolding turned xor
turned-unchanged zero = refl
turned-unchanged (suc n) = turned-unchanged n

turned_one : (a b : ℕ) {v : List Bool} → Seven v → turned (zeros 7) (unchanged a ++ v ∷ unchanged b) ≡ turns (suc b) v
turned_one a b {v} s =
    let e : length (unchanged b) ≡ b = length-replicate b (zeros 7) in
    turned_before a (v ∷ unchanged b) ∙ turned-cons s (sevens-unchanged b)
    ∙ ap₂ (λ n z. xor_bits (turns (suc n) v) z) e (turned-unchanged b) ∙ zeros_right (seven-turns (suc b) s)

-- two equal ones, the second b columns behind the first
pub turned_two : (a b c : ℕ) {v : List Bool} → Seven v
    → turned (zeros 7) (unchanged a ++ v ∷ (unchanged b ++ v ∷ unchanged c)) ≡ turns (suc c) (xor_bits (turns (suc b) v) v)
turned_two a b c {v} s =
    let rest = unchanged b ++ v ∷ unchanged c in
    let e : suc (length rest) ≡ suc b + suc c =
    omega (arith, length-append (unchanged b) (v ∷ unchanged c), length-replicate b (zeros 7), length-replicate c (zeros 7)) in
    turned_before a (v ∷ rest) ∙ turned-cons s (sevens_before b (one_column s (sevens-unchanged c)))
    ∙ ap₂ (λ n z. xor_bits (turns n v) z) e (turned_one b c s)
    ∙ ap (λ z. xor_bits z (turns (suc c) v)) (turns-add (suc b) (suc c) v) ∙ sym (turns-xor (suc c) (seven-turns (suc b) s) s)
