-- The seven bits of the diagonal character are what is left of a register that is turned up by one row after each column.
-- Assumes nothing.
use mathlib.Core.Path.{◌≡◌, refl, sym, ap, ap₂, ◌∙◌}
use Prim.Native.Nat.{ℕ, zero, suc, ◌+◌, ◌*◌, ◌%◌}
use native.Mathlib.Omega.{arith}
use mathlib.Core.Bool.{Bool, false, ◌&&◌, cond, xor}
use mathlib.Core.List.{List, [], ◌∷◌, map}
use lib.Dec.{eqb}
use lib.ListN.{length}
use Rattle.bits.specs.Strings.{xor_bits, zeros}
use Rattle.bits.specs.Bytes.{low_bits}
use Rattle.bits.proofs.Bytes.{length-low_bits}
use Rattle.bits.proofs.Strings.{false-xor, xor-false, xor_bits_assoc, xor_bits_comm, xor_bits_four, xor_bits-zeros}
use Rattle.block.specs.Diagonals.{sum_of_column, one_to_seven, diagonals_from, in_row, in_rows, diagonal_bits, turn, turned}

-- ---- seven bits

pub data Seven : List Bool → Type 0 where
  seven : (a b c d e f g : Bool) → Seven (a ∷ b ∷ c ∷ d ∷ e ∷ f ∷ g ∷ [])

pub seven_bits : (v : List Bool) → length v ≡ 7 → Seven v
seven_bits [] h = absurd (omega arith)
seven_bits (a ∷ []) h = absurd (omega arith)
seven_bits (a ∷ b ∷ []) h = absurd (omega arith)
seven_bits (a ∷ b ∷ c ∷ []) h = absurd (omega arith)
seven_bits (a ∷ b ∷ c ∷ d ∷ []) h = absurd (omega arith)
seven_bits (a ∷ b ∷ c ∷ d ∷ e ∷ []) h = absurd (omega arith)
seven_bits (a ∷ b ∷ c ∷ d ∷ e ∷ f ∷ []) h = absurd (omega arith)
seven_bits (a ∷ b ∷ c ∷ d ∷ e ∷ f ∷ g ∷ []) h = seven a b c d e f g
seven_bits (a ∷ b ∷ c ∷ d ∷ e ∷ f ∷ g ∷ h ∷ v) l = absurd (omega arith)

-- columns of seven bits
pub data Sevens : List (List Bool) → Type 0 where
  no_column : Sevens []
  one_column : {c : List Bool} {cs : List (List Bool)} → Seven c → Sevens cs → Sevens (c ∷ cs)

pub sevens-bytes : (bs : List ℕ) → Sevens (map (low_bits 7) bs)
sevens-bytes [] = no_column
sevens-bytes (b ∷ bs) = one_column (seven_bits (low_bits 7 b) (length-low_bits 7 b)) (sevens-bytes bs)

pub length_seven : {v : List Bool} → Seven v → length v ≡ 7
length_seven (seven a b c d e f g) = refl

pub seven-xor : {v w : List Bool} → Seven v → Seven w → Seven (xor_bits v w)
seven-xor (seven a b c d e f g) (seven h i j k l m n) = seven (xor a h) (xor b i) (xor c j) (xor d k) (xor e l) (xor f m) (xor g n)

pub seven-zeros : Seven (zeros 7)
seven-zeros = seven false false false false false false false

pub seven-turn : {v : List Bool} → Seven v → Seven (turn v)
seven-turn (seven a b c d e f g) = seven g a b c d e f

pub turn-xor : {v w : List Bool} → Seven v → Seven w → turn (xor_bits v w) ≡ xor_bits (turn v) (turn w)
turn-xor (seven a b c d e f g) (seven h i j k l m n) = refl

-- ---- turned n times

abbrev pub turns : ℕ → List Bool → List Bool
turns zero v = v
turns (suc n) v = turns n (turn v)

pub seven-turns : (n : ℕ) {v : List Bool} → Seven v → Seven (turns n v)
seven-turns zero s = s
seven-turns (suc n) s = seven-turns n (seven-turn s)

pub turns-add : (m n : ℕ) (v : List Bool) → turns (m + n) v ≡ turns n (turns m v)
turns-add zero n v = let e : 0 + n ≡ n = omega arith in ap (λ k. turns k v) e
turns-add (suc m) n v = let e : suc m + n ≡ suc (m + n) = omega arith in ap (λ k. turns k v) e ∙ turns-add m n (turn v)

turns-turn : (n : ℕ) (v : List Bool) → turns (suc n) v ≡ turn (turns n v)
turns-turn n v = let e : suc n ≡ n + 1 = omega arith in ap (λ k. turns k v) e ∙ turns-add n 1 v

pub turns-xor : (n : ℕ) {v w : List Bool} → Seven v → Seven w → turns n (xor_bits v w) ≡ xor_bits (turns n v) (turns n w)
turns-xor zero s t = refl
turns-xor (suc n) s t = ap (turns n) (turn-xor s t) ∙ turns-xor n (seven-turn s) (seven-turn t)

turns-zeros : (n : ℕ) → turns n (zeros 7) ≡ zeros 7
turns-zeros zero = refl
turns-zeros (suc n) = turns-zeros n

-- ---- the register is linear

pub turned_linear : {cs : List (List Bool)} → Sevens cs → (r : List Bool) → Seven r
    → turned r cs ≡ xor_bits (turns (length cs) r) (turned (zeros 7) cs)
unfolding turned
turned_linear no_column r s = sym (xor_bits_comm r (zeros 7) ∙ xor_bits-zeros 7 r (length_seven s))
turned_linear (one_column {c} {cs} t h) r s =
    let u = seven-turn t in
    turned_linear h (turn (xor_bits r c)) (seven-turn (seven-xor s t))
    ∙ ap (λ z. xor_bits z (turned (zeros 7) cs)) (ap (turns (length cs)) (turn-xor s t) ∙ turns-xor (length cs) (seven-turn s) u)
    ∙ xor_bits_assoc (turns (length cs) (turn r)) (turns (length cs) (turn c)) (turned (zeros 7) cs)
    ∙ ap (xor_bits (turns (length cs) (turn r)))
    (sym (turned_linear h (turn c) u) ∙ ap (λ z. turned (turn z) cs) (sym (xor_bits-zeros 7 c (length_seven t))))

pub turned-cons : {c : List Bool} {cs : List (List Bool)} → Seven c → Sevens cs
    → turned (zeros 7) (c ∷ cs) ≡ xor_bits (turns (suc (length cs)) c) (turned (zeros 7) cs)
unfolding turned
turned-cons {c} {cs} t h = ap (λ z. turned (turn z) cs) (xor_bits-zeros 7 c (length_seven t)) ∙ turned_linear h (turn c) (seven-turn t)

-- ---- columns that are summed first

abbrev pub xor_columns : List (List Bool) → List (List Bool) → List (List Bool)
xor_columns [] ds = []
xor_columns (c ∷ cs) [] = []
xor_columns (c ∷ cs) (d ∷ ds) = xor_bits c d ∷ xor_columns cs ds

pub turned-xor : {cs ds : List (List Bool)} → Sevens cs → Sevens ds → length cs ≡ length ds → (r s : List Bool) → Seven r → Seven s
    → turned (xor_bits r s) (xor_columns cs ds) ≡ xor_bits (turned r cs) (turned s ds)
unfolding turned
turned-xor no_column no_column l r s hr hs = refl
turned-xor no_column (one_column v k) l r s hr hs = absurd (omega arith)
turned-xor (one_column u h) no_column l r s hr hs = absurd (omega arith)
turned-xor (one_column {c} {cs} u h) (one_column {c = d} {cs = ds} v k) l r s hr hs =
    ap (λ z. turned z (xor_columns cs ds)) (ap turn (xor_bits_four r s c d) ∙ turn-xor (seven-xor hr u) (seven-xor hs v))
    ∙ turned-xor h k (omega arith) (turn (xor_bits r c)) (turn (xor_bits s d)) (seven-turn (seven-xor hr u)) (seven-turn (seven-xor hs v))

seven_times : {v : List Bool} → Seven v → turns 7 v ≡ v
seven_times (seven a b c d e f g) = refl

-- a multiple of seven turns changes nothing
pub whole_turns : (k : ℕ) {v : List Bool} → Seven v → turns (7 * k) v ≡ v
whole_turns zero s = refl
whole_turns (suc k) {v} s =
    let e : 7 * suc k ≡ 7 + 7 * k = omega arith in
    ap (λ n. turns n v) e ∙ turns-add 7 (7 * k) v ∙ ap (turns (7 * k)) (seven_times s) ∙ whole_turns k s

-- ---- what goes by residues modulo 7 holds of every number where it holds of 0 to 6

by_residue : (P : ℕ → Type 0) → ((m n : ℕ) → m % 7 ≡ n % 7 → P m → P n) → P 0 → P 1 → P 2 → P 3 → P 4 → P 5 → P 6 → (n : ℕ) → P n
by_residue P same p0 p1 p2 p3 p4 p5 p6 n = go (n % 7) refl
  where
    go : (k : ℕ) → n % 7 ≡ k → P n
    go zero e = same 0 n (sym e) p0
    go (suc zero) e = same 1 n (sym e) p1
    go (suc (suc zero)) e = same 2 n (sym e) p2
    go (suc (suc (suc zero))) e = same 3 n (sym e) p3
    go (suc (suc (suc (suc zero)))) e = same 4 n (sym e) p4
    go (suc (suc (suc (suc (suc zero))))) e = same 5 n (sym e) p5
    go (suc (suc (suc (suc (suc (suc zero)))))) e = same 6 n (sym e) p6
    go (suc (suc (suc (suc (suc (suc (suc k))))))) e = absurd (omega arith)

map_same : (f g : ℕ → Bool) (l : List ℕ) → ((n : ℕ) → f n ≡ g n) → map f l ≡ map g l
map_same f g [] h = refl
map_same f g (n ∷ l) h = ap₂ (λ x y. x ∷ y) (h n) (map_same f g l h)

-- ---- the diagonals of one column: the column, turned down once for each column before it

abbrev of_column : ℕ → List Bool → List Bool
of_column column c = map (λ s. sum_of_column s column 1 c) one_to_seven

same_sum : (s i j row : ℕ) (c : List Bool) → i % 7 ≡ j % 7 → sum_of_column s i row c ≡ sum_of_column s j row c
same_sum s i j row [] h = refl
same_sum s i j row (b ∷ c) h =
    let e : (s + i) % 7 ≡ (s + j) % 7 = omega arith in
    ap₂ (λ k z. xor (eqb ((row + 1) % 7) k && b) z) e (same_sum s i j (row + 1) c h)

same_column : (i j : ℕ) (c : List Bool) → i % 7 ≡ j % 7 → of_column i c ≡ of_column j c
same_column i j c h = map_same (λ s. sum_of_column s i 1 c) (λ s. sum_of_column s j 1 c) one_to_seven (λ s. same_sum s i j 1 c h)

seven-column : (column : ℕ) (c : List Bool) → Seven (of_column column c)
seven-column column c = seven _ _ _ _ _ _ _

next_column : {c : List Bool} → Seven c → (column : ℕ) → turn (of_column (suc column) c) ≡ of_column column c
next_column (seven a b c d e f g) =
    by_residue (λ n. turn (of_column (suc n) v) ≡ of_column n v)
    (λ m n h p. ap turn (same_column (suc n) (suc m) v (omega arith)) ∙ p ∙ same_column m n v h)
    refl refl refl refl refl refl refl
  where
    v : List Bool
    v = a ∷ b ∷ c ∷ d ∷ e ∷ f ∷ g ∷ []

first_column : {c : List Bool} → Seven c → of_column 1 c ≡ c
first_column (seven a b c d e f g) = simp (false-xor, xor-false)

turned_column : {c : List Bool} → Seven c → (i : ℕ) → turns i (of_column (suc i) c) ≡ c
turned_column s zero = first_column s
turned_column s (suc i) = ap (turns i) (next_column s (suc i)) ∙ turned_column s i

-- ---- the diagonals of all columns

diagonals-turned : (i : ℕ) {cs : List (List Bool)} → Sevens cs → turns (i + length cs) (diagonals_from (suc i) cs) ≡ turned (zeros 7) cs
unfolding turned
diagonals-turned i no_column = turns-zeros (i + 0)
diagonals-turned i (one_column {c} {cs} s h) =
    let n = length cs in
    let e : i + suc n ≡ suc i + n = omega arith in
    let k : suc i + 1 ≡ suc (suc i) = omega arith in
    ap (λ z. turns (i + suc n) (xor_bits (of_column (suc i) c) (diagonals_from z cs))) k
    ∙ turns-xor (i + suc n) (seven-column (suc i) c) (seven _ _ _ _ _ _ _)
    ∙ ap₂ xor_bits
    (turns-add i (suc n) (of_column (suc i) c) ∙ ap (turns (suc n)) (turned_column s i))
    (ap (λ z. turns z (diagonals_from (suc (suc i)) cs)) e ∙ diagonals-turned (suc i) h)
    ∙ sym (turned-cons s h)

-- ---- their rows: turned up once for each counted byte, and once more

same_row : (m n row s : ℕ) (ds : List Bool) → m % 7 ≡ n % 7 → in_row m row s ds ≡ in_row n row s ds
same_row m n row s [] h = refl
same_row m n row s (d ∷ ds) h =
    let e : (s + m) % 7 ≡ (s + n) % 7 = omega arith in
    ap₂ (λ k z. cond (eqb (k + 1) row) d z) e (same_row m n row (s + 1) ds h)

same_rows : (m n : ℕ) (ds : List Bool) → m % 7 ≡ n % 7 → in_rows m ds ≡ in_rows n ds
same_rows m n ds h = map_same (λ row. in_row m row 1 ds) (λ row. in_row n row 1 ds) one_to_seven (λ row. same_row m n row 1 ds h)

next_rows : {ds : List Bool} → Seven ds → (n : ℕ) → in_rows (suc n) ds ≡ turn (in_rows n ds)
next_rows (seven a b c d e f g) =
    by_residue (λ n. in_rows (suc n) v ≡ turn (in_rows n v))
    (λ m n h p. same_rows (suc n) (suc m) v (omega arith) ∙ p ∙ ap turn (same_rows m n v h))
    refl refl refl refl refl refl refl
  where
    v : List Bool
    v = a ∷ b ∷ c ∷ d ∷ e ∷ f ∷ g ∷ []

first_rows : {ds : List Bool} → Seven ds → in_rows 0 ds ≡ turn ds
first_rows (seven a b c d e f g) = refl

rows-turned : {ds : List Bool} → Seven ds → (n : ℕ) → in_rows n ds ≡ turns (suc n) ds
rows-turned s zero = first_rows s
rows-turned {ds} s (suc n) = next_rows s n ∙ ap turn (rows-turned s n) ∙ sym (turns-turn (suc n) ds)

-- ---- the law

pub diagonal_register : (n : ℕ) {cs : List (List Bool)} → Sevens cs → length cs ≡ n + 1 → diagonal_bits n cs ≡ turned (zeros 7) cs
unfolding diagonal_bits
diagonal_register n {cs} h l =
    let e : suc n ≡ 0 + length cs = omega arith in
    rows-turned (seven _ _ _ _ _ _ _) n ∙ ap (λ k. turns k (diagonals_from 1 cs)) e ∙ diagonals-turned 0 h

pub length-diagonal_bits : (n : ℕ) (cs : List (List Bool)) → length (diagonal_bits n cs) ≡ 7
unfolding diagonal_bits
length-diagonal_bits n cs = refl
