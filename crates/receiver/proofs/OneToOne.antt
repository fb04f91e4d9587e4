-- The papers' numbers tell every answer and record apart. Assumes nothing.
use Rattle.std.proofs.Common.{◌≡◌, ℕ, Bool, true, false, cond, ◌||◌, eqb, Result, Ok, Err, refl, sym, ap, ap₂, ◌∙◌, arith}
use Rattle.block.specs.declared.Block.{Block}
use Rattle.block.specs.declared.ReadRefusal.{ReadRefusal}
use Rattle.block.specs.declared.ReadRefusal.TheVariants as reading
use Rattle.block.specs.Answers as block
use Rattle.block.specs.Answers.{Numbers, read_number, of_read}
use Rattle.block.proofs.OneToOne.{of_read_injective}
use Rattle.receiver.specs.declared.Receiver.{Receiver}
use Rattle.receiver.specs.declared.ReceiverRefusal.{ReceiverRefusal}
use Rattle.receiver.specs.declared.ReceiverRefusal.TheVariants.{Modulus, Record, Awaited, Received, OrderWaits}
use Rattle.receiver.specs.declared.OrderResult.{OrderResult}
use Rattle.receiver.specs.declared.Told.{Told}
use Rattle.receiver.specs.declared.Told.TheVariants as tells
use Rattle.receiver.specs.declared.BlockRefusal.{BlockRefusal}
use Rattle.receiver.specs.declared.BlockRefusal.TheVariants as refuses
use Rattle.receiver.specs.declared.BlockResult.{BlockResult}
use Rattle.receiver.specs.Receiver.{Outcome, OrderAnswer, noted, not_noted}
use Rattle.receiver.specs.Answers.{number_of, order_answer, order_outcome, TellNumbers, repeat_told, lost_told, read_told, told_of, block_outcome}

refusal_from : ℕ → ReceiverRefusal
refusal_from number =
    cond (eqb number 41) Modulus (cond (eqb number 51) Record (cond (eqb number 42) Awaited (cond (eqb number 43) Received OrderWaits)))

refusal_back : (r : ReceiverRefusal) → refusal_from (number_of r) ≡ r
unfolding refusal_from
refusal_back Modulus = refl
refusal_back Record = refl
refusal_back Awaited = refl
refusal_back Received = refl
refusal_back OrderWaits = refl

-- ---- an order

order_from : OrderAnswer → Result Unit ReceiverRefusal
order_from noted = Ok tt
order_from (not_noted number) = Err (refusal_from number)

order_back : (a : Result Unit ReceiverRefusal) → order_from (order_answer a) ≡ a
unfolding order_from
order_back (Ok done) = refl
order_back (Err r) = ap Err (refusal_back r)

pub order_answer_injective : (a b : Result Unit ReceiverRefusal) → order_answer a ≡ order_answer b → a ≡ b
order_answer_injective a b e = sym (order_back a) ∙ ap order_from e ∙ order_back b

pub order_outcome_injective : (r s : OrderResult) → order_outcome r ≡ order_outcome s → r ≡ s
order_outcome_injective r s e =
    ap₂ (λ (a : Result Unit ReceiverRefusal) (x : Receiver). record { answer = a; after = x })
    (order_answer_injective r.answer s.answer (ap (λ (o : Outcome OrderAnswer). o.answer) e))
    (ap (λ (o : Outcome OrderAnswer). o.receiver) e)

-- ---- a block: no number of a refused line is one of the receiver's

is_receivers : ℕ → Bool
is_receivers number = eqb number 41 || eqb number 51 || eqb number 42 || eqb number 43 || eqb number 67

receivers : (r : ReceiverRefusal) → is_receivers (number_of r) ≡ true
unfolding is_receivers
receivers Modulus = refl
receivers Record = refl
receivers Awaited = refl
receivers Received = refl
receivers OrderWaits = refl

not_receivers : (r : ReadRefusal) → is_receivers (read_number r) ≡ false
unfolding is_receivers
not_receivers reading.CodeNotCarried = refl
not_receivers reading.TooLong = refl
not_receivers (reading.WrongParity at) = refl
not_receivers reading.NoStart = refl
not_receivers (reading.OutOfPlace at) = refl
not_receivers reading.NoEnd = refl
not_receivers (reading.CheckShort at) = refl
not_receivers (reading.CheckLong at) = refl
not_receivers reading.TooManyCounted = refl
not_receivers reading.WrongCheck = refl
not_receivers reading.WrongDiagonal = refl
not_receivers (reading.OutputShort needed) = refl

-- the number of a refusal among the numbers
refused_number : Numbers → ℕ
refused_number (block.block s e h t c) = 0
refused_number (block.line len) = 0
refused_number (block.refused number value) = number

apart : (r : ReceiverRefusal) (x : ReadRefusal) → number_of r ≡ read_number x → ⊥
apart r x e =
    let f : true ≡ false = sym (receivers r) ∙ ap is_receivers e ∙ not_receivers x in
    let z : ◌≡◌ {A = ℕ} 0 1 = cc in omega arith

numbers_told : TellNumbers → Numbers
numbers_told repeat_told = block.line 0
numbers_told lost_told = block.line 0
numbers_told (read_told n) = n

pub answer_injective : (a b : Result Told BlockRefusal) → told_of a ≡ told_of b → a ≡ b
unfolding numbers_told refused_number
answer_injective (Ok (tells.New x)) (Ok (tells.New y)) e =
    let f : ◌≡◌ {A = Result Block ReadRefusal} (Ok x) (Ok y) = of_read_injective (Ok x) (Ok y) (ap numbers_told e) in
    let g : x ≡ y = cc in
    ap (λ (b : Block). Ok (tells.New b)) g
answer_injective (Ok (tells.New x)) (Ok tells.Repeat) e = let z : ◌≡◌ {A = ℕ} 0 1 = cc in absurd (omega arith)
answer_injective (Ok (tells.New x)) (Ok tells.Lost) e = let z : ◌≡◌ {A = ℕ} 0 1 = cc in absurd (omega arith)
answer_injective (Ok (tells.New x)) (Err (refuses.Receiver s)) e = let z : ◌≡◌ {A = ℕ} 0 1 = cc in absurd (omega arith)
answer_injective (Ok (tells.New x)) (Err (refuses.Line s)) e = let z : ◌≡◌ {A = ℕ} 0 1 = cc in absurd (omega arith)
answer_injective (Ok tells.Repeat) (Ok (tells.New y)) e = let z : ◌≡◌ {A = ℕ} 0 1 = cc in absurd (omega arith)
answer_injective (Ok tells.Repeat) (Ok tells.Repeat) e = refl
answer_injective (Ok tells.Repeat) (Ok tells.Lost) e = let z : ◌≡◌ {A = ℕ} 0 1 = cc in absurd (omega arith)
answer_injective (Ok tells.Repeat) (Err (refuses.Receiver s)) e = let z : ◌≡◌ {A = ℕ} 0 1 = cc in absurd (omega arith)
answer_injective (Ok tells.Repeat) (Err (refuses.Line s)) e = let z : ◌≡◌ {A = ℕ} 0 1 = cc in absurd (omega arith)
answer_injective (Ok tells.Lost) (Ok (tells.New y)) e = let z : ◌≡◌ {A = ℕ} 0 1 = cc in absurd (omega arith)
answer_injective (Ok tells.Lost) (Ok tells.Repeat) e = let z : ◌≡◌ {A = ℕ} 0 1 = cc in absurd (omega arith)
answer_injective (Ok tells.Lost) (Ok tells.Lost) e = refl
answer_injective (Ok tells.Lost) (Err (refuses.Receiver s)) e = let z : ◌≡◌ {A = ℕ} 0 1 = cc in absurd (omega arith)
answer_injective (Ok tells.Lost) (Err (refuses.Line s)) e = let z : ◌≡◌ {A = ℕ} 0 1 = cc in absurd (omega arith)
answer_injective (Err (refuses.Receiver r)) (Ok (tells.New y)) e = let z : ◌≡◌ {A = ℕ} 0 1 = cc in absurd (omega arith)
answer_injective (Err (refuses.Receiver r)) (Ok tells.Repeat) e = let z : ◌≡◌ {A = ℕ} 0 1 = cc in absurd (omega arith)
answer_injective (Err (refuses.Receiver r)) (Ok tells.Lost) e = let z : ◌≡◌ {A = ℕ} 0 1 = cc in absurd (omega arith)
answer_injective (Err (refuses.Receiver r)) (Err (refuses.Receiver s)) e =
    ap (λ (x : ReceiverRefusal). Err (refuses.Receiver x))
    (sym (refusal_back r) ∙ ap (λ n. refusal_from (refused_number (numbers_told n))) e ∙ refusal_back s)
answer_injective (Err (refuses.Receiver r)) (Err (refuses.Line s)) e = absurd (apart r s (ap (λ n. refused_number (numbers_told n)) e))
answer_injective (Err (refuses.Line r)) (Ok (tells.New y)) e = let z : ◌≡◌ {A = ℕ} 0 1 = cc in absurd (omega arith)
answer_injective (Err (refuses.Line r)) (Ok tells.Repeat) e = let z : ◌≡◌ {A = ℕ} 0 1 = cc in absurd (omega arith)
answer_injective (Err (refuses.Line r)) (Ok tells.Lost) e = let z : ◌≡◌ {A = ℕ} 0 1 = cc in absurd (omega arith)
answer_injective (Err (refuses.Line r)) (Err (refuses.Receiver s)) e = absurd (apart s r (sym (ap (λ n. refused_number (numbers_told n)) e)))
answer_injective (Err (refuses.Line r)) (Err (refuses.Line s)) e =
    let f : ◌≡◌ {A = Result Block ReadRefusal} (Err r) (Err s) = of_read_injective (Err r) (Err s) (ap numbers_told e) in
    let g : r ≡ s = cc in
    ap (λ (x : ReadRefusal). Err (refuses.Line x)) g

pub block_outcome_injective : (r s : BlockResult) → block_outcome r ≡ block_outcome s → r ≡ s
block_outcome_injective r s e =
    ap₂ (λ (a : Result Told BlockRefusal) (x : Receiver). record { answer = a; after = x })
    (answer_injective r.answer s.answer (ap (λ (o : Outcome TellNumbers). o.answer) e))
    (ap (λ (o : Outcome TellNumbers). o.receiver) e)
