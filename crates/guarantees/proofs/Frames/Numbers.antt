-- The numbers of reading a frame: each refusal but 38 is one of `refusals`, so that accepted means none of them. Assumes nothing.
use mathlib.Core.Path.{◌≡◌, refl}
use Prim.Native.Nat.{ℕ, ◌+◌, ◌-◌, ◌*◌}
use mathlib.Core.Bool.{Bool, true, false, cond}
use mathlib.Core.List.{List}
use lib.Dec.{leb}
use lib.ListN.{length, take, drop}
use Rattle.bits.specs.Strings.{same}
use Rattle.bits.specs.Bytes.{bits_of, bytes_for}
use Rattle.cyclic.specs.Check.{Parameters, check_bits}
use Rattle.frame.specs.Stuffing.{Unstuffed, clean, missing, unstuff}
use Rattle.frame.specs.Frame.{width, limit_bits, flag}
use Rattle.frame.specs.Read.{Framed, found, unframed, ask, ask_zeros, between, framed, content_of, check_in, ReadAnswer, taken, refusal, ask_check, read_bits, read_frame}
use Rattle.guarantees.specs.Lines.{is_one_of}
use Rattle.guarantees.specs.Frames.{refusals, AcceptsByNumber}
use Rattle.guarantees.proofs.Lines.Numbers.{Numbered, listed, for_output, only_last}

-- ---- a refusal before 37 has one of the numbers

abbrev pub FramedNumbered : Framed → Type 0
FramedNumbered (found s) = Unit
FramedNumbered (unframed n v) = is_one_of refusals n ≡ true

ask_numbered : (holds : Bool) (n v : ℕ) (next : Framed) → is_one_of refusals n ≡ true → FramedNumbered next → FramedNumbered (ask holds n v next)
ask_numbered true n v next a h = h
ask_numbered false n v next a h = a

zeros_numbered : (m : Parameters) (u : Unstuffed) → FramedNumbered (ask_zeros m u)
zeros_numbered m (missing p) = refl
zeros_numbered m (clean s) =
    ask_numbered (leb (1 + width m) (length s)) 35 0 _ refl
    (ask_numbered (leb (length s) (limit_bits m + width m)) 36 0 (found s) refl tt)

pub framed_numbered : (m : Parameters) (frame : List Bool) → FramedNumbered (framed m frame)
unfolding framed
framed_numbered m frame =
    ask_numbered (leb 16 (length frame)) 32 0 _ refl
    (ask_numbered (same (take 8 frame) flag) 32 0 _ refl
    (ask_numbered (same (drop (length frame - 8) frame) flag) 32 0 _ refl
    (zeros_numbered m (unstuff 0 8 (between frame)))))

-- ---- 37 and 38

abbrev pub answer : Bool → Bool → List Bool → ReadAnswer
answer right fits content = cond right (cond fits (taken content) (refusal 38 (bytes_for (length content)))) (refusal 37 0)

abbrev AnswerNumbered : ReadAnswer → Type 0
AnswerNumbered (taken content) = Unit
AnswerNumbered (refusal n v) = Numbered refusals 38 n

answer_numbered : (right fits : Bool) (content : List Bool) → AnswerNumbered (answer right fits content)
answer_numbered true true content = tt
answer_numbered true false content = for_output refl
answer_numbered false fits content = listed refl

by_number : (a : ReadAnswer) → AnswerNumbered a → AcceptsByNumber a
by_number (taken content) h = (λ u. refl, λ u. tt)
by_number (refusal n v) h = only_last refusals 38 n refl h

module _ (m : Parameters) (frame : List Bool) (room : ℕ) where
  check_numbered : (w : Framed) → FramedNumbered w → AnswerNumbered (ask_check m room w)
  check_numbered (unframed n v) h = listed h
  check_numbered (found s) h =
      let content = content_of m s in
      answer_numbered (same (check_in m s) (check_bits m content)) (leb (bytes_for (length content)) room) content

  pub accepts_by_number : AcceptsByNumber (read_bits m frame room)
  unfolding read_bits
  accepts_by_number = by_number (read_bits m frame room) (check_numbered (framed m frame) (framed_numbered m frame))

-- and of reading from bytes, where 31 is asked first
pub lent_by_number : (m : Parameters) (told : ℕ) (lent : List ℕ) (room : ℕ) → AcceptsByNumber (read_frame m told lent room)
unfolding read_frame
lent_by_number m told lent room = go (leb told (8 * length lent))
  where
    go : (t : Bool) → AcceptsByNumber (cond t (read_bits m (take told (bits_of lent)) room) (refusal 31 0))
    go true = accepts_by_number m (take told (bits_of lent)) room
    go false = by_number (refusal 31 0) (listed refl)
