-- The walk and the framing put questions 31 to 33 alike: where the walk refuses, so does the framing; else it goes on to 35 and 36 with
-- the bits that the walk passed. Assumes nothing.
use mathlib.Core.Path.{◌≡◌, refl, sym, subst}
use mathlib.Core.Bool.{Bool, true, false, cond}
use mathlib.Core.List.{List}
use Prim.Native.Nat.{ℕ, ◌*◌, ◌-◌}
use lib.Dec.{leb}
use lib.ListN.{length, take, drop}
use Rattle.bits.specs.Strings.{same}
use Rattle.bits.specs.Bytes.{bits_of, value}
use Rattle.cyclic.specs.Check.{Parameters, formula}
use Rattle.frame.specs.Stuffing.{Unstuffed, clean, missing, unstuff}
use Rattle.frame.specs.Frame.{flag}
use Rattle.frame.specs.Read as rule
use Rattle.frame_walk.specs.Walk.{Walked, closed, refused, walk_zeros, walk_bits, walk_of}
use Rattle.frame_walk.specs.Walk as walk
use Rattle.frame_framing.specs.Framing.{FramingAnswer, unframed, answer_of, framing_answer}

pub record Passed (m : Parameters) (end count register : ℕ) (x : FramingAnswer) : Type 0 where
  pub bits : List Bool
  pub counted : count ≡ length bits
  pub held : register ≡ value (formula m bits)
  pub asked : answer_of m end (rule.ask_length m bits) ≡ x

abbrev Agrees : Parameters → Walked → FramingAnswer → Type 0
Agrees m (closed end count register) x = Passed m end count register x
Agrees m (refused number value) x = unframed number value ≡ x

agree_zeros : (m : Parameters) (end : ℕ) (u : Unstuffed) → Agrees m (walk_zeros m end u) (answer_of m end (rule.ask_zeros m u))
unfolding walk_zeros
agree_zeros m end (missing p) = refl
agree_zeros m end (clean s) = record { bits = s; counted = refl; held = refl; asked = refl }

-- a question that both put
ask-both : (m : Parameters) (end : ℕ) (t : Bool) (number value : ℕ) (w : Walked) (f : rule.Framed) → Agrees m w (answer_of m end f)
    → Agrees m (walk.ask t number value w) (answer_of m end (rule.ask t number value f))
ask-both m end true number value w f h = h
ask-both m end false number value w f h = refl

agree : (m : Parameters) (told : ℕ) (lent : List ℕ) → Agrees m (walk_of m told lent) (framing_answer m told lent)
unfolding walk_of walk_bits rule.framed framing_answer
agree m told lent = go (leb told (8 * length lent))
  where
    frame : List Bool
    frame = take told (bits_of lent)

    end : ℕ
    end = length frame - 8

    u : Unstuffed
    u = unstuff 0 8 (rule.between frame)

    flags : Agrees m (walk_bits m frame) (answer_of m end (rule.framed m frame))
    flags =
        ask-both m end (leb 16 (length frame)) 32 0 _ _
        (ask-both m end (same (take 8 frame) flag) 32 0 _ _
        (ask-both m end (same (drop end frame) flag) 32 0 (walk_zeros m end u) (rule.ask_zeros m u) (agree_zeros m end u)))

    go : (t : Bool) → Agrees m (walk.ask t 31 0 (walk_bits m frame)) (cond t (answer_of m end (rule.framed m frame)) (unframed 31 0))
    go true = flags
    go false = refl

-- ---- as code has it

module _ (m : Parameters) (told : ℕ) (lent : List ℕ) where
  pub refused_too : {number value : ℕ} → refused number value ≡ walk_of m told lent → unframed number value ≡ framing_answer m told lent
  refused_too e = subst (λ w. Agrees m w (framing_answer m told lent)) (sym e) (agree m told lent)

  pub closed_too : {end count register : ℕ} → closed end count register ≡ walk_of m told lent → Passed m end count register (framing_answer m told lent)
  closed_too e = subst (λ w. Agrees m w (framing_answer m told lent)) (sym e) (agree m told lent)
