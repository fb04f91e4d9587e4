-- A frame that is taken has a framing and its check; an accepted frame is taken wherever the output is long enough, by its told bits
-- and from all bytes lent that begin with them. Assumes nothing.
use mathlib.Core.Path.{◌≡◌, refl, ap, ◌∙◌}
use Prim.Native.Nat.{ℕ, ◌*◌, ◌≤◌}
use native.Mathlib.Omega.{arith}
use mathlib.Core.Bool.{Bool, true, false, cond}
use mathlib.Core.List.{List}
use lib.Dec.{leb}
use lib.ListN.{length, take, length-take}
use borrow.Author.Tests.{le-leb}
use Rattle.bits.specs.Strings.{same}
use Rattle.bits.specs.Bytes.{bits_of, bytes_for}
use Rattle.bits.proofs.Strings.{same_sound}
use Rattle.bits.proofs.Bytes.{length-bits_of}
use Rattle.cyclic.specs.Check.{Parameters, check_bits}
use Rattle.frame.specs.Read.{Framed, found, unframed, framed, content_of, check_in, taken, refusal, ask_check, read_bits, read_frame}
use Rattle.guarantees.specs.Second.{AcceptedFrameIsTaken}
use Rattle.guarantees.proofs.Frames.Numbers.{answer}
use Rattle.guarantees.proofs.Frames.Framing.{CheckRight, Found, accepted_found, content, right_answer, accepted_right}

pub record Taken (m : Parameters) (frame c : List Bool) : Type 0 where
  pub framing : Found m frame
  pub check-right : CheckRight m framing.checked
  pub is_content : content_of m framing.checked ≡ c

taken_only : (right fits : Bool) (a : List Bool) {c : List Bool} → answer right fits a ≡ taken c → (right ≡ true) × (a ≡ c)
taken_only true true a h = (refl, cc)
taken_only true false a h = absurd (let z : ◌≡◌ {A = ℕ} 0 1 = cc in omega arith)
taken_only false fits a h = absurd (let z : ◌≡◌ {A = ℕ} 0 1 = cc in omega arith)

pub taken_passed : (m : Parameters) (frame : List Bool) (room : ℕ) {c : List Bool} → read_bits m frame room ≡ taken c → Taken m frame c
unfolding read_bits
taken_passed m frame room {c} h = go (framed m frame) refl h
  where
    go : (w : Framed) → framed m frame ≡ w → ask_check m room w ≡ taken c → Taken m frame c
    go (unframed n v) q h = absurd (let z : ◌≡◌ {A = ℕ} 0 1 = cc in omega arith)
    go (found s) q h =
        let a = content_of m s in
        let t = taken_only (same (check_in m s) (check_bits m a)) (leb (bytes_for (length a)) room) a h in
        record { framing = record { checked = s; is_found = q }; check-right = same_sound _ _ (rw t.0 tt); is_content = t.1 }

-- a frame whose check is right, where the output is long enough
pub right_taken : (m : Parameters) (frame : List Bool) (r : Found m frame) → CheckRight m r.checked → (room : ℕ)
    → bytes_for (length (content m frame r)) ≤ room → read_bits m frame room ≡ taken (content m frame r)
right_taken m frame r right room h =
    let c = content m frame r in
    right_answer m frame r right room ∙ ap (λ fits. answer true fits c) (le-leb (bytes_for (length c)) room h)

-- bytes that begin with a frame read as its told bits
pub read_lent : (m : Parameters) (frame : List Bool) (lent : List ℕ) (room : ℕ) → take (length frame) (bits_of lent) ≡ frame
    → read_frame m (length frame) lent room ≡ read_bits m frame room
unfolding read_frame
read_lent m frame lent room e =
    let enough : length frame ≤ 8 * length lent = omega (arith, length-bits_of lent, length-take (length frame) (bits_of lent), ap length e) in
    ap (λ t. cond t (read_bits m (take (length frame) (bits_of lent)) room) (refusal 31 0)) (le-leb _ _ enough) ∙ ap (λ x. read_bits m x room) e

pub accepted_is_taken : (m : Parameters) → AcceptedFrameIsTaken m
accepted_is_taken m frame acc =
    let r = accepted_found m frame acc in
    let t = right_taken m frame r ((accepted_right m frame r).0 acc) in
    (content m frame r, λ room h. (t room h, λ lent q. read_lent m frame lent room q ∙ t room h))
