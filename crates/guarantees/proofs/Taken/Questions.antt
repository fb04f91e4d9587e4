-- A line that is taken has a framing and its check; an accepted line is taken wherever the output is long enough. Assumes nothing.
use mathlib.Core.Path.{◌≡◌, refl, ap, ◌∙◌}
use Prim.Native.Nat.{ℕ}
use native.Mathlib.Omega.{arith}
use mathlib.Core.Bool.{Bool, true, false}
use mathlib.Core.List.{List}
use lib.Dec.{leb}
use borrow.Author.Tests.{le-leb}
use Rattle.bits.specs.Strings.{same}
use Rattle.bits.specs.Bytes.{bits_of}
use Rattle.block.specs.declared.Method.{Method}
use Rattle.block.specs.declared.Parity.{Parity}
use Rattle.block.specs.Signs.{CodeTable}
use Rattle.block.specs.Marks.{counted, check_bytes}
use Rattle.block.specs.Check.{check_of}
use Rattle.block.specs.Read.{Framed, found, unframed, framed, Parts, parts_of, output_length, taken, first_asked, then_asked, ask_check, read_block}
use Rattle.block.proofs.Asked.{asked_both}
use Rattle.guarantees.specs.Second.{AcceptedIsTaken}
use Rattle.guarantees.proofs.Blocks.Numbers.{answer}
use Rattle.guarantees.proofs.Blocks.Framing.{CheckRight, Found, accepted_found, parts, right_answer, accepted_right}

pub record Taken (table : CodeTable) (m : Method) (p : Parity) (line : List ℕ) (b : Parts) : Type 0 where
  pub framing : Found table m p line
  pub check-right : CheckRight m p framing.marks line
  pub parts : parts_of m line framing.marks framing.field framing.end ≡ b

taken_only : (first second fits : Bool) (a : Parts) {b : Parts} → answer first second fits a ≡ taken b → (first ≡ true) × (second ≡ true) × (a ≡ b)
taken_only true true true a h = (refl, refl, cc)
taken_only true true false a h = absurd (let z : ◌≡◌ {A = ℕ} 0 1 = cc in omega arith)
taken_only true false fits a h = absurd (let z : ◌≡◌ {A = ℕ} 0 1 = cc in omega arith)
taken_only false second fits a h = absurd (let z : ◌≡◌ {A = ℕ} 0 1 = cc in omega arith)

pub taken_passed : (table : CodeTable) (m : Method) (p : Parity) (line : List ℕ) (room : ℕ) {b : Parts} → read_block table m p line room ≡ taken b → Taken table m p line b
unfolding read_block
taken_passed table m p line room {b} h = go (framed table m p line) refl h
  where
    go : (w : Framed) → framed table m p line ≡ w → ask_check m p line room w ≡ taken b → Taken table m p line b
    go (unframed n v) q h = absurd (let z : ◌≡◌ {A = ℕ} 0 1 = cc in omega arith)
    go (found ks f e) q h =
        let a = parts_of m line ks f e in
        let received = bits_of (check_bytes ks line) in
        let computed = check_of m p (counted ks line) in
        let t =
        taken_only (same (first_asked m received) (first_asked m computed)) (same (then_asked m received) (then_asked m computed))
        (leb (output_length a) room) a h in
        record {
          framing = record { marks = ks; field = f; end = e; is_found = q };
          check-right = asked_both m received computed t.0 t.1;
          parts = t.2;
        }

pub accepted_is_taken : AcceptedIsTaken
accepted_is_taken table m p line acc =
    let r = accepted_found table m p line acc in
    let right = (accepted_right table m p line r).0 acc in
    let b = parts table m p line r in
    (b, λ room h. right_answer table m p line r right room ∙ ap (λ fits. answer true true fits b) (le-leb (output_length b) room h))
