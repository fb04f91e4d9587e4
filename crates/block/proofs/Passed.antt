-- What a line with a framing has passed: the questions up to 17, read off the rule. Assumes nothing.
use mathlib.Core.Path.{◌≡◌, refl, sym, ap, ap₂, subst, ◌∙◌}
use Prim.Native.Nat.{ℕ, ◌+◌, ◌≤◌}
use native.Mathlib.Omega.{arith}
use mathlib.Core.Bool.{Bool, true, false, beq, cond, true≢false}
use mathlib.Core.List.{List, [], ◌∷◌}
use lib.Dec.{leb}
use lib.ListN.{length}
use borrow.Author.Tests.{leb-true}
use Rattle.bits.proofs.Tests.{ask-passed}
use Rattle.bits.specs.Strings.{parity}
use Rattle.bits.specs.Bytes.{low_bits}
use Rattle.bits.specs.Differences.{Each}
use Rattle.block.specs.declared.Method.{Method}
use Rattle.block.specs.declared.Parity.{Parity}
use Rattle.block.specs.declared.EndSign.{EndSign}
use Rattle.block.specs.declared.Mark.{Mark}
use Rattle.block.specs.declared.Field.{Field}
use Rattle.block.specs.declared.Field.TheVariants.{Start}
use Rattle.block.specs.Signs.{CodeTable}
use Rattle.block.specs.Characters.{is_seven, carries, is_odd, parity_right}
use Rattle.block.specs.Walk.{Stop, ended, refused, Walked, walk}
use Rattle.block.specs.Marks.{counted}
use Rattle.block.specs.Check.{check_length}
use Rattle.block.specs.Read.{Framed, found, unframed, ask_parities, ask_end, ask_walk, framed}
use Rattle.block.specs.Limits.{counted_limit, line_limit}

abbrev pub ParitiesRight : Parity → List ℕ → Type 0
ParitiesRight p = Each (λ b. parity (low_bits 8 b) ≡ is_odd p)

pub record Passed (t : CodeTable) (m : Method) (p : Parity) (line : List ℕ) (ks : List Mark) (f : Field) (e : EndSign) : Type 0 where
  pub carried : carries t m ≡ true
  pub short : length line ≤ line_limit
  pub parities : is_seven m ≡ true → ParitiesRight p line
  pub walked : walk t (is_seven m) line 0 Start ≡ record { marks = ks; stop = ended f e }
  pub closes : length line ≡ length ks + check_length m
  pub few : length (counted ks line) ≤ counted_limit

equal_bits : (a b : Bool) → beq a b ≡ true → a ≡ b
equal_bits true true e = refl
equal_bits true false e = sym e
equal_bits false true e = e
equal_bits false false e = refl

module _ {ks : List Mark} {f : Field} {e : EndSign} where
  not_found : {n v : ℕ} → unframed n v ≡ found ks f e → ⊥
  not_found {n} {v} q = let z : ◌≡◌ {A = ℕ} 0 1 = cc in omega arith

  parities_passed : (p : Parity) (line : List ℕ) (at : ℕ) (next : Framed) → ask_parities p line at next ≡ found ks f e
      → ParitiesRight p line × (next ≡ found ks f e)
  unfolding parity_right
  parities_passed p [] at next q = (tt, q)
  parities_passed p (b ∷ line) at next q =
      let a = ask-passed (parity_right p b) not_found q in
      let r = parities_passed p line (at + 1) next a.1 in
      ((equal_bits (parity (low_bits 8 b)) (is_odd p) a.0, r.0), r.1)

  either_passed : (seven : Bool) (p : Parity) (line : List ℕ) (next : Framed) → cond seven (ask_parities p line 0 next) next ≡ found ks f e
      → (seven ≡ true → ParitiesRight p line) × (next ≡ found ks f e)
  either_passed true p line next q = let r = parities_passed p line 0 next q in (λ s. r.0, r.1)
  either_passed false p line next q = (λ s. absurd (true≢false (sym s)), q)

  end_passed : (m : Method) (line : List ℕ) (w : Walked) → ask_walk m line w ≡ found ks f e
      → (w ≡ record { marks = ks; stop = ended f e }) × (length line ≡ length ks + check_length m) × (length (counted ks line) ≤ counted_limit)
  end_passed m line w q = go w.stop refl
    where
      go : (s : Stop) → w.stop ≡ s
          → (w ≡ record { marks = ks; stop = ended f e }) × (length line ≡ length ks + check_length m) × (length (counted ks line) ≤ counted_limit)
      go (refused n v) r =
          let c : unframed n v ≡ found ks f e = sym (ap (ask_end m line w.marks) r) ∙ q in
          absurd (let z : ◌≡◌ {A = ℕ} 0 1 = cc in omega arith)
      go (ended g d) r =
          let c = sym (ap (ask_end m line w.marks) r) ∙ q in
          let enough = ask-passed (leb (length w.marks + check_length m) (length line)) not_found c in
          let a = ask-passed (leb (length line) (length w.marks + check_length m)) not_found enough.1 in
          let b = ask-passed (leb (length (counted w.marks line)) counted_limit) not_found a.1 in
          let k : found w.marks g d ≡ found ks f e = b.1 in
          let needed = length w.marks + check_length m in
          let closes : length line ≡ needed = omega (arith, leb-true needed (length line) enough.0, leb-true (length line) needed a.0) in
          let x : w.marks ≡ ks = cc in
          let y : ended g d ≡ ended f e = cc in (
            ap₂ (λ (i : List Mark) (j : Stop). record { marks = i; stop = j }) x (r ∙ y),
            subst (λ (i : List Mark). length line ≡ length i + check_length m) x closes,
            subst (λ (i : List Mark). length (counted i line) ≤ counted_limit) x (leb-true _ _ b.0),
          )

pub passed : (t : CodeTable) (m : Method) (p : Parity) (line : List ℕ) (ks : List Mark) (f : Field) (e : EndSign) → framed t m p line ≡ found ks f e
    → Passed t m p line ks f e
unfolding framed
passed t m p line ks f e q =
    let w = walk t (is_seven m) line 0 Start in
    let next = ask_walk m line w in
    let c = ask-passed (carries t m) not_found q in
    let a = ask-passed (leb (length line) line_limit) not_found c.1 in
    let b = either_passed (is_seven m) p line next a.1 in
    let d = end_passed m line w b.1 in
    record { carried = c.0; short = leb-true _ _ a.0; parities = b.0; walked = d.0; closes = d.1; few = d.2 }
