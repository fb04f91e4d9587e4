-- k SYN ahead of a line change nothing but the framing. Assumes nothing.
use mathlib.Core.Path.{◌≡◌, refl, sym, ap, ◌∙◌}
use Prim.Native.Nat.{ℕ, zero, suc, ◌+◌, ◌≤◌}
use native.Mathlib.Omega.{arith}
use mathlib.Core.Bool.{Bool, true, false, not, cond}
use mathlib.Core.List.{List, [], ◌∷◌, ◌++◌, map, append-nil}
use lib.ListN.{length, replicate, length-replicate}
use Rattle.bits.specs.Differences.{cons_if}
use Rattle.block.specs.declared.Method.{Method}
use Rattle.block.specs.declared.Parity.{Parity}
use Rattle.block.specs.declared.EndSign.{EndSign}
use Rattle.block.specs.declared.Mark.{Mark}
use Rattle.block.specs.declared.Mark.TheVariants.{LeftOut}
use Rattle.block.specs.declared.Field.{Field}
use Rattle.block.specs.declared.Field.TheVariants.{Start}
use Rattle.block.specs.Signs.{CodeTable}
use Rattle.block.specs.Characters.{is_seven, carries, sent}
use Rattle.block.specs.Walk.{judge}
use Rattle.block.specs.Marks.{is_counted, LeftOutByte, left_out_if, left_out}
use Rattle.block.specs.Read.{found, framed, framing, framing_by, framing_of, ReadAnswer, taken, refusal, ask_check, read_block}
use Rattle.block.specs.Limits.{line_limit}
use Rattle.block.proofs.Start.{empty_line}
use Rattle.guarantees.specs.Blocks.{Accepts, Accepted}
use Rattle.guarantees.specs.Fill.{is_fill, first_sign, unfilled_behind, unfilled, without_fill}
use Rattle.guarantees.specs.LeadingFill.{fill, carries_place, moved_answer, moved_byte, LeadingFill}
use Rattle.guarantees.proofs.Blocks.Framing.{Found, found_framing}
use Rattle.guarantees.proofs.Fill.OneMore.{moved_framed, syn_sign, framed-moved, read_moved}

-- ---- places moved by none, and by one more

moved_none : (a : ReadAnswer) → a ≡ moved_answer 0 a
moved_none (taken b) = refl
moved_none (refusal n v) = ap (refusal n) (go (carries_place n))
  where
    go : (t : Bool) → v ≡ cond t (v + 0) v
    go true = omega arith
    go false = refl

moved_more : (k : ℕ) (a : ReadAnswer) → moved_answer 1 (moved_answer k a) ≡ moved_answer (suc k) a
moved_more k (taken b) = refl
moved_more k (refusal n v) = ap (refusal n) (go (carries_place n))
  where
    go : (t : Bool) → cond t (cond t (v + k) v + 1) (cond t (v + k) v) ≡ cond t (v + suc k) v
    go true = omega arith
    go false = refl

accepts_moved : (k : ℕ) (a : ReadAnswer) → Accepts a → Accepts (moved_answer k a)
accepts_moved k (taken b) h = tt
accepts_moved k (refusal n v) h = h

-- ---- left-out bytes

left_out-moved : (k at : ℕ) (ks : List Mark) (line : List ℕ) → left_out (at + k) ks line ≡ map (moved_byte k) (left_out at ks line)
left_out-moved k at [] line = refl
left_out-moved k at (j ∷ ks) [] = refl
left_out-moved k at (j ∷ ks) (b ∷ line) =
    let e : at + k + 1 ≡ at + 1 + k = omega arith in
    go (not (is_counted j)) (ap (λ n. left_out n ks line) e ∙ left_out-moved k (at + 1) ks line)
  where
    go : (t : Bool) → left_out (at + k + 1) ks line ≡ map (moved_byte k) (left_out (at + 1) ks line)
        → left_out_if t (record { place = at + k; value = b }) (left_out (at + k + 1) ks line)
        ≡ map (moved_byte k) (left_out_if t (record { place = at; value = b }) (left_out (at + 1) ks line))
    go true h = ap (λ os. record { place = at + k; value = b } ∷ os) h
    go false h = h

left_out-ahead : (k at b : ℕ) (ks : List Mark) (line : List ℕ)
    → left_out at (replicate k LeftOut ++ ks) (replicate k b ++ line)
    ≡ left_out at (replicate k LeftOut) (replicate k b) ++ left_out (at + k) ks line
left_out-ahead zero at b ks line = let e : at ≡ at + 0 = omega arith in ap (λ n. left_out n ks line) e
left_out-ahead (suc k) at b ks line =
    let e : at + 1 + k ≡ at + suc k = omega arith in
    ap (λ os. record { place = at; value = b } ∷ os)
    (left_out-ahead k (at + 1) b ks line ∙ ap (λ n. left_out (at + 1) (replicate k LeftOut) (replicate k b) ++ left_out n ks line) e)

-- ---- lines

module _ (table : CodeTable) (m : Method) (p : Parity) where
  same_answer : (k : ℕ) (line : List ℕ) (room : ℕ) → length (fill table m p k ++ line) ≤ line_limit
      → read_block table m p (fill table m p k ++ line) room ≡ moved_answer k (read_block table m p line room)
  same_answer zero line room l = moved_none (read_block table m p line room)
  same_answer (suc k) line room l =
      read_moved table m p (fill table m p k ++ line) room l ∙ ap (moved_answer 1) (same_answer k line room (omega arith))
      ∙ moved_more k (read_block table m p line room)

  stays_accepted : (k : ℕ) (line : List ℕ) → length (fill table m p k ++ line) ≤ line_limit → Accepted table m p line → Accepted table m p (fill table m p k ++ line)
  stays_accepted k line l acc room = rw (same_answer k line room l) (accepts_moved k (read_block table m p line room) (acc room))

  marks-ahead : (k : ℕ) (line : List ℕ) {ks : List Mark} {f : Field} {e : EndSign} → length (fill table m p k ++ line) ≤ line_limit
      → framed table m p line ≡ found ks f e → framed table m p (fill table m p k ++ line) ≡ found (replicate k LeftOut ++ ks) f e
  marks-ahead zero line l q = q
  marks-ahead (suc k) line l q = framed-moved table m p (fill table m p k ++ line) l ∙ ap moved_framed (marks-ahead k line (omega arith) q)

  in_framing : (k : ℕ) (line : List ℕ) (os : List LeftOutByte) → length (fill table m p k ++ line) ≤ line_limit → framing_of table m p line ≡ framing os
      → framing_of table m p (fill table m p k ++ line) ≡ framing (left_out 0 (replicate k LeftOut) (fill table m p k) ++ map (moved_byte k) os)
  unfolding framing_of
  in_framing k line os l q = go (found_framing table m p line (λ n. let z : ◌≡◌ {A = ℕ} 0 1 = cc in omega arith))
    where
      go : Found table m p line
          → framing_of table m p (fill table m p k ++ line) ≡ framing (left_out 0 (replicate k LeftOut) (fill table m p k) ++ map (moved_byte k) os)
      go r =
          let whole : framing (left_out 0 r.marks line) ≡ framing os = sym (ap (framing_by line) r.is_found) ∙ q in
          let all : left_out 0 r.marks line ≡ os = cc in
          ap (framing_by (fill table m p k ++ line)) (marks-ahead k line l r.is_found)
          ∙ ap framing (left_out-ahead k 0 (sent (is_seven m) p table.SYN) r.marks line
          ∙ ap (λ z. left_out 0 (replicate k LeftOut) (fill table m p k) ++ z) (left_out-moved k 0 r.marks line ∙ ap (map (moved_byte k)) all))

  dropped : (k : ℕ) (line : List ℕ) → without_fill table m (fill table m p k ++ line) ≡ without_fill table m line
  unfolding without_fill
  dropped zero line = refl
  dropped (suc k) line =
      let seven = is_seven m in
      let rest = fill table m p k ++ line in
      let behind = unfilled_behind (unfilled table seven rest) rest in
      ap (λ s. cons_if (not (is_fill Start s (first_sign table seven rest))) (sent seven p table.SYN) (behind (judge seven Start s))) (syn_sign table seven p)
      ∙ dropped k line

  syn_alone : (k room : ℕ) → carries table m ≡ true → k ≤ line_limit → read_block table m p (fill table m p k) room ≡ refusal 13 0
  unfolding read_block
  syn_alone k room c l =
      let line = append-nil (fill table m p k) in
      ap (λ z. read_block table m p z room) (sym line)
      ∙ same_answer k [] room (omega (arith, ap length line, length-replicate k (sent (is_seven m) p table.SYN)))
      ∙ ap (λ w. moved_answer k (ask_check m p [] room w)) (empty_line table m p c)

pub leading_fill : (table : CodeTable) (m : Method) (p : Parity) (k : ℕ) → LeadingFill table m p k
leading_fill table m p k =
    record {
      same_answer = same_answer table m p k;
      stays_accepted = stays_accepted table m p k;
      in_framing = in_framing table m p k;
      dropped = dropped table m p k;
      syn_alone = syn_alone table m p k;
    }
