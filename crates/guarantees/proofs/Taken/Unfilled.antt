-- What a walk over a line finds and what is left of the line without its fill signs, as the characters that the writer sends: laws of
-- one byte more in front. Assumes nothing.
use mathlib.Core.Path.{◌≡◌, refl, sym, ap, ap₂}
use Prim.Native.Nat.{ℕ}
use mathlib.Core.Bool.{Bool, true, false, cond}
use mathlib.Core.List.{List, [], ◌∷◌, ◌++◌, map}
use lib.ListN.{length, drop}
use Rattle.bits.specs.Differences.{cons_if}
use Rattle.block.specs.declared.Parity.{Parity}
use Rattle.block.specs.declared.Mark.{Mark}
use Rattle.block.specs.Characters.{character, sent}
use Rattle.block.specs.Marks.{is_counted, is_header, is_text, is_inner, sift, counted, header, text, has_inner}

module _ (seven : Bool) (p : Parity) where
  -- a byte, and the character that it carries
  pub record Carries (b c : ℕ) : Type 0 where
    pub read : character seven b ≡ c
    pub written : sent seven p c ≡ b

  -- the marks ks of a line: the characters `whole` are sent for what is left of it up to its end sign, `count` are the counted ones
  pub record Unfilled (ks : List Mark) (line left whole count head body : List ℕ) (inner : Bool) : Type 0 where
    pub sent_whole : left ≡ map (sent seven p) whole ++ drop (length ks) line
    pub sent-count : counted ks line ≡ map (sent seven p) count
    pub is_header_lem : header seven ks line ≡ head
    pub is_text_lem : text seven ks line ≡ body
    pub is_inner_lem : has_inner ks ≡ inner

  pub unmarked : (line : List ℕ) → Unfilled [] line line [] [] [] [] false
  unmarked line = record { sent_whole = refl; sent-count = refl; is_header_lem = refl; is_text_lem = refl; is_inner_lem = refl }

  bytes_if : (t : Bool) {b c : ℕ} {bs : List ℕ} (cs : List ℕ) → Carries b c → bs ≡ map (sent seven p) cs → cons_if t b bs ≡ map (sent seven p) (cons_if t c cs)
  bytes_if true cs d e = ap₂ (λ x z. x ∷ z) (sym d.written) e
  bytes_if false cs d e = e

  characters_if : (t : Bool) {b c : ℕ} (bs : List ℕ) {cs : List ℕ} → Carries b c → map (character seven) bs ≡ cs → map (character seven) (cons_if t b bs) ≡ cons_if t c cs
  characters_if true bs d e = ap₂ (λ x z. x ∷ z) d.read e
  characters_if false bs d e = e

  module _ {b c : ℕ} {ks : List Mark} {line left whole count head body : List ℕ} {inner : Bool} where
    -- a byte of the line with its mark
    pub marked : Carries b c → Unfilled ks line left whole count head body inner → (k : Mark)
        → Unfilled (k ∷ ks) (b ∷ line) left whole (cons_if (is_counted k) c count) (cons_if (is_header k) c head) (cons_if (is_text k) c body) (cond (is_inner k) true inner)
    marked d u k =
        record {
          sent_whole = u.sent_whole;
          sent-count = bytes_if (is_counted k) count d u.sent-count;
          is_header_lem = characters_if (is_header k) (sift is_header ks line) d u.is_header_lem;
          is_text_lem = characters_if (is_text k) (sift is_text ks line) d u.is_text_lem;
          is_inner_lem = ap (cond (is_inner k) true) u.is_inner_lem;
        }

    -- a byte of what is left
    pub sent-before : sent seven p c ≡ b → Unfilled ks line left whole count head body inner → Unfilled ks line (b ∷ left) (c ∷ whole) count head body inner
    sent-before r u =
        record {
          sent_whole = ap₂ (λ x z. x ∷ z) (sym r) u.sent_whole;
          sent-count = u.sent-count;
          is_header_lem = u.is_header_lem;
          is_text_lem = u.is_text_lem;
          is_inner_lem = u.is_inner_lem;
        }

  -- a byte of the line that is left of it too
  pub kept : {b c : ℕ} {ks : List Mark} {line left whole count head body : List ℕ} {inner : Bool} → Carries b c
      → Unfilled ks line left whole count head body inner → (k : Mark)
      → Unfilled (k ∷ ks) (b ∷ line) (b ∷ left) (c ∷ whole) (cons_if (is_counted k) c count) (cons_if (is_header k) c head) (cons_if (is_text k) c body) (cond (is_inner k) true inner)
  kept d u k = sent-before d.written (marked d u k)
