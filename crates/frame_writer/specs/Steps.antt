-- What the steps of the writer compute. The rules do not rest on these definitions. Assumes nothing.
use Rattle.std.specs.Prelude.{◌≡◌, ℕ, ◌+◌, ◌*◌, List, Bool, ◌++◌, length}
use Rattle.std.proofs.lemmas.List.Edits.{sets}
use Rattle.bits.specs.Bytes.{low_bits, pack, bits_of}
use Rattle.frame_writer.specs.declared.Position.{Position}
use Rattle.frame_writer.specs.declared.BitCount.{BitCount}
use Rattle.frame_writer.specs.declared.BitWriter.{BitWriter}
use Rattle.frame_writer.specs.declared.Content.{Content}
use Rattle.frame_writer.specs.declared.Checked.{Checked}
use Rattle.frame.specs.Stuffing.{stuff, run_after}
use Rattle.zero_insertion.specs.Insertion.{run_before}
use Rattle.frame_writer.specs.Stepping.{at, pair, stepped}

-- the bits of a content
abbrev pub content_bits : Content → List Bool
content_bits c = bits_of c.bytes.now ++ low_bits c.bits c.last

-- of content and check
abbrev pub checked : Checked → List Bool
checked f = content_bits f.content ++ bits_of f.check.now

-- the bits before a position
abbrev pub bits_before : Position → ℕ
bits_before p = 8 * p.index + p.place

-- behind the opening flag
pub record Opens (c : BitCount) : Type 0 where
  pub pair_is : pair c.at ≡ stepped 8 (at 0 0)
  pub before_is : c.before ≡ 0

-- behind n bits more, inserted zeros among them, of which `before` are the last four
pub record Follows (c : BitCount) (n before : ℕ) (r : BitCount) : Type 0 where
  pub pair_is : pair r.at ≡ stepped n (pair c.at)
  pub before_is : r.before ≡ before

-- the bits s counted with the zeros inserted: the pair is the one stepped by all of them
pub record Counts (c : BitCount) (s : List Bool) (r : BitCount) : Type 0 where
  pub pair_is : pair r.at ≡ stepped (length (stuff (run_before c.before) s)) (pair c.at)
  pub run_is : run_before r.before ≡ run_after (run_before c.before) s

-- the output once the bits s follow what the writer holds, and nothing after them
abbrev pub stored : List ℕ → BitWriter → List Bool → List ℕ
stored out w s = sets out w.count.at.index (pack (low_bits w.count.at.place w.held ++ s))

-- the bits s put with the zeros inserted, whatever follows
pub record Puts (out : List ℕ) (w : BitWriter) (s : List Bool) (after : List ℕ) (r : BitWriter) : Type 0 where
  pub counts : Counts w.count s r.count
  pub rest : (t : List Bool) → stored after r t ≡ stored out w (stuff (run_before w.count.before) s ++ t)
