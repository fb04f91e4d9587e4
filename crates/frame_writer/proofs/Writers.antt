-- The writer's steps: a byte with its zeros is put, and what is left to put or to count gives the whole. Assumes nothing.
use mathlib.Core.Path.{◌≡◌, refl, sym, ap, ap₂, ◌∙◌, subst}
use Prim.Native.Nat.{ℕ, ◌+◌, ◌*◌, ◌/◌, ◌%◌, ◌^◌, ◌≤◌, ◌<◌}
use native.Mathlib.Nat.{add_comm}
use native.Mathlib.Omega.{arith}
use mathlib.Core.Bool.{Bool}
use mathlib.Core.List.{List, [], ◌++◌, append_assoc, append-nil}
use lib.Bits.{bit_and, bit_or}
use lib.Pow.{shr-shr, shr_lt}
use lib.ListN.{length, set, length-append}
use lib.Seq.{sets}
use Rattle.std.proofs.lemmas.Nat.{and_mask}
use Rattle.bits.specs.Bytes.{low_bits, pack}
use Rattle.bits.proofs.Bytes.{length-low_bits}
use Rattle.frame_writer.specs.declared.BitCount.{BitCount}
use Rattle.frame_writer.specs.declared.BitWriter.{BitWriter}
use Rattle.zero_insertion.specs.declared.SentByte.{SentByte}
use Rattle.frame.specs.Stuffing.{stuff, run_after}
use Rattle.zero_insertion.specs.Insertion.{run_before, Sends}
use Rattle.frame_writer.specs.Stepping.{pair, stepped}
use Rattle.frame_writer.specs.Steps.{bits_before, stored, Follows, Counts, Puts}
use Rattle.frame_writer.proofs.Stepping.{moved, bits_stepped}
use Rattle.frame.proofs.Stuffing.{run_after-append, stuff-append}
use Rattle.frame.proofs.Words.{join, joined-or, joined_small, joined-bits, byte-bits, store_byte, rest_small}

-- the ones in a row before the next bit
abbrev pub run : BitCount → ℕ
run c = run_before c.before

-- ---- a byte, or its lowest bits

module _ (k byte : ℕ) where
  pub sent-length : {before : ℕ} {s : SentByte} → Sends k before byte s → length (stuff (run_before before) (low_bits k byte)) ≡ k + s.zeros
  sent-length {s = s} e = ap length e.bits_are ∙ length-low_bits (k + s.zeros) s.bits

  pub count_sent : {c r : BitCount} {s : SentByte} → Sends k c.before byte s → Follows c (k + s.zeros) s.before r → Counts c (low_bits k byte) r
  count_sent {c} e follows =
      record {
        pair_is = follows.pair_is ∙ ap (λ n. stepped n (pair c.at)) (sym (sent-length e));
        run_is = ap run_before follows.before_is ∙ sym e.run_is;
      }

module _ (out : List ℕ) (w : BitWriter) (k byte : ℕ) (eight : k ≤ 8) {s : SentByte} (e : Sends k w.count.before byte s) where
  abbrev bits : List Bool
  bits = stuff (run w.count) (low_bits k byte)

  abbrev index : ℕ
  index = w.count.at.index

  abbrev place : ℕ
  place = w.count.at.place

  -- held bits and those that are sent
  abbrev word : ℕ
  word = join place w.held s.bits

  abbrev all : ℕ
  all = place + (k + s.zeros)

  -- the same as code makes it
  abbrev code_word : ℕ
  code_word = bit_or w.held (s.bits * 2 ^ place % 4294967296)

  word-or : code_word ≡ word
  word-or = joined-or place w.held (k + s.zeros) s.bits w.held_small e.bits_small (omega (arith, e.few, eight, w.count.at.place_small))

  word_small : code_word < 2 ^ all
  word_small =
      rw word-or (subst (λ (n : ℕ). word < 2 ^ n) (add_comm (k + s.zeros) place) (joined_small place w.held (k + s.zeros) s.bits w.held_small e.bits_small))

  -- those are all the bits: in `all` bits of the word
  stored_all : (t : List Bool) → stored out w (bits ++ t) ≡ sets out index (pack (low_bits all word ++ t))
  stored_all t =
      ap (λ z. sets out index (pack z))
      (sym (append_assoc (low_bits place w.held) bits t)
      ∙ ap (λ z. z ++ t)
      (ap (λ z. low_bits place w.held ++ z) e.bits_are ∙ joined-bits place w.held (k + s.zeros) s.bits w.held_small e.bits_small))

  -- the first byte stored, and a second one
  stored_once : (left : ℕ) → all ≡ 8 + left → (t : List Bool)
      → stored out w (bits ++ t) ≡ sets (set out index (word % 256)) (index + 1) (pack (low_bits left (word / 256) ++ t))
  stored_once left n t =
      stored_all t
      ∙ ap (λ z. sets out index (pack z))
      (ap (λ z. z ++ t) (ap (λ n. low_bits n word) n ∙ byte-bits left word) ∙ append_assoc (low_bits 8 word) (low_bits left (word / 256)) t)
      ∙ store_byte out index word (low_bits left (word / 256) ++ t)

  stored_twice : (left : ℕ) → all ≡ 16 + left → (t : List Bool)
      → stored out w (bits ++ t)
      ≡ sets (set (set out index (word % 256)) (index + 1) (word / 256 % 256)) (index + 2) (pack (low_bits left (word / 65536) ++ t))
  stored_twice left n t =
      let o = set out index (word % 256) in
      let two : index + 1 + 1 ≡ index + 2 = omega arith in
      let n1 : all ≡ 8 + (8 + left) = omega (arith, n) in
      stored_once (8 + left) n1 t
      ∙ ap (λ z. sets o (index + 1) (pack z))
      (ap (λ z. z ++ t) (byte-bits left (word / 256)) ∙ append_assoc (low_bits 8 (word / 256)) (low_bits left (word / 256 / 256)) t)
      ∙ store_byte o (index + 1) (word / 256) (low_bits left (word / 256 / 256) ++ t)
      ∙ ap₂ (λ i x. sets (set o (index + 1) (word / 256 % 256)) i (pack (low_bits left x ++ t))) two (shr-shr word 8 8)

  -- the position behind the bits: in the byte, in the next one, or in that behind it
  module _ {n : BitCount} (follows : Follows w.count (k + s.zeros) s.before n) where
    pub bits_are : bits_before n.at ≡ bits_before w.count.at + (k + s.zeros)
    bits_are = bits_stepped w.count.at n.at (k + s.zeros) follows.pair_is

    place_same : n.at.index ≡ index → all ≡ n.at.place
    place_same i = omega (arith, i, bits_are)

    place_once : n.at.index ≡ index + 1 → all ≡ 8 + n.at.place
    place_once i = omega (arith, i, bits_are)

    place_twice : n.at.index ≡ index + 2 → all ≡ 16 + n.at.place
    place_twice i = omega (arith, i, bits_are)

    pub behind_next : (n.at.index ≡ index → ⊥) → (n.at.index ≡ index + 1 → ⊥) → n.at.index ≡ index + 2
    behind_next here next =
        let far : index + 2 ≤ n.at.index = omega (arith, here, next, bits_are, n.at.place_small, w.count.at.place_small) in
        omega (arith, far, bits_are, e.few, eight, w.count.at.place_small)

    -- a whole byte moves on by a byte at least
    pub moves_on : k ≡ 8 → n.at.index ≡ index → ⊥
    moves_on q i = omega (arith, q, i, bits_are, n.at.place_small)

    pub held_same : n.at.index ≡ index → code_word < 2 ^ n.at.place
    held_same i = subst (λ (p : ℕ). code_word < 2 ^ p) (place_same i) word_small

    pub held_once : n.at.index ≡ index + 1 → code_word / 256 < 2 ^ n.at.place
    held_once i =
        let q : all ≡ n.at.place + 8 = omega (arith, place_once i) in
        rest_small n.at.place (subst (λ (p : ℕ). code_word < 2 ^ p) q word_small)

    pub held_twice : n.at.index ≡ index + 2 → code_word / 65536 < 2 ^ n.at.place
    held_twice i =
        let q : all ≡ n.at.place + 16 = omega (arith, place_twice i) in
        shr_lt n.at.place 16 (subst (λ (p : ℕ). code_word < 2 ^ p) q word_small)

  first_byte : {b : ℕ} → b ≡ bit_and code_word 255 → b ≡ word % 256
  first_byte eb = eb ∙ and_mask code_word 8 ∙ ap (λ x. x % 256) word-or

  module _ {r : BitWriter} (follows : Follows w.count (k + s.zeros) s.before r.count) where
    pub put_same : r.count.at.index ≡ index → r.held ≡ code_word → Puts out w (low_bits k byte) out r
    put_same ei er =
        record {
          counts = count_sent k byte e follows;
          rest = λ t. rw (ei, sym (place_same follows ei), er, word-or) (sym (stored_all t));
        }

    module _ {b : ℕ} (eb : b ≡ bit_and code_word 255) where
      pub put_once : r.count.at.index ≡ index + 1 → r.held ≡ code_word / 256 → Puts out w (low_bits k byte) (set out index b) r
      put_once ei er =
          record {
            counts = count_sent k byte e follows;
            rest = λ t. rw (ei, er, first_byte eb, word-or) (sym (stored_once r.count.at.place (place_once follows ei) t));
          }

      pub put_twice : r.count.at.index ≡ index + 2 → {d : ℕ} → d ≡ bit_and (code_word / 256) 255 → r.held ≡ code_word / 65536
          → Puts out w (low_bits k byte) (set (set out index b) (index + 1) d) r
      put_twice ei {d} ed er =
          let second : d ≡ word / 256 % 256 = ed ∙ and_mask (code_word / 256) 8 ∙ ap (λ x. x / 256 % 256) word-or in
          record {
            counts = count_sent k byte e follows;
            rest = λ t. rw (ei, er, first_byte eb, second, word-or) (sym (stored_twice r.count.at.place (place_twice follows ei) t));
          }

-- ---- a loop that counts

pub record Counting (start : BitCount) (bits : List Bool) (c : BitCount) (rest : List Bool) : Type 0 where
  pub bits_are : bits_before c.at + length (stuff (run c) rest) ≡ bits_before start.at + length (stuff (run start) bits)
  pub run_is : run_after (run c) rest ≡ run_after (run start) bits

pub count_begin : (start : BitCount) (s : List Bool) → Counting start s start s
count_begin start s = record { bits_are = refl; run_is = refl }

pub length-parts : (r : ℕ) (s t : List Bool) → length (stuff r (s ++ t)) ≡ length (stuff r s) + length (stuff (run_after r s) t)
length-parts r s t = ap length (stuff-append r s t) ∙ length-append (stuff r s) (stuff (run_after r s) t)

pub count_turn : {start c r : BitCount} {bits all rest : List Bool} (xs : List Bool) → Counting start bits c all → all ≡ xs ++ rest → Counts c xs r
    → Counting start bits r rest
count_turn {c = c} {r = r} {rest = rest} xs p e k =
    record {
      bits_are =
          let n : length (stuff (run c) xs) + length (stuff (run r) rest) ≡ length (stuff (run c) (xs ++ rest)) =
          ap (λ z. length (stuff (run c) xs) + length (stuff z rest)) k.run_is ∙ sym (length-parts (run c) xs rest) in
          let m = ap (λ z. length (stuff (run c) z)) e in
          omega (arith, p.bits_are, bits_stepped c.at r.at (length (stuff (run c) xs)) k.pair_is);
      run_is = ap (λ z. run_after z rest) k.run_is ∙ sym (run_after-append (run c) xs rest) ∙ ap (run_after (run c)) (sym e) ∙ p.run_is;
    }

pub count_whole : {start c : BitCount} {bits rest : List Bool} → Counting start bits c rest → rest ≡ [] → Counts start bits c
unfolding stuff run_after
count_whole {start} {c} {bits} {rest} p e =
    let n : length (stuff (run c) rest) ≡ 0 = ap (λ z. length (stuff (run c) z)) e in
    record {
      pair_is = moved start.at c.at (length (stuff (run start) bits)) (omega (arith, p.bits_are));
      run_is = sym (ap (run_after (run c)) e) ∙ p.run_is;
    }

-- two parts one after the other
pub counts_append : {start c r : BitCount} (s t : List Bool) → Counts start s c → Counts c t r → Counts start (s ++ t) r
counts_append {start} s t k l = count_whole (count_turn t (count_turn s (count_begin start (s ++ t)) refl k) (sym (append-nil t)) l) refl

-- ---- a loop that puts

pub record Putting (before : List ℕ) (start : BitWriter) (bits : List Bool) (after : List ℕ) (w : BitWriter) (rest : List Bool) : Type 0 where
  pub same : length after ≡ length before
  pub counting : Counting start.count bits w.count rest
  pub left : (t : List Bool) → stored after w (stuff (run w.count) rest ++ t) ≡ stored before start (stuff (run start.count) bits ++ t)

pub put_begin : (before : List ℕ) (start : BitWriter) (s : List Bool) → Putting before start s before start s
put_begin before start s = record { same = refl; counting = count_begin start.count s; left = λ t. refl }

-- room for all the bits is room for those that come next
pub room : {before after : List ℕ} {start w : BitWriter} {bits all : List Bool} (xs rest : List Bool) → Putting before start bits after w all → all ≡ xs ++ rest
    → bits_before start.count.at + length (stuff (run start.count) bits) ≤ 8 * length before → bits_before w.count.at + length (stuff (run w.count) xs) ≤ 8 * length after
room {w = w} xs rest p e h =
    omega (arith, p.same, p.counting.bits_are, ap (λ z. length (stuff (run w.count) z)) e ∙ length-parts (run w.count) xs rest)

pub put_turn : {before after out : List ℕ} {start w r : BitWriter} {bits all rest : List Bool} (xs : List Bool) → Putting before start bits after w all
    → all ≡ xs ++ rest → Puts after w xs out r → length out ≡ length after → Putting before start bits out r rest
put_turn {after = after} {w = w} {r = r} {rest = rest} xs p e k l =
    record {
      same = l ∙ p.same;
      counting = count_turn xs p.counting e k.counts;
      left = λ t.
          k.rest (stuff (run r.count) rest ++ t)
          ∙ ap (stored after w) (sym (append_assoc (stuff (run w.count) xs) (stuff (run r.count) rest) t)
          ∙ ap (λ z. (stuff (run w.count) xs ++ stuff z rest) ++ t) k.counts.run_is
          ∙ ap (λ z. z ++ t) (sym (stuff-append (run w.count) xs rest) ∙ ap (stuff (run w.count)) (sym e)))
          ∙ p.left t;
    }

pub put_whole : {before after : List ℕ} {start w : BitWriter} {bits rest : List Bool} → Putting before start bits after w rest → rest ≡ []
    → Puts before start bits after w
unfolding stuff
put_whole {after = after} {w = w} p e =
    record {
      counts = count_whole p.counting e;
      rest = λ t. sym (ap (λ z. stored after w (stuff (run w.count) z ++ t)) e) ∙ p.left t;
    }
