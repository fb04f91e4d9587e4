-- A frame as a whole: its parts counted or put one after the other between two flags are the rule's frame. Assumes nothing.
use mathlib.Core.Path.{◌≡◌, refl, sym, ap, ap₂, ◌∙◌, subst}
use Prim.Native.Nat.{ℕ, ◌+◌, ◌*◌, ◌/◌, ◌%◌, ◌^◌, ◌≤◌, ◌<◌}
use native.Mathlib.Nat.{add_comm, mod-eq_of_lt, lt_trans}
use lib.Bits.{bit_and, bit_or}
use lib.Pow.{pow-lt}
use native.Mathlib.Omega.{arith}
use mathlib.Core.Bool.{Bool, true, false, cond}
use mathlib.Core.List.{List, [], ◌∷◌, ◌++◌, append_assoc, append-nil}
use lib.Dec.{eqb, lit<}
use lib.ListN.{length, take, drop, set, length-append}
use lib.Seq.{sets, sets-eq}
use borrow.Author.Tests.{eqb-true, le-leb, lt-leb}
use Rattle.std.proofs.lemmas.Nat.{and_mask}
use Rattle.bits.specs.Bytes.{low_bits, bits_of, bytes_for, pack_into, pack}
use Rattle.bits.specs.Calls.{called}
use Rattle.bits.proofs.Bytes.{length-low_bits, length-bits_of}
use Rattle.bits.proofs.Packing.{bits_of-little_endian, pack-low_bits, length-pack}
use Rattle.registers.specs.Register.{enter}
use Rattle.registers.proofs.Enter.{enter-append}
use Rattle.cyclic.specs.Check.{Parameters, invert_if, check_bits, checked_bits}
use Rattle.cyclic.specs.Laws.{OfWidth}
use Rattle.cyclic.proofs.Methods.{holds_check}
use Rattle.frame_writer.specs.declared.Position.{Position}
use Rattle.frame_writer.specs.declared.BitCount.{BitCount}
use Rattle.frame_writer.specs.declared.BitWriter.{BitWriter}
use Rattle.frame_writer.specs.declared.Checked.{Checked}
use Rattle.frame.specs.Stuffing.{is_fifth, run_on, zero_if, stuff, run_after}
use Rattle.frame.specs.Frame.{limit_bits, flag, enclose, frame_of}
use Rattle.frame.specs.Write.{WriteAnswer, written, ask_room, write_bits, write_frame, write_output}
use Rattle.frame.specs.Answers.{Numbers, frame, refused, after_writing}
use Rattle.zero_insertion.specs.Insertion.{run_before}
use Rattle.frame_writer.specs.Stepping.{pair, stepped}
use Rattle.frame_writer.specs.Steps.{checked, Opens, bits_before, stored, Counts, Puts}
use Rattle.frame.proofs.Stuffing.{run_on_le}
use Rattle.frame.proofs.Told.{told_length}
use Rattle.frame_writer.proofs.Stepping.{divided, pair_divided, bits_stepped, bits_opened}
use Rattle.frame_writer.proofs.Writers.{run, counts_append, Putting, put_begin, put_turn, put_whole}
use Rattle.frame.proofs.Words.{join, joined-or, joined_small, joined-bits, byte-bits, store_byte, pack_part, rest_small}

-- ---- between two flags

-- behind the opening flag
pub opened-run : {before : ℕ} → before ≡ 0 → run_before before ≡ 0
unfolding run_before low_bits run_after run_on
opened-run e = ap run_before e

opened-stored : (out : List ℕ) (w : BitWriter) → Opens w.count → (s : List Bool) → stored out w s ≡ sets out 1 (pack s)
unfolding low_bits
opened-stored out w o s =
    let b = bits_opened w.count.at 8 o.pair_is in
    let i : w.count.at.index ≡ 1 = omega (arith, b, w.count.at.place_small) in
    let p : w.count.at.place ≡ 0 = omega (arith, b, w.count.at.place_small) in
    rw (i, p) refl

length-flag : length flag ≡ 8
unfolding flag
length-flag = length-low_bits 8 0x7E

pub length-enclose : (s : List Bool) → length (enclose s) ≡ 16 + length (stuff 0 s)
unfolding enclose
length-enclose s = length-append flag (stuff 0 s ++ flag) ∙ omega (arith, length-append (stuff 0 s) flag, length-flag)

-- the position and the room, with the number that the code has
pub opened-length : {c : BitCount} → Opens c → (s : List Bool) → 8 + bits_before c.at + length (stuff (run_before c.before) s) ≡ length (enclose s)
opened-length {c} o s = omega (arith, bits_opened c.at 8 o.pair_is, length-enclose s, ap (λ r. length (stuff r s)) (opened-run o.before_is))

module _ {start c : BitCount} (s : List Bool) (o : Opens start) (k : Counts start s c) where
  -- the bits before the closing flag
  pub counted : bits_before c.at + 8 ≡ length (enclose s)
  counted = omega (arith, bits_stepped start.at c.at (length (stuff (run_before start.before) s)) k.pair_is, opened-length o s)

  -- those of the frame
  pub closed : (end : Position) → pair end ≡ stepped 8 (pair c.at) → bits_before end ≡ length (enclose s)
  closed end e = omega (arith, bits_stepped c.at end 8 e, counted)

  -- the pair is the number of bits written divided by eight, and what is left over: the opening flag, the bits s and their zeros
  pub pair_written : pair c.at ≡ divided (8 + length (stuff 0 s))
  pair_written =
      let n : bits_before c.at ≡ 8 + length (stuff 0 s) = omega (arith, counted, length-enclose s) in
      pair_divided c.at ∙ ap divided n

-- flag, content and check, flag
pub put_enclosed : (s : List Bool) (out : List ℕ) {filled closed : List ℕ} {start w : BitWriter} → Opens start.count → bytes_for (length (enclose s)) ≤ length out
    → Puts (set out 0 0x7E) start s filled w → closed ≡ stored filled w flag
    → closed ≡ pack (enclose s) ++ drop (bytes_for (length (enclose s))) out
unfolding enclose flag low_bits
put_enclosed s out {filled} {closed} {start} {w} r h p e =
    let t = stuff (run_before start.count.before) s ++ flag in
    let o : set out 0 (0x7E % 256) ≡ set out 0 0x7E = refl in
    let q : 0 + length (pack (enclose s)) ≡ bytes_for (length (enclose s)) = omega (arith, length-pack (enclose s)) in
    e ∙ p.rest flag ∙ opened-stored (set out 0 0x7E) start r t
    ∙ sym (store_byte out 0 0x7E t)
    ∙ ap (λ r. sets out 0 (pack (flag ++ (stuff r s ++ flag)))) (opened-run r.before_is)
    ∙ sets-eq (pack (enclose s)) out 0 (omega arith)
    ∙ ap (λ k. pack (enclose s) ++ drop k out) q

-- ---- the closing flag

module _ (out : List ℕ) (w : BitWriter) where
  -- held bits and the flag
  abbrev word : ℕ
  word = join w.count.at.place w.held 0x7E

  flag_small : 0x7E < 2 ^ 8
  flag_small = lit< tt

  -- the same as code makes it
  abbrev code_word : ℕ
  code_word = bit_or w.held (0x7E * 2 ^ w.count.at.place % 4294967296)

  word-or : code_word ≡ word
  word-or = joined-or w.count.at.place w.held 8 0x7E w.held_small flag_small (omega (arith, w.count.at.place_small))

  word_bits_lem : low_bits w.count.at.place w.held ++ flag ≡ low_bits 8 word ++ low_bits w.count.at.place (word / 256)
  unfolding flag
  word_bits_lem =
      joined-bits w.count.at.place w.held 8 0x7E w.held_small flag_small ∙ ap (λ k. low_bits k word) (add_comm w.count.at.place 8) ∙ byte-bits w.count.at.place word

  stored-flag : stored out w flag ≡ sets (set out w.count.at.index (word % 256)) (w.count.at.index + 1) (pack (low_bits w.count.at.place (word / 256)))
  stored-flag = ap (λ z. sets out w.count.at.index (pack z)) word_bits_lem ∙ store_byte out w.count.at.index word (low_bits w.count.at.place (word / 256))

  module _ {b : ℕ} (eb : b ≡ bit_and code_word 255) where
    first_byte : b ≡ word % 256
    first_byte = eb ∙ and_mask code_word 8 ∙ ap (λ x. x % 256) word-or

    pub flag_in_one : w.count.at.place ≡ 0 → set out w.count.at.index b ≡ stored out w flag
    unfolding low_bits pack pack_into
    flag_in_one z =
        ap (set out w.count.at.index) first_byte
        ∙ sym (stored-flag ∙ ap (λ k. sets (set out w.count.at.index (word % 256)) (w.count.at.index + 1) (pack (low_bits k (word / 256)))) z)

    pub flag_in_two : {d : ℕ} → d ≡ bit_and (code_word / 256) 255 → (w.count.at.place ≡ 0 → ⊥)
        → set (set out w.count.at.index b) (w.count.at.index + 1) d ≡ stored out w flag
    flag_in_two {d} ed n =
        let small : word / 256 < 2 ^ w.count.at.place =
        rest_small w.count.at.place (subst (λ (k : ℕ). word < 2 ^ k) (add_comm 8 w.count.at.place) (joined_small w.count.at.place w.held 8 0x7E w.held_small flag_small)) in
        let byte : 2 ^ w.count.at.place < 2 ^ 8 = pow-lt w.count.at.place_small in
        let p : 0 < w.count.at.place = omega (arith, n) in
        let v : word / 256 % 256 ≡ word / 256 % 2 ^ w.count.at.place = mod-eq_of_lt (lt_trans small byte) ∙ sym (mod-eq_of_lt small) in
        ap₂ (λ x y. set (set out w.count.at.index x) (w.count.at.index + 1) y) first_byte (ed ∙ and_mask (code_word / 256) 8 ∙ ap (λ x. x / 256 % 256) word-or ∙ v)
        ∙ sym (stored-flag ∙ ap (sets (set out w.count.at.index (word % 256)) (w.count.at.index + 1)) (pack_part w.count.at.place (word / 256) p w.count.at.place_small))

-- ---- the check of a content

-- the register after the whole bytes and the last bits holds the check
pub checks : (w : ℕ) (m : Parameters) → OfWidth w m → (bytes : List ℕ) (last start between after check : List Bool)
    → start ≡ m.start → between ≡ enter m.generator start (bits_of bytes) → after ≡ enter m.generator between last
    → check ≡ invert_if m.inverted after → check ≡ check_bits m (bits_of bytes ++ last)
checks w m o bytes last start between after check s b a =
    holds_check w m o (bits_of bytes ++ last) start after check s
    (a ∙ ap (λ r. enter m.generator r last) b ∙ sym (enter-append m.generator start (bits_of bytes) last))

-- ---- how long a frame is

-- five bits take six at most
pub stuff_le : (run : ℕ) (s : List Bool) → run ≤ 4 → 5 * length (stuff run s) ≤ 6 * length s + run
unfolding stuff run_on is_fifth
stuff_le run [] h = omega arith
stuff_le run (true ∷ s) h = fifth (eqb run 4) refl (stuff_le (cond (eqb run 4) 0 (run + 1)) s (run_on_le run true h))
  where
    fifth : (t : Bool) → eqb run 4 ≡ t → 5 * length (stuff (cond t 0 (run + 1)) s) ≤ 6 * length s + cond t 0 (run + 1)
        → 5 * length ((true ∷ zero_if t) ++ stuff (cond t 0 (run + 1)) s) ≤ 6 * length (true ∷ s) + run
    fifth true e k = let q = eqb-true run 4 e in omega arith
    fifth false e k = omega arith
stuff_le run (false ∷ s) h = let k = stuff_le 0 s (omega arith) in omega arith

run_after_le : (run : ℕ) (s : List Bool) → run ≤ 4 → run_after run s ≤ 4
unfolding run_after
run_after_le run [] h = h
run_after_le run (b ∷ s) h = run_after_le (run_on run b) s (run_on_le run b h)

pub few_bits : (c : BitCount) (s : List Bool) → 5 * length (stuff (run c) s) ≤ 6 * length s + 4
unfolding run_before
few_bits c s =
    let few : run c ≤ 4 = run_after_le 0 (low_bits 4 c.before) (omega arith) in
    omega (arith, stuff_le (run c) s few, few)

module _ (f : Checked) where
  abbrev pub body : List Bool
  body = bits_of f.content.bytes.now

  abbrev pub last : List Bool
  last = low_bits f.content.bits f.content.last

  abbrev pub tail : List Bool
  tail = bits_of f.check.now

  pub parts : checked f ≡ body ++ (last ++ tail)
  parts = append_assoc body last tail

  pub length-checked : length (checked f) ≡ 8 * length f.content.bytes.now + f.content.bits + 8 * length f.check.now
  length-checked =
      length-append (body ++ last) tail
      ∙ omega (arith, length-append body last, length-bits_of f.content.bytes.now, length-low_bits f.content.bits f.content.last, length-bits_of f.check.now)

  -- counted one after the other
  module _ {start c d r : BitCount} (cb : Counts start body c) (cl : Counts c last d) (ct : Counts d tail r) where
    pub all_counted : Counts start (checked f) r
    all_counted = counts_append (body ++ last) tail (counts_append body last cb cl) ct

  -- put one after the other
  module _ {out middle : List ℕ} {start w : BitWriter} (pb : Puts out start body middle w) (lm : length middle ≡ length out) where
    pub body_put : Putting out start (checked f) middle w (last ++ tail)
    body_put = put_turn body (put_begin out start (checked f)) parts pb lm

    module _ {later : List ℕ} {v : BitWriter} (pl : Puts middle w last later v) (ll : length later ≡ length middle) where
      pub last_put : Putting out start (checked f) later v tail
      last_put = put_turn last body_put refl pl ll

      pub all_put : {filled : List ℕ} {r : BitWriter} → Puts later v tail filled r → length filled ≡ length later → Puts out start (checked f) filled r
      all_put pt lf = put_whole (put_turn tail last_put (sym (append-nil tail)) pt lf) refl

  pub frame_le : 5 * length (enclose (checked f)) ≤ 48 * length f.content.bytes.now + 48 * length f.check.now + 122
  frame_le = omega (arith, length-enclose (checked f), stuff_le 0 (checked f) (omega arith), length-checked, f.content.bits_few)

-- ---- the bytes of the check carry its bits

bits_of-sent : (n r : ℕ) {bytes : List ℕ} → bytes ≡ pack (low_bits (8 * n) r) → bits_of bytes ≡ low_bits (8 * n) r
bits_of-sent n r e = ap bits_of (e ∙ pack-low_bits n r) ∙ bits_of-little_endian n r

pub length-sent : (n r : ℕ) {bytes : List ℕ} → bytes ≡ pack (low_bits (8 * n) r) → length bytes ≡ n
length-sent n r e = ap length e ∙ length-pack (low_bits (8 * n) r) ∙ omega (arith, length-low_bits (8 * n) r)

frame_sent : (m : Parameters) (content : List Bool) (n r : ℕ) {bytes : List ℕ} → low_bits (8 * n) r ≡ check_bits m content
    → bytes ≡ pack (low_bits (8 * n) r) → enclose (content ++ bits_of bytes) ≡ frame_of m content
unfolding frame_of checked_bits
frame_sent m content n r e f = ap (λ s. enclose (content ++ s)) (bits_of-sent n r f ∙ e)

-- ---- answers

-- an answer with its output, by the rule's
abbrev Answers : Numbers → List ℕ → WriteAnswer → List ℕ → Type 0
Answers n after rule before = called n after ≡ after_writing rule before

module _ (s : List Bool) (out : List ℕ) where
  pub room_short : {needed : ℕ} → needed ≡ bytes_for (length s) → length out < needed → Answers (refused 23 needed) out (ask_room s (length out)) out
  unfolding write_output
  room_short e h = rw (e, lt-leb (bytes_for (length s)) (length out) (omega arith)) refl

  pub room_enough : bytes_for (length s) ≤ length out → {bits : ℕ} {after : List ℕ} → Answers (frame bits) after (written s) out
      → Answers (frame bits) after (ask_room s (length out)) out
  room_enough h e = rw (le-leb (bytes_for (length s)) (length out) h) e

module _ (m : Parameters) (claimed : ℕ) (lent out : List ℕ) where
  pub not_lent : 8 * length lent < claimed → Answers (refused 66 0) out (write_frame m claimed lent (length out)) out
  unfolding write_frame write_output
  not_lent h = rw (lt-leb claimed (8 * length lent) h) refl

  module _ (within : claimed ≤ 8 * length lent) where
    pub no_content : claimed ≡ 0 → Answers (refused 21 0) out (write_frame m claimed lent (length out)) out
    unfolding write_frame write_bits write_output
    no_content h = rw (le-leb claimed (8 * length lent) within, told_length lent claimed within, lt-leb 1 claimed (omega arith)) refl

    module _ (some : 0 < claimed) where
      pub too_long : limit_bits m < claimed → Answers (refused 22 0) out (write_frame m claimed lent (length out)) out
      unfolding write_frame write_bits write_output
      too_long l =
          rw (le-leb claimed (8 * length lent) within, told_length lent claimed within, le-leb 1 claimed some, lt-leb claimed (limit_bits m) l) refl

      pub within_limit : (n r : ℕ) {content : List Bool} {bytes after : List ℕ} {a : Numbers} → claimed ≤ limit_bits m → content ≡ take claimed (bits_of lent)
          → low_bits (8 * n) r ≡ check_bits m content → bytes ≡ pack (low_bits (8 * n) r)
          → Answers a after (ask_room (enclose (content ++ bits_of bytes)) (length out)) out → Answers a after (write_frame m claimed lent (length out)) out
      unfolding write_frame write_bits
      within_limit n r l c e f k =
          rw (le-leb claimed (8 * length lent) within, told_length lent claimed within, le-leb 1 claimed some, le-leb claimed (limit_bits m) l, ← c)
          (rw (frame_sent m _ n r e f) at k)
