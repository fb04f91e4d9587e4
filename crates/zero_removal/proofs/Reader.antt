-- The bits of a byte of the line, behind the pending ones: eight of them make a byte, and fewer stay pending. Assumes nothing.
use mathlib.Core.Path.{◌≡◌, refl, sym, ap, ◌∙◌, subst}
use mathlib.Core.List.{◌++◌}
use Rattle.std.specs.Prelude.{Some, None}
use Prim.Native.Nat.{ℕ, ◌+◌, ◌*◌, ◌-◌, ◌/◌, ◌%◌, ◌^◌, ◌<◌, ◌≤◌}
use native.Mathlib.Nat.{mod-eq_of_lt}
use native.Mathlib.Omega.{arith}
use lib.Bits.{bit_or}
use Rattle.bits.specs.Bytes.{low_bits}
use Rattle.bits.proofs.Bytes.{low_bits-mod}
use Rattle.frame.specs.Stuffing.{clean}
use Rattle.frame.proofs.Words.{join, joined-or, joined_small, joined-bits, byte-bits, rest_small}
use Rattle.zero_removal.specs.declared.LineReader.{LineReader}
use Rattle.zero_removal.specs.declared.ByteRead.{ByteRead}
use Rattle.zero_removal.specs.declared.ReceivedByte.{ReceivedByte}
use Rattle.zero_removal.specs.Removal.{ones_before, in_front, Gives}
use Rattle.zero_removal.specs.Reader.{ReaderFits, pending_bits, whole_bits, ReadsByte}

module _ (r : LineReader) (f : ReaderFits r) (byte : ℕ) (d : ReceivedByte) (e : Gives r.before byte d) where
  abbrev n : ℕ
  n = 8 - d.zeros

  abbrev word : ℕ
  word = join r.pending r.held d.bits

  -- as code joins them
  abbrev pub joined : ℕ
  joined = bit_or r.held (d.bits * 2 ^ (r.pending % 32) % 4294967296)

  joined_word : joined ≡ word
  joined_word =
      let k : r.pending % 32 ≡ r.pending = mod-eq_of_lt (omega (arith, f.pending_small)) in
      ap (λ p. bit_or r.held (d.bits * 2 ^ p % 4294967296)) k
      ∙ joined-or r.pending r.held n d.bits f.held_small e.bits_small (omega (arith, f.pending_small))

  word_bits_lem : pending_bits r ++ low_bits n d.bits ≡ low_bits (r.pending + n) word
  word_bits_lem = joined-bits r.pending r.held n d.bits f.held_small e.bits_small

  word_small : (k : ℕ) → n + r.pending ≡ k → word < 2 ^ k
  word_small k q = subst (λ (n : ℕ). word < 2 ^ n) q (joined_small r.pending r.held n d.bits f.held_small e.bits_small)

  reads : (x : ByteRead) → pending_bits r ++ low_bits n d.bits ≡ whole_bits x.byte ++ pending_bits x.next
      → x.next.before ≡ d.last → x.next.pending < 8 → x.next.held < 2 ^ x.next.pending → ReadsByte r byte x
  reads x k b p s =
      record {
        bits_are = ap (in_front (pending_bits r)) e.bits_are ∙ ap clean k;
        run_is = e.run_is ∙ ap ones_before (sym b);
        fits = record { pending_small = p; held_small = s; before_small = omega (arith, b, e.last_small) };
      }

  pub read_whole : d.zeros ≤ r.pending
      → ReadsByte r byte (record { byte = Some (joined % 256); next = record { before = d.last; held = joined / 256; pending = r.pending - d.zeros } })
  read_whole l =
      let q : r.pending + n ≡ 8 + (r.pending - d.zeros) = omega (arith, e.few) in
      let k : n + r.pending ≡ r.pending - d.zeros + 8 = omega (arith, e.few) in
      rw joined_word
      (reads _
      (word_bits_lem ∙ ap (λ n. low_bits n word) q ∙ byte-bits (r.pending - d.zeros) word
      ∙ ap (λ s. s ++ low_bits (r.pending - d.zeros) (word / 256)) (sym (low_bits-mod 8 word)))
      refl (omega (arith, f.pending_small)) (rest_small (r.pending - d.zeros) (word_small _ k)))

  pub read_part : r.pending < d.zeros
      → ReadsByte r byte (record { byte = None; next = record { before = d.last; held = joined; pending = r.pending % 32 + (8 - d.zeros % 8) } })
  read_part l =
      let q : r.pending % 32 + (8 - d.zeros % 8) ≡ r.pending + n = omega (arith, e.few, f.pending_small) in
      let k : n + r.pending ≡ r.pending + n = omega arith in
      rw (joined_word, q)
      (reads _ word_bits_lem refl (omega (arith, e.few, f.pending_small)) (word_small _ k))
