-- Reading a written frame gives back its content, and writing the content of a frame gives back its bits. Assumes nothing.
use mathlib.Core.Path.{◌≡◌, sym, ap, ap₂, ◌∙◌}
use Prim.Native.Nat.{ℕ, ◌+◌, ◌-◌, ◌*◌, ◌≤◌}
use native.Mathlib.Omega.{arith}
use mathlib.Core.Bool.{Bool}
use mathlib.Core.List.{List, ◌++◌, append_assoc}
use lib.Dec.{leb}
use lib.ListN.{length, take, drop, length-append, take-append-drop}
use lib.Seq.{take_at, drop_at, take-append-le, length-take-le}
use borrow.Author.Tests.{leb-true, le-leb}
use Rattle.bits.proofs.Tests.{ask-passed}
use Rattle.bits.specs.Strings.{same}
use Rattle.bits.specs.Bytes.{bits_of, bytes_for, pack}
use Rattle.bits.proofs.Strings.{same_self}
use Rattle.bits.proofs.Bytes.{length-bits_of, bits_of-append}
use Rattle.bits.proofs.Packing.{length-pack, take-bits_of-pack}
use Rattle.cyclic.specs.Check.{Parameters, check_bits, checked_bits}
use Rattle.cyclic.specs.Laws.{OfWidth}
use Rattle.cyclic.proofs.Checks.{length-check}
use Rattle.frame.specs.Stuffing.{clean, stuff, unstuff}
use Rattle.frame.specs.Frame.{width, limit_bits, flag, enclose, frame_of}
use Rattle.frame.specs.Write as writing
use Rattle.frame.specs.Read.{found, between, framed, content_of, check_in, taken, read_bits}
use Rattle.guarantees.specs.Second.{FrameReadsBack, FrameWritesBack}
use Rattle.guarantees.proofs.Frames.Unstuffing.{unstuff-stuff, stuff-unstuff}
use Rattle.guarantees.proofs.Frames.Framing.{passed, CheckRight}
use Rattle.guarantees.proofs.Frames.Taken.{taken_passed, right_taken, read_lent}
use Rattle.guarantees.proofs.Frames.Bridge.{length-flag, whole}

-- ---- the questions of writing, passed

not_written : {n v : ℕ} {f : List Bool} → writing.refusal n v ≡ writing.written f → ⊥
not_written {n = n} {v = v} {f = f} e = let z : ◌≡◌ {A = ℕ} 0 1 = cc in omega arith

-- the claimed bits of the bytes lent, of which there are enough
pub record Written (m : Parameters) (claimed : ℕ) (lent : List ℕ) (frame : List Bool) : Type 0 where
  pub length-content : length (take claimed (bits_of lent)) ≡ claimed
  pub some : 1 ≤ claimed
  pub within : claimed ≤ limit_bits m
  pub bits : frame ≡ frame_of m (take claimed (bits_of lent))

pub was_written : (m : Parameters) (claimed : ℕ) (lent : List ℕ) (frame : List Bool) (room : ℕ)
    → writing.write_frame m claimed lent room ≡ writing.written frame → Written m claimed lent frame
unfolding writing.write_frame writing.write_bits
was_written m claimed lent frame room e =
    let c = take claimed (bits_of lent) in
    let z = ask-passed (leb claimed (8 * length lent)) not_written e in
    let enough = leb-true claimed (8 * length lent) z.0 in
    let n : length c ≡ claimed = length-take-le claimed (bits_of lent) (omega (arith, length-bits_of lent)) in
    let a = ask-passed (leb 1 (length c)) not_written z.1 in
    let b = ask-passed (leb (length c) (limit_bits m)) not_written a.1 in
    let f = frame_of m c in
    let d = ask-passed (leb (bytes_for (length f)) room) not_written b.1 in
    record { length-content = n; some = rw n at (leb-true _ _ a.0); within = rw n at (leb-true _ _ b.0); bits = cc d.1 }

-- ---- an enclosed string is found again

module _ (s : List Bool) where
  pub length_enclosed : length (enclose s) ≡ length (stuff 0 s) + 16
  unfolding enclose
  length_enclosed = simp (length-append, length-flag) (omega arith)

  opening : take 8 (enclose s) ≡ flag
  unfolding enclose
  opening = take_at flag (stuff 0 s ++ flag) 8 length-flag

  front : enclose s ≡ (flag ++ stuff 0 s) ++ flag
  unfolding enclose
  front = sym (append_assoc flag (stuff 0 s) flag)

  length_front : length (flag ++ stuff 0 s) ≡ length (enclose s) - 8
  length_front = length-append flag (stuff 0 s) ∙ omega (arith, length-flag, length_enclosed)

  closing : drop (length (enclose s) - 8) (enclose s) ≡ flag
  closing = ap (drop (length (enclose s) - 8)) front ∙ drop_at (flag ++ stuff 0 s) flag (length (enclose s) - 8) length_front

  pub between_enclosed : between (enclose s) ≡ stuff 0 s
  between_enclosed =
      ap (λ x. drop 8 (take (length (enclose s) - 8) x)) front
      ∙ ap (drop 8) (take_at (flag ++ stuff 0 s) flag (length (enclose s) - 8) length_front)
      ∙ drop_at flag (stuff 0 s) 8 length-flag

  pub framed_enclosed : (m : Parameters) → 1 + width m ≤ length s → length s ≤ limit_bits m + width m → framed m (enclose s) ≡ found s
  unfolding framed
  framed_enclosed m k l =
      let u : unstuff 0 8 (between (enclose s)) ≡ clean s = ap (unstuff 0 8) between_enclosed ∙ unstuff-stuff 0 8 s (omega arith) in
      simp (
        le-leb 16 (length (enclose s)) (omega (arith, length_enclosed)),
        ap (λ x. same x flag) opening,
        ap (λ x. same x flag) closing,
        same_self flag,
        u,
        le-leb (1 + width m) (length s) k,
        le-leb (length s) (limit_bits m + width m) l,
      )

-- ---- reading what was written

module _ (m : Parameters) (w : ℕ) (wide : OfWidth w m) where
  check-width : (c : List Bool) → length (check_bits m c) ≡ width m
  check-width c = length-check m (wide.start-length ∙ sym wide.generator.width) c

  module _ (c : List Bool) where
    abbrev s : List Bool
    s = c ++ check_bits m c

    length-s : length s ≡ length c + width m
    length-s = length-append c (check_bits m c) ∙ ap (λ n. length c + n) (check-width c)

    content-back : content_of m s ≡ c
    content-back = take_at c (check_bits m c) (length s - width m) (omega (arith, length-s))

    check-back : check_in m s ≡ check_bits m c
    check-back = drop_at c (check_bits m c) (length s - width m) (omega (arith, length-s))

    right : CheckRight m s
    right = check-back ∙ ap (check_bits m) (sym content-back)

    taken_back : (frame : List Bool) → framed m frame ≡ found s → (room : ℕ) → bytes_for (length c) ≤ room → read_bits m frame room ≡ taken c
    taken_back frame q room h =
        right_taken m frame (record { checked = s; is_found = q }) right room (rw content-back h) ∙ ap taken content-back

  pub frame_reads_back : FrameReadsBack m
  unfolding frame_of checked_bits
  frame_reads_back claimed lent frame room space behind e h =
      let f = was_written m claimed lent frame room e in
      let c = take claimed (bits_of lent) in
      let n = f.length-content in
      let told : take (length frame) (bits_of (pack frame ++ behind)) ≡ frame =
      ap (take (length frame)) (bits_of-append (pack frame) behind)
      ∙ take-append-le (length frame) (bits_of (pack frame)) (bits_of behind) (omega (arith, length-bits_of (pack frame), length-pack frame))
      ∙ take-bits_of-pack frame in
      let found_it : framed m frame ≡ found (c ++ check_bits m c) =
      ap (framed m) f.bits
      ∙ framed_enclosed (c ++ check_bits m c) m (omega (arith, length-s c, n, f.some)) (omega (arith, length-s c, n, f.within)) in
      read_lent m frame (pack frame ++ behind) space told
      ∙ taken_back c frame found_it space (rw n h)

  -- ---- writing what was read

  -- of the content's bits
  bits_write_back : (frame content : List Bool) (room space : ℕ) → read_bits m frame room ≡ taken content → length (pack frame) ≤ space
      → writing.write_bits m content space ≡ writing.written frame
  unfolding writing.write_bits frame_of checked_bits enclose
  bits_write_back frame content room space e h =
      let t = taken_passed m frame room e in
      let s = t.framing.checked in
      let a = passed m s frame t.framing.is_found in
      let c = t.is_content in
      let l : length content ≡ length s - width m = sym (ap length c) ∙ length-take-le (length s - width m) s (omega arith) in
      let joined : content ++ check_bits m content ≡ s =
      ap₂ ◌++◌ (sym c) (ap (check_bits m) (sym c) ∙ sym t.check-right) ∙ take-append-drop (length s - width m) s in
      let same_frame : frame_of m content ≡ frame =
      ap (λ x. flag ++ (stuff 0 x ++ flag)) joined
      ∙ ap (λ x. flag ++ (x ++ flag)) (sym (stuff-unstuff 8 (between frame) s a.zeros_stand)) ∙ sym (whole m frame s a) in
      let fits : bytes_for (length frame) ≤ space = omega (arith, length-pack frame) in
      ap (λ t. writing.ask t 21 0 (writing.ask (leb (length content) (limit_bits m)) 22 0 (writing.ask_room (frame_of m content) space)))
      (le-leb 1 (length content) (omega (arith, a.content)))
      ∙ ap (λ t. writing.ask t 22 0 (writing.ask_room (frame_of m content) space))
      (le-leb (length content) (limit_bits m) (omega (arith, a.within, a.content)))
      ∙ ap (λ x. writing.ask_room x space) same_frame
      ∙ ap (λ t. writing.ask t 23 (bytes_for (length frame)) (writing.written frame)) (le-leb (bytes_for (length frame)) space fits)

  pub frame_writes_back : FrameWritesBack m
  unfolding writing.write_frame
  frame_writes_back frame content room space e h =
      let enough : length content ≤ 8 * length (pack content) = omega (arith, length-pack content) in
      ap (λ t. writing.ask t 66 0 (writing.write_bits m (take (length content) (bits_of (pack content))) space))
      (le-leb (length content) (8 * length (pack content)) enough)
      ∙ ap (λ c. writing.write_bits m c space) (take-bits_of-pack content)
      ∙ bits_write_back frame content room space e h
