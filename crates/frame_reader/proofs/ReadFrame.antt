-- Reading as a whole: a framing that was found, then questions 37 and 38, and the output. Assumes nothing.
use mathlib.Core.Path.{◌≡◌, refl, sym, ap, ap₂, ◌∙◌}
use mathlib.Core.Bool.{Bool, true, false, cond}
use mathlib.Core.List.{List, ◌++◌}
use Prim.Native.Nat.{ℕ, ◌+◌, ◌*◌, ◌-◌, ◌<◌, ◌≤◌}
use native.Mathlib.Omega.{arith}
use borrow.Author.Tests.{leb-true, le-leb, lt-leb}
use lib.Dec.{leb}
use lib.ListN.{length, take, drop}
use lib.Seq.{sets, sets-eq, length-take-le}
use Rattle.std.specs.Prelude.{Result, Ok, Err}
use Rattle.bits.specs.Strings.{same}
use Rattle.bits.specs.Bytes.{bits_of, bytes_for, pack}
use Rattle.bits.specs.Calls.{called}
use Rattle.bits.proofs.Packing.{length-pack}
use Rattle.bits.proofs.Tests.{ask-passed}
use Rattle.cyclic.specs.Check.{Parameters, check_bits}
use Rattle.frame.specs.declared.FrameMethod.{FrameMethod}
use Rattle.frame.specs.declared.ReadRefusal.{ReadRefusal}
use Rattle.frame.specs.Stuffing.{Unstuffed, clean, missing, unstuff}
use Rattle.frame.specs.Frame.{parameters_of, width, limit_bits, flag}
use Rattle.frame.specs.Read.{Framed, ask_zeros, between, framed, content_of, check_in, ReadAnswer, taken, refusal, ask_check, read_bits, read_frame, read_output}
use Rattle.frame.specs.Read as rule
use Rattle.frame.specs.Answers.{content, refused, read_number, read_value, after_reading}
use Rattle.frame.proofs.Told.{told_length, between_told}
use Rattle.zero_removal.specs.Reader.{data_of}
use Rattle.frame_framing.specs.declared.Body.{Body}
use Rattle.frame_framing.specs.Framing.{found, unframed, of_framing, answer_of, framing_answer}
use Rattle.frame_reader.specs.Steps.{data_between}

-- ---- a framing that was found

not_found : {n v : ℕ} {s : List Bool} → rule.unframed n v ≡ rule.found s → ⊥
not_found {n} {v} {s} e = let z : ◌≡◌ {A = ℕ} 0 1 = cc in omega arith

zeros-passed : (m : Parameters) (u : Unstuffed) (s : List Bool) → ask_zeros m u ≡ rule.found s
    → (s ≡ data_of u) × (1 + width m ≤ length s)
unfolding data_of
zeros-passed m (missing p) s e = absurd (let z : ◌≡◌ {A = ℕ} 0 1 = cc in omega arith)
zeros-passed m (clean t) s e =
    let k = length t in
    let content = leb (1 + width m) k in
    let within = leb k (limit_bits m + width m) in
    let q = ask-passed content not_found e in
    let r = (ask-passed within not_found q.1).1 in
    let z : s ≡ t = cc in
    (z, omega (arith, ap length z, leb-true (1 + width m) k q.0))

-- content and check are what a reader behind the opening flag has to give
pub record FramingFound (method : FrameMethod) (lent : List ℕ) (told end count : ℕ) (right : Bool) : Type 0 where
  pub within : told ≤ 8 * length lent
  pub end_within : end ≤ 8 * length lent
  pub framed_is : framed (parameters_of method) (take told (bits_of lent)) ≡ rule.found (data_between (bits_of lent) end)
  pub counted : count ≡ length (data_between (bits_of lent) end)
  pub has_content : 1 + width (parameters_of method) ≤ length (data_between (bits_of lent) end)
  pub asked : right
      ≡ same (check_in (parameters_of method) (data_between (bits_of lent) end)) (check_bits (parameters_of method) (content_of (parameters_of method) (data_between (bits_of lent) end)))

framed_found : (method : FrameMethod) (lent : List ℕ) (told : ℕ) → told ≤ 8 * length lent → (f : Framed) → framed (parameters_of method) (take told (bits_of lent)) ≡ f
    → {end count : ℕ} {right : Bool} → found end count right ≡ answer_of (parameters_of method) (length (take told (bits_of lent)) - 8) f
    → FramingFound method lent told end count right
unfolding framed
framed_found method lent told within (rule.unframed number value) q e = absurd (let z : ◌≡◌ {A = ℕ} 0 1 = cc in omega arith)
framed_found method lent told within (rule.found s) q {end} {count} {right} e =
    let m = parameters_of method in
    let bits = bits_of lent in
    let frame = take told bits in
    let size : length frame ≡ told = told_length lent told within in
    let a = ask-passed (leb 16 (length frame)) not_found q in
    let b = ask-passed (same (take 8 frame) flag) not_found a.1 in
    let c = ask-passed (same (drop (length frame - 8) frame) flag) not_found b.1 in
    let z = zeros-passed m (unstuff 0 8 (between frame)) s c.1 in
    let sixteen : 16 ≤ told = omega (arith, leb-true 16 (length frame) a.0) in
    let at : end ≡ told - 8 = let o : end ≡ length frame - 8 = cc in o ∙ ap (λ k. k - 8) size in
    let n : count ≡ length s = cc in
    let r : right ≡ same (check_in m s) (check_bits m (content_of m s)) = cc in
    let is : s ≡ data_between bits end =
    z.0 ∙ ap (λ t. data_of (unstuff 0 8 t)) (between_told lent told within sixteen) ∙ ap (data_between bits) (sym at) in
    record {
      within = within;
      end_within = omega arith;
      framed_is = q ∙ ap rule.found is;
      counted = n ∙ ap length is;
      has_content = omega (arith, ap length is, z.1);
      asked = r ∙ ap (λ t. same (check_in m t) (check_bits m (content_of m t))) is;
    }

module _ (method : FrameMethod) (lent : List ℕ) (told : ℕ) {w : Result Body ReadRefusal} (framing : of_framing w ≡ framing_answer (parameters_of method) told lent) where
  pub framing_found : {f : Body} → w ≡ Ok f → FramingFound method lent told f.end f.count f.right
  unfolding framing_answer
  framing_found {f} e = go (leb told (8 * length lent)) refl (sym (ap of_framing e) ∙ framing)
    where
      go : (t : Bool) → leb told (8 * length lent) ≡ t
          → found f.end f.count f.right
          ≡ cond t (answer_of (parameters_of method) (length (take told (bits_of lent)) - 8) (framed (parameters_of method) (take told (bits_of lent)))) (unframed 31 0)
          → FramingFound method lent told f.end f.count f.right
      go true p q = framed_found method lent told (leb-true told (8 * length lent) p) _ refl q
      go false p q = absurd (let z : ◌≡◌ {A = ℕ} 0 1 = cc in omega arith)

  pub no_framing : (room : ℕ) {r : ReadRefusal} → w ≡ Err r → read_frame (parameters_of method) told lent room ≡ refusal (read_number r) (read_value r)
  unfolding read_frame read_bits framing_answer
  no_framing room {r} e = go (leb told (8 * length lent)) (framed (parameters_of method) (take told (bits_of lent))) (sym (ap of_framing e) ∙ framing)
    where
      go : (t : Bool) (f : Framed)
          → unframed (read_number r) (read_value r) ≡ cond t (answer_of (parameters_of method) (length (take told (bits_of lent)) - 8) f) (unframed 31 0)
          → cond t (ask_check (parameters_of method) room f) (refusal 31 0) ≡ refusal (read_number r) (read_value r)
      go true (rule.found s) q = absurd (let z : ◌≡◌ {A = ℕ} 0 1 = cc in omega arith)
      go true (rule.unframed k v) q = cc
      go false f q = cc

-- ---- 37 and 38

-- a refusal: its numbers, and the output as it was
pub is_refused : (out : List ℕ) {a : ReadAnswer} {number value : ℕ} → a ≡ refusal number value → called (refused number value) out ≡ after_reading a out
unfolding read_output
is_refused out e = sym (ap (λ x. after_reading x out) e)

module _ {method : FrameMethod} {lent : List ℕ} {told end count : ℕ} {r : Bool} (f : FramingFound method lent told end count r) (out : List ℕ) where
  abbrev m : Parameters
  m = parameters_of method

  -- content and check, and the content alone
  abbrev s : List Bool
  s = data_between (bits_of lent) end

  abbrev c : List Bool
  c = content_of m s

  answer_is : read_frame m told lent (length out) ≡ ask_check m (length out) (rule.found s)
  unfolding read_frame read_bits
  answer_is = simp (le-leb told (8 * length lent) f.within) (ap (ask_check m (length out)) f.framed_is)

  pub wrong_check : r ≡ false → read_frame m told lent (length out) ≡ refusal 37 0
  wrong_check h = answer_is ∙ simp (sym f.asked ∙ h)

  module _ (right : r ≡ true) {w : ℕ} (wide : w ≡ width m) where
    pub content-bits : count - w ≡ length s - width m
    content-bits = omega (arith, f.counted, f.has_content)

    content-length : length c ≡ count - w
    content-length =
        let h : length s - width m ≤ length s = omega arith in
        length-take-le (length s - width m) s h ∙ sym content-bits

    module _ {needed : ℕ} (bytes : needed ≡ bytes_for (count - w)) where
      content_bytes : bytes_for (length c) ≡ needed
      content_bytes = ap bytes_for content-length ∙ sym bytes

      pub output_short : length out < needed → read_frame m told lent (length out) ≡ refusal 38 needed
      output_short h = answer_is ∙ simp (sym f.asked ∙ right, content_bytes, lt-leb needed (length out) h)

      -- a frame that is taken: its bits, and the content at the start of the output
      pub is_taken : needed ≤ length out → {after : List ℕ} → after ≡ sets out 0 (pack (take (count - w) s))
          → called (content (count - w)) after ≡ after_reading (read_frame m told lent (length out)) out
      unfolding read_output
      is_taken h {after} e =
          let taken_is : read_frame m told lent (length out) ≡ taken c = answer_is ∙ simp (sym f.asked ∙ right, content_bytes, le-leb needed (length out) h) in
          let q : 0 + length (pack c) ≡ bytes_for (length c) = omega (arith, length-pack c) in
          let stored : after ≡ pack c ++ drop (bytes_for (length c)) out =
          e ∙ ap (λ k. sets out 0 (pack (take k s))) content-bits ∙ sets-eq (pack c) out 0 (omega (arith, content_bytes, length-pack c)) ∙ ap (λ k. pack c ++ drop k out) q in
          ap₂ called (ap content (sym content-length)) stored ∙ sym (ap (λ x. after_reading x out) taken_is)
