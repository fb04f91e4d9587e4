-- Received bytes are the bytes of a check exactly where their bits are the check's. Assumes nothing.
use Rattle.std.proofs.Common.{◌≡◌, ℕ, ◌-◌, ◌*◌, Bool, true, false, List, ◌++◌, length, sym, ap, ◌∙◌, arith}
use mathlib.Core.Bool.{true≢false}
use lib.Dec.{T}
use Rattle.std.specs.Str.{bytes_eq}
use Rattle.std.proofs.lemmas.List.{append-nil}
use Rattle.std.proofs.lemmas.Slice.Eq.{bytes_eq-Decides}
use Rattle.std.proofs.lemmas.Bool.Decides.{same_from_decides}
use Rattle.bits.specs.Strings.{same, zeros}
use Rattle.bits.specs.Bytes.{bits_of, bytes_for, Bytes, pack}
use Rattle.bits.proofs.Strings.{same_sound, same_self}
use Rattle.bits.proofs.Bytes.{bits_of_injective, length-bits_of}
use Rattle.bits.proofs.Packing.{bits_of-pack, bytes_pack}

true_T : (b : Bool) → b ≡ true → T b
true_T true e = tt
true_T false e = absurd (true≢false (sym e))

-- bits that fill whole bytes are those of the bytes
filled : (s : List Bool) → 8 * bytes_for (length s) ≡ length s → bits_of (pack s) ≡ s
filled s whole =
    let z : 8 * bytes_for (length s) - length s ≡ 0 = omega (arith, whole) in
    bits_of-pack s ∙ ap (λ k. s ++ zeros k) z ∙ append-nil s

pub received : (x sent : List ℕ) (check : List Bool) → Bytes x → 8 * bytes_for (length check) ≡ length check → sent ≡ pack check
    → bytes_eq x sent ≡ same (bits_of x) check
received x sent check bytes whole e =
    same_from_decides (bytes_eq x sent) (same (bits_of x) check) (bytes_eq-Decides x sent) (equal, same_where)
  where
    bits : bits_of (pack check) ≡ check
    bits = filled check whole

    equal : same (bits_of x) check ≡ true → x ≡ sent
    equal h =
        let b : bits_of x ≡ bits_of (pack check) = same_sound (bits_of x) check (true_T _ h) ∙ sym bits in
        let l : length x ≡ length (pack check) = omega (arith, ap length b, length-bits_of x, length-bits_of (pack check)) in
        bits_of_injective x (pack check) bytes (bytes_pack check) l b ∙ sym e

    same_where : x ≡ sent → same (bits_of x) check ≡ true
    same_where h = rw (h ∙ e, bits) (same_self check)
