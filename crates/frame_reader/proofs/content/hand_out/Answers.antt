-- `hand_out` meets its contract: the bytes of the content, the last of them cut to its bits. Assumes nothing.
use mathlib.Core.Path.{◌≡◌, ap, ◌∙◌}
use Prim.Native.Nat.{◌*◌, ◌-◌, ◌%◌, ◌^◌, ◌<◌}
use native.Mathlib.Nat.{mod-eq_of_lt, one-mul}
use native.Mathlib.Omega.{arith}
use lib.Bits.{bit_and}
use lib.ListN.{get_or, set}
use lib.Pow.{pow-lt}
use Rattle.std.proofs.lemmas.Nat.{and_mask}
use Rattle.bits.specs.Bytes.{bits_of}
use Rattle.frame_reader.specs.Steps.{data_between}
use Rattle.frame_reader.proofs.Spare.{cut_content, whole_content}
use Rattle.frame_reader.proofs.content.hand_out.Goals as goal

pub hand_out_bytes-requires : goal.hand_out_bytes-requires
hand_out_bytes-requires c = (omega (arith, c.requires.0), c.requires.1, omega (arith, c.requires.2), omega (arith, c.requires.3))

pub returns-then-rest-eq0 : goal.returns-then-rest-eq0
returns-then-rest-eq0 c =
    let a = c.args in
    whole_content a.bits (data_between (bits_of a.lent.now) a.end) a.out.now c.if-rest-eq0.true c.requires.2 (omega arith) c.hand_out_bytes.ensures

pub returns : goal.returns
returns c =
    let a = c.args in
    let k = a.bits % 8 in
    let few : k < 8 = omega arith in
    let one : 1 * 2 ^ k % 256 ≡ 2 ^ k = ap (λ m. m % 256) (one-mul (2 ^ k)) ∙ mod-eq_of_lt (pow-lt few) in
    let o = c.hand_out_bytes.new.out in
    let at = c.div_ceil-bytes.result - 1 in
    ap (λ m. set o at (bit_and (get_or o at 0) (m - 1))) one ∙ ap (set o at) (and_mask (get_or o at 0) k)
    ∙ cut_content a.bits (data_between (bits_of a.lent.now) a.end) a.out.now (omega (arith, c.if-rest-eq0.false)) c.requires.2 c.requires.3 (omega arith) c.hand_out_bytes.ensures
