-- `put_block` meets its contract: content, then check. Assumes nothing.
use Rattle.std.proofs.Common.{◌≡◌, ◌+◌, ◌-◌, ◌≤◌, ◌++◌, length, take, drop, rules, arith, ap, ap₂, ◌∙◌, sym}
use borrow.Rule.Slice.PartMut.{put_mid}
use lib.ListN.{length-append, length-drop}
use lib.Seq.{length-take-le}
use Rattle.bits.specs.Bytes.{bits_of, pack}
use Rattle.cyclic.specs.Check.{check_bits}
use Rattle.fixed_block.specs.Block.{parameters, check_length, block_of}
use Rattle.fixed_block.proofs.Polynomials.{bounds}
use Rattle.fixed_block.proofs.Sent.{stored_both}
use Rattle.fixed_block.proofs.write.put_block.Goals as goal

pub slice_bounds-sent-end : goal.slice_bounds-sent-end
slice_bounds-sent-end c =
    let long : length c.check_of-sent.result ≡ 4 = search rules in
    omega (arith, long, c.check_length-k.ensures, (bounds c.args.polynomial).few)

pub slice_bounds-copy_from_slice-end-4 : goal.slice_bounds-copy_from_slice-end-4
slice_bounds-copy_from_slice-end-4 c =
    let long : length c.check_of-sent.result ≡ 4 = search rules in
    sym (length-take-le c.check_length-k.result c.check_of-sent.result (omega (arith, long, c.check_length-k.ensures, (bounds c.args.polynomial).few)))

pub copy_from_slice-requires-2 : goal.copy_from_slice-requires-2
copy_from_slice-requires-2 c =
    let n = length c.args.content.now in
    let out = c.args.out.now in
    let k = c.check_length-k.result in
    let first = c.copy_from_slice.new.self in
    let long : length c.check_of-sent.result ≡ 4 = search rules in
    let few : k ≤ 4 = omega (arith, c.check_length-k.ensures, (bounds c.args.polynomial).few) in
    let behind : n + k - n ≤ length (drop n (first ++ drop n out)) =
    omega (arith, length-drop n (first ++ drop n out), length-append first (drop n out), length-drop n out, ap length c.copy_from_slice.ensures.after, c.requires.room, c.check_length-k.ensures) in
    omega (arith, length-take-le (n + k - n) (drop n (first ++ drop n out)) behind, length-take-le k c.check_of-sent.result (omega (arith, long, few)))

pub returns : goal.returns
unfolding block_of
returns c =
    let content = c.args.content.now in
    let n = length content in
    let out = c.args.out.now in
    let k = c.check_length-k.ensures in
    let kk = check_length (parameters c.args.polynomial) in
    let count : n + c.check_length-k.result - n ≡ kk = omega (arith, k) in
    ap₂ (λ j x. put_mid n j (x ++ drop n out) c.copy_from_slice-2.new.self) count c.copy_from_slice.ensures.after
    ∙ ap (put_mid n kk (content ++ drop n out)) (c.copy_from_slice-2.ensures.after ∙ ap (λ j. take j c.check_of-sent.result) k ∙ c.check_of-sent.ensures)
    ∙ stored_both content (pack (check_bits (parameters c.args.polynomial) (bits_of content))) out kk
