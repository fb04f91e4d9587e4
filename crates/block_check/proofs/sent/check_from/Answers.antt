-- `check_from` meets its contract, method by method. Assumes nothing.
use Rattle.std.proofs.Common.{◌≡◌, ◌%◌, [], ◌∷◌, sym, ap, ◌∙◌, arith, rules}
use Rattle.bits.specs.Bytes.{pack, pack_into}
use Rattle.bits.proofs.Packing.{pack-low_bits, pack-bits_of}
use Rattle.block.specs.Characters.{with_parity}
use Rattle.block.proofs.CheckLaws.{with_parity_lt}
use Rattle.block_check.specs.Numbers.{check_from}
use Rattle.block_diagonals.specs.Sums.{characters}
use Rattle.block_check.proofs.NumberLaws.{with_parity-low, characters_fit}
use Rattle.block_check.proofs.sent.check_from.Goals as goal

pub returns-in-Parity : goal.returns-in-Parity
unfolding check_from pack pack_into
returns-in-Parity c = rw c.in-Parity.is (search rules)

pub returns-in-Matrix : goal.returns-in-Matrix
unfolding check_from
returns-in-Matrix c =
    let p = c.args.link.parity in
    let n = with_parity p c.args.number in
    let small : n ≡ n % 256 = omega (arith, with_parity_lt p c.args.number) in
    rw c.in-Matrix.is
    (c.one.ensures
    ∙ ap (λ b. b ∷ []) (c.with_parity.ensures ∙ with_parity-low p c.args.number ∙ small) ∙ sym (pack-low_bits 1 n))

pub returns-in-Cyclic : goal.returns-in-Cyclic
unfolding check_from
returns-in-Cyclic c = rw c.in-Cyclic.is (c.two.ensures ∙ c.sent16.ensures ∙ ap pack c.check.ensures)

pub returns-in-CyclicAlternative : goal.returns-in-CyclicAlternative
unfolding check_from
returns-in-CyclicAlternative c =
    rw c.in-CyclicAlternative.is
    (c.two-in-CyclicAlternative.ensures ∙ c.sent16-in-CyclicAlternative.ensures ∙ ap pack c.check-in-CyclicAlternative.ensures)

pub returns-in-Diagonal : goal.returns-in-Diagonal
unfolding check_from
returns-in-Diagonal c =
    let p = c.args.link.parity in
    let n = c.args.number in
    rw c.in-Diagonal.is (c.two-in-Diagonal.ensures ∙ c.characters.ensures ∙ sym (pack-bits_of (characters p n) (characters_fit p n)))
