-- `wrapped_difference` meets its contract: what wraps at 2^8 wraps at every 2^n. Assumes nothing.
use Rattle.std.proofs.Common.{◌%◌, ap, ◌∙◌, arith, pow_pos}
use Rattle.number.proofs.Residues.{wrapped}
use Rattle.number.proofs.wrapped_difference.Goals as goal

pub nonzero_rem-result : goal.nonzero_rem-result
nonzero_rem-result c = omega (arith, c.modulus.ensures, pow_pos c.args.n)

pub returns : goal.returns
returns c =
    ap (λ z. c.wrapping_sub_u8.result % z) c.modulus.ensures
    ∙ wrapped c.args.n c.args.c c.args.b c.wrapping_sub_u8.result (omega arith)
    c.wrapping_sub_u8.ensures.value
