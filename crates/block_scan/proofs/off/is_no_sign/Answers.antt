-- `is_no_sign` meets its contract. Assumes nothing.
use Rattle.block_scan.proofs.Bytes.{no_sign_byte}
use Rattle.block_scan.proofs.off.is_no_sign.Goals as goal

pub returns : goal.returns
returns c = no_sign_byte c.args.c
