-- The exponent falls. Assumes nothing.
use Rattle.polynomials.proofs.+power.Given as goal

abbrev pub decreases-power : goal.decreases-power
decreases-power g l = l.n
