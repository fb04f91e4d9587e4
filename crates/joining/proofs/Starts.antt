-- Methods 3 to 6 start from what they invert by. Assumes nothing.
use mathlib.Core.Path.{refl}
use Rattle.cyclic.specs.Check.{method3, method4, method5, method6}
use Rattle.cyclic.proofs.Methods.{width_3, width_4, width_5, width_6}
use Rattle.joining.specs.Laws.{JoinableMethods}

pub joinable_methods : JoinableMethods
unfolding method3 method4 method5 method6
joinable_methods =
    record {
      method_3 = record { of_width = width_3; start_is_inversion = refl };
      method_4 = record { of_width = width_4; start_is_inversion = refl };
      method_5 = record { of_width = width_5; start_is_inversion = refl };
      method_6 = record { of_width = width_6; start_is_inversion = refl };
    }
