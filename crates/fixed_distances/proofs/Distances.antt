-- How many wrong bits a fixed block cannot hide, by its length. Assumes nothing.
use mathlib.Core.Path.{refl}
use native.Mathlib.Omega.{arith}
use Rattle.division.specs.Laws.{Generator, OrderAbove, AtLeastWithin}
use Rattle.division.proofs.Distances.{at_least_one, at_least_one_more, no_odd_multiple, at_least_four, at_least_six}
use Rattle.fixed_polynomials.specs.Polynomials.{fixed8, fixed16, fixed24, degree8, degree16, degree24}
use Rattle.fixed_polynomials.proofs.Polynomials.{widths, evens, orders}
use Rattle.fixed_distances.specs.Blocks.{BlocksAtLeast}
use Rattle.fixed_distances.specs.Distances.{FixedDistances}
use Rattle.fixed_distances.proofs.Multiples.{longer_8, longer_16, longer_24, multiple_8, multiple_16, multiple_24}
use Rattle.fixed_distances.proofs.Degree16.{no_multiple_16}
use Rattle.fixed_distances.proofs.Degree24.{no_multiple_24}
use Rattle.fixed_distances.proofs.Blocks.{blocks_at_least, met_8, longest_met_8, met_16, met_24}

-- ---- the orders of x, above the distances of a block

generator_8 : Generator 8 fixed8
unfolding degree8
generator_8 = widths.degree_8.generator

generator_16 : Generator 16 fixed16
unfolding degree16
generator_16 = widths.degree_16.generator

generator_24 : Generator 24 fixed24
unfolding degree24
generator_24 = widths.degree_24.generator

above_8 : OrderAbove fixed8 126
above_8 d h k e = absurd (omega (arith, (orders.degree_8 d h (omega arith)).0 e))

above_16 : OrderAbove fixed16 127
above_16 d h k e = absurd (omega (arith, (orders.degree_16 d h (omega arith)).0 e))

above_24 : OrderAbove fixed24 2047
above_24 d h k e = absurd (omega (arith, (orders.degree_24 d h (omega arith)).0 e))

-- ---- strings

strings_8 : AtLeastWithin 4 127 fixed8
strings_8 = at_least_four fixed8 127 generator_8.constant (omega (arith, generator_8.width)) evens.degree_8 above_8

any_string_8 : AtLeastWithin 2 128 fixed8
any_string_8 = at_least_one_more fixed8 1 128 (at_least_one fixed8 128) (no_odd_multiple fixed8 1 128 evens.degree_8 refl)

strings_16 : AtLeastWithin 6 128 fixed16
strings_16 = at_least_six fixed16 128 generator_16.constant (omega (arith, generator_16.width)) evens.degree_16 above_16 no_multiple_16

strings_24 : AtLeastWithin 6 2048 fixed24
strings_24 = at_least_six fixed24 2048 generator_24.constant (omega (arith, generator_24.width)) evens.degree_24 above_24 no_multiple_24

-- ---- blocks

degree_8 : BlocksAtLeast 4 127 degree8
unfolding degree8
degree_8 = blocks_at_least 1 degree8 widths.degree_8 4 127 strings_8

any_length_8 : BlocksAtLeast 2 128 degree8
unfolding degree8
any_length_8 = blocks_at_least 1 degree8 widths.degree_8 2 128 any_string_8

degree_16 : BlocksAtLeast 6 128 degree16
unfolding degree16
degree_16 = blocks_at_least 2 degree16 widths.degree_16 6 128 strings_16

degree_24 : BlocksAtLeast 6 2048 degree24
unfolding degree24
degree_24 = blocks_at_least 3 degree24 widths.degree_24 6 2048 strings_24

pub fixed_distances : FixedDistances
fixed_distances =
    record {
      strings_8 = strings_8;
      strings_16 = strings_16;
      strings_24 = strings_24;
      longer_8 = longer_8;
      longer_16 = longer_16;
      longer_24 = longer_24;
      multiple_8 = multiple_8;
      multiple_16 = multiple_16;
      multiple_24 = multiple_24;
      degree_8 = degree_8;
      any_length_8 = any_length_8;
      degree_16 = degree_16;
      degree_24 = degree_24;
      met_8 = met_8;
      longest_met_8 = longest_met_8;
      met_16 = met_16;
      met_24 = met_24;
    }
