-- How many wrong bits a fixed block cannot hide, by its length: of strings that leave one remainder, and so of the blocks that reading
-- accepts. Assumes nothing.
use Rattle.division.specs.Laws.{AtLeastWithin}
use Rattle.fixed_polynomials.specs.Polynomials.{fixed8, fixed16, fixed24, degree8, degree16, degree24}
use Rattle.fixed_distances.specs.Multiples.{Multiple}
use Rattle.fixed_distances.specs.Blocks.{BlocksAtLeast, BlocksDifferIn}

pub record FixedDistances : Type 0 where
  -- strings of at most so many bits that leave one remainder
  pub strings_8 : AtLeastWithin 4 127 fixed8
  pub strings_16 : AtLeastWithin 6 128 fixed16
  pub strings_24 : AtLeastWithin 6 2048 fixed24
  -- but not of one bit more: x^127 + 1, (x^127 + 1)(x + 1) and (x^2047 + 1)(x + 1)
  pub longer_8 : Multiple 2 128 fixed8
  pub longer_16 : Multiple 4 129 fixed16
  pub longer_24 : Multiple 4 2049 fixed24
  -- nor with a higher bound: the polynomial itself, x^27 + x^10 + x^6 + x^5 + x^2 + 1 and x^55 + x^53 + x^49 + x^43 + x^16 + 1
  pub multiple_8 : Multiple 4 9 fixed8
  pub multiple_16 : Multiple 6 28 fixed16
  pub multiple_24 : Multiple 6 56 fixed24
  -- accepted blocks; degrees 16 and 24 at every length that a block may have
  pub degree_8 : BlocksAtLeast 4 127 degree8
  pub any_length_8 : BlocksAtLeast 2 128 degree8
  pub degree_16 : BlocksAtLeast 6 128 degree16
  pub degree_24 : BlocksAtLeast 6 2048 degree24
  -- and the bounds are met
  pub met_8 : BlocksDifferIn 4 16 degree8
  pub longest_met_8 : BlocksDifferIn 2 128 degree8
  pub met_16 : BlocksDifferIn 6 32 degree16
  pub met_24 : BlocksDifferIn 6 56 degree24
