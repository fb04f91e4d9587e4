-- Questions 31 and 32: what the code finds at each is what the rules ask. Assumes nothing.
use mathlib.Core.Path.{◌≡◌}
use mathlib.Core.Bool.{Bool, true, false}
use mathlib.Core.List.{List}
use Prim.Native.Nat.{ℕ, ◌*◌, ◌-◌, ◌<◌, ◌≤◌}
use borrow.Author.Tests.{le-leb, lt-leb}
use lib.ListN.{length, take, drop}
use lib.Seq.{slice}
use Rattle.bits.specs.Strings.{same}
use Rattle.bits.specs.Bytes.{bits_of}
use Rattle.cyclic.specs.Check.{Parameters}
use Rattle.frame.specs.Stuffing.{unstuff}
use Rattle.frame.specs.Frame.{flag}
use Rattle.frame.proofs.Told.{told_length, first-eight, last_eight, all_but_eight}
use Rattle.frame_walk.specs.Walk.{refused, walk_zeros, walk_bits, walk_of}

module _ (m : Parameters) (lent : List ℕ) (told : ℕ) where
  abbrev bits : List Bool
  bits = bits_of lent

  pub lent_short : 8 * length lent < told → refused 31 0 ≡ walk_of m told lent
  unfolding walk_of
  lent_short h = simp (lt-leb told (8 * length lent) h)

  module _ (within : told ≤ 8 * length lent) where
    pub no_two_flags : told < 16 → refused 32 0 ≡ walk_of m told lent
    unfolding walk_of walk_bits
    no_two_flags h = simp (le-leb told (8 * length lent) within, told_length lent told within, lt-leb 16 told h)

    module _ (sixteen : 16 ≤ told) where
      pub no_opening_flag : same (take 8 bits) flag ≡ false → refused 32 0 ≡ walk_of m told lent
      unfolding walk_of walk_bits
      no_opening_flag h =
          simp (le-leb told (8 * length lent) within, told_length lent told within, le-leb 16 told sixteen, first-eight lent told within sixteen, h)

      module _ (opening : same (take 8 bits) flag ≡ true) where
        pub no_closing_flag : same (take 8 (drop (told - 8) bits)) flag ≡ false → refused 32 0 ≡ walk_of m told lent
        unfolding walk_of walk_bits
        no_closing_flag h =
            simp (
              le-leb told (8 * length lent) within,
              told_length lent told within,
              le-leb 16 told sixteen,
              first-eight lent told within sixteen,
              opening,
              last_eight lent told within sixteen,
              h,
            )

        pub both_flags : same (take 8 (drop (told - 8) bits)) flag ≡ true
            → walk_zeros m (told - 8) (unstuff 0 8 (slice 8 (told - 8) bits)) ≡ walk_of m told lent
        unfolding walk_of walk_bits
        both_flags h =
            simp (
              le-leb told (8 * length lent) within,
              told_length lent told within,
              le-leb 16 told sixteen,
              first-eight lent told within sixteen,
              opening,
              last_eight lent told within sixteen,
              h,
              all_but_eight lent told within sixteen,
            )
