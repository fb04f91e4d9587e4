-- What 41 and 51 ask, as facts: of n and w, and of a record. Assumes nothing.
use Rattle.std.specs.Prelude.{◌≡◌, ℕ, ◌*◌, ◌^◌, ◌<◌, ◌≤◌, true, nat_le}
use Rattle.std.specs.List.{list_all}
use Rattle.orders.specs.Methods.{is_method}
use Rattle.sender.specs.declared.Station.{Station}

pub record Agreed (n w : ℕ) : Type 0 where
  pub n_least : 1 ≤ n
  pub n_most : n ≤ 7
  pub w_least : 1 ≤ w
  pub w_most : w ≤ 7
  pub w_below : w < 2 ^ n

pub record Right (n w : ℕ) (s : Station) : Type 0 where
  pub agreed : Agreed n w
  pub stored_most : s.stored ≤ w
  pub cell_below : s.cell < w
  pub next_below : s.next < 2 ^ n
  pub lengths_most : list_all (λ len. nat_le len 4095) s.lengths ≡ true
  pub older_most : s.older ≤ s.stored
  pub method_kept : is_method s.method ≡ true
  pub former_kept : is_method s.former ≡ true

-- what is known of w, a record and the length of a store where the stored block with d blocks submitted after it is read
pub record Stored (w : ℕ) (s : Station) (size d : ℕ) : Type 0 where
  pub w_most : w ≤ 7
  pub cell_below : s.cell < w
  pub lengths_most : list_all (λ len. nat_le len 4095) s.lengths ≡ true
  pub room : w * 4096 ≤ size
  pub few : d < w
