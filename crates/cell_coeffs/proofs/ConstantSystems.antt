-- A stored system with nothing but 0 above power 0 is constant.
use Rattle.std.specs.Prelude.{◌≡◌, ℕ, zero, suc, pos, ◌<◌, true, cond, nat_eq, unsigned_abs}
use Rattle.std.proofs.Common.{refl, ap, ◌∙◌}
use Rattle.whole_laws.proofs.Tests.{all_below_hold}
use Rattle.linear_system.specs.StoredSystem.{StoredSystem, dim_of, stored_number}
use Rattle.linear_system.specs.DegreeLimit.{IsConstant, is_empty_at, greatest_power_to}

module _ (s : StoredSystem) (none : (row col m : ℕ) → row < dim_of s → col < suc (dim_of s)
    → stored_number s row col (suc m) ≡ pos 0) where
  empty : (m : ℕ) → is_empty_at s (suc m) ≡ true
  empty m = all_below_hold (dim_of s) _ (λ row b. all_below_hold (suc (dim_of s)) _ (λ col c.
      ap (λ z. nat_eq (unsigned_abs z) 0) (none row col m b c)))

  no_power : (n : ℕ) → greatest_power_to s n ≡ 0
  no_power zero = refl
  no_power (suc n) = ap (λ t. cond t (greatest_power_to s n) (suc n)) (empty n) ∙ no_power n

  pub constant_system : IsConstant s
  constant_system = no_power s.degree
