-- A doubled map holds the exact map applied twice.
use Rattle.std.proofs.Common.{◌≡◌, ℕ, zero, suc, ◌^◌, ◌<◌, ℤ, ◌+ℤ◌, sym, subst, ap, ◌∙◌}
use Rattle.frac_laws.specs.Fraction.{Fraction, ◌+ℚ◌, ◌*ℚ◌, ◌≤ℚ◌}
use Rattle.frac_laws.specs.Sums.{sum_to}
use Rattle.frac_laws.proofs.Order.{le_trans, le_of_equal}
use Rattle.frac_laws.proofs.Quotients.{over_add}
use Rattle.frac_laws.proofs.Sums.{sum_to_mono}
use Rattle.linear_system.specs.StandsFor.{units}
use Rattle.fixed_interval.proofs.Enclosing.{low_sum, high_sum, low_product, high_product}
use Rattle.taylor_step.proofs.Scaled.{no_units}
use Rattle.map_laws.specs.Maps.{total}
use Rattle.map_laws.specs.MapLaws.{DoublingsEnclose}

pub units_add : (n m : ℤ) → units (n +ℤ m) ≡ units n +ℚ units m
units_add n m = over_add n m (2 ^ 64)

pub units-total : (n : ℕ) (f : ℕ → ℤ) → units (total n f) ≡ sum_to n (λ l. units (f l))
units-total zero f = no_units
units-total (suc n) f = units_add (total n f) (f n) ∙ ap (λ z. z +ℚ units (f n)) (units-total n f)

pub total_low : (n : ℕ) (f : ℕ → ℤ) (x : ℕ → Fraction) → ((l : ℕ) → l < n → units (f l) ≤ℚ x l)
    → units (total n f) ≤ℚ sum_to n x
total_low n f x h = le_trans (le_of_equal (units-total n f)) (sum_to_mono n h)

pub total_high : (n : ℕ) (f : ℕ → ℤ) (x : ℕ → Fraction) → ((l : ℕ) → l < n → x l ≤ℚ units (f l))
    → sum_to n x ≤ℚ units (total n f)
total_high n f x h = le_trans (sum_to_mono n h) (le_of_equal (sym (units-total n f)))

pub doublings_enclose : DoublingsEnclose
doublings_enclose d m square a is held = record {
  at = λ row col r c. record {
    at_least = let P : ℤ → Type 0 = λ z. units z ≤ℚ sum_to d (λ l. a.at row l *ℚ a.at l col) in
        subst P (sym (is.at_lo row col r c)) (total_low d _ _
        (λ l b. low_product (m.at row l) (m.at l col) (a.at row l) (a.at l col) (held.at row l r b)
        (held.at l col b c)));
    at_most = let P : ℤ → Type 0 = λ z. sum_to d (λ l. a.at row l *ℚ a.at l col) ≤ℚ units z in
        subst P (sym (is.at_hi row col r c)) (total_high d _ _
        (λ l b. high_product (m.at row l) (m.at l col) (a.at row l) (a.at l col) (held.at row l r b)
        (held.at l col b c)));
  };
  free = λ row r. record {
    at_least = let P : ℤ → Type 0 = λ z. units z ≤ℚ a.free row +ℚ sum_to d (λ l. a.at row l *ℚ a.free l) in
        subst P (sym (is.free_lo row r)) (low_sum (m.free row).lo _ (a.free row) _ (held.free row r).at_least
        (total_low d _ _
        (λ l b. low_product (m.at row l) (m.free l) (a.at row l) (a.free l) (held.at row l r b) (held.free l b))));
    at_most = let P : ℤ → Type 0 = λ z. a.free row +ℚ sum_to d (λ l. a.at row l *ℚ a.free l) ≤ℚ units z in
        subst P (sym (is.free_hi row r)) (high_sum (m.free row).hi _ (a.free row) _ (held.free row r).at_most
        (total_high d _ _
        (λ l b. high_product (m.at row l) (m.free l) (a.at row l) (a.free l) (held.at row l r b) (held.free l b))));
  };
}
