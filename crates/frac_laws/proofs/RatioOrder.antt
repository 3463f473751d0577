-- The order of two quotients of whole numbers by the order of their cross products.
use Rattle.std.specs.Prelude.{◌≡◌, ◌↔◌, pos, negsuc, ℤ, ◌*ℤ◌, ◌<ℤ◌, ◌≤◌, unsigned_abs}
use Rattle.std.specs.declared.cmp.Ordering.{Ordering}
use Rattle.std.specs.declared.cmp.Ordering.TheVariants.{Less, Equal, Greater}
use Rattle.std.specs.Ordering.{int_cmp, MatchOrdering}
use Rattle.std.proofs.Common.{refl, arith}
use Rattle.std.proofs.lemmas.Int.{ints}
use Rattle.std.proofs.lemmas.Cmp.{int_ranked}
use Rattle.frac_laws.specs.Fraction.{Fraction, over, ◌<ℚ◌}
use Rattle.frac_laws.proofs.Order.{lt_irrefl, lt_le_trans, le_of_lt}
use Rattle.frac_laws.proofs.Quotients.{over_lt_of_cross, over_equal_of_cross}

positive_is : (d : ℤ) → pos 0 <ℤ d → pos (unsigned_abs d) ≡ d
positive_is (pos d) h = refl
positive_is (negsuc d) h = absurd (omega (arith, ints))

positive_size : (d : ℤ) → pos 0 <ℤ d → 1 ≤ unsigned_abs d
positive_size (pos d) h = omega (arith, ints)
positive_size (negsuc d) h = absurd (omega (arith, ints))

-- which of three cases holds, for an answer r
ranked : (n m d e : ℤ) (r : Ordering) → pos 0 <ℤ d → pos 0 <ℤ e
    → MatchOrdering r ((n *ℤ e) <ℤ (m *ℤ d)) (n *ℤ e ≡ m *ℤ d) ((m *ℤ d) <ℤ (n *ℤ e))
    → MatchOrdering r (over n (unsigned_abs d) <ℚ over m (unsigned_abs e))
    (over n (unsigned_abs d) ≡ over m (unsigned_abs e))
    (over m (unsigned_abs e) <ℚ over n (unsigned_abs d))
ranked n m d e Less a b h = over_lt_of_cross n m (unsigned_abs d) (unsigned_abs e) (positive_size d a)
    (positive_size e b) (rw (positive_is d a, positive_is e b) h)
ranked n m d e Equal a b h = over_equal_of_cross n m (unsigned_abs d) (unsigned_abs e) (positive_size d a)
    (positive_size e b) (rw (positive_is d a, positive_is e b) h)
ranked n m d e Greater a b h =
    over_lt_of_cross m n (unsigned_abs e) (unsigned_abs d) (positive_size e b) (positive_size d a)
    (rw (positive_is d a, positive_is e b) h)

less_where : (x y : Fraction) (r : Ordering) → MatchOrdering r (x <ℚ y) (x ≡ y) (y <ℚ x)
    → (r ≡ Less) ↔ (x <ℚ y)
less_where x y Less h = (λ e. h, λ k. refl)
less_where x y Equal h = (λ e. cc, λ k. absurd (lt_irrefl y (rw h at k)))
less_where x y Greater h = (λ e. cc, λ k. absurd (lt_irrefl x (lt_le_trans k (le_of_lt h))))

equal_where : (x y : Fraction) (r : Ordering) → MatchOrdering r (x <ℚ y) (x ≡ y) (y <ℚ x)
    → (r ≡ Equal) ↔ (x ≡ y)
equal_where x y Less h = (λ e. cc, λ k. absurd (lt_irrefl y (rw k at h)))
equal_where x y Equal h = (λ e. h, λ k. refl)
equal_where x y Greater h = (λ e. cc, λ k. absurd (lt_irrefl y (rw k at h)))

greater_where : (x y : Fraction) (r : Ordering) → MatchOrdering r (x <ℚ y) (x ≡ y) (y <ℚ x)
    → (r ≡ Greater) ↔ (y <ℚ x)
greater_where x y Less h = (λ e. cc, λ k. absurd (lt_irrefl x (lt_le_trans h (le_of_lt k))))
greater_where x y Equal h = (λ e. cc, λ k. absurd (lt_irrefl y (rw h at k)))
greater_where x y Greater h = (λ e. h, λ k. refl)

-- what the order of the cross products says of the quotients
pub less_by_cross : (n m d e : ℤ) (r : Ordering) → pos 0 <ℤ d → pos 0 <ℤ e → r ≡ int_cmp (n *ℤ e) (m *ℤ d)
    → (r ≡ Less) ↔ (over n (unsigned_abs d) <ℚ over m (unsigned_abs e))
less_by_cross n m d e r a b h = less_where _ _ r (ranked n m d e r a b (int_ranked (n *ℤ e) (m *ℤ d) r h))

pub equal_by_cross : (n m d e : ℤ) (r : Ordering) → pos 0 <ℤ d → pos 0 <ℤ e → r ≡ int_cmp (n *ℤ e) (m *ℤ d)
    → (r ≡ Equal) ↔ (over n (unsigned_abs d) ≡ over m (unsigned_abs e))
equal_by_cross n m d e r a b h = equal_where _ _ r (ranked n m d e r a b (int_ranked (n *ℤ e) (m *ℤ d) r h))

pub greater_by_cross : (n m d e : ℤ) (r : Ordering) → pos 0 <ℤ d → pos 0 <ℤ e → r ≡ int_cmp (n *ℤ e) (m *ℤ d)
    → (r ≡ Greater) ↔ (over m (unsigned_abs e) <ℚ over n (unsigned_abs d))
greater_by_cross n m d e r a b h =
    greater_where _ _ r (ranked n m d e r a b (int_ranked (n *ℤ e) (m *ℤ d) r h))
