-- A chain of which two others are parts: its states are pairs of theirs, each step changes one of them, as the other
-- chains do. What flows between its states, added over the states of one part, is what flows in the other part.
use Rattle.std.proofs.Common.{◌≡◌, ℕ, zero, suc, ◌-◌, ◌<◌, ◌≤◌, [], ◌∷◌, arith, refl, ap, sym, ◌∙◌}
use Rattle.std.specs.Prelude.{Bool, true, false, pos, ◌==◌, if◌then◌else◌}
use mathlib.Core.Path.{ap₂}
use Rattle.frac_laws.specs.Fraction.{Fraction, whole, ◌+ℚ◌, ◌-ℚ◌, ◌*ℚ◌}
use Rattle.frac_laws.specs.Sums.{sum_to}
use Rattle.frac_laws.proofs.Convolutions.{sum_to_one}
use Rattle.frac_laws.proofs.FractionTerms.{ring, terms}
use Rattle.frac_laws.proofs.Positive.{equal_of_mul_equal, whole_positive}
use Rattle.frac_laws.proofs.Sums.{sum_to_ext, sum_to_add, sum_to_sub, sum_to_scale, sum_to_scale_right}
use Rattle.frac_laws.proofs.Sums.{sum_to_exchange, sum_to_zero}
use Rattle.model_specs.specs.Systems.{where_same}
use Rattle.model_laws.proofs.CellTables.{where_same-same, where_same-other}

-- ---- numbers that are there where two places are one

-- one of a sum counts
pub sum_same : (n k : ℕ) (f : ℕ → Fraction) → k < n → sum_to n (λ i. where_same i k (f i)) ≡ f k
sum_same n k f inside =
    sum_to_one n k inside (λ i differ. where_same-other i k (f i) (λ same. differ (sym same)))
    ∙ where_same-same k (f k)

pub sum_same_turned : (n k : ℕ) (f : ℕ → Fraction) → k < n → sum_to n (λ i. where_same k i (f i)) ≡ f k
sum_same_turned n k f inside =
    sum_to_one n k inside (λ i differ. where_same-other k i (f i) differ) ∙ where_same-same k (f k)

-- a whole sum counts or not
sum_where : (n i k : ℕ) (f : ℕ → Fraction) → sum_to n (λ s. where_same i k (f s)) ≡ where_same i k (sum_to n f)
sum_where n i k f = by-test (i == k)
  where
    by-test : (b : Bool)
        → sum_to n (λ s. if b then f s else whole (pos 0)) ≡ (if b then sum_to n f else whole (pos 0))
    by-test true = refl
    by-test false = sum_to_zero n

scale_where : (i k : ℕ) (x v : Fraction) → where_same i k x *ℚ v ≡ where_same i k (x *ℚ v)
scale_where i k x v = by-test (i == k)
  where
    by-test : (b : Bool) → (if b then x else whole (pos 0)) *ℚ v ≡ (if b then x *ℚ v else whole (pos 0))
    by-test true = refl
    by-test false = ring (v ∷ []) (hlevel terms) refl

-- ---- flows, between states of a part with `parts` states and of another with `others`

module _ (parts others states : ℕ) (at : ℕ → ℕ → ℕ)
    (split : (f : ℕ → Fraction) → sum_to states f ≡ sum_to parts (λ t. sum_to others (λ s. f (at t s))))
    (part other joint : ℕ → ℕ → ℕ → Fraction)
    (flows : (t s u r m : ℕ) → t < parts → s < others → u < parts → r < others
    → joint (at t s) (at u r) m ≡ where_same s r (part t u m) +ℚ where_same t u (other s r m)) where
  -- what leaves a state
  leaving : (t s m : ℕ) → t < parts → s < others
      → sum_to states (λ q. joint (at t s) q m) ≡ sum_to parts (λ u. part t u m) +ℚ sum_to others (λ r. other s r m)
  leaving t s m ht hs =
      split (λ q. joint (at t s) q m)
      ∙ sum_to_ext parts (λ u hu. sum_to_ext others (λ r hr. flows t s u r m ht hs hu hr)
      ∙ sum_to_add others (λ r. where_same s r (part t u m)) (λ r. where_same t u (other s r m))
      ∙ ap₂ ◌+ℚ◌ (sum_same_turned others s (λ r. part t u m) hs) (sum_where others t u (λ r. other s r m)))
      ∙ sum_to_add parts (λ u. part t u m) (λ u. where_same t u (sum_to others (λ r. other s r m)))
      ∙ ap (λ z. sum_to parts (λ u. part t u m) +ℚ z)
      (sum_same_turned parts t (λ u. sum_to others (λ r. other s r m)) ht)

  -- what flows into a state
  inflow : (u r m : ℕ) (v : ℕ → Fraction) → u < parts → r < others
      → sum_to states (λ q. joint q (at u r) m *ℚ v q)
      ≡ sum_to parts (λ t. part t u m *ℚ v (at t r)) +ℚ sum_to others (λ s. other s r m *ℚ v (at u s))
  inflow u r m v hu hr =
      split (λ q. joint q (at u r) m *ℚ v q)
      ∙ sum_to_ext parts (λ t ht. sum_to_ext others (λ s hs.
      ap (λ x. x *ℚ v (at t s)) (flows t s u r m ht hs hu hr)
      ∙ ring (where_same s r (part t u m) ∷ where_same t u (other s r m) ∷ v (at t s) ∷ []) (hlevel terms) refl
      ∙ ap₂ ◌+ℚ◌ (scale_where s r (part t u m) (v (at t s))) (scale_where t u (other s r m) (v (at t s))))
      ∙ sum_to_add others (λ s. where_same s r (part t u m *ℚ v (at t s)))
      (λ s. where_same t u (other s r m *ℚ v (at t s)))
      ∙ ap₂ ◌+ℚ◌ (sum_same others r (λ s. part t u m *ℚ v (at t s)) hr)
      (sum_where others t u (λ s. other s r m *ℚ v (at t s))))
      ∙ sum_to_add parts (λ t. part t u m *ℚ v (at t r))
      (λ t. where_same t u (sum_to others (λ s. other s r m *ℚ v (at t s))))
      ∙ ap (λ z. sum_to parts (λ t. part t u m *ℚ v (at t r)) +ℚ z)
      (sum_same parts u (λ t. sum_to others (λ s. other s r m *ℚ v (at t s))) hu)

  -- the number of a state of the part
  abbrev total : (ℕ → Fraction) → ℕ → Fraction
  total v t = sum_to others (λ s. v (at t s))

  -- what flows over the states with one state of the part
  total_flow : (u m : ℕ) (v : ℕ → Fraction) → u < parts
      → sum_to others (λ r. sum_to states (λ q. joint q (at u r) m *ℚ v q)
      -ℚ sum_to states (λ q. joint (at u r) q m) *ℚ v (at u r))
      ≡ sum_to parts (λ t. part t u m *ℚ total v t) -ℚ sum_to parts (λ t. part u t m) *ℚ total v u
  total_flow u m v hu =
      let lost = sum_to parts (λ t. part u t m) in
      let moved = sum_to others (λ s. sum_to others (λ r. other s r m) *ℚ v (at u s)) in
      sum_to_ext others (λ r hr. ap₂ ◌-ℚ◌ (inflow u r m v hu hr) (ap (λ x. x *ℚ v (at u r)) (leaving u r m hu hr)))
      ∙ sum_to_sub others (λ r. sum_to parts (λ t. part t u m *ℚ v (at t r))
      +ℚ sum_to others (λ s. other s r m *ℚ v (at u s)))
      (λ r. (lost +ℚ sum_to others (λ s. other r s m)) *ℚ v (at u r))
      ∙ ap₂ ◌-ℚ◌
      (sum_to_add others (λ r. sum_to parts (λ t. part t u m *ℚ v (at t r)))
      (λ r. sum_to others (λ s. other s r m *ℚ v (at u s)))
      ∙ ap₂ ◌+ℚ◌ (sum_to_exchange others parts (λ r t. part t u m *ℚ v (at t r))
      ∙ sum_to_ext parts (λ t ht. sum_to_scale others (part t u m) (λ r. v (at t r))))
      (sum_to_exchange others others (λ r s. other s r m *ℚ v (at u s))
      ∙ sum_to_ext others (λ s hs. sum_to_scale_right others (v (at u s)) (λ r. other s r m))))
      (sum_to_ext others (λ r hr.
      ring (lost ∷ sum_to others (λ s. other r s m) ∷ v (at u r) ∷ []) (hlevel terms) refl)
      ∙ sum_to_add others (λ r. lost *ℚ v (at u r)) (λ r. sum_to others (λ s. other r s m) *ℚ v (at u r))
      ∙ ap (λ z. z +ℚ moved) (sum_to_scale others lost (λ r. v (at u r))))
      ∙ ring (sum_to parts (λ t. part t u m *ℚ total v t) ∷ moved ∷ (lost *ℚ total v u) ∷ []) (hlevel terms) refl

  -- ---- numbers that obey the equations by powers

  module _ (p q : ℕ → ℕ → Fraction) (inside : (t s : ℕ) → t < parts → s < others → at t s < states)
      (obeys : (k j : ℕ) → j < states → whole (pos (suc k)) *ℚ p j (suc k)
      ≡ sum_to (suc k) (λ m. sum_to states (λ i. joint i j m *ℚ p i (k - m))
      -ℚ sum_to states (λ i. joint j i m) *ℚ p j (k - m)))
      (obeys_part : (k t : ℕ) → t < parts → whole (pos (suc k)) *ℚ q t (suc k)
      ≡ sum_to (suc k) (λ m. sum_to parts (λ i. part i t m *ℚ q i (k - m))
      -ℚ sum_to parts (λ i. part t i m) *ℚ q t (k - m)))
      (start : (t : ℕ) → t < parts → sum_to others (λ s. p (at t s) 0) ≡ q t 0) where
    -- one power more
    next : (k : ℕ) → ((l : ℕ) → l ≤ k → (t : ℕ) → t < parts → sum_to others (λ s. p (at t s) l) ≡ q t l)
        → (t : ℕ) → t < parts → sum_to others (λ s. p (at t s) (suc k)) ≡ q t (suc k)
    next k before t ht =
        equal_of_mul_equal {c = whole (pos (suc k))} (whole_positive (suc k) (omega arith))
        (sym (sum_to_scale others (whole (pos (suc k))) (λ s. p (at t s) (suc k)))
        ∙ sum_to_ext others (λ s hs. obeys k (at t s) (inside t s ht hs))
        ∙ sum_to_exchange others (suc k) (λ s m. sum_to states (λ i. joint i (at t s) m *ℚ p i (k - m))
        -ℚ sum_to states (λ i. joint (at t s) i m) *ℚ p (at t s) (k - m))
        ∙ sum_to_ext (suc k) (λ m hm. total_flow t m (λ i. p i (k - m)) ht
        ∙ ap₂ ◌-ℚ◌ (sum_to_ext parts (λ u hu. ap (λ x. part u t m *ℚ x) (before (k - m) (omega arith) u hu)))
        (ap (λ x. sum_to parts (λ i. part t i m) *ℚ x) (before (k - m) (omega arith) t ht)))
        ∙ sym (obeys_part k t ht))

    up_to : (n l : ℕ) → l ≤ n → (t : ℕ) → t < parts → sum_to others (λ s. p (at t s) l) ≡ q t l
    up_to n zero low t ht = start t ht
    up_to zero (suc l) low t ht = absurd (omega arith)
    up_to (suc n) (suc l) low t ht = next l (λ k below u hu. up_to n k (omega (arith, below, low)) u hu) t ht

    pub carried : (k t : ℕ) → t < parts → sum_to others (λ s. p (at t s) k) ≡ q t k
    carried k t ht = up_to k k (omega arith) t ht

    -- and so their sums
    pub carried_sums : (degree t : ℕ) → t < parts
        → sum_to others (λ s. sum_to (suc degree) (λ k. p (at t s) k)) ≡ sum_to (suc degree) (λ k. q t k)
    carried_sums degree t ht =
        sum_to_exchange others (suc degree) (λ s k. p (at t s) k)
        ∙ sum_to_ext (suc degree) (λ k hk. carried k t ht)
