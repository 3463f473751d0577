-- Cells and months of three systems, of which the third combines the payments of the first two.
use Rattle.std.specs.Prelude.{◌≡◌, ℕ, zero, suc, pos, ◌<◌, [], ◌∷◌, refl}
use Rattle.std.proofs.Common.{inl, inr, arith}
use Rattle.std.proofs.lemmas.Bool.{cases_lt}
use Rattle.frac_laws.specs.Fraction.{Fraction, whole, ◌+ℚ◌, ◌*ℚ◌}
use Rattle.frac_laws.specs.Lists.{Vector, number_at, vector_at}
use Rattle.frac_laws.proofs.FractionTerms.{ring, terms}
use Rattle.cell_laws.specs.Systems.{System, taylor_value}
use Rattle.cell_laws.proofs.Combinations.{Combines, totals_combine}
use Rattle.whole_laws.specs.Whole.{list_of}
use Rattle.whole_laws.proofs.ListsByPlace.{at-list_of, past-list_of}
use Rattle.model_specs.specs.Runs.{month_back}
use Rattle.model_specs.specs.Systems.{vector_of}

zero_combines : (c : Fraction) → whole (pos 0) ≡ whole (pos 0) +ℚ c *ℚ whole (pos 0)
zero_combines c = ring (c ∷ []) (hlevel terms) refl

-- vectors over the states that combine at each state
pub vectors_combine : (c : Fraction) (states : ℕ) (f g h : ℕ → Fraction)
    → ((i : ℕ) → i < states → h i ≡ f i +ℚ c *ℚ g i)
    → Combines c (vector_of states f) (vector_of states g) (vector_of states h)
vectors_combine c states f g h each = record { numbers = numbers }
  where
    numbers : (i : ℕ) → number_at (vector_of states h) i
        ≡ number_at (vector_of states f) i +ℚ c *ℚ number_at (vector_of states g) i
    numbers i = elim (cases_lt i states) [
      | inl low ↦ rw (
        at-list_of states h i (whole (pos 0)) low,
        at-list_of states f i (whole (pos 0)) low,
        at-list_of states g i (whole (pos 0)) low,
      ) (each i low)
      | inr high ↦ rw (
        past-list_of states h i (whole (pos 0)) high,
        past-list_of states f i (whole (pos 0)) high,
        past-list_of states g i (whole (pos 0)) high,
      ) (zero_combines c)
    ]

-- and so in tables of such vectors
pub tables_combine : (c : Fraction) (states powers : ℕ) (f g h : ℕ → ℕ → Fraction)
    → ((m i : ℕ) → h m i ≡ f m i +ℚ c *ℚ g m i) → (k : ℕ)
    → Combines c (vector_at (list_of powers (λ m. vector_of states (f m))) k)
    (vector_at (list_of powers (λ m. vector_of states (g m))) k)
    (vector_at (list_of powers (λ m. vector_of states (h m))) k)
tables_combine c states powers f g h each k = elim (cases_lt k powers) [
  | inl low ↦ rw (
    at-list_of powers (λ m. vector_of states (f m)) k [] low,
    at-list_of powers (λ m. vector_of states (g m)) k [] low,
    at-list_of powers (λ m. vector_of states (h m)) k [] low,
  ) (vectors_combine c states (f k) (g k) (h k) (λ i inside. each k i))
  | inr high ↦ rw (
    past-list_of powers (λ m. vector_of states (f m)) k [] high,
    past-list_of powers (λ m. vector_of states (g m)) k [] high,
    past-list_of powers (λ m. vector_of states (h m)) k [] high,
  ) (record { numbers = λ i. zero_combines c })
]

-- the runs of a cell combine where the systems have the same matrices
pub cell_combines : (c : Fraction) (s p t : System) (n : ℕ) → p.matrices ≡ s.matrices → t.matrices ≡ s.matrices
    → ((k : ℕ) → Combines c (vector_at s.free k) (vector_at p.free k) (vector_at t.free k))
    → (x y z : Vector) → Combines c x y z
    → Combines c (taylor_value s x n) (taylor_value p y n) (taylor_value t z n)
cell_combines c s p t n same too free x y z start = rw (same, too)
    (totals_combine c s.matrices (vector_at s.free) (vector_at p.free) (vector_at t.free) x y z free start n)

-- and so do those of a month whose cells do
pub month_combines : (c : Fraction) (s p t : ℕ → System) (n cells : ℕ)
    → ((cell : ℕ) → cell < cells → (x y z : Vector) → Combines c x y z
    → Combines c (taylor_value (s cell) x n) (taylor_value (p cell) y n) (taylor_value (t cell) z n))
    → (x y z : Vector) → Combines c x y z
    → Combines c (month_back s n cells x) (month_back p n cells y) (month_back t n cells z)
month_combines c s p t n zero each x y z start = start
month_combines c s p t n (suc cells) each x y z start =
    month_combines c s p t n cells (λ cell inside. each cell (omega (arith, inside))) _ _ _
    (each cells (omega arith) x y z start)
