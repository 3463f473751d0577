-- The laws of the ledgers' whole-number formulas.
use Rattle.std.proofs.Common.{◌≡◌, ℕ, zero, suc, ◌+◌, ◌*◌, ◌^◌, ◌<◌, ◌≤◌}
use Rattle.std.proofs.Common.{inl, inr, subst, ap, add-zero, zero-add, arith}
use Rattle.std.proofs.lemmas.Bool.{cases_lt}
use Rattle.std.proofs.lemmas.Bool.Decides.{leb_tells}
use Rattle.std.proofs.Math.Nat.{pow-suc}
use Rattle.frac_laws.specs.Ledger.{IsScale, first_enough, scale_of_bound}

-- a bound has one scale
pub scale_unique : (bound g h : ℕ) → IsScale bound g → IsScale bound h → g ≡ h
scale_unique bound g h scale other = omega (arith, scale.least h other.enough, other.least g scale.enough)

-- the search from g on finds the scale where no smaller number is enough and one of its candidates is
first_enough-scale : (bound g more : ℕ) → ((h : ℕ) → bound ≤ 1024 * 2 ^ h → g ≤ h)
    → bound ≤ 1024 * 2 ^ (g + more) → IsScale bound (first_enough bound g more)
first_enough-scale bound g zero below reached = record { enough = rw add-zero at reached; least = below }
first_enough-scale bound g (suc more) below reached =
    elim (leb_tells bound (1024 * 2 ^ g)) [
      | inl now ↦ rw now.0 (record { enough = now.1; least = below })
      | inr later ↦
          let next = subst (λ n. bound ≤ 1024 * 2 ^ n) (step g more) reached in
          rw later.0 (first_enough-scale bound (g + 1) more (above g below later.1) next)
    ]
  where
    step : (g more : ℕ) → g + suc more ≡ (g + 1) + more
    step g more = omega arith

    above : (g : ℕ) → ((h : ℕ) → bound ≤ 1024 * 2 ^ h → g ≤ h) → 1024 * 2 ^ g < bound
        → (h : ℕ) → bound ≤ 1024 * 2 ^ h → g + 1 ≤ h
    above g below short h enough =
        elim (cases_lt g h) [
          | inl less ↦ omega arith
          | inr most ↦
              let same : h ≡ g = omega (arith, below h enough) in
              absurd (omega (arith, enough, short, ap (λ n. 2 ^ n) same))
        ]

-- a number is below its power of two
below_power : (n : ℕ) → n < 2 ^ n
below_power zero = omega arith
below_power (suc n) = omega (arith, below_power n, pow-suc 2 n)

-- the scale of a bound is its scale
pub scale_of_bound-scale : (bound : ℕ) → IsScale bound (scale_of_bound bound)
unfolding scale_of_bound
scale_of_bound-scale bound =
    let reached : bound ≤ 1024 * 2 ^ bound = omega (arith, below_power bound) in
    first_enough-scale bound 0 bound (λ h enough. omega arith) (rw zero-add reached)

-- each scale of a bound is the scale of the bound
pub scale_is_scale_of_bound : (bound g : ℕ) → IsScale bound g → g ≡ scale_of_bound bound
scale_is_scale_of_bound bound g scale =
    scale_unique bound g (scale_of_bound bound) scale (scale_of_bound-scale bound)
