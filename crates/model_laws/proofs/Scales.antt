-- The scale of a bound that is known, by the powers of two beside it.
use Rattle.std.proofs.Common.{◌≡◌, ℕ, suc, ◌*◌, ◌^◌, ◌<◌, ◌≤◌, inl, inr, sym, arith}
use Rattle.std.proofs.lemmas.Bool.{cases_lt}
use Rattle.std.proofs.Math.Pow.{pow_mono}
use Rattle.frac_laws.specs.Ledger.{scale_of_bound}
use Rattle.frac_laws.proofs.LedgerLaws.{scale_is_scale_of_bound}

pub scale_between : (bound g : ℕ) → 1024 * 2 ^ g < bound → bound ≤ 1024 * 2 ^ suc g
    → scale_of_bound bound ≡ suc g
scale_between bound g above within = sym (scale_is_scale_of_bound bound (suc g)
    (record { enough = within; least = λ h enough. least h enough }))
  where
    least : (h : ℕ) → bound ≤ 1024 * 2 ^ h → suc g ≤ h
    least h enough = elim (cases_lt g h) [
      | inl less ↦ omega arith
      | inr most ↦ absurd (omega (arith, above, enough, pow_mono {i = h} {j = g} most))
    ]

-- a bound of at most 1024 has the scale 0
pub scale_zero : (bound : ℕ) → bound ≤ 1024 → scale_of_bound bound ≡ 0
scale_zero bound within = sym (scale_is_scale_of_bound bound 0
    (record { enough = omega (arith, within); least = λ h enough. omega arith }))
