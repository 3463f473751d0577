-- The bound ledger goes on from the value that it has some months before the term.
use Rattle.std.specs.Prelude.{◌≡◌, ℕ, zero, suc, ◌+◌, ◌-◌, ◌*◌}
use Rattle.std.proofs.Common.{ap, sym, ◌∙◌, arith, zero-add}
use Rattle.model_specs.specs.Product.{Product}
use Rattle.model_specs.specs.Payments.{Plan}
use Rattle.model_specs.specs.Growth.{kappa40, pay}
use Rattle.model_specs.specs.Ledgers.{grow_cells, greatest_lump, bound_before_term}

-- the ledger of some further months, from a bound that it has before them
abbrev pub bound_on_from : Product → Plan → ℕ → ℕ → ℕ → ℕ
bound_on_from product plan before bound zero = bound
bound_on_from product plan before bound (suc months) =
    let month = product.months - suc (months + before) in
    grow_cells (kappa40 product month) (pay product plan month)
    (bound_on_from product plan before bound months + 1024 * greatest_lump product plan (suc month)) 32

bound_goes_on : (product : Product) (plan : Plan) (before bound months : ℕ)
    → bound_before_term product plan before ≡ bound
    → bound_before_term product plan (months + before) ≡ bound_on_from product plan before bound months
bound_goes_on product plan before bound zero is = rw (zero-add before) is
bound_goes_on product plan before bound (suc months) is =
    rw (next months before)
    (ap (λ b. grow_cells (kappa40 product (product.months - suc (months + before)))
    (pay product plan (product.months - suc (months + before)))
    (b + 1024 * greatest_lump product plan (suc (product.months - suc (months + before)))) 32)
    (bound_goes_on product plan before bound months is))
  where
    next : (n m : ℕ) → suc n + m ≡ suc (n + m)
    next n m = omega arith

-- the same with the number of months known
pub bound_after : (product : Product) (plan : Plan) (before bound months later then : ℕ)
    → bound_before_term product plan before ≡ bound → months + before ≡ later
    → bound_on_from product plan before bound months ≡ then
    → bound_before_term product plan later ≡ then
bound_after product plan before bound months later then is reaches on =
    sym (ap (bound_before_term product plan) reaches) ∙ bound_goes_on product plan before bound months is ∙ on
