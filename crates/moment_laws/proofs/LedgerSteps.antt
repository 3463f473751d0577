-- The bound ledger over a date and over a cell, and its end.
use Rattle.std.specs.Prelude.{◌≡◌, ℕ, pos, ◌+◌, ◌*◌, ◌^◌, ◌≤◌, [], ◌∷◌}
use Rattle.std.specs.Int.{div_ceil}
use Rattle.std.proofs.Common.{refl, ap, sym, ◌∙◌, arith, lit≤}
use Rattle.std.proofs.lemmas.Int.{ints}
use Rattle.std.proofs.Math.IntN.{pos-*ℤ-pos}
use Rattle.frac_laws.specs.Fraction.{Fraction, over, whole, ◌+ℚ◌, ◌*ℚ◌, ◌≤ℚ◌}
use Rattle.frac_laws.specs.Ledger.{grow}
use Rattle.frac_laws.proofs.FractionTerms.{ring, terms}
use Rattle.frac_laws.proofs.Linear.{linear, claims, natural, ◌⊞◌, ◌⊠◌}
use Rattle.frac_laws.proofs.Order.{le_trans, le_of_equal}
use Rattle.frac_laws.proofs.Positive.{le_of_mul_le, whole_positive}
use Rattle.frac_laws.proofs.Quotients.{whole_le, whole_mul, whole_add, over_is}
use Rattle.frac_laws.proofs.LedgerFacts.{rounded_up_le}
use Rattle.cell_laws.specs.Tame.{growth_of}
use Rattle.model_specs.specs.Product.{Product}
use Rattle.model_specs.specs.Payments.{Plan}
use Rattle.model_specs.specs.Ledgers.{scale}
use Rattle.moment_laws.specs.MomentLaws.{IsWithinLedger}

-- a ledger's next value, as fractions
pub grow_least : (w kappa add : ℕ) → whole (pos w) +ℚ whole (pos w) *ℚ growth_of kappa +ℚ whole (pos add)
    ≤ℚ whole (pos (grow w kappa add))
grow_least w kappa add =
    let rounded = rounded_up_le (w * kappa) (2 ^ 40) (lit≤ tt) in
    let product : over (pos (w * kappa)) (2 ^ 40) ≡ whole (pos w) *ℚ growth_of kappa =
    over_is (pos (w * kappa)) (2 ^ 40) ∙ ap (λ x. x *ℚ over (pos 1) (2 ^ 40))
    (ap whole (sym (pos-*ℤ-pos w kappa)) ∙ whole_mul (pos w) (pos kappa))
    ∙ ring (whole (pos w) ∷ whole (pos kappa) ∷ over (pos 1) (2 ^ 40) ∷ []) (hlevel terms) refl
    ∙ ap (λ x. whole (pos w) *ℚ x) (sym (over_is (pos kappa) (2 ^ 40))) in
    let sum : whole (pos (grow w kappa add)) ≡ whole (pos w) +ℚ whole (pos (div_ceil (w * kappa) (2 ^ 40)))
    +ℚ whole (pos add) =
    whole_add (pos (w + div_ceil (w * kappa) (2 ^ 40))) (pos add) ∙ ap (λ x. x +ℚ whole (pos add))
    (whole_add (pos w) (pos (div_ceil (w * kappa) (2 ^ 40)))) in
    rw sum (linear (whole (pos w) ∷ growth_of kappa ∷ whole (pos add)
    ∷ whole (pos (div_ceil (w * kappa) (2 ^ 40))) ∷ [])
    (rw product at rounded) (hlevel claims) refl)

-- a date: the ledger adds 1024 times the greatest lump
pub date_step : (b l : ℕ) (v w s : Fraction) → IsWithinLedger b v → w ≤ℚ whole (pos l) → s ≤ℚ v +ℚ w
    → IsWithinLedger (b + 1024 * l) s
date_step b l v w s held lumps sum =
    rw (whole_add (pos b) (pos (1024 * l)), ap whole (sym (pos-*ℤ-pos 1024 l)) ∙ whole_mul (pos 1024) (pos l))
    (linear (v ∷ w ∷ s ∷ whole (pos b) ∷ whole (pos l) ∷ [])
    (held ⊞ lumps ⊠ natural 1024 1 ⊞ sum ⊠ natural 1024 1) (hlevel claims) refl)

-- a cell: the ledger grows and adds pay
pub cell_step : (b kappa p : ℕ) (v w x : Fraction) → IsWithinLedger b v
    → w ≤ℚ (whole (pos 1) +ℚ growth_of kappa) *ℚ v +ℚ over (pos 1) 192 *ℚ x → over (pos 16) 3 *ℚ x ≤ℚ whole (pos p)
    → IsWithinLedger (grow b kappa p) w
cell_step b kappa p v w x held grown paid =
    let factor : whole (pos 0) ≤ℚ whole (pos 1) +ℚ growth_of kappa =
    linear (growth_of kappa ∷ []) (natural kappa (2 ^ 40)) (hlevel claims) refl in
    linear (v ∷ w ∷ x ∷ growth_of kappa ∷ whole (pos b) ∷ whole (pos p) ∷ whole (pos (grow b kappa p)) ∷ [])
    (held ⊠ factor ⊞ grown ⊠ natural 1024 1 ⊞ paid ⊞ grow_least b kappa p) (hlevel claims) refl

-- the ledger's values are at most 1024 G
pub within_scale : (product : Product) (plan : Plan) (b : ℕ) (v : Fraction) → b ≤ 1024 * 2 ^ scale product plan
    → IsWithinLedger b v → v ≤ℚ whole (pos (2 ^ scale product plan))
within_scale product plan b v order held =
    let G = 2 ^ scale product plan in
    le_of_mul_le {c = whole (pos 1024)} (whole_positive 1024 (lit≤ tt))
    (le_trans held (le_trans (whole_le (omega (arith, ints, order)))
    (le_of_equal (ap whole (sym (pos-*ℤ-pos 1024 G)) ∙ whole_mul (pos 1024) (pos G)))))
