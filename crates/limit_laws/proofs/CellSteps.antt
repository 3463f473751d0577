-- One cell carries a difference of two degrees as its ledger grows.
use Rattle.std.specs.Prelude.{◌≡◌, ℕ, pos, [], ◌∷◌, ◌+◌, ◌-◌, ◌^◌, ◌≤◌, length}
use Rattle.std.proofs.Common.{refl, ap, ◌∙◌, arith}
use Rattle.frac_laws.specs.Fraction.{Fraction, over, whole, ◌+ℚ◌, ◌*ℚ◌, ◌≤ℚ◌}
use Rattle.frac_laws.specs.Ledger.{grow}
use Rattle.frac_laws.specs.Sums.{power}
use Rattle.frac_laws.specs.Lists.{Vector}
use Rattle.frac_laws.specs.Norms.{Norm, Sup}
use Rattle.frac_laws.proofs.FractionTerms.{ring, terms}
use Rattle.frac_laws.proofs.Linear.{linear, claims, natural, ◌⊞◌, ◌⊠◌}
use Rattle.frac_laws.proofs.Order.{le_trans, le_of_equal}
use Rattle.frac_laws.proofs.Quotients.{whole_add}
use Rattle.cell_laws.specs.Systems.{System, taylor_value}
use Rattle.cell_laws.specs.Pairs.{CoupledPair, second_taylor_value}
use Rattle.cell_laws.specs.Tame.{growth_of, IsTamePair}
use Rattle.cell_laws.specs.GrowthLaws.{later_powers}
use Rattle.cell_laws.specs.ErrorLaws.{distance}
use Rattle.cell_laws.proofs.Decay.{eights_natural}
use Rattle.cell_laws.proofs.Errors.{errors_grow_by_kappa, second_errors_grow}
use Rattle.step_laws.proofs.Distances.{triangle}
use Rattle.moment_laws.proofs.LedgerSteps.{grow_least}
use Rattle.sweep_laws.specs.ScaledSteps.{IsTameStep, IsTamePairStep}
use Rattle.limit_laws.specs.CellTails.{IsWithinRadius}
use Rattle.limit_laws.proofs.CellTails.{later_degrees_add_little, second_later_degrees_add_little}

grows : {k : Fraction} → whole (pos 0) ≤ℚ k → whole (pos 0) ≤ℚ whole (pos 1) +ℚ k
grows {k} some = linear (k ∷ []) some (hlevel claims) refl

-- what a cell does to a difference, as fractions: e is 8^n, k the growth, a and b the parts of the new difference
cell_gap : (e k w d x a b next : Fraction) → whole (pos 0) ≤ℚ e → whole (pos 0) ≤ℚ k
    → whole (pos (2 ^ 13)) *ℚ (e *ℚ d) ≤ℚ w → x ≤ℚ a +ℚ b → a ≤ℚ (whole (pos 1) +ℚ k) *ℚ d
    → e *ℚ b ≤ℚ over (pos 1) 8 → w +ℚ w *ℚ k +ℚ whole (pos 1024) ≤ℚ next
    → whole (pos (2 ^ 13)) *ℚ (e *ℚ x) ≤ℚ next
cell_gap e k w d x a b next he hk held split grown tail ledger =
    linear (e ∷ k ∷ w ∷ d ∷ x ∷ a ∷ b ∷ next ∷ [])
    ((split ⊠ he) ⊠ natural 8192 1 ⊞ (grown ⊠ he) ⊠ natural 8192 1 ⊞ tail ⊠ natural 8192 1 ⊞ held ⊠ grows hk ⊞ ledger)
    (hlevel claims) refl

-- a step of both runs, from y of degree n and from x of a later degree
pub step_carried : (norm : Norm) (kappa n more w : ℕ) (most : Fraction) (s : System) (y x v u : Vector)
    → IsTameStep norm kappa most s n y v → IsTameStep norm kappa most s (n + more) x u → most ≤ℚ whole (pos 2)
    → length s.matrices ≤ 8 → 8 ≤ n → IsWithinRadius n w (distance norm x y)
    → IsWithinRadius n (grow w kappa 1024) (distance norm u v)
step_carried norm kappa n more w most s y x v u step later small powers above held =
    rw (step.steps, later.steps)
    (cell_gap (power (whole (pos 8)) n) (growth_of kappa) (whole (pos w)) (distance norm x y)
    (distance norm (taylor_value s x (n + more)) (taylor_value s y n))
    (distance norm (taylor_value s x (n + more)) (taylor_value s y (n + more)))
    (distance norm (taylor_value s y (n + more)) (taylor_value s y n)) (whole (pos (grow w kappa 1024)))
    (eights_natural n) (natural kappa (2 ^ 40)) held
    (triangle norm (taylor_value s x (n + more)) (taylor_value s y (n + more)) (taylor_value s y n))
    (errors_grow_by_kappa norm kappa s x y (n + more) step.tame later.fits step.fits (omega (arith, powers, above)))
    (later_degrees_add_little norm kappa s y n more step.tame (le_trans step.starts small) above)
    (grow_least w kappa 1024))

-- above all powers the second half of a pair grows by kappa, and takes c times the first half's difference
second_grows : (kappa40 : ℕ) (c : Fraction) (p : CoupledPair) (w z v x : Vector) (n : ℕ) → IsTamePair kappa40 c p
    → length z ≤ p.second.dimension → length x ≤ p.second.dimension → length p.second.matrices ≤ n
    → distance Sup (second_taylor_value p w z n) (second_taylor_value p v x n)
    ≤ℚ (whole (pos 1) +ℚ growth_of kappa40) *ℚ distance Sup z x +ℚ c *ℚ distance Sup w v
second_grows kappa40 c p w z v x n tame fits fits_too powers =
    le_trans (second_errors_grow kappa40 c p w z v x n tame fits fits_too)
    (le_of_equal (ap (λ r. (whole (pos 1) +ℚ growth_of kappa40 +ℚ r) *ℚ distance Sup z x +ℚ c *ℚ distance Sup w v) none
    ∙ ring (growth_of kappa40 ∷ distance Sup z x ∷ (c *ℚ distance Sup w v) ∷ []) (hlevel terms) refl))
  where
    none : later_powers Sup p.second.matrices n ≡ whole (pos 0)
    none = let z : length p.second.matrices - n ≡ 0 = omega (arith, powers) in rw z refl

-- the same of a second half: d and f are the differences of both halves, and c w is within what is taken
second_gap : (e k c w d s f x a b taken next : Fraction) → whole (pos 0) ≤ℚ e → whole (pos 0) ≤ℚ k → whole (pos 0) ≤ℚ c
    → whole (pos (2 ^ 13)) *ℚ (e *ℚ d) ≤ℚ w → whole (pos (2 ^ 13)) *ℚ (e *ℚ f) ≤ℚ s → c *ℚ w ≤ℚ taken
    → x ≤ℚ a +ℚ b → a ≤ℚ (whole (pos 1) +ℚ k) *ℚ f +ℚ c *ℚ d → e *ℚ b ≤ℚ over (pos 1) 8
    → s +ℚ s *ℚ k +ℚ (taken +ℚ whole (pos 1024)) ≤ℚ next
    → whole (pos (2 ^ 13)) *ℚ (e *ℚ x) ≤ℚ next
second_gap e k c w d s f x a b taken next he hk hc held second takes split grown tail ledger =
    linear (e ∷ k ∷ c ∷ w ∷ d ∷ s ∷ f ∷ x ∷ a ∷ b ∷ taken ∷ next ∷ [])
    ((split ⊠ he) ⊠ natural 8192 1 ⊞ (grown ⊠ he) ⊠ natural 8192 1 ⊞ tail ⊠ natural 8192 1 ⊞ second ⊠ grows hk
    ⊞ held ⊠ hc ⊞ takes ⊞ ledger) (hlevel claims) refl

-- a step of the second half in both runs, where taken is at least c times the first radius
pub second_carried : (kappa n more w s taken : ℕ) (c : Fraction) (p : CoupledPair) (y z v x y2 z2 v2 x2 : Vector)
    → IsTamePairStep kappa c p n y z v x → IsTamePairStep kappa c p (n + more) y2 z2 v2 x2
    → length p.second.matrices ≤ 8 → 8 ≤ n → whole (pos 0) ≤ℚ c → c *ℚ whole (pos w) ≤ℚ whole (pos taken)
    → IsWithinRadius n w (distance Sup y2 y) → IsWithinRadius n s (distance Sup z2 z)
    → IsWithinRadius n (grow s kappa (taken + 1024)) (distance Sup x2 x)
second_carried kappa n more w s taken c p y z v x y2 z2 v2 x2 step later powers above some takes held second =
    rw (step.second_steps, later.second_steps)
    (second_gap (power (whole (pos 8)) n) (growth_of kappa) c (whole (pos w)) (distance Sup y2 y) (whole (pos s))
    (distance Sup z2 z) (distance Sup (second_taylor_value p y2 z2 (n + more)) (second_taylor_value p y z n))
    (distance Sup (second_taylor_value p y2 z2 (n + more)) (second_taylor_value p y z (n + more)))
    (distance Sup (second_taylor_value p y z (n + more)) (second_taylor_value p y z n)) (whole (pos taken))
    (whole (pos (grow s kappa (taken + 1024))))
    (eights_natural n) (natural kappa (2 ^ 40)) some held second takes
    (triangle Sup (second_taylor_value p y2 z2 (n + more)) (second_taylor_value p y z (n + more))
    (second_taylor_value p y z n))
    (second_grows kappa c p y2 z2 y z (n + more) step.tame later.second_fits step.second_fits
    (omega (arith, powers, above)))
    (second_later_degrees_add_little kappa c p y z n more step.tame (step.first_starts, step.second_starts) above)
    (rw (whole_add (pos taken) (pos 1024)) at (grow_least s kappa (taken + 1024))))
