-- Quotients that are rounded up, and how a ledger grows.
use Rattle.std.specs.Prelude.{◌≡◌, ℕ, zero, suc, ◌+◌, ◌*◌, ◌^◌, ◌<◌, ◌≤◌}
use Rattle.std.specs.Int.{div_ceil}
use Rattle.std.proofs.Common.{arith, ap, inl, inr, ◌∙◌}
use Rattle.std.proofs.lemmas.Bool.{cases_lt}
use Rattle.std.proofs.lemmas.Grind.{div_ceil_times}
use Rattle.std.proofs.lemmas.Nat.{mul-le}
use Rattle.std.proofs.Math.Nat.{lt_of_mul-lt-mul_right}
use Rattle.frac_laws.specs.Ledger.{grow}
use Rattle.model_specs.specs.Ledgers.{grow_cells}

-- a quotient that is rounded up is at most each whole number that is at least the quotient
pub div_ceil_most : (n d m : ℕ) → 0 < d → n ≤ m * d → div_ceil n d ≤ m
div_ceil_most n d m some most =
    let above = (div_ceil_times n d some).1 in
    let below : div_ceil n d * d < suc m * d = grind (arith, above, most) in
    omega (arith, lt_of_mul-lt-mul_right d below)

-- it keeps the order
pub div_ceil_mono : (n m d : ℕ) → 0 < d → n ≤ m → div_ceil n d ≤ div_ceil m d
div_ceil_mono n m d some order = div_ceil_most n d (div_ceil m d) some
    (omega (arith, (div_ceil_times m d some).0, order))

-- the growth of a ledger keeps its order
pub grow_mono : (w v kappa higher add more : ℕ) → w ≤ v → kappa ≤ higher → add ≤ more
    → grow w kappa add ≤ grow v higher more
grow_mono w v kappa higher add more order grows adds =
    omega (
      arith,
      order,
      adds,
      div_ceil_mono (w * kappa) (v * higher) (2 ^ 40) (omega arith) (mul-le w kappa v higher order grows),
    )

-- and so it does over some cells
pub cells_mono : (w v kappa higher add more cells : ℕ) → w ≤ v → kappa ≤ higher → add ≤ more
    → grow_cells kappa add w cells ≤ grow_cells higher more v cells
cells_mono w v kappa higher add more zero order grows adds = order
cells_mono w v kappa higher add more (suc cells) order grows adds =
    grow_mono (grow_cells kappa add w cells) (grow_cells higher more v cells) kappa higher add more
    (cells_mono w v kappa higher add more cells order grows adds) grows adds

-- what never falls by one step never falls
pub rises_far : (f : ℕ → ℕ) → ((n : ℕ) → f n ≤ f (suc n)) → (fewer more : ℕ) → fewer ≤ more → f fewer ≤ f more
rises_far f rises fewer zero order = let none : fewer ≡ 0 = omega arith in rw none (omega arith)
rises_far f rises fewer (suc more) order =
    elim (cases_lt fewer (suc more)) [
      | inl less ↦ omega (arith, rises_far f rises fewer more (omega arith), rises more)
      | inr most ↦ let same : fewer ≡ suc more = omega arith in rw same (omega arith)
    ]

-- a ledger never falls
pub never_falls : (kappa add w fewer more : ℕ) → fewer ≤ more
    → grow_cells kappa add w fewer ≤ grow_cells kappa add w more
never_falls kappa add w fewer more order = rises_far (grow_cells kappa add w) (λ n. omega arith) fewer more order

-- cells after cells
pub cells_after : (kappa add w first then : ℕ)
    → grow_cells kappa add (grow_cells kappa add w first) then ≡ grow_cells kappa add w (then + first)
cells_after kappa add w first zero = ap (grow_cells kappa add w) (omega arith)
cells_after kappa add w first (suc then) =
    ap (λ v. grow v kappa add) (cells_after kappa add w first then)
    ∙ ap (grow_cells kappa add w) (next then first)
  where
    next : (n m : ℕ) → suc (n + m) ≡ suc n + m
    next n m = omega arith

-- orders put together
pub le_then_is : (a b c : ℕ) → a ≤ b → b ≡ c → a ≤ c
le_then_is a b c h e = omega arith

pub le_through : (a b c : ℕ) → a ≤ b → b ≤ c → a ≤ c
le_through a b c h k = omega arith

pub le_when_same : (a b : ℕ) → a ≡ b → a ≤ b
le_when_same a b e = omega arith
