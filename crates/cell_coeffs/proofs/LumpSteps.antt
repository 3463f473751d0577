-- One lump more.
use Rattle.std.specs.Prelude.{◌≡◌, ℕ, pos, ◌+◌, ◌-◌, ◌*◌, ◌^◌, ◌<◌, ◌≤◌, ℤ, ◌+ℤ◌, ◌*ℤ◌, unsigned_abs, cond}
use Rattle.std.specs.Prelude.{nat_eq, List, length, slice_index_or}
use Rattle.std.proofs.Common.{ap, sym, subst, ◌∙◌, arith, add-one, inl, inr, set, FitsSigned}
use Rattle.std.specs.Int.{w128}
use Rattle.std.proofs.Math.Nat.{mul-le-mul_right}
use Rattle.std.proofs.Math.IntN.{+ℤ_assoc, +ℤ_idr}
use Rattle.std.proofs.lemmas.Nat.{pow-add}
use Rattle.std.proofs.lemmas.Int.{unsigned_abs-mul, fits_signed_from_abs}
use Rattle.std.proofs.lemmas.Bool.Decides.{eqb_tells}
use Rattle.std.proofs.lemmas.List.{get_or-set_other, get_or-set_same}
use Rattle.cell_coeffs.specs.Lumps.{units_to}
use Rattle.whole_laws.proofs.Tests.{same_is}
use Rattle.whole_laws.proofs.Numbers.{size_of_sum}

-- a lump in units is at most 2^64 in size
pub lump_size : (a : ℤ) (g : ℕ) → g ≤ 56 → unsigned_abs a ≤ 2 ^ g → unsigned_abs (a *ℤ pos (2 ^ (64 - g))) ≤ 2 ^ 64
lump_size a g few small =
    let sum : g + (64 - g) ≡ 64 = omega arith in
    let whole : 2 ^ g * 2 ^ (64 - g) ≡ 2 ^ 64 = sym (pow-add 2 g (64 - g)) ∙ ap (λ k. 2 ^ k) sum in
    rw (unsigned_abs-mul a (pos (2 ^ (64 - g)))) (omega (arith, mul-le-mul_right (2 ^ (64 - g)) small, whole))

pub grown_size : (s t : ℤ) (k : ℕ) → unsigned_abs s ≤ 2 ^ 65 + k * 2 ^ 64 → unsigned_abs t ≤ 2 ^ 64
    → unsigned_abs (s +ℤ t) ≤ 2 ^ 65 + (k + 1) * 2 ^ 64
grown_size s t k first second = omega (arith, size_of_sum s t, first, second)

pub grown_fits : (s : ℤ) (k : ℕ) → k ≤ 12 → unsigned_abs s ≤ 2 ^ 65 + k * 2 ^ 64 → FitsSigned w128 s
grown_fits s k few size = fits_signed_from_abs w128 s (omega (arith, size, few))

pub term_fits : (t : ℤ) → unsigned_abs t ≤ 2 ^ 64 → FitsSigned w128 t
term_fits t size = fits_signed_from_abs w128 t (omega (arith, size))

module _ (mid old : List ℤ) (g k j : ℕ) (a : ℤ) (lumps : List (ℕ × ℤ)) (inside : j < length mid)
    (is : slice_index_or lumps k (0, pos 0) ≡ (j, a)) where
  abbrev v : ℤ
  v = slice_index_or mid j (pos 0) +ℤ (a *ℤ pos (2 ^ (64 - g)))

  pub value_more : ((i : ℕ) → slice_index_or mid i (pos 0) ≡ slice_index_or old i (pos 0) +ℤ units_to g lumps i k)
      → (i : ℕ) → slice_index_or (set mid j v) i (pos 0) ≡ slice_index_or old i (pos 0) +ℤ units_to g lumps i (k + 1)
  value_more so_far i = rw (add-one, is) (elim (eqb_tells j i) [
    | inl same ↦ let P : ℕ → Type 0 = λ n. slice_index_or (set mid j v) n (pos 0) ≡ slice_index_or old n (pos 0)
        +ℤ (units_to g lumps n k +ℤ cond (nat_eq j n) (a *ℤ pos (2 ^ (64 - g))) (pos 0)) in
        subst P same.1 (rw (same_is j) (get_or-set_same mid j v (pos 0) inside
        ∙ ap (λ (z : ℤ). z +ℤ (a *ℤ pos (2 ^ (64 - g)))) (so_far j)
        ∙ +ℤ_assoc (slice_index_or old j (pos 0)) (units_to g lumps j k) (a *ℤ pos (2 ^ (64 - g)))))
    | inr other ↦ rw other.0 (get_or-set_other mid j i v (pos 0) (λ e. other.1 (sym e)) ∙ so_far i
        ∙ ap (λ (z : ℤ). slice_index_or old i (pos 0) +ℤ z) (sym (+ℤ_idr (units_to g lumps i k))))
  ])

  pub size_more : ((i : ℕ) → unsigned_abs (slice_index_or mid i (pos 0)) ≤ 2 ^ 65 + k * 2 ^ 64)
      → unsigned_abs (a *ℤ pos (2 ^ (64 - g))) ≤ 2 ^ 64
      → (i : ℕ) → unsigned_abs (slice_index_or (set mid j v) i (pos 0)) ≤ 2 ^ 65 + (k + 1) * 2 ^ 64
  size_more small term i = elim (eqb_tells j i) [
    | inl same ↦ rw (← same.1, get_or-set_same mid j v (pos 0) inside)
        (grown_size (slice_index_or mid j (pos 0)) (a *ℤ pos (2 ^ (64 - g))) k (small j) term)
    | inr other ↦ rw (get_or-set_other mid j i v (pos 0) (λ e. other.1 (sym e))) (omega (arith, small i))
  ]
