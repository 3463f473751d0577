-- Sums that have more than 64 bits.
use Rattle.std.proofs.Common.{◌≡◌, ℕ, zero, suc, ◌^◌, ◌<◌, ◌≤◌, ℤ, pos, negsuc, ◌+ℤ◌, ◌*ℤ◌, unsigned_abs, FitsSigned}
use Rattle.std.proofs.Common.{List, [], ◌∷◌, length, get_or, arith, ap, sym, ◌∙◌, subst, ◌⊎◌, inl, inr}
use Rattle.std.specs.Int.{w64, w128}
use Rattle.std.proofs.lemmas.Int.{ints, fits_signed_mul}
use Rattle.std.proofs.lemmas.List.{get_or-map, length-map}
use Rattle.whole_laws.proofs.ShortLists.{four_are_all, six_are_all}
use Rattle.named_numbers.specs.Numbers.{most_denominator}
use Rattle.file_changes.specs.ContinuousAsks.{AreWords}
use Rattle.file_changes.specs.BasisChanges.{changed_coefficients}

-- nothing times a number is nothing
pub zero_times : (b : ℤ) → pos 0 *ℤ b ≡ pos 0
zero_times (pos n) = ap pos (omega arith)
zero_times (negsuc n) = omega (arith, ints)

-- a factor of at most 10^12 keeps a product with a number of 64 bits within 128
product_fits : (a c : ℤ) → unsigned_abs a ≤ most_denominator → FitsSigned w64 c → FitsSigned w128 (a *ℤ c)
product_fits a (pos n) small fits = fits_signed_mul w128 a (pos n) (10 ^ 12) (2 ^ 63) small (omega (arith, fits.sfits))
    (omega arith)
product_fits a (negsuc n) small fits = fits_signed_mul w128 a (negsuc n) (10 ^ 12) (2 ^ 63) small
    (omega (arith, fits.sfits)) (omega arith)

narrow_is_wide : (z : ℤ) → FitsSigned w64 z → FitsSigned w128 z
narrow_is_wide z fits = record { sfits = omega (arith, fits.sfits) }

-- a product that has more than 128 bits is one with a large factor, and then nothing is added
pub product_is_too_large : (factor c units den : ℤ) → (units ≡ pos 0) ⊎ (unsigned_abs factor ≤ most_denominator)
    → FitsSigned w64 c → ¬ FitsSigned w128 (factor *ℤ c) → ¬ FitsSigned w64 (factor *ℤ c +ℤ units *ℤ den)
product_is_too_large factor c units den (inl none) fits wide sum =
    wide (narrow_is_wide (factor *ℤ c) (subst (FitsSigned w64)
    (ap (λ x. factor *ℤ c +ℤ x *ℤ den) none ∙ ap (λ x. factor *ℤ c +ℤ x) (zero_times den) ∙ omega (arith, ints)) sum))
product_is_too_large factor c units den (inr small) fits wide sum = wide (product_fits factor c small fits)

-- a sum that has more than 128 bits has more than 64
pub sum_is_too_large : (z : ℤ) → ¬ FitsSigned w128 z → ¬ FitsSigned w64 z
sum_is_too_large z wide fits = wide (narrow_is_wide z fits)

-- ---- six coefficients

-- the first of changed coefficients, and each later one
pub changed_of_six : (factor more : ℤ) (p : List ℤ) → length p ≡ 6
    → changed_coefficients factor more p
    ≡ (factor *ℤ get_or p 0 (pos 0) +ℤ more) ∷ (factor *ℤ get_or p 1 (pos 0)) ∷ (factor *ℤ get_or p 2 (pos 0))
    ∷ (factor *ℤ get_or p 3 (pos 0)) ∷ (factor *ℤ get_or p 4 (pos 0)) ∷ (factor *ℤ get_or p 5 (pos 0)) ∷ []
changed_of_six factor more p six = ap (changed_coefficients factor more) (six_are_all p six)

-- six numbers are of 64 bits where each is
pub six_words : (a b c d e f : ℤ) → FitsSigned w64 a → FitsSigned w64 b → FitsSigned w64 c → FitsSigned w64 d
    → FitsSigned w64 e → FitsSigned w64 f → AreWords (a ∷ b ∷ c ∷ d ∷ e ∷ f ∷ [])
six_words a b c d e f ha hb hc hd he hf zero none below = ha
six_words a b c d e f ha hb hc hd he hf (suc zero) none below = hb
six_words a b c d e f ha hb hc hd he hf (suc (suc zero)) none below = hc
six_words a b c d e f ha hb hc hd he hf (suc (suc (suc zero))) none below = hd
six_words a b c d e f ha hb hc hd he hf (suc (suc (suc (suc zero)))) none below = he
six_words a b c d e f ha hb hc hd he hf (suc (suc (suc (suc (suc zero))))) none below = hf
six_words a b c d e f ha hb hc hd he hf (suc (suc (suc (suc (suc (suc k)))))) none below = absurd (omega (arith, below))

-- changed coefficients of 64 bits have each number of 64 bits
pub first_word : (factor more : ℤ) (p : List ℤ) → length p ≡ 6 → AreWords (changed_coefficients factor more p)
    → FitsSigned w64 (factor *ℤ get_or p 0 (pos 0) +ℤ more)
first_word factor more p six all = subst AreWords (changed_of_six factor more p six) all 0 (pos 0) (omega arith)

pub later_word : (factor more : ℤ) (p : List ℤ) (k : ℕ) → length p ≡ 6 → k < 5
    → AreWords (changed_coefficients factor more p) → FitsSigned w64 (factor *ℤ get_or p (suc k) (pos 0))
later_word factor more [] k six below all = absurd (omega (arith, six))
later_word factor more (x ∷ xs) k six below all =
    let inside : k < length xs = omega (arith, six, below) in
    subst (FitsSigned w64) (get_or-map (λ y. factor *ℤ y) xs k (pos 0) (pos 0) inside)
    (all (suc k) (pos 0) (omega (arith, inside, length-map xs (λ y. factor *ℤ y))))

-- changed coefficients that are given one by one
pub given_changed : (factor more : ℤ) (p : List ℤ) (a b c d e f : ℤ) → length p ≡ 6
    → a ≡ factor *ℤ get_or p 0 (pos 0) +ℤ more → b ≡ factor *ℤ get_or p 1 (pos 0)
    → c ≡ factor *ℤ get_or p 2 (pos 0) → d ≡ factor *ℤ get_or p 3 (pos 0) → e ≡ factor *ℤ get_or p 4 (pos 0)
    → f ≡ factor *ℤ get_or p 5 (pos 0) → a ∷ b ∷ c ∷ d ∷ e ∷ f ∷ [] ≡ changed_coefficients factor more p
given_changed factor more p a b c d e f six ha hb hc hd he hf =
    rw (ha, hb, hc, hd, he, hf) (sym (changed_of_six factor more p six))

-- four numbers are of 64 bits where each is
pub four_words : (p : List ℤ) → length p ≡ 4 → FitsSigned w64 (get_or p 0 (pos 0)) → FitsSigned w64 (get_or p 1 (pos 0))
    → FitsSigned w64 (get_or p 2 (pos 0)) → FitsSigned w64 (get_or p 3 (pos 0)) → AreWords p
four_words p four ha hb hc hd = subst AreWords (sym (four_are_all p four)) each
  where
    each : AreWords (get_or p 0 (pos 0) ∷ get_or p 1 (pos 0) ∷ get_or p 2 (pos 0) ∷ get_or p 3 (pos 0) ∷ [])
    each zero none below = ha
    each (suc zero) none below = hb
    each (suc (suc zero)) none below = hc
    each (suc (suc (suc zero))) none below = hd
    each (suc (suc (suc (suc k)))) none below = absurd (omega (arith, below))
