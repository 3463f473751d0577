-- Where each check holds, none fails.
use Rattle.std.proofs.Common.{◌≡◌, ℕ, zero, suc, ◌<◌, arith, refl, ap}
use Rattle.std.specs.Prelude.{Bool, true, None, option_map}
use Rattle.std.specs.List.{list_all}
use Rattle.whole_laws.specs.Whole.{list_of}
use Rattle.whole_laws.proofs.Tests.{passes_both}
use Rattle.product_file.specs.Checks.{first_failed}
use Rattle.product_file.specs.CurveRules.{not_empty}

-- checks by places
pub places_pass : (n : ℕ) (check : ℕ → Bool) → ((i : ℕ) → i < n → check i ≡ true)
    → first_failed (list_of n check) ≡ None
places_pass zero check h = refl
places_pass (suc n) check h =
    rw (h 0 (omega arith))
    (ap (option_map suc) (places_pass n (λ i. check (suc i)) (λ i below. h (suc i) (omega arith))))

-- a list that must not be empty
pub some_places_pass : (n : ℕ) (check : ℕ → Bool) → 0 < n → ((i : ℕ) → i < n → check i ≡ true)
    → first_failed (not_empty n check) ≡ None
some_places_pass zero check some h = absurd (omega arith)
some_places_pass (suc n) check some h = places_pass (suc n) check h

-- a test of each member of a list by places
pub each_place_passes : {A : Type 0} (test : A → Bool) (n : ℕ) (f : ℕ → A) → ((i : ℕ) → i < n → test (f i) ≡ true)
    → list_all test (list_of n f) ≡ true
each_place_passes test zero f h = refl
each_place_passes test (suc n) f h =
    passes_both (test (f 0)) _ (h 0 (omega arith))
    (each_place_passes test n (λ i. f (suc i)) (λ i below. h (suc i) (omega arith)))
