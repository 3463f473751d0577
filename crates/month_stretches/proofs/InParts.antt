-- A month's coefficients, kind by kind: all are constant, or keep their values, where those of each kind do.
use Rattle.std.specs.Prelude.{◌≡◌, ℕ, ◌+◌, ◌<◌, ℤ, Bool, true, false, ◌&&◌, List, ◌∷◌, ◌++◌, length, map}
use Rattle.std.specs.List.{list_all, zip}
use Rattle.std.proofs.Common.{refl, ap, sym, ◌∙◌}
use mathlib.Core.Path.{ap₂}
use Rattle.std.proofs.lemmas.List.{length-append}
use Rattle.std.proofs.lemmas.List.Folds.{list_all-append}
use Rattle.std.proofs.lemmas.List.Sums.{list_all-from_AllPass}
use Rattle.whole_laws.specs.Whole.{list_of}
use Rattle.whole_laws.proofs.ListsByPlace.{All-list_of, length-list_of}
use Rattle.model_specs.specs.Curve.{piece_at}
use Rattle.model_specs.specs.Product.{Product, Transition, no_transition}
use Rattle.model_specs.specs.Payments.{Plan}
use Rattle.model_specs.specs.Stretches.{is_constant, is_constant_month, keeps_values}
use Rattle.month_stretches.specs.Parts.{interest_in, rate_in, sojourn_in, sum_in}
use Rattle.month_stretches.specs.Parts.{are_constant, is_same, are_same}
use Rattle.month_stretches.proofs.ListTests.{zip-append, zip-list_of, map_by_place}

-- polynomials that are each constant
pub all_constant : (n : ℕ) (numbers : ℕ → List ℤ) → ((k : ℕ) → k < n → is_constant (numbers k) ≡ true)
    → true ≡ are_constant n numbers
all_constant n numbers each = sym (list_all-from_AllPass is_constant (list_of n numbers)
    (All-list_of (λ c. is_constant c ≡ true) n numbers each))

-- and such as each begin with the same numbers
pub all_same : (n : ℕ) (old new : ℕ → List ℤ) → ((k : ℕ) → k < n → is_same (old k, new k) ≡ true)
    → true ≡ are_same n old new
all_same n old new each = sym (list_all-from_AllPass is_same (list_of n (λ k. (old k, new k)))
    (All-list_of (λ pair. is_same pair ≡ true) n (λ k. (old k, new k)) each))

-- a test of four lists one after the other
in_order : {A : Type 0} (test : A → Bool) (x : A) (xs ys zs : List A)
    → list_all test (x ∷ ((xs ++ ys) ++ zs))
    ≡ (((test x && list_all test xs) && list_all test ys) && list_all test zs)
in_order test x xs ys zs =
    ap (λ b. test x && b) (list_all-append test (xs ++ ys) zs
    ∙ ap (λ b. b && list_all test zs) (list_all-append test xs ys))
    ∙ joined (test x) (list_all test xs) (list_all test ys) (list_all test zs)
  where
    joined : (a b c d : Bool) → (a && ((b && c) && d)) ≡ (((a && b) && c) && d)
    joined true b c d = refl
    joined false b c d = refl

module _ (product : Product) (plan : Plan) where
  abbrev transitions : ℕ
  transitions = length product.transitions

  abbrev states : ℕ
  states = length product.states

  abbrev rates : ℕ → List (List ℤ)
  rates month = list_of transitions (rate_in product month)

  abbrev sojourns : ℕ → List (List ℤ)
  sojourns month = list_of states (sojourn_in plan month)

  abbrev sums : ℕ → List (List ℤ)
  sums month = list_of transitions (sum_in plan month)

  rates_are : (month : ℕ) → map (λ (t : Transition). (piece_at t.rate month).c) product.transitions ≡ rates month
  rates_are month = map_by_place (λ (t : Transition). (piece_at t.rate month).c) product.transitions no_transition

  pub month_in_parts : (month : ℕ) → is_constant_month product plan month
      ≡ (((is_constant (interest_in product month) && are_constant transitions (rate_in product month))
      && are_constant states (sojourn_in plan month)) && are_constant transitions (sum_in plan month))
  month_in_parts month =
      ap (λ r. list_all is_constant (interest_in product month ∷ ((r ++ sojourns month) ++ sums month)))
      (rates_are month)
      ∙ in_order is_constant (interest_in product month) (rates month) (sojourns month) (sums month)

  -- the pairs of both months' coefficients
  paired : (month other : ℕ) → zip (interest_in product month ∷ ((rates month ++ sojourns month) ++ sums month))
      (interest_in product other ∷ ((rates other ++ sojourns other) ++ sums other))
      ≡ ((interest_in product month, interest_in product other)
      ∷ ((list_of transitions (λ i. (rate_in product month i, rate_in product other i))
      ++ list_of states (λ i. (sojourn_in plan month i, sojourn_in plan other i)))
      ++ list_of transitions (λ i. (sum_in plan month i, sum_in plan other i))))
  paired month other =
      let long : (n : ℕ) (f g : ℕ → List ℤ) → length (list_of n f) ≡ length (list_of n g) =
      λ n f g. length-list_of n f ∙ sym (length-list_of n g) in
      let both = zip-append (rates month) (sojourns month) (rates other) (sojourns other)
      (long transitions (rate_in product month) (rate_in product other)) in
      ap (λ zs. (interest_in product month, interest_in product other) ∷ zs)
      (zip-append (rates month ++ sojourns month) (sums month) (rates other ++ sojourns other) (sums other)
      (length-append (rates month) (sojourns month)
      ∙ ap₂ ◌+◌ (long transitions (rate_in product month) (rate_in product other))
      (long states (sojourn_in plan month) (sojourn_in plan other))
      ∙ sym (length-append (rates other) (sojourns other)))
      ∙ ap₂ ◌++◌ (both ∙ ap₂ ◌++◌ (zip-list_of transitions (rate_in product month) (rate_in product other))
      (zip-list_of states (sojourn_in plan month) (sojourn_in plan other)))
      (zip-list_of transitions (sum_in plan month) (sum_in plan other)))

  pub keeps_in_parts : (month other : ℕ) → keeps_values product plan month other
      ≡ (((is_same (interest_in product month, interest_in product other)
      && are_same transitions (rate_in product month) (rate_in product other))
      && are_same states (sojourn_in plan month) (sojourn_in plan other))
      && are_same transitions (sum_in plan month) (sum_in plan other))
  keeps_in_parts month other =
      ap₂ (λ r q. list_all is_same (zip (interest_in product month ∷ ((r ++ sojourns month) ++ sums month))
      (interest_in product other ∷ ((q ++ sojourns other) ++ sums other)))) (rates_are month) (rates_are other)
      ∙ ap (list_all is_same) (paired month other)
      ∙ in_order is_same (interest_in product month, interest_in product other)
      (list_of transitions (λ i. (rate_in product month i, rate_in product other i)))
      (list_of states (λ i. (sojourn_in plan month i, sojourn_in plan other i)))
      (list_of transitions (λ i. (sum_in plan month i, sum_in plan other i)))
