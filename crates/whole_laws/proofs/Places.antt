-- Lists that are given by places, one place after the other.
use Rattle.std.proofs.Common.{◌≡◌, ℕ, zero, suc, ◌+◌, ◌<◌, [], ◌∷◌, ◌++◌, arith, refl, ap, ◌∙◌, add-one}
use mathlib.Core.Path.{ap₂}
use Rattle.std.specs.Prelude.{Option, Some, None, filter_map}
use Rattle.std.specs.Option.{option_to_list}
use Rattle.std.specs.List.{cons_option}
use Rattle.std.proofs.lemmas.List.Elements.{filter_map-append}
use Rattle.whole_laws.specs.Whole.{list_of, places}
use Rattle.whole_laws.proofs.ListsByPlace.{list_of-more}

pub places-more : {B : Type 0} (n : ℕ) (h : ℕ → Option B)
    → filter_map h (places (n + 1)) ≡ filter_map h (places n) ++ option_to_list (h n)
places-more n h =
    rw add-one (ap (filter_map h) (list_of-more n (λ i. i)) ∙ filter_map-append h (places n) (n ∷ [])
    ∙ ap (λ xs. filter_map h (places n) ++ xs) (one h n))
  where
    one : {B : Type 0} (h : ℕ → Option B) (n : ℕ) → cons_option (h n) [] ≡ option_to_list (h n)
    one h n = elim (h n) as (λ o. cons_option o [] ≡ option_to_list o) [ None ↦ refl | Some x ↦ refl ]

-- functions that agree at the places of a list give the same of it
filter_map-agree : {B : Type 0} (n : ℕ) (p : ℕ → ℕ) (f g : ℕ → Option B) → ((i : ℕ) → i < n → f (p i) ≡ g (p i))
    → filter_map f (list_of n p) ≡ filter_map g (list_of n p)
filter_map-agree zero p f g h = refl
filter_map-agree (suc n) p f g h =
    ap₂ cons_option (h 0 (omega arith))
    (filter_map-agree n (λ i. p (suc i)) f g (λ i below. h (suc i) (omega arith)))

pub places-agree : {B : Type 0} (n : ℕ) (f g : ℕ → Option B) → ((i : ℕ) → i < n → f i ≡ g i)
    → filter_map f (places n) ≡ filter_map g (places n)
places-agree n f g h = filter_map-agree n (λ i. i) f g h

-- where there is nothing at any place, there is nothing
pub places-none : {B : Type 0} (n : ℕ) (f : ℕ → Option B) → ((i : ℕ) → f i ≡ None) → filter_map f (places n) ≡ []
places-none n f h = none_of n (λ i. i) f h
  where
    none_of : {B : Type 0} (n : ℕ) (p : ℕ → ℕ) (f : ℕ → Option B) → ((i : ℕ) → f i ≡ None)
        → filter_map f (list_of n p) ≡ []
    none_of zero p f h = refl
    none_of (suc n) p f h = rw (h (p 0)) (none_of n (λ i. p (suc i)) f h)
