-- States by their names.
use Rattle.std.specs.Prelude.{◌≡◌, ◌≢◌, ◌↔◌, ℕ, ◌<◌, All, List, [], length, slice_index_or}
use Rattle.std.specs.Prelude.{slice_get, Option, Some, None, refl}
use Rattle.std.proofs.Common.{ap, sym, ◌∙◌, inl, inr, arith}
use Rattle.std.proofs.lemmas.Bool.{cases_lt}
use Rattle.std.proofs.lemmas.Option.{slice_get_within, get_or_from_slice_get}
use Rattle.std.proofs.lemmas.List.Elements.{All-from_get_or}
use Rattle.model_specs.specs.RecordRules.{AreDistinct}

-- two states of one name are one
one_name : (names : List (List ℕ)) (name : List ℕ) (i j : ℕ) → AreDistinct [] names → slice_get names i ≡ Some name
    → slice_get names j ≡ Some name → i ≡ j
one_name names name i j distinct here there =
    let first = get_or_from_slice_get names i name [] here in
    let second = get_or_from_slice_get names j name [] there in
    let low = slice_get_within names i name here in
    let high = slice_get_within names j name there in
    elim (cases_lt i j) [
      | inl below ↦ absurd (distinct i j below high (first ∙ sym second))
      | inr not_below ↦ elim (cases_lt j i) [
        | inl below ↦ absurd (distinct j i below low (second ∙ sym first))
        | inr not_above ↦ omega arith
      ]
    ]

pub state_is_found : (names : List (List ℕ)) (name : List ℕ) (i : ℕ) → AreDistinct [] names
    → slice_get names i ≡ Some name → (j : ℕ) → (Some i ≡ Some j) ↔ (slice_get names j ≡ Some name)
state_is_found names name i distinct here j = (
  λ same. let equal : i ≡ j = cc in ap (slice_get names) (sym equal) ∙ here,
  λ there. ap Some (one_name names name i j distinct here there),
)

pub no_state_is_found : (names : List (List ℕ)) (name : List ℕ)
    → ((k : ℕ) → k < length names → slice_index_or names k [] ≢ name) → (j : ℕ)
    → (◌≡◌ {A = Option ℕ} None (Some j)) ↔ (slice_get names j ≡ Some name)
no_state_is_found names name none j = (
  λ same. absurd cc,
  λ there. absurd (none j (slice_get_within names j name there) (get_or_from_slice_get names j name [] there)),
)

pub name_is_unknown : (names : List (List ℕ)) (name : List ℕ)
    → ((k : ℕ) → k < length names → slice_index_or names k [] ≢ name)
    → (◌≡◌ {A = Option ℕ} None None) ↔ All (λ known. known ≢ name) names
name_is_unknown names name none = (
  λ same. All-from_get_or (λ known. known ≢ name) names [] none,
  λ all. refl,
)
