-- Charged steps as those before a month and those from it on.
use Rattle.std.proofs.Common.{◌≡◌, ℕ, ◌<◌, ◌≤◌, ℤ, List, [], ◌∷◌, ◌++◌, map}
use Rattle.std.proofs.Common.{append-nil, refl, sym, subst}
use Rattle.std.specs.Prelude.{All, filter, nat_lt}
use Rattle.std.proofs.lemmas.Bool.{lt-ltb, le-ltb}
use Rattle.std.proofs.lemmas.List.{get_or-map, length-map}
use Rattle.std.proofs.lemmas.List.Elements.{All-cons, All-head, All-nil, All-tail}
use Rattle.model_specs.specs.Product.{Step}
use Rattle.model_specs.specs.RecordRules.{IsPayment}
use Rattle.file_changes.specs.ContinuousAsks.{AreWords}
use Rattle.file_changes.specs.ContinuousCharges.{charged_steps, less_step, steps_from}

-- what holds of all members of two lists holds of those of each
module _ {X : Type 0} (P : X → Type 0) where
  pub holds_in_front : (xs ys : List X) → All P (xs ++ ys) → All P xs
  holds_in_front [] ys all = All-nil P
  holds_in_front (x ∷ xs) ys all =
      All-cons P x xs (All-head P x (xs ++ ys) all) (holds_in_front xs ys (All-tail P x (xs ++ ys) all))

  pub holds_behind : (xs ys : List X) → All P (xs ++ ys) → All P ys
  holds_behind [] ys all = all
  holds_behind (x ∷ xs) ys all = holds_behind xs ys (All-tail P x (xs ++ ys) all)

-- steps with words
abbrev HaveWords : List Step → Type 0
HaveWords steps = All (λ (s : Step). AreWords s.c) steps

module _ (amount : ℤ) (months until : ℕ) (steps : List Step) where
  abbrev before : List Step
  before = map (less_step amount) (filter (λ (s : Step). nat_lt s.from until) steps)

  -- up to the term, or with those from the month on
  pub charged_to_the_term : months ≤ until → charged_steps amount months until steps ≡ before
  charged_to_the_term past = rw (le-ltb until months past) (append-nil before)

  pub charged_in_two : until < months → charged_steps amount months until steps ≡ before ++ steps_from until steps
  charged_in_two within = rw (lt-ltb until months within) refl

  -- where one part has too large a coefficient, they have
  pub front_is_too_large : ¬ HaveWords before → ¬ HaveWords (charged_steps amount months until steps)
  front_is_too_large wide all = wide (holds_in_front (λ (s : Step). AreWords s.c) before _ all)

  pub back_is_too_large : until < months → ¬ HaveWords (steps_from until steps)
      → ¬ HaveWords (charged_steps amount months until steps)
  back_is_too_large within wide all =
      wide (holds_behind (λ (s : Step). AreWords s.c) before (steps_from until steps)
      (subst HaveWords (charged_in_two within) all))

-- the steps of a payment start before the term
pub payment_within : (months : ℕ) (steps : List Step) → IsPayment months steps
    → All (λ (s : Step). s.from < months) steps
payment_within months steps payment k d inside =
    subst (λ n. n < months) (get_or-map (λ (s : Step). s.from) steps k d 0 inside)
    (payment.starts.below k (subst (λ n. k < n) (sym (length-map steps (λ (s : Step). s.from))) inside))
