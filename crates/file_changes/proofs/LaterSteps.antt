-- The steps after a month, one step after the other.
use Rattle.std.proofs.Common.{◌≡◌, ℕ, ◌+◌, ◌<◌, List, [], ◌∷◌, ◌++◌, length, take, get_or, cond, ap, sym, ◌∙◌, subst}
use Rattle.std.proofs.Common.{append-nil}
use Rattle.std.specs.Prelude.{true, false, All, nat_lt}
use Rattle.std.proofs.lemmas.List.{get_or-map, length-map}
use Rattle.std.proofs.lemmas.List.Elements.{All-append, filter_more}
use Rattle.whole_laws.proofs.Members.{All-one}
use Rattle.model_specs.specs.Product.{Step}
use Rattle.payment_plan.specs.declared.step.StepAmount.{StepAmount}
use Rattle.payment_plan.specs.Records.{record_of, steps_of}
use Rattle.product_reader.proofs.Grown.{map-append-one}
use Rattle.file_changes.specs.ContinuousAsks.{AreWords}
use Rattle.file_changes.proofs.StepStarts.{steps_after}

module _ (month : ℕ) (steps : List StepAmount) (i : ℕ) (d : StepAmount) (inside : i < length steps) where
  records_inside : i < length (steps_of steps)
  records_inside = subst (λ n. i < n) (sym (length-map steps record_of)) inside

  one_step_more : steps_after month (take (i + 1) (steps_of steps))
      ≡ steps_after month (take i (steps_of steps))
      ++ cond (nat_lt month (get_or steps i d).from) (record_of (get_or steps i d) ∷ []) []
  one_step_more = filter_more (λ s. nat_lt month s.from) (steps_of steps) i (record_of d) records_inside
      ∙ ap (λ (s : Step). steps_after month (take i (steps_of steps)) ++ cond (nat_lt month s.from) (s ∷ []) [])
      (get_or-map record_of steps i d (record_of d) inside)

  module _ (first : Step) (later : List StepAmount)
      (so_far : steps_of later ≡ first ∷ steps_after month (take i (steps_of steps))) where
    pub step_is_taken : nat_lt month (get_or steps i d).from ≡ true
        → steps_of (later ++ get_or steps i d ∷ []) ≡ first ∷ steps_after month (take (i + 1) (steps_of steps))
    step_is_taken after = map-append-one record_of later (get_or steps i d)
        ∙ ap (λ ss. ss ++ record_of (get_or steps i d) ∷ []) so_far
        ∙ ap (λ b. first ∷ (steps_after month (take i (steps_of steps))
        ++ cond b (record_of (get_or steps i d) ∷ []) [])) (sym after)
        ∙ ap (λ ss. first ∷ ss) (sym one_step_more)

    pub step_is_passed : nat_lt month (get_or steps i d).from ≡ false
        → steps_of later ≡ first ∷ steps_after month (take (i + 1) (steps_of steps))
    step_is_passed before = so_far
        ∙ ap (λ ss. first ∷ ss) (sym (append-nil (steps_after month (take i (steps_of steps)))))
        ∙ ap (λ b. first ∷ (steps_after month (take i (steps_of steps))
        ++ cond b (record_of (get_or steps i d) ∷ []) [])) (sym before)
        ∙ ap (λ ss. first ∷ ss) (sym one_step_more)

-- the coefficients of steps and of one more are numbers of 64 bits
pub one_more_words : (later : List StepAmount) (s : StepAmount) → All (λ t. AreWords t.c) (steps_of later)
    → AreWords s.c
    → All (λ t. AreWords t.c) (steps_of (later ++ s ∷ []))
one_more_words later s words more = subst (All (λ (t : Step). AreWords t.c)) (sym (map-append-one record_of later s))
    (All-append (λ t. AreWords t.c) (steps_of later) (record_of s ∷ []) words
    (All-one (λ t. AreWords t.c) (record_of s) more))
