-- Rules 10 and 11 hold of a product's tree.
use Rattle.std.proofs.Common.{◌≡◌, ℕ, ◌*◌, ◌<◌, ◌≤◌, List, [], ◌∷◌, length, map, take, get_or}
use Rattle.std.proofs.Common.{arith, refl, ap, sym, ◌∙◌, subst}
use Rattle.std.specs.Prelude.{pos, true, false, ◌==◌, None, All, is_some, unwrap_or, codes, nat_le}
use Rattle.std.specs.Prelude.{unsigned_abs, if◌then◌else◌}
use Rattle.std.specs.List.{list_any}
use Rattle.std.proofs.lemmas.Bool.{and_from, le-leb, ne_eqb, not_from_false}
use Rattle.std.proofs.lemmas.List.{get_or-map, length-map}
use Rattle.std.proofs.lemmas.List.Elements.{All-get_or, All-map}
use Rattle.toml.specs.Data.{Members, boolean}
use Rattle.named_numbers.specs.Numbers.{most_amount, bernstein_unit}
use Rattle.model_specs.specs.MonthNumbers.{bernstein_numerators}
use Rattle.model_specs.specs.Payments.{constant_step}
use Rattle.model_specs.specs.Product.{Product, Step, Transition, Sojourn}
use Rattle.model_specs.specs.RecordRules.{IsWellFormed, IsPayment, IsBoundedStep, IsBoundedPayment}
use Rattle.whole_laws.specs.Whole.{list_of}
use Rattle.product_file.specs.Checks.{first_failed, first_failed_of_lists}
use Rattle.product_file.specs.Members.{item_at, is_absent, members_of}
use Rattle.product_file.specs.CurveRules.{start_of}
use Rattle.product_file.specs.TransitionRule.{transition_items, state_index}
use Rattle.product_file.specs.PaymentRules.{steps_rule_10, sum_rule_10, sojourn_rule_10, rule_10, sum_items}
use Rattle.product_file.specs.PaymentRules.{steps_items, sojourn_items, is_good_sojourn}
use Rattle.product_file.specs.PaymentRules.{steps_rule_11, rule_11, is_bounded_step, are_small}
use Rattle.workload_gen.proofs.Passing.{places_pass, some_places_pass, each_place_passes}
use Rattle.file_upgrade.specs.FileTree.{transition_data, sojourn_data}
use Rattle.file_upgrade.proofs.Again.{four_make_a_step}
use Rattle.file_upgrade.proofs.Checks.{lists_pass, all_lists_pass, listed_pass, all_pass, no_earlier}
use Rattle.file_upgrade.proofs.CurveRules.{in_order, bounded_pass}
use Rattle.file_upgrade.proofs.Trees.{IsTreeOf}
use Rattle.file_upgrade.proofs.Values.{step_data, not_format_1, term_is, steps_again, sum_items_are, sum_has_four}
use Rattle.file_upgrade.proofs.Values.{sojourn_at, steps_items_are}

-- stands for a step and a sojourn that there are not
abbrev no_step : Step
no_step = constant_step 0 (pos 0)

abbrev no_sojourn : Sojourn
no_sojourn = record { state = 0; steps = [] }

-- a bounded step passes the test
bounded_step_passes : (step : Step) (s : ℕ) → IsBoundedStep step.c s → is_bounded_step step s ≡ true
bounded_step_passes step s h =
    and_from _ _ (bounded_pass step.c s h.coefficients)
    (each_place_passes (λ k. are_small (bernstein_numerators step.c k)) s (λ k. k)
    (λ k below. all_pass (λ b. nat_le (unsigned_abs b) (most_amount * bernstein_unit)) (bernstein_numerators step.c k)
    (λ i d inside. le-leb _ _ (h.amounts k below i d inside))))

module _ (p : Product) (formed : IsWellFormed p) (tree : Members) (t : IsTreeOf p tree) where
  steps_pass : (steps : List Step) → IsPayment p.months steps
      → first_failed (steps_rule_10 tree (map step_data steps)) ≡ None
  steps_pass steps payment =
      let items = map step_data steps in
      let starts = map (λ (step : Step). step.from) steps in
      let count : length items ≡ length steps = length-map steps step_data in
      let as_many : length starts ≡ length steps = length-map steps (λ step. step.from) in
      let at : (i : ℕ) → i < length steps → item_at items i ≡ step_data (get_or steps i no_step) =
      λ i below. get_or-map step_data steps i no_step (boolean false) below in
      let start_at : (i : ℕ) → i < length starts → start_of (item_at items i) ≡ pos (get_or starts i 0) =
      λ i below. let inside : i < length steps = subst (λ n. i < n) as_many below in
      ap start_of (at i inside) ∙ ap pos (sym (get_or-map (λ (step : Step). step.from) steps i no_step 0 inside))
      in
      rw (not_format_1 p formed tree t, t.months)
      (some_places_pass (length items) _
      (subst (λ n. 0 < n) (sym count) (subst (λ n. 0 < n) as_many payment.starts.some))
      (λ i below. let inside : i < length steps = subst (λ n. i < n) count below in
      and_from _ _ (rw (at i inside) (four_make_a_step (get_or steps i no_step).from (get_or steps i no_step).c
      (All-get_or (λ (step : Step). length step.c ≡ 4) steps i no_step inside payment.four)))
      (in_order p.months items starts payment.starts start_at i (subst (λ n. i < n) (sym as_many) inside))))

  bounds_pass : (steps : List Step) → All (λ (step : Step). length step.c ≡ 4) steps → IsBoundedPayment p.months steps
      → first_failed (steps_rule_11 tree (map step_data steps)) ≡ None
  bounds_pass steps four bounded =
      rw (steps_again p formed tree t steps four, term_is p formed tree t)
      (places_pass (length steps) _ (λ i below. bounded_step_passes (get_or steps i no_step) _ (bounded i below)))

  -- ---- sums

  sum_passes : (tr : Transition) → (1 ≤ length tr.sum → IsPayment p.months tr.sum)
      → first_failed (sum_rule_10 tree (transition_data p tr)) ≡ None
  sum_passes tr h = by-steps tr.sum refl
    where
      by-steps : (steps : List Step) → tr.sum ≡ steps → first_failed (sum_rule_10 tree (transition_data p tr)) ≡ None
      by-steps [] is = subst (λ absent. first_failed (if absent then [] else steps_rule_10 tree (sum_items
          (transition_data p tr))) ≡ None) (sym (absent is)) refl
        where
          absent : tr.sum ≡ [] → is_absent (codes "sum") (members_of (transition_data p tr)) ≡ true
          absent is = rw is refl
      by-steps (step ∷ steps) is = subst (λ absent. first_failed (if absent then [] else steps_rule_10 tree (sum_items
          (transition_data p tr))) ≡ None) (sym there)
          (subst (λ items. first_failed (steps_rule_10 tree items) ≡ None)
          (sym (sum_items_are p formed tree t tr)) (steps_pass tr.sum (h some)))
        where
          there : is_absent (codes "sum") (members_of (transition_data p tr)) ≡ false
          there = rw is refl

          some : 1 ≤ length tr.sum
          some = rw is (omega arith)

  each_sum : All (λ d. first_failed (sum_rule_10 tree d) ≡ None) (transition_items tree)
  each_sum = subst (All (λ d. first_failed (sum_rule_10 tree d) ≡ None)) (sym t.transitions)
      (All-map (λ d. first_failed (sum_rule_10 tree d) ≡ None) (transition_data p) p.transitions
      (λ k d below. sum_passes (get_or p.transitions k d) (formed.payments.sums k d below)))

  each_sum_bounded : All (λ d. first_failed (steps_rule_11 tree (sum_items d)) ≡ None) (transition_items tree)
  each_sum_bounded = subst (All (λ d. first_failed (steps_rule_11 tree (sum_items d)) ≡ None)) (sym t.transitions)
      (All-map (λ d. first_failed (steps_rule_11 tree (sum_items d)) ≡ None) (transition_data p) p.transitions
      (λ k d below. subst (λ items. first_failed (steps_rule_11 tree items) ≡ None)
      (sym (sum_items_are p formed tree t (get_or p.transitions k d)))
      (bounds_pass (get_or p.transitions k d).sum
      (sum_has_four p formed tree t (get_or p.transitions k d).sum (formed.payments.sums k d below))
      (formed.payments.bounded_sums k d below))))

  -- ---- sojourns

  abbrev sojourn_of_place : ℕ → Sojourn
  sojourn_of_place k = get_or p.sojourns k no_sojourn

  state_is : (k : ℕ) → k < length p.sojourns
      → state_index tree (codes "state") (sojourn_data p (sojourn_of_place k)) ≡ (sojourn_of_place k).state
  state_is k inside = ap (λ o. unwrap_or o 0) (sojourn_at p formed tree t (sojourn_of_place k)
      (formed.payments.states k no_sojourn inside))

  item_is : (k : ℕ) → k < length p.sojourns
      → item_at (sojourn_items tree) k ≡ sojourn_data p (sojourn_of_place k)
  item_is k inside = ap (λ items. item_at items k) t.sojourns
      ∙ get_or-map (sojourn_data p) p.sojourns k no_sojourn (boolean false) inside

  no_earlier_sojourn : (k : ℕ) → k < length p.sojourns
      → list_any (λ e. state_index tree (codes "state") e
      == state_index tree (codes "state") (sojourn_data p (sojourn_of_place k)))
      (take k (map (sojourn_data p) p.sojourns)) ≡ false
  no_earlier_sojourn k inside =
      no_earlier {A = Sojourn} {B = ℕ} 0 (λ s. s.state) (sojourn_data p)
      (λ e. state_index tree (codes "state") e
      == state_index tree (codes "state") (sojourn_data p (sojourn_of_place k))) p.sojourns no_sojourn k
      formed.payments.distinct inside
      (λ i below differ.
      ap (λ state. state == state_index tree (codes "state") (sojourn_data p (sojourn_of_place k))) (state_is i below)
      ∙ ap (λ state. (sojourn_of_place i).state == state) (state_is k inside)
      ∙ ne_eqb (sojourn_of_place i).state (sojourn_of_place k).state differ)

  sojourn_is_good : (k : ℕ) → k < length p.sojourns → is_good_sojourn tree k ≡ true
  sojourn_is_good k inside =
      rw (item_is k inside, t.sojourns) (and_from _ _ (and_from _ _ refl
      (ap is_some (sojourn_at p formed tree t (sojourn_of_place k) (formed.payments.states k no_sojourn inside))))
      (not_from_false _ (no_earlier_sojourn k inside)))

  sojourn_passes : (k : ℕ) → k < length p.sojourns → first_failed (sojourn_rule_10 tree k) ≡ None
  sojourn_passes k inside =
      rw (sojourn_is_good k inside)
      (subst (λ items. first_failed (steps_rule_10 tree items) ≡ None)
      (sym (ap steps_items (item_is k inside) ∙ steps_items_are p formed tree t (sojourn_of_place k)))
      (steps_pass (sojourn_of_place k).steps (formed.payments.sojourns k no_sojourn inside)))

  each_sojourn_bounded : All (λ d. first_failed (steps_rule_11 tree (steps_items d)) ≡ None) (sojourn_items tree)
  each_sojourn_bounded = subst (All (λ d. first_failed (steps_rule_11 tree (steps_items d)) ≡ None)) (sym t.sojourns)
      (All-map (λ d. first_failed (steps_rule_11 tree (steps_items d)) ≡ None) (sojourn_data p) p.sojourns
      (λ k d below. subst (λ items. first_failed (steps_rule_11 tree items) ≡ None)
      (sym (steps_items_are p formed tree t (get_or p.sojourns k d)))
      (bounds_pass (get_or p.sojourns k d).steps (formed.payments.sojourns k d below).four
      (formed.payments.bounded_sojourns k d below))))

  -- ---- the rules

  pub payments_pass : first_failed_of_lists (rule_10 tree) ≡ None
  payments_pass =
      let count : length (sojourn_items tree) ≡ length p.sojourns =
      ap length t.sojourns ∙ length-map p.sojourns (sojourn_data p) in
      lists_pass (sum_rule_10 tree) 0 (transition_items tree)
      (list_of (length (sojourn_items tree)) (sojourn_rule_10 tree)) each_sum
      (λ j. listed_pass (length (sojourn_items tree)) j (sojourn_rule_10 tree)
      (λ k below. sojourn_passes k (subst (λ n. k < n) count below)))

  pub amounts_pass : first_failed_of_lists (rule_11 tree) ≡ None
  amounts_pass =
      lists_pass (λ d. steps_rule_11 tree (sum_items d)) 0 (transition_items tree)
      (map (λ d. steps_rule_11 tree (steps_items d)) (sojourn_items tree)) each_sum_bounded
      (λ j. all_lists_pass (λ d. steps_rule_11 tree (steps_items d)) j (sojourn_items tree) each_sojourn_bounded)
