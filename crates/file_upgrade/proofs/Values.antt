-- The product that a product's tree gives is that product.
use Rattle.std.proofs.Common.{◌≡◌, ℕ, ◌<◌, ◌≤◌, List, [], ◌∷◌, length, map, get_or, arith, refl, ap, sym, ◌∙◌}
use Rattle.std.specs.Prelude.{codes, false, All, Some, unwrap_or}
use Rattle.std.proofs.lemmas.List.Elements.{All-nil, All-weaker}
use Rattle.toml.specs.Data.{Data, Members}
use Rattle.whole_laws.specs.Whole.{natural_part}
use Rattle.model_specs.specs.Curve.{Piece}
use Rattle.model_specs.specs.Product.{Product, Step, Transition, Sojourn, Lump, PremiumPattern, no_pattern}
use Rattle.model_specs.specs.RecordRules.{IsWellFormed, IsPayment}
use Rattle.product_file.specs.Members.{whole_of, text_of, items_of, members_of}
use Rattle.product_file.specs.HeadRules.{state_names, state_of, is_format_1}
use Rattle.product_file.specs.TransitionRule.{transition_items, state_at, state_index}
use Rattle.product_file.specs.CurveRules.{piece_of, months_of_term}
use Rattle.product_file.specs.PaymentRules.{step_of, sum_items, steps_items, sojourn_items}
use Rattle.product_file.specs.LumpRule.{lump_items, lump_of}
use Rattle.product_file.specs.PatternRules.{pattern_of, premium_of, payer_items, payer_index}
use Rattle.product_file.specs.Reads.{product_of, transition_of, sojourn_of}
use Rattle.file_upgrade.specs.FileTree.{part_data, state_name, state_data, transition_data, sojourn_data, lump_data}
use Rattle.file_upgrade.proofs.Again.{listed_again, texts_again, all_again, six_again, four_again}
use Rattle.file_upgrade.proofs.StateNames.{state_is_found}
use Rattle.file_upgrade.proofs.Trees.{IsTreeOf, HasPremiumOf, NoPremium, Premium, premium_members}

-- a piece as data
abbrev pub piece_data : Piece → Data
piece_data piece = part_data piece.from piece.c

-- a step as data
abbrev pub step_data : Step → Data
step_data step = part_data step.from step.c

-- pieces of six coefficients
pub pieces_again : (pieces : List Piece) → All (λ piece. length piece.c ≡ 6) pieces
    → map piece_of (map piece_data pieces) ≡ pieces
pieces_again pieces six = all_again piece_of piece_data pieces
    (All-weaker (λ (piece : Piece). length piece.c ≡ 6) (λ piece. piece_of (piece_data piece) ≡ piece)
    (λ piece. six_again piece.from piece.c) pieces six)

-- what a tree of format 2 says
module _ (p : Product) (formed : IsWellFormed p) (tree : Members) (t : IsTreeOf p tree) where
  pub not_format_1 : is_format_1 tree ≡ false
  not_format_1 = rw t.format refl

  pub names_are : state_names tree ≡ p.states
  names_are = rw t.states (texts_again p.states)

  pub term_is : months_of_term tree ≡ p.months
  term_is = ap natural_part t.months

  -- a state by its name
  pub name_is_found : (i : ℕ) → i < length p.states → state_of tree (state_name p i) ≡ Some i
  name_is_found i inside = rw names_are (state_is_found p.states i formed.names.distinct inside)

  pub steps_again : (steps : List Step) → All (λ step. length step.c ≡ 4) steps
      → map (step_of tree) (map step_data steps) ≡ steps
  steps_again steps four = all_again (step_of tree) step_data steps
      (All-weaker (λ (step : Step). length step.c ≡ 4) (λ step. step_of tree (step_data step) ≡ step)
      (λ step four. rw not_format_1
      (ap (λ c. record { from = step.from; c = c }) (four_again step.from step.c four))) steps four)

  -- the steps of a transition's sum
  pub sum_items_are : (tr : Transition) → sum_items (transition_data p tr) ≡ map step_data tr.sum
  sum_items_are tr = by-steps tr.sum refl
    where
      by-steps : (steps : List Step) → tr.sum ≡ steps → sum_items (transition_data p tr) ≡ map step_data tr.sum
      by-steps [] is = rw is refl
      by-steps (step ∷ steps) is = rw is (listed_again (map step_data (step ∷ steps)))

  -- the pieces of its rate
  pub rate_items_are : (tr : Transition)
      → items_of (codes "rate") (members_of (transition_data p tr)) ≡ map piece_data tr.rate
  rate_items_are tr = by-steps tr.sum refl
    where
      by-steps : (steps : List Step) → tr.sum ≡ steps
          → items_of (codes "rate") (members_of (transition_data p tr)) ≡ map piece_data tr.rate
      by-steps [] is = rw is (listed_again (map piece_data tr.rate))
      by-steps (step ∷ steps) is = rw is (listed_again (map piece_data tr.rate))

  -- the names of its states
  pub from_is : (tr : Transition) → text_of (codes "from") (members_of (transition_data p tr)) ≡ state_name p tr.from
  from_is tr = by-steps tr.sum refl
    where
      by-steps : (steps : List Step) → tr.sum ≡ steps
          → text_of (codes "from") (members_of (transition_data p tr)) ≡ state_name p tr.from
      by-steps [] is = rw is refl
      by-steps (step ∷ steps) is = rw is refl

  pub to_is : (tr : Transition) → text_of (codes "to") (members_of (transition_data p tr)) ≡ state_name p tr.to
  to_is tr = by-steps tr.sum refl
    where
      by-steps : (steps : List Step) → tr.sum ≡ steps
          → text_of (codes "to") (members_of (transition_data p tr)) ≡ state_name p tr.to
      by-steps [] is = rw is refl
      by-steps (step ∷ steps) is = rw is refl

  pub from_at : (tr : Transition) → tr.from < length p.states
      → state_at tree (codes "from") (transition_data p tr) ≡ Some tr.from
  from_at tr inside = ap (state_of tree) (from_is tr) ∙ name_is_found tr.from inside

  pub to_at : (tr : Transition) → tr.to < length p.states
      → state_at tree (codes "to") (transition_data p tr) ≡ Some tr.to
  to_at tr inside = ap (state_of tree) (to_is tr) ∙ name_is_found tr.to inside

  -- ---- the parts of the product again

  -- the steps of a sum that obeys rule 10
  pub sum_has_four : (steps : List Step) → (1 ≤ length steps → IsPayment p.months steps)
      → All (λ step. length step.c ≡ 4) steps
  sum_has_four [] h = All-nil (λ step. length step.c ≡ 4)
  sum_has_four (step ∷ steps) h = (h (omega arith)).four

  pub transition_again : (tr : Transition) → tr.from < length p.states → tr.to < length p.states
      → All (λ piece. length piece.c ≡ 6) tr.rate → All (λ step. length step.c ≡ 4) tr.sum
      → transition_of tree (transition_data p tr) ≡ tr
  transition_again tr from to six four =
      let make : ℕ → ℕ → List Piece → List Step → Transition =
      λ a b rate sum. record { from = a; to = b; rate = rate; sum = sum } in
      let d = transition_data p tr in
      ap (λ a. make a (state_index tree (codes "to") d) (map piece_of (items_of (codes "rate") (members_of d)))
      (map (step_of tree) (sum_items d))) (ap (λ o. unwrap_or o 0) (from_at tr from))
      ∙ ap (λ b. make tr.from b (map piece_of (items_of (codes "rate") (members_of d)))
      (map (step_of tree) (sum_items d))) (ap (λ o. unwrap_or o 0) (to_at tr to))
      ∙ ap (λ rate. make tr.from tr.to rate (map (step_of tree) (sum_items d)))
      (ap (map piece_of) (rate_items_are tr) ∙ pieces_again tr.rate six)
      ∙ ap (make tr.from tr.to tr.rate) (ap (map (step_of tree)) (sum_items_are tr) ∙ steps_again tr.sum four)

  pub transitions_again : map (transition_of tree) (transition_items tree) ≡ p.transitions
  transitions_again = rw t.transitions (all_again (transition_of tree) (transition_data p) p.transitions
      (λ k d below. transition_again (get_or p.transitions k d) (formed.transitions.from k d below)
      (formed.transitions.to k d below) (formed.curves.rates k d below).six
      (sum_has_four (get_or p.transitions k d).sum (formed.payments.sums k d below))))

  pub sojourn_at : (s : Sojourn) → s.state < length p.states
      → state_at tree (codes "state") (sojourn_data p s) ≡ Some s.state
  sojourn_at s inside = name_is_found s.state inside

  pub steps_items_are : (s : Sojourn) → steps_items (sojourn_data p s) ≡ map step_data s.steps
  steps_items_are s = listed_again (map step_data s.steps)

  sojourn_again : (s : Sojourn) → s.state < length p.states → All (λ step. length step.c ≡ 4) s.steps
      → sojourn_of tree (sojourn_data p s) ≡ s
  sojourn_again s inside four =
      let make : ℕ → List Step → Sojourn = λ state steps. record { state = state; steps = steps } in
      let d = sojourn_data p s in
      ap (λ state. make state (map (step_of tree) (steps_items d))) (ap (λ o. unwrap_or o 0) (sojourn_at s inside))
      ∙ ap (make s.state) (ap (map (step_of tree)) (steps_items_are s) ∙ steps_again s.steps four)

  sojourns_again : map (sojourn_of tree) (sojourn_items tree) ≡ p.sojourns
  sojourns_again = rw t.sojourns (all_again (sojourn_of tree) (sojourn_data p) p.sojourns
      (λ k d below. sojourn_again (get_or p.sojourns k d) (formed.payments.states k d below)
      (formed.payments.sojourns k d below).four))

  pub lump_at : (l : Lump) → l.state < length p.states → state_at tree (codes "state") (lump_data p l) ≡ Some l.state
  lump_at l inside = name_is_found l.state inside

  pub lump_again : (l : Lump) → l.state < length p.states → lump_of tree (lump_data p l) ≡ l
  lump_again l inside =
      ap (λ state. record { month = l.month; state = state; amount = l.amount })
      (ap (λ o. unwrap_or o 0) (lump_at l inside))

  lumps_again : map (lump_of tree) (lump_items tree) ≡ p.lumps
  lumps_again = rw t.lumps (all_again (lump_of tree) (lump_data p) p.lumps
      (λ k d below. lump_again (get_or p.lumps k d) (formed.lumps.states k d below)))

  -- ---- the premium

  pub payer_again : (i : ℕ) → i < length p.states → payer_index tree (state_data p i) ≡ i
  payer_again i inside = ap (λ o. unwrap_or o 0) (name_is_found i inside)

  pub payer_items_are : premium_of tree ≡ premium_members p → payer_items tree ≡ map (state_data p) p.pattern.payers
  payer_items_are is = rw is (listed_again (map (state_data p) p.pattern.payers))

  payers_again : premium_of tree ≡ premium_members p → map (payer_index tree) (payer_items tree) ≡ p.pattern.payers
  payers_again is = rw (payer_items_are is) (all_again (payer_index tree) (state_data p) p.pattern.payers
      (λ k d below. payer_again (get_or p.pattern.payers k d) (formed.pattern.payers k d below)))

  abbrev make_pattern : List ℕ → ℕ → ℕ → PremiumPattern
  make_pattern payers until every = record { payers = payers; until = until; every = every }

  never_pays : p.pattern.payers ≡ [] → no_pattern ≡ p.pattern
  never_pays none =
      ap (λ payers. make_pattern payers 0 0) (sym none)
      ∙ ap (λ until. make_pattern p.pattern.payers until 0) (sym (formed.pattern.never_until none))
      ∙ ap (make_pattern p.pattern.payers p.pattern.until) (sym (formed.pattern.never_every none))

  pattern_again : HasPremiumOf p tree → pattern_of tree ≡ p.pattern
  pattern_again (NoPremium none absent) = rw absent (never_pays none)
  pattern_again (Premium payer payers is there table) =
      let t = premium_of tree in
      rw there (
      ap (λ ps. make_pattern ps (natural_part (whole_of (codes "until") t)) (natural_part (whole_of (codes "every") t)))
      (payers_again table)
      ∙ ap (λ u. make_pattern p.pattern.payers (natural_part (whole_of (codes "until") u))
      (natural_part (whole_of (codes "every") u))) table)

  -- ---- the product

  start_again : unwrap_or (state_of tree (text_of (codes "start") tree)) 0 ≡ p.start
  start_again = rw t.start (ap (λ o. unwrap_or o 0) (name_is_found p.start formed.head.start))

  abbrev make_product : List ℕ → List (List ℕ) → ℕ → ℕ → ℕ → List Piece → List Transition → List Sojourn → List Lump
      → PremiumPattern → Product
  make_product name states start months den interest transitions sojourns lumps pattern = record {
    name = name;
    states = states;
    start = start;
    months = months;
    den = den;
    interest = interest;
    transitions = transitions;
    sojourns = sojourns;
    lumps = lumps;
    pattern = pattern;
  }

  interest_again : map piece_of (items_of (codes "interest") tree) ≡ p.interest
  interest_again = rw t.interest (pieces_again p.interest formed.curves.interest.six)

  pub product_again : product_of tree ≡ p
  product_again =
      let q = product_of tree in
      ap (λ x. make_product x q.states q.start q.months q.den q.interest q.transitions q.sojourns q.lumps q.pattern)
      t.name
      ∙ ap (λ x. make_product p.name x q.start q.months q.den q.interest q.transitions q.sojourns q.lumps q.pattern)
      names_are
      ∙ ap (λ x. make_product p.name p.states x q.months q.den q.interest q.transitions q.sojourns q.lumps q.pattern)
      start_again
      ∙ ap (λ x. make_product p.name p.states p.start x q.den q.interest q.transitions q.sojourns q.lumps q.pattern)
      term_is
      ∙ ap (λ x. make_product p.name p.states p.start p.months x q.interest q.transitions q.sojourns q.lumps q.pattern)
      (ap natural_part t.den)
      ∙ ap (λ x. make_product p.name p.states p.start p.months p.den x q.transitions q.sojourns q.lumps q.pattern)
      interest_again
      ∙ ap (λ x. make_product p.name p.states p.start p.months p.den p.interest x q.sojourns q.lumps q.pattern)
      transitions_again
      ∙ ap (λ x. make_product p.name p.states p.start p.months p.den p.interest p.transitions x q.lumps q.pattern)
      sojourns_again
      ∙ ap (λ x. make_product p.name p.states p.start p.months p.den p.interest p.transitions p.sojourns x q.pattern)
      lumps_again
      ∙ ap (λ x. make_product p.name p.states p.start p.months p.den p.interest p.transitions p.sojourns p.lumps x)
      (pattern_again t.premium)
