-- The sojourn payments of a charged product in a cell: its own, less the amount where the pattern pays.
use Rattle.std.specs.Prelude.{◌≡◌, ℕ, zero, suc, ◌<◌, ◌≤◌, ℤ, List, [], ◌∷◌, length, refl, cond, true, false, Bool}
use Rattle.std.specs.Prelude.{◌==◌, ◌&&◌, not, nat_lt, nat_le, slice_index, IsTrue}
use Rattle.std.specs.Prelude.{Option, Some, None, find, option_map, unwrap_or}
use Rattle.std.specs.Option.{option_or}
use Rattle.std.proofs.Common.{ap, ◌∙◌, subst, arith, inl, inr, rules}
use Rattle.std.proofs.lemmas.Bool.{cases_lt, eqb-true, leb-true, le-leb, lt-ltb, le-ltb}
use Rattle.frac_laws.specs.Fraction.{Fraction, whole, ◌*ℚ◌, ◌-ℚ◌}
use Rattle.frac_laws.specs.Lists.{number_at}
use Rattle.frac_laws.proofs.FractionTerms.{ring, terms}
use Rattle.whole_laws.proofs.Found.{IsGivenWith, given-has, last-has}
use Rattle.whole_laws.proofs.Members.{All-one}
use Rattle.model_specs.specs.Product.{Product, Step, Sojourn}
use Rattle.model_specs.specs.Payments.{payment_plan, sojourn_at, step_at}
use Rattle.model_specs.specs.Cells.{Grid}
use Rattle.model_specs.specs.RecordRules.{IsPayment, IsWellFormed}
use Rattle.payment_plan.specs.Tables.{is_payer}
use Rattle.payment_plan.proofs.Patterns.{unit_amount}
use Rattle.file_changes.specs.ContinuousAsks.{GoesOnWhole, PayersGoOnWhole}
use Rattle.file_changes.specs.ContinuousCharges.{charged_sojourn, charged_sojourns, charged_steps, has_sojourn}
use Rattle.file_changes.specs.ContinuousCharges.{zero_sojourn}
use Rattle.file_changes.specs.Charges.{with_sojourns}
use Rattle.charge_laws.proofs.ChargedSteps.{nothing, less_before, as_it_was}
use Rattle.charge_laws.proofs.ContinuedSteps.{paid_number, less_step_pays, continued_step_pays, one_step_is}
use Rattle.charge_laws.proofs.ContinuedSteps.{nothing_goes_on}
use Rattle.charge_laws.proofs.FoundMembers.{found_passes, nothing_has, last_passes}
use Rattle.charge_laws.proofs.FoundSojourns.{of_state, charged_is_found, missing_payer}

-- a number less the amount where something is paid
abbrev pub less_where : (amount : ℤ) → (paid : Bool) → (power : ℕ) → Fraction → Fraction
less_where amount paid power x = x -ℚ whole amount *ℚ number_at (whole (unit_amount paid) ∷ []) power

pub less_nowhere : (amount : ℤ) (power : ℕ) (x : Fraction) → x ≡ less_where amount false power x
less_nowhere amount zero x = ring (x ∷ whole amount ∷ []) (hlevel terms) refl
less_nowhere amount (suc power) x = ring (x ∷ whole amount ∷ []) (hlevel terms) refl

module _ (grid : Grid) (month cell power : ℕ) (amount : ℤ) (months until : ℕ) (some : 1 ≤ grid.cells)
    (within : month < months) where
  abbrev read : Step → Fraction
  read = paid_number grid month cell power

  -- of the steps of a payer
  pub charged_steps_pay : (steps : List Step) → IsPayment months steps → (until < months → GoesOnWhole until steps)
      → read (step_at (charged_steps amount months until steps) month)
      ≡ less_where amount (nat_lt month until) power (read (step_at steps month))
  charged_steps_pay steps payment goes_on = elim (cases_lt month until) [
    | inl before ↦ rw (lt-ltb month until before)
        (ap read (less_before amount months until month steps before payment.starts)
        ∙ less_step_pays grid month cell power amount (step_at steps month)
        (omega (arith, held)))
    | inr after ↦ rw (le-ltb month until after)
        (as_it_was amount months until month steps read after within payment.starts
        (continued_step_pays grid month cell power until (step_at steps until) some
        (leb-true (step_at steps until).from until
        (last_passes (λ s. nat_le s.from until) steps nothing (le-leb 0 until (omega arith))))
        after (goes_on (omega (arith, after, within))))
        ∙ less_nowhere amount power (read (step_at steps month)))
  ]
    where
      held : length (step_at steps month).c ≡ 4
      held = last-has (λ s. length s.c ≡ 4) (λ s. nat_le s.from month) steps nothing refl payment.four

  -- of a payer that has no sojourn payment of its own
  pub zero_steps_pay : read (step_at (charged_steps amount months until (nothing ∷ [])) month)
      ≡ less_where amount (nat_lt month until) power (read (step_at [] month))
  zero_steps_pay = charged_steps_pay (nothing ∷ []) one_step (λ ends. nothing_goes_on until)
      ∙ ap (λ step. less_where amount (nat_lt month until) power (read step)) (one_step_is month)
    where
      one_step : IsPayment months (nothing ∷ [])
      one_step = record {
        four = All-one (λ step. length step.c ≡ 4) nothing refl;
        starts = record {
          some = omega arith;
          first = refl;
          rising = λ k inside. absurd (omega (arith, inside));
          below = below;
        };
      }
        where
          below : (k : ℕ) → k < 1 → slice_index (0 ∷ []) k < months
          below zero inside = omega (arith, within)
          below (suc k) inside = absurd (omega (arith, inside))

module _ (grid : Grid) (month cell power : ℕ) (amount : ℤ) (product : Product) (formed : IsWellFormed product)
    (some : 1 ≤ grid.cells) (within : month < product.months) (i : ℕ) where
  abbrev paid : Step → Fraction
  paid = paid_number grid month cell power

  -- whether the pattern pays in the state and the month, if it is continuous
  abbrev pays : Bool
  pays = nat_lt month product.pattern.until && is_payer product.pattern.payers i

  abbrev charge : Sojourn → Sojourn
  charge = charged_sojourn amount product.months product.pattern

  -- the number of what is found
  abbrev of_found : Option Sojourn → Fraction
  of_found o = paid (step_at (unwrap_or (option_map (λ s. s.steps) o) []) month)

  abbrev Says : Bool → Option Sojourn → Option Sojourn → Type 0
  Says payer own left =
      of_found left ≡ less_where amount (nat_lt month product.pattern.until && payer) power (of_found own)

  and_true : (b : Bool) → b ≡ (b && true)
  and_true true = refl
  and_true false = refl

  and_false : (b : Bool) → false ≡ (b && false)
  and_false true = refl
  and_false false = refl

  not_payer : (own : Option Sojourn) → Says false own own
  not_payer own = less_nowhere amount power (of_found own)
      ∙ ap (λ b. less_where amount b power (of_found own)) (and_false (nat_lt month product.pattern.until))

  -- the steps of a payer go on in whole numbers where the premium ends before the term
  abbrev GoesOn : (payer : Bool) → Sojourn → Type 0
  GoesOn payer s = IsTrue payer → product.pattern.until < product.months → GoesOnWhole product.pattern.until s.steps

  abbrev Goes : Sojourn → Type 0
  Goes s = GoesOn (is_payer product.pattern.payers s.state) s

  -- a state's own sojourn payment
  own_pays : (s : Sojourn) → IsPayment product.months s.steps → Goes s
      → Says (is_payer product.pattern.payers s.state) (Some s) (Some (charge s))
  own_pays s payment goes_on = by_payer (is_payer product.pattern.payers s.state) goes_on
    where
      by_payer : (b : Bool) → GoesOn b s
          → paid (step_at (cond b (charged_steps amount product.months product.pattern.until s.steps) s.steps) month)
          ≡ less_where amount (nat_lt month product.pattern.until && b) power (paid (step_at s.steps month))
      by_payer true goes_on =
          charged_steps_pay grid month cell power amount product.months product.pattern.until some within s.steps
          payment (goes_on (search rules))
          ∙ ap (λ b. less_where amount b power (paid (step_at s.steps month)))
          (and_true (nat_lt month product.pattern.until))
      by_payer false goes_on = not_payer (Some s)

  -- that of nothing of a payer
  zero_pays : (b : Bool) → is_payer product.pattern.payers i ≡ b
      → Says b None (option_map charge (option_map zero_sojourn (cond b (Some i) None)))
  zero_pays true is = rw is
      (zero_steps_pay grid month cell power amount product.months product.pattern.until some within
      ∙ ap (λ b. less_where amount b power (paid (step_at [] month))) (and_true (nat_lt month product.pattern.until)))
  zero_pays false is = not_payer None

  pub continuous_charge : PayersGoOnWhole product
      → paid (sojourn_at (payment_plan (with_sojourns (charged_sojourns amount product) product)) i month)
      ≡ less_where amount pays power (paid (sojourn_at (payment_plan product) i month))
  continuous_charge goes_on =
      ap of_found (charged_is_found amount product i) ∙ by_found (find (of_state i) product.sojourns) refl
      (given-has (IsPayment product.months) (λ s. s.steps) (of_state i) product.sojourns formed.payments.sojourns)
      (given-has Goes (λ s. s) (of_state i) product.sojourns
      (λ k d inside payer ends. goes_on ends k d inside payer))
    where
      by_found : (o : Option Sojourn) → find (of_state i) product.sojourns ≡ o
          → IsGivenWith (IsPayment product.months) (option_map (λ s. s.steps) o)
          → IsGivenWith Goes (option_map (λ s. s) o)
          → of_found (option_map charge (option_or o (option_map zero_sojourn
          (find (λ payer. not (has_sojourn product.sojourns payer) && (payer == i)) product.pattern.payers))))
          ≡ less_where amount pays power (of_found o)
      by_found (Some s) found payment goes =
          subst (λ k. Says (is_payer product.pattern.payers k) (Some s) (Some (charge s)))
          (eqb-true s.state i (found_passes (of_state i) product.sojourns s found)) (own_pays s payment goes)
      by_found None found payment goes =
          ap (λ o. of_found (option_map charge (option_map zero_sojourn o)))
          (missing_payer product.sojourns i (nothing_has (of_state i) product.sojourns found) product.pattern.payers)
          ∙ zero_pays (is_payer product.pattern.payers i) refl
