-- The lumps of a charged product at a date.
use Rattle.std.proofs.Common.{◌≡◌, ℕ, ◌+◌, ◌*◌, ◌/◌, ◌%◌, ◌<◌, ◌≤◌, ℤ, pos, [], ◌∷◌, length, map}
use Rattle.std.proofs.Common.{cond, arith, refl, ap, sym, ◌∙◌, subst}
use Rattle.std.specs.Prelude.{Bool, true, false, not, filter, ◌==◌, ◌&&◌, ◌-ℤ◌, Option, Some, None, find, option_map}
use Rattle.std.specs.Prelude.{unwrap_or, nat_lt}
use Rattle.std.specs.Option.{option_or}
use Rattle.std.proofs.Math.Nat.{div-lt_iff_lt-mul}
use Rattle.std.proofs.lemmas.Nat.{div-mul-add, mod-mul-add}
use Rattle.std.proofs.lemmas.Bool.{eqb-true, eq-eqb, false≢true}
use Rattle.std.proofs.lemmas.Bool.Decides.{nat_tests}
use Rattle.std.proofs.lemmas.List.Folds.{find-append}
use Rattle.frac_laws.specs.Fraction.{whole, ◌*ℚ◌, ◌-ℚ◌}
use Rattle.frac_laws.proofs.FractionTerms.{ring, terms}
use Rattle.frac_laws.proofs.Quotients.{whole_sub}
use Rattle.whole_laws.specs.Whole.{places}
use Rattle.whole_laws.proofs.Tests.{both_pass, other_is_not}
use Rattle.model_specs.specs.Product.{Product, Lump, PremiumPattern}
use Rattle.model_specs.specs.Payments.{payment_plan, dated_pattern, pattern_dates, lump_at}
use Rattle.payment_plan.specs.Tables.{is_payer, payer_at, pays_at_date}
use Rattle.payment_plan.proofs.PatternDates.{ones_of, dates_tell}
use Rattle.joint_life.proofs.Searches.{find_made, find_passing}
use Rattle.file_changes.specs.Charges.{is_due, has_lump, is_missing, zero_lump, completed_lumps, charged_lump}
use Rattle.file_changes.specs.Charges.{charged_lumps, with_lumps}
use Rattle.charge_laws.proofs.FoundMembers.{found_passes, none_passes, nothing_has}

-- ---- the pattern

abbrev amount_of : Option Lump → ℤ
amount_of o = unwrap_or (option_map (λ l. l.amount) o) (pos 0)

-- an amount that stands beside a state
abbrev beside : Option (ℕ × ℤ) → ℤ
beside o = unwrap_or (option_map (λ (pair : ℕ × ℤ). pair.1) o) (pos 0)

amount_beside : (o : Option Lump) (i : ℕ)
    → amount_of o ≡ beside (option_map (λ (l : Lump). let pair : ℕ × ℤ = (i, l.amount) in pair) o)
amount_beside None i = refl
amount_beside (Some l) i = refl

one_or_none : (a b : Bool) (i : ℕ)
    → beside (cond a (cond b (Some (i, pos 1)) None) None) ≡ cond (a && b) (pos 1) (pos 0)
one_or_none true true i = refl
one_or_none true false i = refl
one_or_none false b i = refl

-- a number that is not 0 fails the test
pub fails_zero : (every : ℕ) → 1 ≤ every → (every == 0) ≡ false
fails_zero every some = other_is_not every 0 (λ none. omega (arith, some, none))

-- the pattern pays 1 where it is due
pattern_pays : (pattern : PremiumPattern) (date i : ℕ) → 1 ≤ pattern.every
    → lump_at (dated_pattern pattern) date i ≡ cond (is_due pattern date i) (pos 1) (pos 0)
pattern_pays pattern date i some =
    amount_beside (find (λ l. (l.month == date) && (l.state == i)) (dated_pattern pattern).lumps) i
    ∙ ap beside (ones_of (pattern_dates pattern) pattern.payers date i)
    ∙ ap (λ b. beside (cond b (payer_at pattern.payers i) None))
    (dates_tell pattern.until pattern.every date some)
    ∙ one_or_none (nat_lt date pattern.until && (date % pattern.every == 0)) (is_payer pattern.payers i) i
    ∙ sym (rw (fails_zero pattern.every some) refl)

-- ---- the charged lumps

-- an amount, less what is charged where that is due
abbrev less_due : ℤ → Bool → ℤ → ℤ
less_due x due amount = cond due (x -ℤ amount) x

module _ (amount : ℤ) (product : Product) (date i : ℕ) (inside : i < length product.states) where
  abbrev s : ℕ
  s = length product.states

  abbrev rule : PremiumPattern
  rule = product.pattern

  abbrev is_there : Lump → Bool
  is_there l = (l.month == date) && (l.state == i)

  abbrev changed : Lump → Lump
  changed = charged_lump amount product.pattern

  -- a lump that is there is charged where the pattern is due at the date
  there_is : (l : Lump) → is_there l ≡ true → (changed l).amount ≡ less_due l.amount (is_due rule date i) amount
  there_is l here =
      let parts = both_pass (l.month == date) (l.state == i) here in
      rw (eqb-true l.month date parts.0, eqb-true l.state i parts.1) refl

  -- a place where a lump is missing, of the date and the state
  abbrev is_place : ℕ → Bool
  is_place k = is_missing s product.lumps rule k && is_there (zero_lump s k)

  -- where no lump is there, one of nothing is, if the pattern is due
  place_is_due : (k : ℕ) → is_place k ≡ true → is_due rule date i ≡ true
  place_is_due k here =
      let parts = both_pass (is_missing s product.lumps rule k) (is_there (zero_lump s k)) here in
      let at = both_pass (k / s == date) (k % s == i) parts.1 in
      let due = both_pass (is_due rule (k / s) (k % s)) (not (has_lump product.lumps (k / s) (k % s))) parts.0 in
      rw (eqb-true (k / s) date at.0, eqb-true (k % s) i at.1) at due.0

  due_below : is_due rule date i ≡ true → date < rule.until
  due_below due =
      let pays = both_pass (pays_at_date rule date) (is_payer rule.payers i) due in
      below (not (rule.every == 0)) (nat_lt date rule.until) (date % rule.every == 0) pays.0 refl
    where
      below : (a b c : Bool) → (a && b && c) ≡ true → nat_lt date rule.until ≡ b → date < rule.until
      below true true c h is = grind (arith, nat_tests)
      below true false c h is = cc
      below false b c h is = cc

  due_has_place : find is_there product.lumps ≡ None → is_due rule date i ≡ true → is_place (date * s + i) ≡ true
  due_has_place none due =
      rw (
        div-mul-add date s i inside,
        mod-mul-add date s i inside,
        due,
        nothing_has is_there product.lumps none,
        eq-eqb date date refl,
        eq-eqb i i refl,
      ) refl

  inside_places : is_due rule date i ≡ true → date * s + i < rule.until * s
  inside_places due =
      let some : 1 ≤ s = omega (arith, inside) in
      (div-lt_iff_lt-mul some).0 (subst (λ d. d < rule.until) (sym (div-mul-add date s i inside)) (due_below due))

  -- what is found among the lumps of nothing
  added : find is_there product.lumps ≡ None
      → amount_of (option_map changed (option_map (zero_lump s) (find is_place (places (rule.until * s)))))
      ≡ less_due (pos 0) (is_due rule date i) amount
  added none = by_find (find is_place (places (rule.until * s))) refl
    where
      not_due : (b : Bool) → is_due rule date i ≡ b → find is_place (places (rule.until * s)) ≡ None
          → pos 0 ≡ less_due (pos 0) b amount
      not_due false is nowhere = refl
      not_due true is nowhere = absurd (false≢true
          (sym (none_passes is_place (rule.until * s) (λ k. k) nowhere (date * s + i) (inside_places is))
          ∙ due_has_place none is))

      by_find : (o : Option ℕ) → find is_place (places (rule.until * s)) ≡ o
          → amount_of (option_map changed (option_map (zero_lump s) o)) ≡ less_due (pos 0) (is_due rule date i) amount
      by_find (Some k) found =
          let here = found_passes is_place (places (rule.until * s)) k found in
          let parts = both_pass (is_missing s product.lumps rule k) (is_there (zero_lump s k)) here in
          there_is (zero_lump s k) parts.1
      by_find None found = not_due (is_due rule date i) refl found

  -- the lump of the charged product
  pub charged_lump_is : lump_at (payment_plan (with_lumps (charged_lumps amount product) product)) date i
      ≡ less_due (lump_at (payment_plan product) date i) (is_due rule date i) amount
  charged_lump_is =
      ap amount_of (find_made is_there changed (completed_lumps s product.lumps rule)
      ∙ ap (option_map changed) (find-append is_there product.lumps
      (map (zero_lump s) (filter (is_missing s product.lumps rule) (places (rule.until * s)))))
      ∙ ap (λ o. option_map changed (option_or (find is_there product.lumps) o))
      (find_made is_there (zero_lump s) (filter (is_missing s product.lumps rule) (places (rule.until * s)))
      ∙ ap (option_map (zero_lump s))
      (find_passing (is_missing s product.lumps rule) (λ k. is_there (zero_lump s k)) (places (rule.until * s)))))
      ∙ by_find (find is_there product.lumps) refl
    where
      by_find : (o : Option Lump) → find is_there product.lumps ≡ o
          → amount_of (option_map changed (option_or o
          (option_map (zero_lump s) (find is_place (places (rule.until * s))))))
          ≡ less_due (amount_of o) (is_due rule date i) amount
      by_find (Some l) found = there_is l (found_passes is_there product.lumps l found)
      by_find None found = added found

-- an amount less what is charged, as a fraction
less_as_fraction : (x amount : ℤ) (due : Bool)
    → whole (less_due x due amount) ≡ whole x -ℚ whole amount *ℚ whole (cond due (pos 1) (pos 0))
less_as_fraction x amount true = whole_sub x amount ∙ ring (whole x ∷ whole amount ∷ []) (hlevel terms) refl
less_as_fraction x amount false = ring (whole x ∷ whole amount ∷ []) (hlevel terms) refl

-- the lump of the charged product, as a fraction
pub charge_comes_off : (amount : ℤ) (product : Product) (date i : ℕ) → 1 ≤ product.pattern.every
    → i < length product.states
    → whole (lump_at (payment_plan (with_lumps (charged_lumps amount product) product)) date i)
    ≡ whole (lump_at (payment_plan product) date i)
    -ℚ whole amount *ℚ whole (lump_at (dated_pattern product.pattern) date i)
charge_comes_off amount product date i some inside =
    ap whole (charged_lump_is amount product date i inside)
    ∙ less_as_fraction (lump_at (payment_plan product) date i) amount (is_due product.pattern date i)
    ∙ ap (λ n. whole (lump_at (payment_plan product) date i) -ℚ whole amount *ℚ whole n)
    (sym (pattern_pays product.pattern date i some))
