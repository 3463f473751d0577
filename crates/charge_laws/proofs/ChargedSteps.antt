-- The step that holds in a month, among steps that are charged up to a month.
use Rattle.std.proofs.Common.{◌≡◌, ℕ, suc, ◌<◌, ◌≤◌, ℤ, pos, List, [], ◌∷◌, ◌++◌, length, get_or, map, cond}
use Rattle.std.proofs.Common.{arith, refl, ap, sym, ◌∙◌, append-nil}
use mathlib.Core.Path.{ap₂}
use Rattle.std.specs.Prelude.{Bool, true, false, filter, nat_le, nat_lt}
use Rattle.std.proofs.lemmas.Bool.{leb-true, leb-false, ltb-true, le-leb, lt-leb, lt-ltb, le-ltb}
use Rattle.std.proofs.lemmas.List.Elements.{filter-append}
use Rattle.whole_laws.specs.Whole.{last_or}
use Rattle.model_specs.specs.Product.{Step}
use Rattle.model_specs.specs.Payments.{constant_step, step_at}
use Rattle.model_specs.specs.RecordRules.{StartsRise, step_starts}
use Rattle.file_changes.specs.ContinuousCharges.{charged_steps, continued_step, less_step, steps_from}
use Rattle.charge_laws.proofs.FoundMembers.{filter_changed, filter_narrower, filter_apart}
use Rattle.charge_laws.proofs.FoundMembers.{last-append, last-map, last_read}

-- tests of starts
starts_below : (from month until : ℕ) → month < until → nat_le from month ≡ true → nat_lt from until ≡ true
starts_below from month until before started = lt-ltb from until (omega (arith, leb-true from month started, before))

starts_late : (from month until : ℕ) → month < until → nat_lt until from ≡ true → nat_le from month ≡ false
starts_late from month until before later = lt-leb from month (omega (arith, ltb-true until from later, before))

-- the step that pays nothing
abbrev pub nothing : Step
nothing = constant_step 0 (pos 0)

abbrev started : (month : ℕ) → Step → Bool
started month s = nat_le s.from month

-- starts that rise
abbrev DoRise : List ℕ → Type 0
DoRise starts = (k : ℕ) → suc k < length starts → get_or starts k 0 < get_or starts (suc k) 0

-- where the first step starts later, the others do too
none_started : (s : Step) (steps : List Step) (month : ℕ) → month < s.from → DoRise (step_starts (s ∷ steps))
    → filter (started month) steps ≡ []
none_started s [] month after rise = refl
none_started s (t ∷ steps) month after rise =
    let next : s.from < t.from = rise 0 (omega arith) in
    rw (lt-leb t.from month (omega (arith, next, after)))
    (none_started t steps month (omega (arith, next, after)) (λ k below. rise (suc k) (omega (arith, below))))

-- the last one that has started by a month is the last that had by an earlier one, or one that starts in between
abbrev ComesInTwoParts : (steps : List Step) → (early month : ℕ) → (none : Step) → Type 0
ComesInTwoParts steps early month none = last_or none (filter (started month) steps)
    ≡ last_or (last_or none (filter (started early) steps))
    (filter (started month) (filter (λ s. nat_lt early s.from) steps))

pub last_in_two_parts : (steps : List Step) (none : Step) (early month : ℕ) → early ≤ month → DoRise (step_starts steps)
    → ComesInTwoParts steps early month none
last_in_two_parts [] none early month order rise = refl
last_in_two_parts (s ∷ steps) none early month order rise =
    by_start (nat_le s.from early) refl
    (λ other. last_in_two_parts steps other early month order (λ k below. rise (suc k) (omega (arith, below))))
  where
    -- a step that starts in between
    between : (b : Bool) → nat_le s.from month ≡ b → filter (started early) steps ≡ []
        → ComesInTwoParts steps early month s → ComesInTwoParts steps early month none
        → last_or none (cond b (s ∷ filter (started month) steps) (filter (started month) steps))
        ≡ last_or (last_or none (filter (started early) steps))
        (cond b (s ∷ filter (started month) (filter (λ s. nat_lt early s.from) steps))
        (filter (started month) (filter (λ s. nat_lt early s.from) steps)))
    between true is bare with without =
        with ∙ ap (λ xs. last_or (last_or s xs) (filter (started month) (filter (λ s. nat_lt early s.from) steps))) bare
    between false is bare with without = without

    by_start : (b : Bool) → nat_le s.from early ≡ b → ((other : Step) → ComesInTwoParts steps early month other)
        → last_or none (filter (started month) (s ∷ steps))
        ≡ last_or (last_or none (cond b (s ∷ filter (started early) steps) (filter (started early) steps)))
        (filter (started month) (filter (λ s. nat_lt early s.from) (s ∷ steps)))
    by_start true is rest =
        let started : s.from ≤ early = leb-true s.from early is in
        rw (le-leb s.from month (omega (arith, started, order)), le-ltb early s.from started) (rest s)
    by_start false is rest =
        let starts : early < s.from = leb-false s.from early is in
        rw (lt-ltb early s.from starts)
        (between (nat_le s.from month) refl (none_started s steps early starts rise) (rest s) (rest none))

module _ (amount : ℤ) (months until month : ℕ) (steps : List Step) where
  abbrev early : List Step
  early = map (less_step amount) (filter (λ s. nat_lt s.from until) steps)

  abbrev later : List Step
  later = filter (λ s. nat_lt until s.from) steps

  -- before the month until: the step that held, less the amount
  pub less_before : month < until → StartsRise months (step_starts steps)
      → step_at (charged_steps amount months until steps) month ≡ less_step amount (step_at steps month)
  less_before before rise =
      ap (last_or nothing) (filter-append (started month) early (cond (nat_lt until months) (steps_from until steps) [])
      ∙ ap₂ (λ xs ys. xs ++ ys)
      (filter_changed (started month) (less_step amount) (filter (λ s. nat_lt s.from until) steps)
      ∙ ap (map (less_step amount)) (filter_narrower (started month) (λ s. nat_lt s.from until)
      (λ s is. starts_below s.from month until before is) steps)) (no_later (nat_lt until months))
      ∙ append-nil (map (less_step amount) (filter (started month) steps)))
      ∙ some steps rise
    where
      no_later : (b : Bool) → filter (started month) (cond b (steps_from until steps) []) ≡ []
      no_later true = rw (lt-leb until month before)
          (filter_apart (started month) (λ s. nat_lt until s.from)
          (λ s is. starts_late s.from month until before is) steps)
      no_later false = refl

      some : (steps : List Step) → StartsRise months (step_starts steps)
          → last_or nothing (map (less_step amount) (filter (started month) steps))
          ≡ less_step amount (last_or nothing (filter (started month) steps))
      some [] rise = absurd (omega (arith, rise.some))
      some (s ∷ rest) rise = rw (le-leb s.from month (omega (arith, rise.first)))
          (last-map (less_step amount) (filter (started month) rest) s)

  -- from it on: the step that goes on from there, or a later one as it was
  pub as_it_was : {A : Type 0} (read : Step → A) → until ≤ month → month < months
      → StartsRise months (step_starts steps)
      → read (continued_step until (step_at steps until)) ≡ read (step_at steps until)
      → read (step_at (charged_steps amount months until steps) month) ≡ read (step_at steps month)
  as_it_was read order within rise same =
      ap (λ b. read (step_at (early ++ cond b (steps_from until steps) []) month))
      (lt-ltb until months (omega (arith, order, within)))
      ∙ ap (λ xs. read (last_or nothing xs)) (filter-append (started month) early (steps_from until steps))
      ∙ ap read (last-append (filter (started month) early) (filter (started month) (steps_from until steps)) nothing)
      ∙ ap (λ b. read (last_or (last_or nothing (filter (started month) early))
      (cond b (continued_step until (step_at steps until) ∷ filter (started month) later)
      (filter (started month) later)))) (le-leb until month order)
      ∙ last_read read (filter (started month) later) (continued_step until (step_at steps until))
      (step_at steps until) same
      ∙ ap read (sym (last_in_two_parts steps nothing until month order rise.rising))
