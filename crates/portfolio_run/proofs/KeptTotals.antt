-- Totals of holdings as they are kept are those of the portfolio.
use Rattle.std.proofs.Common.{◌≡◌, ℕ, zero, suc, ◌+◌, ◌<◌, ◌≤◌, max, Bool, List, [], ◌∷◌, length, map, take, get_or}
use Rattle.std.proofs.Common.{slice_get, Some, refl, sym, ap, subst, ◌∙◌, arith}
use Rattle.std.specs.Prelude.{◌==◌, All, bytes_eq, fold, pos, if◌then◌else◌}
use Rattle.std.proofs.lemmas.List.{get_or-map, length-map, take-map}
use Rattle.std.proofs.lemmas.List.Elements.{All-take}
use Rattle.std.specs.Option.{option_map}
use Rattle.std.proofs.lemmas.Option.{get_or_from_slice_get, slice_get-map, slice_get_within}
use Rattle.frac_laws.specs.Fraction.{Fraction, whole, ◌+ℚ◌}
use Rattle.fixed_interval.specs.Printing.{LiesBetween}
use Rattle.named_numbers.specs.Numbers.{least_degree}
use Rattle.portfolio_run.specs.declared.policies.Policy.{Policy}
use Rattle.portfolio_run.specs.declared.totals.Total.{Total}
use Rattle.portfolio_run.specs.declared.totals.Totals.{Totals}
use Rattle.portfolio_run.specs.declared.reading.PolicyError.{PolicyError}
use Rattle.portfolio_run.specs.declared.reading.PolicyError.TheVariants as error
use Rattle.portfolio_run.specs.Named.{AreTotalsOf}
use Rattle.portfolio_run.specs.Names.{place_in}
use Rattle.portfolio_run.specs.Stored.{AreKept, HasPlaces, Portfolio, holding_of, kept_holdings, name_at}
use Rattle.portfolio_run.specs.Sums.{AreReached, IsCovered, TellsMissing, kept_tolerance, kept_value}
use Rattle.portfolio_run.specs.Sums.{sum_at, sum_where, tolerance_by, total_where, value_by}
use Rattle.portfolio_run.specs.Totals.{AreTotals, HasItsReserve, IsTotal, TellsUncovered, group_tolerance}
use Rattle.portfolio_run.specs.Totals.{group_value, tolerance_of, value_of, valued_for}
use Rattle.portfolio_run.specs.Values.{ValuedProduct}
use Rattle.portfolio_run.proofs.OwnPlaces.{HaveOwnPlaces, first_seen_have_own_places, same_place}

-- ---- sums over the same items in another form

sums_alike : {A B : Type 0} (f : A → B) (in_b : B → Bool) (in_a : A → Bool) (of_b : B → Fraction) (of_a : A → Fraction)
    (start : Fraction) (items : List A)
    → ((k : ℕ) (d : A) → k < length items → in_b (f (get_or items k d)) ≡ in_a (get_or items k d))
    → ((k : ℕ) (d : A) → k < length items → of_b (f (get_or items k d)) ≡ of_a (get_or items k d))
    → fold (λ total item. if in_b item then total +ℚ of_b item else total) start (map f items)
    ≡ fold (λ total item. if in_a item then total +ℚ of_a item else total) start items
sums_alike f in_b in_a of_b of_a start [] same_in same_of = refl
sums_alike f in_b in_a of_b of_a start (x ∷ xs) same_in same_of =
    let first : (if in_b (f x) then start +ℚ of_b (f x) else start) ≡ (if in_a x then start +ℚ of_a x else start) =
    ap (λ b. if b then start +ℚ of_b (f x) else start) (same_in 0 x (omega arith))
    ∙ ap (λ v. if in_a x then start +ℚ v else start) (same_of 0 x (omega arith)) in
    ap (λ s. fold (λ total item. if in_b item then total +ℚ of_b item else total) s (map f xs)) first
    ∙ sums_alike f in_b in_a of_b of_a (if in_a x then start +ℚ of_a x else start) xs
    (λ k d within. same_in (suc k) d (omega (arith, within))) (λ k d within. same_of (suc k) d (omega (arith, within)))

totals_alike : {A B : Type 0} (f : A → B) (in_b : B → Bool) (in_a : A → Bool) (of_b : B → ℕ) (of_a : A → ℕ)
    (start : ℕ) (items : List A)
    → ((k : ℕ) (d : A) → k < length items → in_b (f (get_or items k d)) ≡ in_a (get_or items k d))
    → ((k : ℕ) (d : A) → k < length items → of_b (f (get_or items k d)) ≡ of_a (get_or items k d))
    → fold (λ total item. if in_b item then total + of_b item else total) start (map f items)
    ≡ fold (λ total item. if in_a item then total + of_a item else total) start items
totals_alike f in_b in_a of_b of_a start [] same_in same_of = refl
totals_alike f in_b in_a of_b of_a start (x ∷ xs) same_in same_of =
    let first : (if in_b (f x) then start + of_b (f x) else start) ≡ (if in_a x then start + of_a x else start) =
    ap (λ b. if b then start + of_b (f x) else start) (same_in 0 x (omega arith))
    ∙ ap (λ v. if in_a x then start + v else start) (same_of 0 x (omega arith)) in
    ap (λ s. fold (λ total item. if in_b item then total + of_b item else total) s (map f xs)) first
    ∙ totals_alike f in_b in_a of_b of_a (if in_a x then start + of_a x else start) xs
    (λ k d within. same_in (suc k) d (omega (arith, within))) (λ k d within. same_of (suc k) d (omega (arith, within)))

-- ---- degrees

-- no degree is above the greatest
pub degrees_within : (most : ℕ) (valued : List ValuedProduct) (n : ℕ)
    → fold (λ m v. max m v.degree) most valued ≤ n → (most ≤ n) × AreReached n valued
degrees_within most [] n above = (above, λ k d within. absurd (omega (arith, within)))
degrees_within most (v ∷ valued) n above =
    let rest = degrees_within (max most v.degree) valued n above in (
      omega (arith, rest.0),
      reached rest,
    )
  where
    reached : (max most v.degree ≤ n) × AreReached n valued → AreReached n (v ∷ valued)
    reached rest zero d within = omega (arith, rest.0)
    reached rest (suc k) d within = rest.1 k d (omega (arith, within))

-- ---- a portfolio as it is kept

-- what is kept of a portfolio
pub record IsKept (portfolio : Portfolio) (files groups : List (List ℕ)) (policies : List Policy) : Type 0 where
  pub holdings_are : portfolio.holdings ≡ kept_holdings files groups policies
  pub kept : AreKept files groups policies portfolio.holdings

files_own : (portfolio : Portfolio) (files groups : List (List ℕ)) (policies : List Policy)
    → IsKept portfolio files groups policies → HaveOwnPlaces files
files_own portfolio files groups policies is =
    subst HaveOwnPlaces (sym is.kept.files_are)
    (first_seen_have_own_places (map (λ holding. holding.file) portfolio.holdings))

groups_own : (portfolio : Portfolio) (files groups : List (List ℕ)) (policies : List Policy)
    → IsKept portfolio files groups policies → HaveOwnPlaces groups
groups_own portfolio files groups policies is =
    subst HaveOwnPlaces (sym is.kept.groups_are)
    (first_seen_have_own_places (map (λ holding. holding.group) portfolio.holdings))

-- the product of a holding's file
kept_for : (portfolio : Portfolio) (files groups : List (List ℕ)) (policies : List Policy) (policy : Policy)
    → IsKept portfolio files groups policies → HasPlaces files groups policy
    → valued_for portfolio (holding_of files groups policy) ≡ slice_get portfolio.valued policy.file
kept_for portfolio files groups policies policy is places =
    ap (λ names. slice_get portfolio.valued (place_in names (name_at files policy.file))) (sym is.kept.files_are)
    ∙ ap (slice_get portfolio.valued) (files_own portfolio files groups policies is policy.file places.file)

-- a group's value is the sum over the holdings as they are kept
kept_group_value : (portfolio : Portfolio) (files groups : List (List ℕ)) (policies : List Policy) (group n : ℕ)
    → IsKept portfolio files groups policies → group < length groups
    → group_value portfolio n (name_at groups group)
    ≡ sum_where (λ policy. policy.group == group) (kept_value portfolio.valued n) policies
kept_group_value portfolio files groups policies group n is within =
    ap (sum_where (λ holding. bytes_eq (name_at groups group) holding.group) (value_of portfolio n)) is.holdings_are
    ∙ sums_alike (holding_of files groups) (λ holding. bytes_eq (name_at groups group) holding.group)
    (λ policy. policy.group == group) (value_of portfolio n) (kept_value portfolio.valued n) (whole (pos 0)) policies
    (λ k d inside. same_place groups (groups_own portfolio files groups policies is) (get_or policies k d).group group
    (is.kept.places k d inside).group within)
    (λ k d inside. ap (λ v. value_by v n (get_or policies k d).month (get_or policies k d).state.items
    (get_or policies k d).count) (kept_for portfolio files groups policies (get_or policies k d) is
    (is.kept.places k d inside)))

kept_group_tolerance : (portfolio : Portfolio) (files groups : List (List ℕ)) (policies : List Policy) (group : ℕ)
    → IsKept portfolio files groups policies → group < length groups
    → group_tolerance portfolio (name_at groups group)
    ≡ total_where (λ policy. policy.group == group) (kept_tolerance portfolio.valued) policies
kept_group_tolerance portfolio files groups policies group is within =
    ap (total_where (λ holding. bytes_eq (name_at groups group) holding.group) (tolerance_of portfolio)) is.holdings_are
    ∙ totals_alike (holding_of files groups) (λ holding. bytes_eq (name_at groups group) holding.group)
    (λ policy. policy.group == group) (tolerance_of portfolio) (kept_tolerance portfolio.valued) 0 policies
    (λ k d inside. same_place groups (groups_own portfolio files groups policies is) (get_or policies k d).group group
    (is.kept.places k d inside).group within)
    (λ k d inside. ap (λ v. tolerance_by v (get_or policies k d).month (get_or policies k d).count)
    (kept_for portfolio files groups policies (get_or policies k d) is (is.kept.places k d inside)))

-- holdings that are covered as they are kept
kept_covered : (portfolio : Portfolio) (files groups : List (List ℕ)) (policies some : List Policy)
    → IsKept portfolio files groups policies → All (HasPlaces files groups) some
    → All (IsCovered portfolio.valued) some → All (HasItsReserve portfolio) (map (holding_of files groups) some)
kept_covered portfolio files groups policies [] is places covered k d within = absurd (omega (arith, within))
kept_covered portfolio files groups policies (policy ∷ some) is places covered zero d within =
    let of = covered 0 policy (omega arith) in
    record {
      by = of.by;
      file = kept_for portfolio files groups policies policy is (places 0 policy (omega arith)) ∙ of.file;
      has = of.has;
    }
kept_covered portfolio files groups policies (policy ∷ some) is places covered (suc k) d within =
    kept_covered portfolio files groups policies some is
    (λ j e inside. places (suc j) e (omega (arith, inside))) (λ j e inside. covered (suc j) e (omega (arith, inside)))
    k d (omega (arith, within))

-- ---- totals

-- the total of a group is right
kept_total : (portfolio : Portfolio) (files groups : List (List ℕ)) (policies : List Policy) (totals : Totals) (k : ℕ)
    (total : Total) → IsKept portfolio files groups policies → AreTotalsOf groups policies portfolio.valued totals
    → k < length totals.groups.items → IsTotal portfolio totals.degree (get_or totals.groups.items k total)
kept_total portfolio files groups policies totals k total is of within =
    let found = get_or totals.groups.items k total in
    let count : length totals.groups.items ≡ length groups =
    sym (length-map totals.groups.items (λ t. t.name.items)) ∙ ap length of.named.names_are in
    let inside : k < length groups = omega (arith, within, count) in
    let numbers = of.named.numbers k total within in
    let sum = of.are_sums.each k inside in
    let name : (get_or totals.groups.items k total).name.items ≡ name_at groups k =
    sym (get_or-map (λ t. t.name.items) totals.groups.items k total [] within)
    ∙ ap (λ names. name_at names k) of.named.names_are in
    record {
      holds = λ n reached.
          let all = (degrees_within least_degree portfolio.valued n (subst (λ m. m ≤ n) of.degree_is reached)).1 in
          let value = ap (group_value portfolio n) name
          ∙ kept_group_value portfolio files groups policies k n is inside in
          let at_sum = subst (LiesBetween (record { lo = (sum_at of.sums k).lo; hi = (sum_at of.sums k).hi }))
          (sym value) (sum.holds n all) in
          rw (numbers.lo_is, numbers.hi_is) at_sum;
      narrow = rw (numbers.lo_is, numbers.hi_is, numbers.tol_is) sum.narrow;
      tolerance_is = numbers.tol_is ∙ sum.tolerance_is
          ∙ sym (ap (group_tolerance portfolio) name
          ∙ kept_group_tolerance portfolio files groups policies k is inside);
    }

-- and so are those of all groups
pub kept_totals : (portfolio : Portfolio) (files groups : List (List ℕ)) (policies : List Policy) (totals : Totals)
    → IsKept portfolio files groups policies → AreTotalsOf groups policies portfolio.valued totals
    → AreTotals portfolio totals
kept_totals portfolio files groups policies totals is of = record {
  degree_is = of.degree_is;
  policies_are = of.policies_are
      ∙ sym (ap length is.holdings_are ∙ length-map policies (holding_of files groups));
  groups_are = of.named.names_are ∙ is.kept.groups_are;
  right = λ k total within. kept_total portfolio files groups policies totals k total is of within;
  covered = subst (All (HasItsReserve portfolio)) (sym is.holdings_are)
      (kept_covered portfolio files groups policies policies is is.kept.places of.are_sums.covered);
}

-- the first row of which something is missing
pub kept_missing : (portfolio : Portfolio) (files groups : List (List ℕ)) (policies : List Policy) (why : PolicyError)
    → IsKept portfolio files groups policies → TellsMissing portfolio.valued policies why
    → TellsUncovered portfolio why
kept_missing portfolio files groups policies error.Memory is tells = tt
kept_missing portfolio files groups policies (error.Row found) is tells =
    let places : HasPlaces files groups tells.policy = at_place tells.place tells.policy tells.here in
    record {
      place = tells.place;
      row_is = tells.row_is;
      holding = holding_of files groups tells.policy;
      here = ap (λ all. slice_get all tells.place) is.holdings_are
          ∙ slice_get-map (holding_of files groups) policies tells.place
          ∙ ap (option_map (holding_of files groups)) tells.here;
      before = subst (All (HasItsReserve portfolio))
          (sym (ap (take tells.place) is.holdings_are ∙ take-map (holding_of files groups) tells.place policies))
          (kept_covered portfolio files groups policies (take tells.place policies) is
          (first_places tells.place) tells.before);
      by = tells.by;
      file = kept_for portfolio files groups policies tells.policy is places ∙ tells.file;
      missing = tells.missing;
      part_is = tells.part_is;
      is_missing = tells.is_missing;
    }
  where
    at_place : (place : ℕ) (policy : Policy) → slice_get policies place ≡ Some policy → HasPlaces files groups policy
    at_place place policy here =
        subst (HasPlaces files groups) (get_or_from_slice_get policies place policy policy here)
        (is.kept.places place policy (slice_get_within policies place policy here))

    first_places : (place : ℕ) → All (HasPlaces files groups) (take place policies)
    first_places place = All-take (HasPlaces files groups) place policies is.kept.places
