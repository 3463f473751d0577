-- The sums of all groups over holdings, one by one.
use Rattle.std.proofs.Common.{◌≡◌, ℕ, ◌+◌, ◌*◌, ◌<◌, pos, ◌+ℤ◌, ◌*ℤ◌, List, [], ◌∷◌, ◌++◌, length, take, set}
use Rattle.std.proofs.Common.{get_or, slice_get, Some, inl, inr, refl, sym, ap, subst, ◌∙◌, arith}
use Rattle.std.specs.Prelude.{All}
use Rattle.std.proofs.lemmas.Bool.Decides.{eqb_tells}
use Rattle.std.proofs.lemmas.List.{get_or-replicate, get_or-set_other, get_or-set_same, get_or_default, length-set}
use Rattle.std.proofs.lemmas.List.Elements.{All-nil, All-push}
use Rattle.std.proofs.lemmas.Option.{slice_get_read}
use Rattle.std.proofs.Math.ListN.{replicate}
use Rattle.portfolio_run.specs.declared.policies.Policy.{Policy}
use Rattle.portfolio_run.specs.declared.sums.Sum.{Sum}
use Rattle.portfolio_run.specs.declared.valued.Reserve.{Reserve}
use Rattle.portfolio_run.specs.declared.valued.Missing.{Missing}
use Rattle.portfolio_run.specs.Sums.{AreSums, HasPlace, IsCovered, IsFirstMissing, IsSum, sum_at}
use Rattle.portfolio_run.specs.Values.{IsMissing, IsReserve, ValuedProduct, part_of_missing}
use Rattle.portfolio_run.proofs.GroupSums.{sum_of_none, sum_with, sum_without}

-- over no holdings
pub no_sums : (valued : List ValuedProduct) (groups : ℕ) (sums : List Sum) → length sums ≡ groups
    → sums ≡ replicate groups (record { lo = pos 0; hi = pos 0; tol = 0 }) → AreSums valued [] groups sums
no_sums valued groups sums count nothing = record {
  count = count;
  each = λ group within. subst (IsSum valued [] group)
      (sym (ap (λ all. sum_at all group) nothing ∙ get_or-replicate groups group _ _ within))
      (sum_of_none valued group);
  covered = All-nil (IsCovered valued);
}

-- the sum of a holding's group, as it is read
pub sum_is : (valued : List ValuedProduct) (policies : List Policy) (groups : ℕ) (sums : List Sum) (group : ℕ)
    (sum : Sum) → AreSums valued policies groups sums → group < groups → sum ≡ get_or sums group sum
    → IsSum valued policies group sum
sum_is valued policies groups sums group sum are within here =
    let inside : group < length sums = omega (arith, within, are.count) in
    subst (IsSum valued policies group) (get_or_default sums group _ sum inside ∙ sym here) (are.each group within)

-- with one holding more
pub sums_more : (valued : List ValuedProduct) (policies : List Policy) (groups : ℕ) (sums : List Sum) (policy : Policy)
    (by : ValuedProduct) (reserve : Reserve) (sum next : Sum) → AreSums valued policies groups sums
    → HasPlace (length valued) groups policy → slice_get valued policy.file ≡ Some by
    → IsReserve by policy.month policy.state.items reserve → IsSum valued policies policy.group sum
    → next.lo ≡ sum.lo +ℤ (pos policy.count *ℤ reserve.lo) → next.hi ≡ sum.hi +ℤ (pos policy.count *ℤ reserve.hi)
    → next.tol ≡ sum.tol + policy.count * reserve.tol
    → AreSums valued (policies ++ policy ∷ []) groups (set sums policy.group next)
sums_more valued policies groups sums policy by reserve sum next are place file is_reserve is_sum lo_is hi_is tol_is =
    record {
      count = length-set sums policy.group next ∙ are.count;
      each = λ group within. elim (eqb_tells group policy.group) [
        | inl here ↦
            let at : sum_at (set sums policy.group next) group ≡ next =
            ap (sum_at (set sums policy.group next)) here.1
            ∙ get_or-set_same sums policy.group next _ (omega (arith, place.group, are.count)) in
            subst (IsSum valued (policies ++ policy ∷ []) group) (sym at)
            (sum_with valued policies group sum next policy by reserve
            (subst (λ g. IsSum valued policies g sum) (sym here.1) is_sum) (sym here.1) place.count file is_reserve
            lo_is hi_is tol_is)
        | inr other ↦
            let at : sum_at (set sums policy.group next) group ≡ sum_at sums group =
            get_or-set_other sums policy.group group next _ other.1 in
            subst (IsSum valued (policies ++ policy ∷ []) group) (sym at)
            (sum_without valued policies group (sum_at sums group) policy (are.each group within)
            (λ same. other.1 (sym same)))
      ];
      covered = All-push (IsCovered valued) policies policy are.covered
          (record { by = by; file = file; has = is_reserve.has });
    }

-- a holding by its place, of which something is missing
pub first_missing : (valued : List ValuedProduct) (policies : List Policy) (i : ℕ) (policy : Policy)
    (by : ValuedProduct) (state : List ℕ) (missing : Missing) (part : ℕ) → i < length policies
    → policy ≡ get_or policies i policy → All (IsCovered valued) (take i policies)
    → slice_get valued policy.file ≡ Some by → state ≡ policy.state.items
    → IsMissing by.product policy.month state missing → part ≡ part_of_missing missing
    → IsFirstMissing valued policies (i + 1) part
first_missing valued policies i policy by state missing part within here before file state_is is_missing part_is =
    record {
      place = i;
      row_is = refl;
      policy = policy;
      here = slice_get_read policies (length policies) i policy refl within here;
      before = before;
      by = by;
      file = file;
      missing = missing;
      part_is = part_is;
      is_missing = subst (λ s. IsMissing by.product policy.month s missing) state_is is_missing;
    }
