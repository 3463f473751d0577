-- The maps of constant months, one stretch after the other.
use Rattle.std.specs.Prelude.{◌≡◌, ℕ, zero, suc, ◌+◌, ◌-◌, IsTrue, List, [], ◌∷◌, ◌++◌}
use Rattle.std.specs.Prelude.{Option, Some, None, length, slice_index_or}
use Rattle.std.proofs.Common.{refl, ap, sym, subst, ◌∙◌, arith, inl, inr}
use Rattle.std.proofs.Math.ListN.{get_or-append}
use Rattle.std.proofs.Math.Seq.{get_or-append_seam}
use Rattle.std.proofs.lemmas.Bool.{cases_lt, false≢true}
use Rattle.std.proofs.lemmas.List.{length-append}
use Rattle.whole_laws.proofs.Tests.{both_pass}
use Rattle.model_specs.specs.Product.{Product}
use Rattle.model_specs.specs.Payments.{Plan}
use Rattle.model_specs.specs.Stretches.{is_constant_month, continues_stretch, keeps_values}
use Rattle.month_maps.specs.StoredMap.{StoredMap}
use Rattle.payment_plan.specs.declared.pattern.Which.{Which}
use Rattle.rate_bounds.specs.MonthPay.{plan_named}
use Rattle.thiele_backward.specs.MonthMaps.{IsMapOf}
use Rattle.thiele_backward.specs.StretchMaps.{Varies, IsMonthsMap, IsMapAt, HasMap, HaveMaps}
use Rattle.thiele_backward.specs.StretchMaps.{EndWithMapBefore, KeepFirstMaps}
use Rattle.thiele_backward.proofs.ConstantMonths.{map_goes_on}

pub keep_all : (maps : List StoredMap) → KeepFirstMaps maps maps
keep_all maps = record { long = omega arith; same = λ k d b. refl }

-- one map more behind the others
module _ (old : List StoredMap) (map : StoredMap) (new : List StoredMap) (are : new ≡ old ++ map ∷ []) where
  pub longer : length new ≡ length old + 1
  longer = ap length are ∙ length-append old (map ∷ [])

  pub keep_more : KeepFirstMaps old new
  keep_more = record {
    long = omega (arith, longer);
    same = λ k d b. ap (λ (ms : List StoredMap). slice_index_or ms k d) are ∙ get_or-append old (map ∷ []) d k b;
  }

  pub last_is : (d : StoredMap) → slice_index_or new (length new - 1) d ≡ map
  last_is d =
      let place : length new - 1 ≡ length old = omega (arith, longer) in
      ap (λ (ms : List StoredMap). slice_index_or ms (length new - 1) d) are
      ∙ ap (λ k. slice_index_or (old ++ map ∷ []) k d) place ∙ get_or-append_seam old map [] d

  pub map_at_end : (product : Product) (plan : Plan) (month : ℕ) → IsTrue (is_constant_month product plan month)
      → IsMapOf product plan month map → IsMapAt product plan month new (length new - 1)
  map_at_end product plan month constant of_month = record {
    inside = omega (arith, longer);
    map = λ d. record {
      constant = constant;
      map = subst (λ m. IsMapOf product plan month m) (sym (last_is d)) of_month;
    };
  }

-- a month that goes on with its stretch has the map of the month before
pub map_goes_on_at : (which : Which) (product : Product) (month : ℕ) (maps : List StoredMap)
    → IsTrue (is_constant_month product (plan_named which product) month)
    → IsTrue (continues_stretch product (plan_named which product) month)
    → EndWithMapBefore product (plan_named which product) month maps
    → IsMapAt product (plan_named which product) month maps (length maps - 1)
map_goes_on_at which product zero maps constant goes_on before = absurd (false≢true goes_on)
map_goes_on_at which product (suc month) maps constant goes_on before =
    let plan = plan_named which product in
    let both = both_pass (is_constant_month product plan month) (keeps_values product plan month (suc month)) goes_on in
    let last = before month refl both.0 in
    record {
      inside = last.inside;
      map = λ d. record {
        constant = constant;
        map = map_goes_on which product month (slice_index_or maps (length maps - 1) d) constant goes_on
            (last.map d).map;
      };
    }

-- a month's map is the last one
pub ends_with : (product : Product) (plan : Plan) (month : ℕ) (maps : List StoredMap)
    → IsMapAt product plan month maps (length maps - 1) → EndWithMapBefore product plan (suc month) maps
ends_with product plan month maps here before is constant =
    let same : month ≡ before = omega (arith, is) in
    subst (λ m. IsMapAt product plan m maps (length maps - 1)) same here

-- after a month in which something varies none has to be
pub ends_varying : (product : Product) (plan : Plan) (month : ℕ) (maps : List StoredMap)
    → Varies product plan month → EndWithMapBefore product plan (suc month) maps
ends_varying product plan month maps varies before is constant =
    let same : before ≡ month = omega (arith, is) in
    absurd (false≢true (sym varies ∙ ap (is_constant_month product plan) (sym same) ∙ constant))

-- before the first month there is none
pub ends_at_first : (product : Product) (plan : Plan) (maps : List StoredMap) → EndWithMapBefore product plan 0 maps
ends_at_first product plan maps before is constant = absurd (omega (arith, is))

map_kept : (product : Product) (plan : Plan) (month : ℕ) (old new : List StoredMap) (place : Option ℕ)
    → KeepFirstMaps old new → HasMap product plan month old place → HasMap product plan month new place
map_kept product plan month old new None kept has = has
map_kept product plan month old new (Some k) kept has = record {
  inside = omega (arith, has.inside, kept.long);
  map = λ d. subst (λ m. IsMonthsMap product plan month m) (sym (kept.same k d has.inside)) (has.map d);
}

pub have_none : (product : Product) (plan : Plan) (maps : List StoredMap) (places : List (Option ℕ)) → places ≡ []
    → HaveMaps product plan 0 maps places
have_none product plan maps places are = record {
  long = ap length are;
  each = λ month d none. absurd (omega (arith, none));
}

-- one month more
pub have_more : (product : Product) (plan : Plan) (months : ℕ) (old new : List StoredMap) (places all : List (Option ℕ))
    (place : Option ℕ) → all ≡ places ++ place ∷ [] → HaveMaps product plan months old places → KeepFirstMaps old new
    → HasMap product plan months new place → HaveMaps product plan (months + 1) new all
have_more product plan months old new places all place are have kept has = record {
  long = ap length are ∙ length-append places (place ∷ []) ∙ ap (λ k. k + 1) have.long;
  each = λ month d inside. subst (λ ps. HasMap product plan month new (slice_index_or ps month d)) (sym are)
      (elim (cases_lt month months) [
        | inl b ↦ subst (λ p. HasMap product plan month new p)
            (sym (get_or-append places (place ∷ []) d month (omega (arith, b, have.long))))
            (map_kept product plan month old new (slice_index_or places month d) kept (have.each month d b))
        | inr past ↦
            let is : month ≡ length places = omega (arith, inside, past, have.long) in
            let same : months ≡ month = omega (arith, is, have.long) in
            subst (λ p. HasMap product plan month new p)
            (sym (ap (λ k. slice_index_or (places ++ place ∷ []) k d) is ∙ get_or-append_seam places place [] d))
            (subst (λ m. HasMap product plan m new place) same has)
      ]);
}
