-- The maps of all months of a plan in which nothing varies, one for each stretch of them.
use Rattle.std.specs.Prelude.{◌≡◌, ℕ, suc, ◌+◌, ◌-◌, ◌<◌, ◌≤◌, IsTrue, false, MatchOption, Option, List, length}
use Rattle.std.specs.Prelude.{slice_index_or}
use Rattle.model_specs.specs.Product.{Product}
use Rattle.model_specs.specs.Payments.{Plan}
use Rattle.model_specs.specs.Stretches.{is_constant_month}
use Rattle.month_maps.specs.StoredMap.{StoredMap}
use Rattle.payment_plan.specs.declared.pattern.Which.{Which}
use Rattle.thiele_backward.specs.MonthMaps.{IsMapOf}

-- of which plan of which product the maps are
pub record MapsOfPlan : Type 0 where
  pub product : Product
  pub which : Which

-- something varies over a month
abbrev pub Varies : Product → Plan → ℕ → Type 0
Varies product plan month = is_constant_month product plan month ≡ false

-- nothing varies over a month, and this is its map
pub record IsMonthsMap (product : Product) (plan : Plan) (month : ℕ) (m : StoredMap) : Type 0 where
  pub constant : IsTrue (is_constant_month product plan month)
  pub map : IsMapOf product plan month m

-- at this place of a list of maps
pub record IsMapAt (product : Product) (plan : Plan) (month : ℕ) (maps : List StoredMap) (place : ℕ) : Type 0 where
  pub inside : place < length maps
  pub map : (d : StoredMap) → IsMonthsMap product plan month (slice_index_or maps place d)

-- a month has its map at a place, and none where something varies
abbrev pub HasMap : Product → Plan → (month : ℕ) → List StoredMap → Option ℕ → Type 0
HasMap product plan month maps place =
    MatchOption place (Varies product plan month) (IsMapAt product plan month maps)

-- so does each of the first months
pub record HaveMaps (product : Product) (plan : Plan) (months : ℕ) (maps : List StoredMap) (places : List (Option ℕ))
    : Type 0 where
  pub long : length places ≡ months
  pub each : (month : ℕ) (d : Option ℕ) → month < months
      → HasMap product plan month maps (slice_index_or places month d)

-- the month before one, if nothing varies over it, has the last map
abbrev pub EndWithMapBefore : Product → Plan → (month : ℕ) → List StoredMap → Type 0
EndWithMapBefore product plan month maps = (before : ℕ) → suc before ≡ month
    → IsTrue (is_constant_month product plan before) → IsMapAt product plan before maps (length maps - 1)

-- the first maps are kept
pub record KeepFirstMaps (old new : List StoredMap) : Type 0 where
  pub long : length old ≤ length new
  pub same : (k : ℕ) (d : StoredMap) → k < length old → slice_index_or new k d ≡ slice_index_or old k d

-- a count rose by at most so much
pub record RisesAtMost (old limit new : ℕ) : Type 0 where
  pub least : old ≤ new
  pub most : new ≤ old + limit
