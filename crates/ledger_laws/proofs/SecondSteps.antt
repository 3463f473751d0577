-- One date and one cell of the second radius, beside the first radius and the bound.
use Rattle.std.specs.Prelude.{◌≡◌, ℕ, zero, suc, ◌+◌, ◌*◌, ◌^◌, ◌<◌, ◌≤◌, ℤ, List, [], ◌∷◌}
use Rattle.std.specs.Int.{div_ceil}
use Rattle.std.proofs.Common.{arith}
use Rattle.std.proofs.lemmas.Grind.{div_ceil_times}
use Rattle.std.proofs.Math.Nat.{mul-le-mul_left, mul-le-mul_right, le_of_mul-le-mul_left}
use Rattle.frac_laws.specs.Ledger.{grow}
use Rattle.model_specs.specs.Ledgers.{grow_cells, second_grow_cells, date_adds}

-- what a date adds is a quotient that is rounded up, and 4
date_adds_most : (lumps : List (ℕ × ℤ)) (largest w G : ℕ)
    → date_adds lumps largest w G ≤ div_ceil (2 * largest * w) G + 4
date_adds_most [] largest w G = omega arith
date_adds_most (lump ∷ lumps) largest w G = omega arith

-- a date: G times the second radius against the bound, its scale and the first radius
date_step : (second quotient adds largest w G bound : ℕ) → adds ≤ quotient + 4
    → quotient * G ≤ 2 * largest * w + G → 512 * G * second ≤ (bound + 1024 * G) * w
    → 512 * G * (second + adds) ≤ (bound + 1024 * largest + 1024 * G) * w + 2560 * G
date_step second quotient adds largest w G bound most rounded before =
    let added : 512 * G * adds ≤ 512 * G * (quotient + 4) = mul-le-mul_left (512 * G) most in
    omega (arith, added, rounded, before)

-- the growth of the second radius
growth_step : (second growth w w_growth kappa G H : ℕ) → kappa ≤ 2 ^ 40
    → growth * 2 ^ 40 ≤ second * kappa + 2 ^ 40 → w * kappa ≤ w_growth * 2 ^ 40
    → 512 * G * second ≤ H * w + 2560 * G → 512 * G * growth ≤ H * w_growth + 3072 * G
growth_step second growth w w_growth kappa G H small rounded grown before =
    let first : 512 * G * (growth * 2 ^ 40) ≤ 512 * G * (second * kappa + 2 ^ 40) = mul-le-mul_left (512 * G) rounded in
    let times : 512 * G * second * kappa ≤ (H * w + 2560 * G) * kappa = mul-le-mul_right kappa before in
    let radius : H * (w * kappa) ≤ H * (w_growth * 2 ^ 40) = mul-le-mul_left H grown in
    let few : G * kappa ≤ G * 2 ^ 40 = mul-le-mul_left G small in
    omega (arith, first, times, radius, few)

-- a cell
cell_step : (second growth share bound bound_growth w w_growth kappa pay G : ℕ) → kappa ≤ 2 ^ 40
    → growth * 2 ^ 40 ≤ second * kappa + 2 ^ 40 → w * kappa ≤ w_growth * 2 ^ 40
    → share * (1024 * G) ≤ 2 * pay * w + 1024 * G
    → 512 * G * second ≤ (bound + 1024 * G) * w + 2560 * G
    → 512 * G * (second + growth + (share + 1024))
    ≤ (bound + bound_growth + pay + 1024 * G) * (w + w_growth + 1024)
cell_step second growth share bound bound_growth w w_growth kappa pay G small rounded grown shared before =
    let grows : 512 * G * growth ≤ (bound + 1024 * G) * w_growth + 3072 * G =
    growth_step second growth w w_growth kappa G (bound + 1024 * G) small rounded grown before in
    omega (arith, grows, shared, before)

-- what a date adds, from its definition
pub with_lumps_within : (lumps : List (ℕ × ℤ)) (second largest w G bound : ℕ) → 1 ≤ G
    → 512 * G * second ≤ (bound + 1024 * G) * w
    → 512 * G * (second + date_adds lumps largest w G) ≤ (bound + 1024 * largest + 1024 * G) * w + 2560 * G
with_lumps_within lumps second largest w G bound some before =
    date_step second (div_ceil (2 * largest * w) G) (date_adds lumps largest w G) largest w G bound
    (date_adds_most lumps largest w G)
    (rounded (div_ceil (2 * largest * w) G * G) (2 * largest * w) G (div_ceil_times (2 * largest * w) G some).1)
    before
  where
    rounded : (a n d : ℕ) → a < n + d → a ≤ n + d
    rounded a n d h = omega arith

-- a cell, from its definition
grown_within : (second bound w kappa pay G : ℕ) → kappa ≤ 2 ^ 40 → 1 ≤ G
    → 512 * G * second ≤ (bound + 1024 * G) * w + 2560 * G
    → 512 * G * grow second kappa (div_ceil (2 * pay * w) (1024 * G) + 1024)
    ≤ (grow bound kappa pay + 1024 * G) * grow w kappa 1024
grown_within second bound w kappa pay G small some before =
    cell_step second (div_ceil (second * kappa) (2 ^ 40)) (div_ceil (2 * pay * w) (1024 * G)) bound
    (div_ceil (bound * kappa) (2 ^ 40)) w (div_ceil (w * kappa) (2 ^ 40)) kappa pay G small
    (rounded (div_ceil (second * kappa) (2 ^ 40) * 2 ^ 40) (second * kappa) (2 ^ 40)
    (div_ceil_times (second * kappa) (2 ^ 40) (omega arith)).1)
    (div_ceil_times (w * kappa) (2 ^ 40) (omega arith)).0
    (rounded (div_ceil (2 * pay * w) (1024 * G) * (1024 * G)) (2 * pay * w) (1024 * G)
    (div_ceil_times (2 * pay * w) (1024 * G) (omega arith)).1)
    before
  where
    rounded : (a n d : ℕ) → a < n + d → a ≤ n + d
    rounded a n d h = omega arith

module _ (kappa pay G w second bound : ℕ) (small : kappa ≤ 2 ^ 40) (some : 1 ≤ G)
    (before : 512 * G * second ≤ (bound + 1024 * G) * w + 2560 * G) where
  -- after some cells, with the part that a date may leave
  pub cells_within : (cells : ℕ) → 512 * G * second_grow_cells kappa pay G w second cells
      ≤ (grow_cells kappa pay bound cells + 1024 * G) * grow_cells kappa 1024 w cells + 2560 * G
  cells_within zero = before
  cells_within (suc cells) =
      wider (512 * G * second_grow_cells kappa pay G w second (suc cells))
      ((grow_cells kappa pay bound (suc cells) + 1024 * G) * grow_cells kappa 1024 w (suc cells)) (2560 * G)
      (grown_within (second_grow_cells kappa pay G w second cells) (grow_cells kappa pay bound cells)
      (grow_cells kappa 1024 w cells) kappa pay G small some (cells_within cells))
    where
      wider : (a b more : ℕ) → a ≤ b → a ≤ b + more
      wider a b more h = omega arith

  -- and without it from the first cell on
  pub later_cells_within : (cells : ℕ) → 512 * G * second_grow_cells kappa pay G w second (suc cells)
      ≤ (grow_cells kappa pay bound (suc cells) + 1024 * G) * grow_cells kappa 1024 w (suc cells)
  later_cells_within cells =
      grown_within (second_grow_cells kappa pay G w second cells) (grow_cells kappa pay bound cells)
      (grow_cells kappa 1024 w cells) kappa pay G small some (cells_within cells)

-- with a bound within 1024 G the second radius is at most four times the first one
times_w : (bound G w : ℕ) → bound ≤ 1024 * G → (bound + 1024 * G) * w ≤ 2048 * G * w
times_w bound G w within = mul-le-mul_right w (doubled bound G within)
  where
    doubled : (bound G : ℕ) → bound ≤ 1024 * G → bound + 1024 * G ≤ 2048 * G
    doubled bound G h = omega arith

pub fourfold : (second w G bound : ℕ) → 1 ≤ G → bound ≤ 1024 * G → 512 * G * second ≤ (bound + 1024 * G) * w
    → second ≤ 4 * w
fourfold second w G bound some within before =
    let most = times_w bound G w within in
    let same : 2048 * G * w ≡ 512 * G * (4 * w) = grind arith in
    let order : 512 * G * second ≤ 512 * G * (4 * w) = omega (arith, before, most, same) in
    le_of_mul-le-mul_left {m = second} {n = 4 * w} {k = 512 * G} order (omega arith)

pub nearly_fourfold : (second w G bound : ℕ) → 1 ≤ G → bound ≤ 1024 * G
    → 512 * G * second ≤ (bound + 1024 * G) * w + 2560 * G → second ≤ 4 * w + 5
nearly_fourfold second w G bound some within before =
    let most = times_w bound G w within in
    let same : 2048 * G * w + 2560 * G ≡ 512 * G * (4 * w + 5) = grind arith in
    let order : 512 * G * second ≤ 512 * G * (4 * w + 5) = omega (arith, before, most, same) in
    le_of_mul-le-mul_left {m = second} {n = 4 * w + 5} {k = 512 * G} order (omega arith)
