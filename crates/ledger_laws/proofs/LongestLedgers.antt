-- The ledgers of 38,400 cells at the greatest growth, computed by eighths.
use Rattle.std.specs.Prelude.{◌≡◌, ℕ, zero, suc, ◌+◌, refl}
use Rattle.std.proofs.Common.{arith, ap, sym, ◌∙◌}
use Rattle.model_specs.specs.Ledgers.{grow_cells}
use Rattle.ledger_laws.specs.MonthLaws.{greatest_kappa40}
use Rattle.ledger_laws.proofs.Rounding.{cells_after}

-- from what a ledger is after some cells, what it is after some more
further : (add first some more all later : ℕ) → grow_cells greatest_kappa40 add 0 first ≡ some → more + first ≡ all
    → grow_cells greatest_kappa40 add some more ≡ later → grow_cells greatest_kappa40 add 0 all ≡ later
further add first some more all later before sum on =
    sym (ap (grow_cells greatest_kappa40 add 0) sum)
    ∙ sym (cells_after greatest_kappa40 add 0 first more)
    ∙ ap (λ w. grow_cells greatest_kappa40 add w more) before
    ∙ on

-- adding 1 in each cell
unit_first : grow_cells greatest_kappa40 1 0 4800 ≡ 13501
unit_first = refl

unit_second : grow_cells greatest_kappa40 1 0 9600 ≡ 53951
unit_second = further 1 4800 13501 4800 9600 53951 unit_first refl refl

unit_third : grow_cells greatest_kappa40 1 0 14400 ≡ 176027
unit_third = further 1 9600 53951 4800 14400 176027 unit_second refl refl

unit_fourth : grow_cells greatest_kappa40 1 0 19200 ≡ 544746
unit_fourth = further 1 14400 176027 4800 19200 544746 unit_third refl refl

unit_fifth : grow_cells greatest_kappa40 1 0 24000 ≡ 1658298
unit_fifth = further 1 19200 544746 4800 24000 1658298 unit_fourth refl refl

unit_sixth : grow_cells greatest_kappa40 1 0 28800 ≡ 5021261
unit_sixth = further 1 24000 1658298 4800 28800 5021261 unit_fifth refl refl

unit_seventh : grow_cells greatest_kappa40 1 0 33600 ≡ 15177515
unit_seventh = further 1 28800 5021261 4800 33600 15177515 unit_sixth refl refl

pub unit_century : grow_cells greatest_kappa40 1 0 38400 ≡ 45849679
unit_century = further 1 33600 15177515 4800 38400 45849679 unit_seventh refl refl

-- adding 1024 in each cell
radius_first : grow_cells greatest_kappa40 1024 0 4800 ≡ 8986550
radius_first = refl

radius_second : grow_cells greatest_kappa40 1024 0 9600 ≡ 36126149
radius_second = further 1024 4800 8986550 4800 9600 36126149 radius_first refl refl

radius_third : grow_cells greatest_kappa40 1024 0 14400 ≡ 118088444
radius_third = further 1024 9600 36126149 4800 14400 118088444 radius_second refl refl

radius_fourth : grow_cells greatest_kappa40 1024 0 19200 ≡ 365616621
radius_fourth = further 1024 14400 118088444 4800 19200 365616621 radius_third refl refl

radius_fifth : grow_cells greatest_kappa40 1024 0 24000 ≡ 1113158021
radius_fifth = further 1024 19200 365616621 4800 24000 1113158021 radius_fourth refl refl

radius_sixth : grow_cells greatest_kappa40 1024 0 28800 ≡ 3370751989
radius_sixth = further 1024 24000 1113158021 4800 28800 3370751989 radius_fifth refl refl

radius_seventh : grow_cells greatest_kappa40 1024 0 33600 ≡ 10188742832
radius_seventh = further 1024 28800 3370751989 4800 33600 10188742832 radius_sixth refl refl

pub radius_century : grow_cells greatest_kappa40 1024 0 38400 ≡ 30779247495
radius_century = further 1024 33600 10188742832 4800 38400 30779247495 radius_seventh refl refl

-- the ledger of whole months in which each date and each cell adds 1
abbrev pub unit_months : ℕ → ℕ → ℕ
unit_months start zero = start
unit_months start (suc months) = grow_cells greatest_kappa40 1 (unit_months start months + 1) 32

months_after : (start first then : ℕ) → unit_months (unit_months start first) then ≡ unit_months start (then + first)
months_after start first zero = ap (unit_months start) (omega arith)
months_after start first (suc then) =
    ap (λ v. grow_cells greatest_kappa40 1 (v + 1) 32) (months_after start first then)
    ∙ ap (unit_months start) (next then first)
  where
    next : (n m : ℕ) → suc (n + m) ≡ suc n + m
    next n m = omega arith

further_months : (first some more all later : ℕ) → unit_months 1 first ≡ some → more + first ≡ all
    → unit_months some more ≡ later → unit_months 1 all ≡ later
further_months first some more all later before sum on =
    sym (ap (unit_months 1) sum)
    ∙ sym (months_after 1 first more)
    ∙ ap (λ w. unit_months w more) before
    ∙ on

first_months : unit_months 1 150 ≡ 13795
first_months = refl

second_months : unit_months 1 300 ≡ 55046
second_months = further_months 150 13795 150 300 55046 first_months refl refl

third_months : unit_months 1 450 ≡ 179618
third_months = further_months 300 55046 150 450 179618 second_months refl refl

fourth_months : unit_months 1 600 ≡ 555869
fourth_months = further_months 450 179618 150 600 555869 third_months refl refl

fifth_months : unit_months 1 750 ≡ 1692164
fifth_months = further_months 600 555869 150 750 1692164 fourth_months refl refl

sixth_months : unit_months 1 900 ≡ 5123835
sixth_months = further_months 750 1692164 150 900 5123835 fifth_months refl refl

seventh_months : unit_months 1 1050 ≡ 15487558
seventh_months = further_months 900 5123835 150 1050 15487558 sixth_months refl refl

pub century_months : unit_months 1 1200 ≡ 46786362
century_months = further_months 1050 15487558 150 1200 46786362 seventh_months refl refl
