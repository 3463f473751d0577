use Rattle.std.specs.Prelude.{◌≡◌, ℕ, ◌^◌, ◌≤◌}
use Rattle.taylor_step.proofs.DegreeLimits.{stops_by_limit, rows_half}
use Rattle.taylor_step.proofs.Fits.{can_fit}
use Rattle.std.proofs.Common.{refl, arith}
use Rattle.taylor_step.proofs.ConstantCells.{constant_in_sup, constant_in_sum}
use Rattle.taylor_step.proofs.ConstantPairs.{constant_pair}
use Rattle.taylor_step.proofs.ConstantSteps as steps
use Rattle.taylor_step.proofs.Floors.{rounded_value}
use Rattle.taylor_step.proofs.Stopping.{least_stop}
use Rattle.taylor_step.proofs.Promise.{encloses_in_sup, encloses_in_sum, encloses_first, encloses_second}
use Rattle.taylor_step.proofs.taylor.step.Goals as goal

pub run-requires-clause-fit : goal.run-requires-clause-fit
run-requires-clause-fit g c =
    can_fit c.args.sys.now c.args.mid.now c.degree-degree.ensures.system c.requires.mid c.requires.can

between : {n : ℕ} → 8 ≤ n → n ≤ 8 → n ≡ 8
between h k = omega arith

pub returns-clause-rounded : goal.returns-clause-rounded
returns-clause-rounded g c =
    rounded_value c.args.sys.now c.args.mid.now c.degree-degree.ensures.system c.requires.mid c.run.result _
    c.run.auto.mid c.run.ensures.sums

pub returns-clause-least : goal.returns-clause-least
returns-clause-least g c = least_stop c.args.sys.now c.args.mid.now c.run.result c.degree-degree.ensures.system
    c.run.ensures.stop

pub returns-clause-most : goal.returns-clause-most
returns-clause-most g c = c.run.ensures.stop.most

pub returns-clause-limit : goal.returns-clause-limit
returns-clause-limit g c =
    stops_by_limit c.args.sys.now c.args.mid.now c.degree-degree.ensures.system c.requires.mid
    (rows_half c.args.sys.now c.args.mid.now c.degree-degree.ensures.system c.requires.can)
    c.run.result c.run.ensures.stop

pub returns-clause-sup : goal.returns-clause-sup
returns-clause-sup g c =
    encloses_in_sup c.args.sys.now c.args.mid.now _ c.degree-degree.ensures.system c.requires.mid c.run.result
    (rounded_value c.args.sys.now c.args.mid.now c.degree-degree.ensures.system c.requires.mid c.run.result _
    c.run.auto.mid c.run.ensures.sums) c.run.ensures.stop (λ k row b l. refl)

pub returns-clause-sum : goal.returns-clause-sum
returns-clause-sum g c =
    encloses_in_sum c.args.sys.now c.args.mid.now _ c.degree-degree.ensures.system c.requires.mid c.run.result
    (rounded_value c.args.sys.now c.args.mid.now c.degree-degree.ensures.system c.requires.mid c.run.result _
    c.run.auto.mid c.run.ensures.sums) c.run.ensures.stop (λ k row b l. refl)

pub returns-clause-first_half : goal.returns-clause-first_half
returns-clause-first_half g c =
    encloses_first c.args.sys.now c.args.mid.now _ c.degree-degree.ensures.system c.requires.mid c.run.result
    (rounded_value c.args.sys.now c.args.mid.now c.degree-degree.ensures.system c.requires.mid c.run.result _
    c.run.auto.mid c.run.ensures.sums) c.run.ensures.stop (λ k row b l. refl)

pub returns-clause-second_half : goal.returns-clause-second_half
returns-clause-second_half g c =
    encloses_second c.args.sys.now c.args.mid.now _ c.degree-degree.ensures.system c.requires.mid c.run.result
    (rounded_value c.args.sys.now c.args.mid.now c.degree-degree.ensures.system c.requires.mid c.run.result _
    c.run.auto.mid c.run.ensures.sums) c.run.ensures.stop (λ k row b l. refl)

pub returns-clause-constant_in_sup : goal.returns-clause-constant_in_sup
returns-clause-constant_in_sup g c e kappa40 only stands tame small =
    let system = c.degree-degree.ensures.system in
    between (least_stop c.args.sys.now c.args.mid.now c.run.result system c.run.ensures.stop)
    (constant_in_sup c.args.sys.now c.args.mid.now c.run.result e kappa40 system c.requires.mid only stands tame small
    (rows_half c.args.sys.now c.args.mid.now system c.requires.can) c.run.ensures.stop)

pub returns-clause-constant_in_sum : goal.returns-clause-constant_in_sum
returns-clause-constant_in_sum g c e kappa40 only few stands tame small =
    let system = c.degree-degree.ensures.system in
    between (least_stop c.args.sys.now c.args.mid.now c.run.result system c.run.ensures.stop)
    (constant_in_sum c.args.sys.now c.args.mid.now c.run.result e kappa40 system c.requires.mid only few stands tame
    small (rows_half c.args.sys.now c.args.mid.now system c.requires.can) c.run.ensures.stop)

pub returns-clause-constant_pair : goal.returns-clause-constant_pair
returns-clause-constant_pair g c half p kappa40 coupling only stands tame small =
    let system = c.degree-degree.ensures.system in
    constant_pair c.args.sys.now c.args.mid.now half p kappa40 coupling system c.requires.mid only stands tame small
    c.run.result (rows_half c.args.sys.now c.args.mid.now system c.requires.can) c.run.ensures.stop

-- numbers of at most 1 are at most 2
twice_as_large : {n : ℕ} → n ≤ 2 ^ 64 → n ≤ 2 ^ 65
twice_as_large h = omega arith

pub returns-clause-constant_near : goal.returns-clause-constant_near
returns-clause-constant_near g c e kappa40 only constant stands tame one =
    steps.constant_near c.args.sys.now c.args.mid.now e kappa40 c.degree-degree.ensures.system c.requires.mid only
    stands tame constant one _ c.run.result
    (returns-clause-constant_in_sup g c e kappa40 only stands tame (λ i. twice_as_large (one.small i)))
    c.run.ensures.sums
