use Rattle.std.proofs.Common.{◌≡◌, ◌+◌, ◌-◌, ◌*◌, ◌^◌, pos, negsuc, get_or, length, take, FitsSigned, arith, rules}
use Rattle.std.proofs.Common.{ap, sym, ◌∙◌, add-one}
use Rattle.std.specs.Int.{w128}
use Rattle.std.proofs.lemmas.Int.{to_z-of_z}
use Rattle.frac_laws.specs.Fraction.{over, whole}
use Rattle.frac_laws.specs.Polynomials.{all_over, shifted, stretched}
use Rattle.named_numbers.specs.Numbers.{cells_of_month, cells_of_year}
use Rattle.poly_small.specs.WholePolynomials.{value_of_sizes}
use Rattle.payment_plan.proofs.Shifts.{IsCell, cell_is_amount}
use Rattle.payment_plan.proofs.Sizes.{forms_of, shift_fits, cell_fits}
use Rattle.whole_laws.proofs.ShortLists.{six_are_all}
use Rattle.payment_plan.proofs.amount.amount_cell.Goals as goal

pub shift-requires : goal.shift-requires
shift-requires c =
    let four : length c.args.s.now.c ≡ 4 = search rules in
    let forms = forms_of c.args.s.now c.in_cells.result.c c.args.month c.args.cell four c.requires.bounded
    c.requires.cell c.in_cells.ensures in
    omega (arith, shift_fits _ _ _ _ forms)

pub reflect-requires : goal.reflect-requires
reflect-requires c =
    let four : length c.args.s.now.c ≡ 4 = search rules in
    let forms = forms_of c.args.s.now c.in_cells.result.c c.args.month c.args.cell four c.requires.bounded
    c.requires.cell c.in_cells.ensures in
    omega (arith, shift_fits _ _ _ _ forms, c.shift.ensures.size)

pub returns-clause-polynomial : goal.returns-clause-polynomial
returns-clause-polynomial c =
    let number-0 : FitsSigned w128 (get_or c.reflect.result.c 0 (pos 0)) = search rules in
    let number-1 : FitsSigned w128 (get_or c.reflect.result.c 1 (pos 0)) = search rules in
    let number-2 : FitsSigned w128 (get_or c.reflect.result.c 2 (pos 0)) = search rules in
    let number-3 : FitsSigned w128 (get_or c.reflect.result.c 3 (pos 0)) = search rules in
    let four : length c.args.s.now.c ≡ 4 = search rules in
    let six : length c.reflect.result.c ≡ 6 = search rules in
    let origin = (c.args.month - c.args.s.now.from) * cells_of_month + c.args.cell + 1 in
    let is : IsCell c.args.s.now.c c.shift.result.c c.reflect.result.c
    ((c.args.month - c.args.s.now.from) * cells_of_month + c.args.cell + 1) =
    record {
      four = four;
      shift = c.shift.ensures.polynomial (cells_of_year ^ 3)
          ∙ ap (λ p. shifted (whole (pos origin)) (all_over (cells_of_year ^ 3) p)) c.in_cells.ensures;
      turn = c.reflect.ensures.polynomial (cells_of_year ^ 3);
    } in
    simp to_z-of_z
    (ap (λ p. all_over (cells_of_year ^ 3) (take 4 p)) (sym (six_are_all c.reflect.result.c six))
    ∙ cell_is_amount _ _ _ _ is
    ∙ ap (λ n. stretched (over (negsuc 0) cells_of_year)
    (shifted (over (pos n) cells_of_year) (all_over 1 c.args.s.now.c)))
    (add-one ((c.args.month - c.args.s.now.from) * cells_of_month + c.args.cell)))

pub returns-clause-size : goal.returns-clause-size
returns-clause-size c =
    let number-0 : FitsSigned w128 (get_or c.reflect.result.c 0 (pos 0)) = search rules in
    let number-1 : FitsSigned w128 (get_or c.reflect.result.c 1 (pos 0)) = search rules in
    let number-2 : FitsSigned w128 (get_or c.reflect.result.c 2 (pos 0)) = search rules in
    let number-3 : FitsSigned w128 (get_or c.reflect.result.c 3 (pos 0)) = search rules in
    let four : length c.args.s.now.c ≡ 4 = search rules in
    let six : length c.reflect.result.c ≡ 6 = search rules in
    let forms = forms_of c.args.s.now c.in_cells.result.c c.args.month c.args.cell four c.requires.bounded
    c.requires.cell c.in_cells.ensures in
    let fits = cell_fits _ _ c.shift.result.c c.reflect.result.c _ _ forms c.shift.ensures.size
    (c.reflect.ensures.size 1) in
    let same = ap (λ p. value_of_sizes (take 4 p) 1) (sym (six_are_all c.reflect.result.c six)) in
    simp to_z-of_z (omega (arith, fits, same))
