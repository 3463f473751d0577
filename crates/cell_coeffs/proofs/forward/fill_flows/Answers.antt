use Rattle.std.proofs.Common.{ℕ, ◌+◌, ◌*◌, refl, arith, add-one}
use Rattle.frac_laws.specs.Sums.{sum_to}
use Rattle.model_specs.specs.Systems.{intensity_at}
use Rattle.product_cells.specs.EachCell.{forward_cell}
use Rattle.cell_coeffs.proofs.ForwardSteps.{made_forward_kept, flows_more, columns_then}
use Rattle.cell_coeffs.proofs.Links.{adds_none}
use Rattle.cell_coeffs.proofs.RowSteps.{adds_then}
use Rattle.cell_coeffs.proofs.forward.fill_flows.Goals as goal

pub loop-to-init : goal.loop-to-init
loop-to-init c =
    let curves = forward_cell c.args.p.now c.args.month c.args.cell in
    record {
      leaving = adds_none 0 (λ (m : ℕ). sum_to 0 (λ j. intensity_at curves c.args.state j m)) c.args.leaving.now
          (λ m. refl);
      few = λ m. omega (arith, c.requires.few m);
      flows = record {
        flows = λ j m few differ. absurd (omega (arith, few));
        others = λ j m either. c.requires.none j m;
      };
      columns = record {
        places = record { dim = refl; degree = refl; columns = λ row. refl };
        columns = λ r d m differ. refl;
      };
      made = c.requires.made;
    }

pub loop-to-preserved : goal.loop-to-preserved
loop-to-preserved c =
    let curves = forward_cell c.args.p.now c.args.month c.args.cell in
    let i = c.args.state in
    let k = c.loop-to.to in
    let inv = c.loop-to.invariant in
    let others = c.fill_flow.ensures.others in
    record {
      leaving = adds_then (2 * k) 2 (2 * (k + 1)) (λ (m : ℕ). sum_to k (λ j. intensity_at curves i j m))
          (intensity_at curves i k)
          (λ (m : ℕ). sum_to (k + 1) (λ j. intensity_at curves i j m)) _ _ _ (omega arith) (λ m. rw add-one refl)
          inv.leaving c.fill_flow.ensures.leaving;
      few = λ m. omega (arith, inv.few m, c.fill_flow.ensures.grows m);
      flows = flows_more curves i k _ _ inv.flows others c.fill_flow.ensures.flow
          (c.requires.small.loop i);
      columns = columns_then _ _ _ k i inv.columns others;
      made = made_forward_kept c.args.p.now _ _ others.places inv.made;
    }
