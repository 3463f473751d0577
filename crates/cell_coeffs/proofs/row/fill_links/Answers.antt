use Rattle.std.proofs.Common.{◌≡◌, ℕ, ◌+◌, ◌*◌, refl, arith, add-one}
use Rattle.std.specs.Prelude.{[], ◌∷◌}
use Rattle.frac_laws.specs.Fraction.{Fraction, ◌+ℚ◌, ◌*ℚ◌}
use Rattle.frac_laws.specs.Sums.{sum_to}
use Rattle.frac_laws.proofs.FractionTerms.{ring, terms}
use Rattle.model_specs.specs.Systems.{intensity_at, first_payment_at}
use Rattle.cell_bounds.specs.ScaledSystems.{scaling}
use Rattle.cell_coeffs.specs.Rows.{cell_at}
use Rattle.cell_coeffs.proofs.Links.{intensity-none, adds_none}
use Rattle.cell_coeffs.proofs.RowSteps.{no_loop, adds_then, places_kept, links_more, rows_then}
use Rattle.cell_coeffs.proofs.row.fill_links.Goals as goal

none_yet : (h : Fraction) → h *ℚ sum_to 0 (λ j. h) ≡ sum_to 0 (λ j. h)
none_yet h = ring (h ∷ []) (hlevel terms) refl

spread : (h x y : Fraction) → h *ℚ x +ℚ h *ℚ y ≡ h *ℚ (x +ℚ y)
spread h x y = ring (h ∷ x ∷ y ∷ []) (hlevel terms) refl

pub loop-to-init : goal.loop-to-init
loop-to-init c =
    let cell = cell_at c.args.p.now c.args.at.which c.args.at.month c.args.at.cell in
    record {
      leaving = adds_none 0 (λ (m : ℕ). sum_to 0 (λ j. intensity_at cell c.args.state j m)) c.args.leaving.now
          (λ m. refl);
      free = adds_none 0 (λ (m : ℕ). scaling c.args.at.g *ℚ sum_to 0 (λ j. first_payment_at cell c.args.state j m))
          c.args.free.now
          (λ m. none_yet (scaling c.args.at.g));
      few_leaving = c.requires.few_leaving;
      few_free = c.requires.few_free;
      links = record {
        links = λ d m few differ. absurd (omega (arith, few));
        others =
            λ d m either. c.requires.none d m;
      };
      rows = record {
        places = record { dim = refl; degree = refl; columns = λ row. refl };
        rows =
            λ r d m differ. refl;
      };
      made = c.requires.made;
    }

pub loop-to-preserved : goal.loop-to-preserved
loop-to-preserved c =
    let cell = cell_at c.args.p.now c.args.at.which c.args.at.month c.args.at.cell in
    let i = c.args.state in
    let k = c.loop-to.to in
    let inv = c.loop-to.invariant in
    let others = c.fill_link.ensures.others in
    record {
      leaving = adds_then (2 * k) 2 (2 * (k + 1)) (λ (m : ℕ). sum_to k (λ j. intensity_at cell i j m))
          (intensity_at cell i k)
          (λ (m : ℕ). sum_to (k + 1) (λ j. intensity_at cell i j m)) _ _ _ (omega arith) (λ m. rw add-one refl)
          inv.leaving c.fill_link.ensures.leaving;
      free = adds_then (5 * k) 5 (5 * (k + 1)) (λ (m : ℕ). scaling c.args.at.g
          *ℚ sum_to k (λ j. first_payment_at cell i j m))
          (λ (m : ℕ). scaling c.args.at.g *ℚ first_payment_at cell i k m)
          (λ (m : ℕ). scaling c.args.at.g *ℚ sum_to (k + 1) (λ j. first_payment_at cell i j m)) _ _ _ (omega arith)
          (λ m. rw add-one (spread (scaling c.args.at.g) (sum_to k (λ j. first_payment_at cell i j m))
          (first_payment_at cell i k m)))
          inv.free c.fill_link.ensures.free;
      few_leaving = λ m. omega (arith, inv.few_leaving m, c.fill_link.ensures.leaving_grows m);
      few_free = λ m. omega (arith, inv.few_free m, c.fill_link.ensures.free_grows m);
      links = links_more cell i k _ _ inv.links others c.fill_link.ensures.link
          (λ m. intensity-none c.args.p.now c.args.at.which c.args.at.month c.args.at.cell i i m
          (no_loop c.args.p.now i c.graph.ensures.lawful));
      rows = rows_then _ _ _ i k inv.rows others;
      made = places_kept c.args.p.now _ _ others.places inv.made;
    }
