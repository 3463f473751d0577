use Rattle.std.proofs.Common.{◌≡◌, ℕ, ◌+◌, ◌*◌, refl, arith, rules, add-one, length, ◌<◌}
use Rattle.std.specs.Prelude.{[], ◌∷◌}
use Rattle.frac_laws.specs.Fraction.{Fraction, ◌+ℚ◌, ◌*ℚ◌}
use Rattle.frac_laws.specs.Sums.{sum_to}
use Rattle.frac_laws.proofs.FractionTerms.{ring, terms}
use Rattle.model_specs.specs.Systems.{intensity_at, second_payment_at}
use Rattle.cell_bounds.specs.ScaledSystems.{scaling}
use Rattle.cell_coeffs.specs.Rows.{cell_at}
use Rattle.cell_coeffs.proofs.Links.{intensity-none, adds_none, adds_none_to}
use Rattle.cell_coeffs.proofs.PairLinks.{first-none}
use Rattle.cell_coeffs.proofs.PairRowSteps.{moments_kept, second_links_more, second_rows_then}
use Rattle.cell_coeffs.proofs.RowSteps.{no_loop, adds_then, adds_then_to}
use Rattle.cell_coeffs.proofs.pair_row.fill_second_links.Goals as goal

none_yet : (h : Fraction) → h *ℚ h *ℚ sum_to 0 (λ j. h) ≡ sum_to 0 (λ j. h)
none_yet h = ring (h ∷ []) (hlevel terms) refl

spread : (h x y : Fraction) → h *ℚ h *ℚ x +ℚ h *ℚ h *ℚ y ≡ h *ℚ h *ℚ (x +ℚ y)
spread h x y = ring (h ∷ x ∷ y ∷ []) (hlevel terms) refl

pub loop-to-init : goal.loop-to-init
loop-to-init c =
    let cell = cell_at c.args.p.now c.args.at.which c.args.at.month c.args.at.cell in
    let h = scaling c.args.at.g in
    record {
      leaving = adds_none 0 (λ (m : ℕ). sum_to 0 (λ j. intensity_at cell c.args.state j m)) c.args.leaving.now
          (λ m. refl);
      free = adds_none_to 12 0 (λ (m : ℕ). h *ℚ h *ℚ sum_to 0 (λ j. second_payment_at cell c.args.state j m))
          c.args.free.now (λ m. none_yet h);
      few_leaving = λ m. omega (arith, c.requires.few_leaving m);
      few_free = λ m. omega (arith, c.requires.few_free m);
      links = record {
        links = λ d m few differ. absurd (omega (arith, few));
        coupling = λ d m few differ. absurd (omega (arith, few));
        own = λ m. c.requires.none _ m;
        own_coupling = λ m. c.requires.none _ m;
        later = λ d m past few. c.requires.none d m;
        last = λ d m past. c.requires.none d m;
      };
      rows = record {
        places = record { dim = refl; degree = refl; columns = λ row. refl };
        rows = λ r d m differ. refl;
      };
      made = c.requires.made;
    }

pub loop-to-preserved : goal.loop-to-preserved
loop-to-preserved c =
    let cell = cell_at c.args.p.now c.args.at.which c.args.at.month c.args.at.cell in
    let h = scaling c.args.at.g in
    let i = c.args.state in
    let k = c.loop-to.to in
    let inv = c.loop-to.invariant in
    let link = c.fill_second_link.ensures in
    let next : c.loop-to.to < length c.args.p.now.states = search rules in
    record {
      leaving = adds_then (2 * k) 2 (2 * (k + 1)) (λ (m : ℕ). sum_to k (λ j. intensity_at cell i j m))
          (intensity_at cell i k)
          (λ (m : ℕ). sum_to (k + 1) (λ j. intensity_at cell i j m)) _ _ _ (omega arith) (λ m. rw add-one refl)
          inv.leaving link.leaving;
      free = adds_then_to 12 (9 * k) 9 (9 * (k + 1))
          (λ (m : ℕ). h *ℚ h *ℚ sum_to k (λ j. second_payment_at cell i j m))
          (λ (m : ℕ). h *ℚ h *ℚ second_payment_at cell i k m)
          (λ (m : ℕ). h *ℚ h *ℚ sum_to (k + 1) (λ j. second_payment_at cell i j m)) _ _ _ (omega arith)
          (λ m. rw add-one (spread h (sum_to k (λ j. second_payment_at cell i j m)) (second_payment_at cell i k m)))
          inv.free link.free;
      few_leaving = λ m. omega (arith, inv.few_leaving m, link.leaving_grows m);
      few_free = λ m. omega (arith, inv.few_free m, link.free_grows m);
      links = second_links_more cell h i k _ _ c.requires.state next inv.links link.others link.link
          link.coupling
          (λ m. intensity-none c.args.p.now c.args.at.which c.args.at.month c.args.at.cell i i m
          (no_loop c.args.p.now i c.graph.ensures.lawful))
          (λ m. first-none c.args.p.now c.args.at.which c.args.at.month c.args.at.cell i i
          (no_loop c.args.p.now i c.graph.ensures.lawful) m);
      rows = second_rows_then _ _ _ _ _ _ inv.rows link.others;
      made = moments_kept c.args.p.now _ _ link.others.places inv.made;
    }
