use Rattle.std.proofs.Common.{◌≡◌, ◌+◌, ℕ, pos, refl, ap, ◌∙◌, arith, rules, length}
use Rattle.std.specs.Prelude.{None, [], ◌∷◌}
use Rattle.frac_laws.specs.Fraction.{Fraction, whole, ◌*ℚ◌}
use Rattle.frac_laws.proofs.FractionTerms.{ring, terms}
use Rattle.model_specs.specs.Cells.{transition_between}
use Rattle.model_specs.specs.Systems.{intensity_at, first_payment_at, second_payment_at}
use Rattle.cell_bounds.specs.ScaledSystems.{scaling}
use Rattle.cell_coeffs.specs.Rows.{cell_at}
use Rattle.cell_coeffs.proofs.Cut.{cut_zero}
use Rattle.cell_coeffs.proofs.Links.{intensity-none, adds_near, adds_near_to, adds_none, adds_none_to, stored_zero}
use Rattle.cell_coeffs.proofs.PairLinks.{link_rates_fit, link_payments_fit, link_twice_near, link_written}
use Rattle.cell_coeffs.proofs.PairLinks.{coupling_written, first-none, second-none}
use Rattle.cell_coeffs.proofs.pair_row.fill_second_link.Goals as goal

twice_none : (h x : Fraction) → x ≡ whole (pos 0) → h *ℚ (whole (pos 2) *ℚ x) ≡ whole (pos 0)
twice_none h x none = ap (λ y. h *ℚ (whole (pos 2) *ℚ y)) none ∙ ring (h ∷ []) (hlevel terms) refl

square_none : (h x : Fraction) → x ≡ whole (pos 0) → h *ℚ h *ℚ x ≡ whole (pos 0)
square_none h x none = ap (λ y. h *ℚ h *ℚ y) none ∙ ring (h ∷ []) (hlevel terms) refl

pub paid_all-paid-requires-clause-rates : goal.paid_all-paid-requires-clause-rates
paid_all-paid-requires-clause-rates c =
    link_rates_fit (cell_at c.args.p.now c.args.at.which c.args.at.month c.args.at.cell) (scaling c.args.at.g)
    c.args.from c.args.to c.in-Some.link.rate c.in-Some.link.sum c.in-Some.link.rate c.in-Some.ensures.some
    c.requires.small c.requires.from c.requires.to

pub paid_twice_all-requires-clause-payments : goal.paid_twice_all-requires-clause-payments
paid_twice_all-requires-clause-payments c =
    link_payments_fit (cell_at c.args.p.now c.args.at.which c.args.at.month c.args.at.cell) (scaling c.args.at.g)
    c.args.from c.args.to c.in-Some.link.rate c.in-Some.link.sum c.paid_all-paid.result c.in-Some.ensures.some
    c.requires.small c.requires.from c.requires.to c.paid_all-paid.ensures.value c.paid_all-paid.ensures.none

pub returns-in-Some-clause-leaving : goal.returns-in-Some-clause-leaving
returns-in-Some-clause-leaving c =
    adds_near 2 (intensity_at (cell_at c.args.p.now c.args.at.which c.args.at.month c.args.at.cell) c.args.from
    c.args.to) c.args.leaving.now c.add.new.numbers c.in-Some.link.rate
    (λ m few. c.in-Some.ensures.some.rate m) c.add.ensures

pub returns-in-Some-clause-free : goal.returns-in-Some-clause-free
returns-in-Some-clause-free c =
    let cell = cell_at c.args.p.now c.args.at.which c.args.at.month c.args.at.cell in
    adds_near_to 12 9 (λ (m : ℕ). scaling c.args.at.g *ℚ scaling c.args.at.g
    *ℚ second_payment_at cell c.args.from c.args.to m) c.args.free.now c.add_twice.new.numbers c.paid_twice_all.result
    (λ m few. rw (c.paid_twice_all.ensures.value m few)
    (link_twice_near cell (scaling c.args.at.g) c.args.from c.args.to c.in-Some.link.rate c.in-Some.link.sum
    c.paid_all-paid.result c.in-Some.ensures.some c.requires.small c.requires.from c.requires.to
    c.paid_all-paid.ensures.value c.paid_all-paid.ensures.none m few)) c.add_twice.ensures

pub returns-in-Some-clause-link : goal.returns-in-Some-clause-link
returns-in-Some-clause-link c =
    let cell = cell_at c.args.p.now c.args.at.which c.args.at.month c.args.at.cell in
    let S = length c.args.p.now.states in
    let states : c.states-states.result ≡ length c.args.p.now.states = search rules in
    link_written cell (scaling c.args.at.g) c.args.from c.args.to c.in-Some.link.rate c.in-Some.link.sum
    c.paid_all-paid.result c.in-Some.ensures.some c.requires.small c.requires.from c.requires.to
    c.paid_all-paid.ensures.value c.paid_all-paid.ensures.none (S + c.args.from) c.args.out.now c.put.new.out
    c.put_twice.new.out (S + c.args.to) (λ e. absurd (omega (arith, e, c.requires.to)))
    (rw states at c.put.ensures) (rw states at c.put_twice.ensures)

pub returns-in-Some-clause-coupling : goal.returns-in-Some-clause-coupling
returns-in-Some-clause-coupling c =
    let cell = cell_at c.args.p.now c.args.at.which c.args.at.month c.args.at.cell in
    let S = length c.args.p.now.states in
    let states : c.states-states.result ≡ length c.args.p.now.states = search rules in
    coupling_written cell (scaling c.args.at.g) c.args.from c.args.to c.in-Some.link.rate c.in-Some.link.sum
    c.paid_all-paid.result c.in-Some.ensures.some c.requires.small c.requires.from c.requires.to
    c.paid_all-paid.ensures.value c.paid_all-paid.ensures.none (S + c.args.from) c.args.out.now c.put.new.out
    c.put_twice.new.out (S + c.args.to) (λ e. absurd (omega (arith, e, c.requires.to)))
    (rw states at c.put.ensures) (rw states at c.put_twice.ensures)

pub returns-in_default-clause-leaving : goal.returns-in_default-clause-leaving
returns-in_default-clause-leaving c =
    let none : transition_between c.args.p.now c.args.from c.args.to ≡ None = search rules in
    adds_none 2 (intensity_at (cell_at c.args.p.now c.args.at.which c.args.at.month c.args.at.cell) c.args.from
    c.args.to) c.args.leaving.now
    (λ m. intensity-none c.args.p.now c.args.at.which c.args.at.month c.args.at.cell c.args.from c.args.to m none)

pub returns-in_default-clause-free : goal.returns-in_default-clause-free
returns-in_default-clause-free c =
    let cell = cell_at c.args.p.now c.args.at.which c.args.at.month c.args.at.cell in
    let none : transition_between c.args.p.now c.args.from c.args.to ≡ None = search rules in
    adds_none_to 12 9 (λ (m : ℕ). scaling c.args.at.g *ℚ scaling c.args.at.g
    *ℚ second_payment_at cell c.args.from c.args.to m) c.args.free.now
    (λ m. square_none (scaling c.args.at.g) (second_payment_at cell c.args.from c.args.to m)
    (second-none c.args.p.now c.args.at.which c.args.at.month c.args.at.cell c.args.from c.args.to none m))

pub returns-in_default-clause-link : goal.returns-in_default-clause-link
returns-in_default-clause-link c =
    let none : transition_between c.args.p.now c.args.from c.args.to ≡ None = search rules in
    λ m nothing. stored_zero _ _ (intensity-none c.args.p.now c.args.at.which c.args.at.month c.args.at.cell c.args.from
    c.args.to m none) nothing

pub returns-in_default-clause-coupling : goal.returns-in_default-clause-coupling
returns-in_default-clause-coupling c =
    let cell = cell_at c.args.p.now c.args.at.which c.args.at.month c.args.at.cell in
    let none : transition_between c.args.p.now c.args.from c.args.to ≡ None = search rules in
    λ m nothing. cut_zero _ _ (twice_none (scaling c.args.at.g) (first_payment_at cell c.args.from c.args.to m)
    (first-none c.args.p.now c.args.at.which c.args.at.month c.args.at.cell c.args.from c.args.to none m)) nothing
