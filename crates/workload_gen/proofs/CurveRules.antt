-- The curves of a generated tree: a piece for each year, with four coefficients.
use Rattle.std.proofs.Common.{◌≡◌, ℕ, zero, suc, ◌+◌, ◌*◌, ◌^◌, ◌<◌, ◌≤◌, List, [], ◌∷◌, arith, refl, ap, ◌∙◌, inl, inr}
use Rattle.std.specs.Prelude.{pos, Bool, true, None, ◌&&◌, map, nat_le, int_lt, codes}
use Rattle.std.specs.Prelude.{slice_index_or}
use Rattle.std.proofs.lemmas.Bool.{cases_lt}
use Rattle.std.proofs.lemmas.Int.{ints}
use Rattle.std.proofs.Math.Nat.{pow-le-pow_left}
use Rattle.toml.specs.Data.{Data, Members}
use Rattle.toml.specs.View.{items_of}
use Rattle.whole_laws.specs.Whole.{list_of}
use Rattle.model_specs.specs.Curve.{Piece, zero_piece}
use Rattle.model_specs.specs.RecordRules.{months_of, piece_starts, is_bounded}
use Rattle.whole_laws.proofs.ListsByPlace.{at-list_of, past-list_of, length-list_of, map-list_of}
use Rattle.whole_laws.proofs.Tests.{within_is as at_most, passes_both}
use Rattle.product_file.specs.Checks.{first_failed, first_failed_of_lists}
use Rattle.product_file.specs.Members.{listed, item_at, whole_of}
use Rattle.product_file.specs.HeadRules.{is_format_1}
use Rattle.product_file.specs.CurveRules.{rule_8, rule_8_of, rule_9, rule_9_of, piece_of, months_of_term}
use Rattle.product_file.specs.CurveRules.{is_piece, is_in_order, start_of, curve_items}
use Rattle.workload_gen.specs.declared.transition.Transition.{Transition}
use Rattle.workload_gen.specs.declared.transition.Transition.TheVariants as variant
use Rattle.workload_gen.specs.Draws.{state_after, draw_at}
use Rattle.workload_gen.specs.Transitions.{level_of, spread_of}
use Rattle.workload_gen.specs.Tree.{rate, interest, year_piece, state_before, generated}
use Rattle.workload_gen.proofs.Passing.{some_places_pass, places_pass}

pub listed-items : (ds : List Data) → listed (items_of ds) ≡ ds
listed-items [] = refl
listed-items (d ∷ ds) = ap (λ more. d ∷ more) (listed-items ds)

-- the pieces of a transition, by their years
pub rate-years : (t : Transition) (x : ℕ) → listed (items_of (rate t x)) ≡ list_of 65 (year_piece t x)
unfolding rate
rate-years t x = listed-items (list_of 65 (year_piece t x))

-- an order as a test
before : (a b : ℕ) → a < b → int_lt (pos a) (pos b) ≡ true
before a b h = grind (arith, ints)

-- where pieces start a year apart, they are in order
starts_in_order : (n : ℕ) (f : ℕ → Data) (months : ℕ) → ((i : ℕ) → i < n → start_of (f i) ≡ pos (12 * i))
    → 12 * n ≤ months → (i : ℕ) → i < n → is_in_order (pos months) (list_of n f) i ≡ true
starts_in_order n f months starts within zero below =
    let first : start_of (item_at (list_of n f) 0) ≡ pos 0 =
    ap start_of (at-list_of n f 0 _ below) ∙ starts 0 below in
    rw first (passes_both _ _ refl (before 0 months (omega arith)))
starts_in_order n f months starts within (suc i) below =
    let here : start_of (item_at (list_of n f) i) ≡ pos (12 * i) =
    ap start_of (at-list_of n f i _ (omega arith)) ∙ starts i (omega arith) in
    let next : start_of (item_at (list_of n f) (suc i)) ≡ pos (12 * suc i) =
    ap start_of (at-list_of n f (suc i) _ below) ∙ starts (suc i) below in
    rw (here, next) (passes_both _ _ (before (12 * i) (12 * suc i) (omega arith))
    (before (12 * suc i) months (omega arith)))

-- pieces that start a year apart, in a file of format 1
pieces_pass_8 : (tree : Members) (items : List Data) (n months : ℕ) (f : ℕ → Data) → items ≡ list_of n f → 0 < n
    → 12 * n ≤ months → whole_of (codes "months") tree ≡ pos months → is_format_1 tree ≡ true
    → ((i : ℕ) → i < n → start_of (f i) ≡ pos (12 * i)) → ((i : ℕ) → is_piece 4 (f i) ≡ true)
    → first_failed (rule_8_of tree items) ≡ None
pieces_pass_8 tree items n months f is some within term format starts pieces =
    rw (is, term, format, length-list_of n f)
    (some_places_pass n (λ i. is_piece 4 (item_at (list_of n f) i) && is_in_order (pos months) (list_of n f) i) some
    (λ i below. passes_both _ _ (rw (at-list_of n f i _ below) (pieces i))
    (starts_in_order n f months starts within i below)))

years_pass_8 : (tree : Members) (t : Transition) (x : ℕ) → whole_of (codes "months") tree ≡ pos 780
    → is_format_1 tree ≡ true → first_failed (rule_8_of tree (listed (items_of (rate t x)))) ≡ None
years_pass_8 tree t x term format =
    pieces_pass_8 tree _ 65 780 (year_piece t x) (rate-years t x) (omega arith) (omega arith) term format
    (λ i below. refl) (λ i. refl)

-- the curves of a generated tree: the force of interest, and that of each transition
five_pass : (a b c d e : List Bool) → first_failed a ≡ None → first_failed b ≡ None → first_failed c ≡ None
    → first_failed d ≡ None → first_failed e ≡ None → first_failed_of_lists (a ∷ b ∷ c ∷ d ∷ e ∷ []) ≡ None
five_pass a b c d e ha hb hc hd he = rw (ha, hb, hc, hd, he)

abbrev rate_items : ℕ → Transition → List Data
rate_items seed t = listed (items_of (rate t (state_before (state_after seed 1) t)))

curves_pass : (seed : ℕ) (rule : List Data → List Bool) → first_failed (rule interest) ≡ None
    → ((t : Transition) → first_failed (rule (rate_items seed t)) ≡ None)
    → first_failed_of_lists (map rule (curve_items (generated seed))) ≡ None
curves_pass seed rule first rates =
    five_pass (rule interest) (rule (rate_items seed variant.Disability)) (rule (rate_items seed variant.Recovery))
    (rule (rate_items seed variant.DeathOfActive)) (rule (rate_items seed variant.DeathOfDisabled)) first
    (rates variant.Disability) (rates variant.Recovery) (rates variant.DeathOfActive) (rates variant.DeathOfDisabled)

pub pieces_pass : (seed : ℕ) → first_failed_of_lists (rule_8 (generated seed)) ≡ None
pieces_pass seed = curves_pass seed (rule_8_of (generated seed)) refl
    (λ t. years_pass_8 (generated seed) t (state_before (state_after seed 1) t) refl refl)

-- each piece holds for a year
year_long : (n months : ℕ) (g : ℕ → ℕ) → ((i : ℕ) → i < n → g i ≡ 12 * i) → 12 * n ≡ months → (i : ℕ) → i < n
    → months_of months (list_of n g) i ≡ 12
year_long n months g starts term i below =
    let here : slice_index_or (list_of n g) i 0 ≡ 12 * i = at-list_of n g i 0 below ∙ starts i below in
    elim (cases_lt (suc i) n) [
      | inl more ↦
          let next : slice_index_or (list_of n g) (suc i) months ≡ 12 * suc i =
          at-list_of n g (suc i) months more ∙ starts (suc i) more in
          rw (here, next) (omega arith)
      | inr last ↦
          let next : slice_index_or (list_of n g) (suc i) months ≡ months =
          past-list_of n g (suc i) months last in
          rw (here, next) (omega arith)
    ]

pieces_pass_9 : (tree : Members) (items : List Data) (n months : ℕ) (f : ℕ → Data) → items ≡ list_of n f
    → months_of_term tree ≡ months → 12 * n ≡ months → ((i : ℕ) → i < n → (piece_of (f i)).from ≡ 12 * i)
    → ((i : ℕ) → i < n → is_bounded (piece_of (f i)).c 12 ≡ true) → first_failed (rule_9_of tree items) ≡ None
pieces_pass_9 tree items n months f is term all starts bounded =
    let g : ℕ → Piece = λ i. piece_of (f i) in
    let from : ℕ → ℕ = λ i. (piece_of (f i)).from in
    let pieces : map piece_of items ≡ list_of n g = ap (map piece_of) is ∙ map-list_of piece_of n f in
    let from_is : piece_starts (list_of n g) ≡ list_of n from = map-list_of (λ (p : Piece). p.from) n g in
    rw (pieces, term, length-list_of n g)
    (places_pass n (λ i. is_bounded (slice_index_or (list_of n g) i zero_piece).c
    (months_of months (piece_starts (list_of n g)) i))
    (λ i below. rw (at-list_of n g i zero_piece below, from_is, year_long n months from starts all i below)
    (bounded i below)))

-- the coefficients of a year's piece are small
six_bounded : (a b c d : ℕ) → a ≤ 10 ^ 9 → b ≤ 10 ^ 9 → c ≤ 10 ^ 9 → d ≤ 10 ^ 9
    → is_bounded (pos a ∷ pos b ∷ pos c ∷ pos d ∷ pos 0 ∷ pos 0 ∷ []) 12 ≡ true
six_bounded a b c d ha hb hc hd =
    let first : nat_le (a * 1) (10 ^ 22) ≡ true = at_most (a * 1) (10 ^ 22) (omega arith) in
    let second : nat_le (b * 12) (10 ^ 22) ≡ true = at_most (b * 12) (10 ^ 22) (omega arith) in
    let third : nat_le (c * 144) (10 ^ 22) ≡ true = at_most (c * 144) (10 ^ 22) (omega arith) in
    let fourth : nat_le (d * 1728) (10 ^ 22) ≡ true = at_most (d * 1728) (10 ^ 22) (omega arith) in
    rw (first, second, third, fourth)

-- what is drawn is below its limit
pub drawn_below : (x place n : ℕ) → 0 < n → draw_at x place n < n
drawn_below x place n some = omega arith

pub square_most : (year : ℕ) → year < 65 → year ^ 2 ≤ 4096
square_most year below =
    let small : year ≤ 64 = omega arith in
    omega (arith, pow-le-pow_left small 2)

pub level_most : (t : Transition) (year : ℕ) → year < 65 → level_of t year ≤ 200000000
level_most variant.Disability year below = omega (arith, square_most year below)
level_most variant.Recovery year below = omega arith
level_most variant.DeathOfActive year below = omega (arith, square_most year below)
level_most variant.DeathOfDisabled year below = omega (arith, square_most year below)

pub spread_most : (t : Transition) → (0 < spread_of t) × (spread_of t ≤ 1000000)
spread_most variant.Disability = (omega arith, omega arith)
spread_most variant.Recovery = (omega arith, omega arith)
spread_most variant.DeathOfActive = (omega arith, omega arith)
spread_most variant.DeathOfDisabled = (omega arith, omega arith)

year_bounded : (t : Transition) (x year : ℕ) → year < 65 → is_bounded (piece_of (year_piece t x year)).c 12 ≡ true
year_bounded t x year below =
    let y = state_after x (4 * year) in
    six_bounded (level_of t year + draw_at y 0 (spread_of t)) (draw_at y 1 1000000) (draw_at y 2 500000)
    (draw_at y 3 100000)
    (omega (arith, level_most t year below, (spread_most t).1, drawn_below y 0 (spread_of t) (spread_most t).0))
    (omega (arith, drawn_below y 1 1000000 (omega arith))) (omega (arith, drawn_below y 2 500000 (omega arith)))
    (omega (arith, drawn_below y 3 100000 (omega arith)))

pub sizes_pass : (seed : ℕ) → first_failed_of_lists (rule_9 (generated seed)) ≡ None
sizes_pass seed = curves_pass seed (rule_9_of (generated seed)) refl
    (λ t. let x = state_before (state_after seed 1) t in
    pieces_pass_9 (generated seed) (rate_items seed t) 65 780 (year_piece t x) (rate-years t x) refl refl
    (λ i below. refl) (λ i below. year_bounded t x i below))
