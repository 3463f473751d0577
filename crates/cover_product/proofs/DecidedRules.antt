-- Rules of lists by tests that compute, for products that are given.
use Rattle.std.specs.Prelude.{◌≡◌, ℕ, suc, pos, ◌-◌, ◌*◌, ◌^◌, ◌<◌, ◌≤◌, Bool, true, not, ◌==◌, nat_le, ℤ, All}
use Rattle.std.specs.Prelude.{List, [], ◌∷◌, length, slice_index, slice_index_or, unsigned_abs}
use Rattle.std.specs.List.{list_all, AllPass}
use Rattle.std.proofs.Common.{ap, arith, lit<}
use Rattle.std.proofs.lemmas.Bool.{leb-true, eqb-true}
use Rattle.std.proofs.lemmas.List.Sums.{AllPass-from_list_all}
use Rattle.whole_laws.specs.Whole.{places}
use Rattle.model_specs.specs.Names.{IsGoodName, is_name_byte}
use Rattle.model_specs.specs.Curve.{Piece, zero_piece}
use Rattle.model_specs.specs.Product.{Step}
use Rattle.model_specs.specs.Payments.{constant_step}
use Rattle.model_specs.specs.MonthNumbers.{bernstein_numerators}
use Rattle.model_specs.specs.RecordRules.{AreDistinct, IsBoundedCurve, IsBoundedPayment, months_of}
use Rattle.model_specs.specs.RecordRules.{piece_starts, step_starts, StartsRise, IsCurve, IsPayment}
use Rattle.model_specs.specs.RecordRules.{is_bounded}
use Rattle.whole_laws.proofs.ListsByPlace.{holds_at_places}
use Rattle.whole_laws.proofs.Tests.{other_numbers}
use Rattle.model_laws.proofs.BoundedCoefficients.{bounded_from_test}

-- a fact of holds_at_places member, by a test of holds_at_places
pub all_by : {A : Type 0} (p : A → Bool) (P : A → Type 0) (xs : List A) → ((x : A) → p x ≡ true → P x)
    → list_all p xs ≡ true → All P xs
all_by p P xs tells h k d b = tells (slice_index_or xs k d) (AllPass-from_list_all p xs h k d b)

abbrev pub numbers_differ : {A : Type 0} → (A → ℕ) → A → List A → Bool
numbers_differ number none xs = list_all (λ j. list_all
    (λ i. not (number (slice_index_or xs i none) == number (slice_index_or xs j none))) (places j)) (places (length xs))

pub distinct_by : {A : Type 0} (number : A → ℕ) (none : A) (xs : List A) → numbers_differ number none xs ≡ true
    → AreDistinct none xs
distinct_by number none xs h i j low within e =
    other_numbers (number (slice_index_or xs i none)) (number (slice_index_or xs j none))
    (holds_at_places j (λ i. not (number (slice_index_or xs i none) == number (slice_index_or xs j none)))
    (holds_at_places (length xs) (λ j. list_all
    (λ i. not (number (slice_index_or xs i none) == number (slice_index_or xs j none))) (places j)) h j within) i low)
    (ap number e)

-- tests beside holds_at_places other
abbrev pub all_true : List Bool → Bool
all_true tests = list_all (λ b. b) tests

pub all_pass : (tests : List Bool) → all_true tests ≡ true → AllPass (λ b. b) tests
all_pass tests h = AllPass-from_list_all (λ b. b) tests h

-- a name
abbrev pub is_good_name : ℕ → List ℕ → List Bool
is_good_name most name = nat_le 1 (length name) ∷ nat_le (length name) most ∷ list_all is_name_byte name ∷ []

pub good_name : (most : ℕ) (name : List ℕ) → all_true (is_good_name most name) ≡ true → IsGoodName most name
good_name most name h =
    let test = all_pass (is_good_name most name) h in
    record {
      not_empty = leb-true 1 (length name) (test 0 true (lit< tt));
      short = leb-true (length name) most (test 1 true (lit< tt));
      bytes = AllPass-from_list_all is_name_byte name (test 2 true (lit< tt));
    }

-- starts that rise from 0 and stay below the term
abbrev pub starts_rise : ℕ → List ℕ → List Bool
starts_rise months starts = nat_le 1 (length starts) ∷ (slice_index starts 0 == 0)
    ∷ list_all (λ k. nat_le (suc (slice_index starts k)) (slice_index starts (suc k))) (places (length starts - 1))
    ∷ list_all (λ k. nat_le (suc (slice_index starts k)) months) (places (length starts)) ∷ []

pub starts_by : (months : ℕ) (starts : List ℕ) → all_true (starts_rise months starts) ≡ true
    → StartsRise months starts
starts_by months starts h =
    let test = all_pass (starts_rise months starts) h in
    record {
      some = leb-true 1 (length starts) (test 0 true (lit< tt));
      first = eqb-true (slice_index starts 0) 0 (test 1 true (lit< tt));
      rising = λ k b. leb-true (suc (slice_index starts k)) (slice_index starts (suc k))
          (holds_at_places (length starts - 1) (λ k. nat_le (suc (slice_index starts k)) (slice_index starts (suc k)))
          (test 2 true (lit< tt)) k (omega (arith, b)));
      below = λ k b. leb-true (suc (slice_index starts k)) months
          (holds_at_places (length starts) (λ k. nat_le (suc (slice_index starts k)) months)
          (test 3 true (lit< tt)) k b);
    }

-- curves
abbrev pub is_curve : ℕ → List Piece → List Bool
is_curve months pieces = list_all (λ piece. length piece.c == 6) pieces
    ∷ all_true (starts_rise months (piece_starts pieces)) ∷ []

pub curve_by : (months : ℕ) (pieces : List Piece) → all_true (is_curve months pieces) ≡ true → IsCurve months pieces
curve_by months pieces h =
    let test = all_pass (is_curve months pieces) h in
    record {
      six = all_by (λ piece. length piece.c == 6) (λ piece. length piece.c ≡ 6) pieces
          (λ piece h. eqb-true (length piece.c) 6 h) (test 0 true (lit< tt));
      starts = starts_by months (piece_starts pieces) (test 1 true (lit< tt));
    }

abbrev pub curve_is_bounded : ℕ → List Piece → Bool
curve_is_bounded months pieces = list_all (λ k. is_bounded (slice_index_or pieces k zero_piece).c
    (months_of months (piece_starts pieces) k)) (places (length pieces))

pub bounded_curve : (months : ℕ) (pieces : List Piece) → curve_is_bounded months pieces ≡ true
    → IsBoundedCurve months pieces
bounded_curve months pieces h k b = bounded_from_test (slice_index_or pieces k zero_piece).c
    (months_of months (piece_starts pieces) k)
    (holds_at_places (length pieces) (λ k. is_bounded (slice_index_or pieces k zero_piece).c
    (months_of months (piece_starts pieces) k)) h k b)

-- payments
abbrev pub is_payment : ℕ → List Step → List Bool
is_payment months steps = list_all (λ step. length step.c == 4) steps
    ∷ all_true (starts_rise months (step_starts steps)) ∷ []

pub payment_by : (months : ℕ) (steps : List Step) → all_true (is_payment months steps) ≡ true
    → IsPayment months steps
payment_by months steps h =
    let test = all_pass (is_payment months steps) h in
    record {
      four = all_by (λ step. length step.c == 4) (λ step. length step.c ≡ 4) steps
          (λ step h. eqb-true (length step.c) 4 h) (test 0 true (lit< tt));
      starts = starts_by months (step_starts steps) (test 1 true (lit< tt));
    }

abbrev pub step_of : List Step → ℕ → List ℤ
step_of steps k = (slice_index_or steps k (constant_step 0 (pos 0))).c

abbrev pub amounts_within : List ℤ → ℕ → Bool
amounts_within c k = list_all (λ b. nat_le (unsigned_abs b) (10 ^ 12 * 2488320)) (bernstein_numerators c k)

abbrev pub coefficients_within : ℕ → List Step → Bool
coefficients_within months steps =
    list_all (λ k. is_bounded (step_of steps k) (months_of months (step_starts steps) k)) (places (length steps))

abbrev pub all_amounts_within : ℕ → List Step → Bool
all_amounts_within months steps = list_all (λ k. list_all (amounts_within (step_of steps k))
    (places (months_of months (step_starts steps) k))) (places (length steps))

abbrev pub is_bounded_payment : ℕ → List Step → List Bool
is_bounded_payment months steps = coefficients_within months steps ∷ all_amounts_within months steps ∷ []

pub bounded_payment : (months : ℕ) (steps : List Step) → all_true (is_bounded_payment months steps) ≡ true
    → IsBoundedPayment months steps
bounded_payment months steps h k b =
    let test = all_pass (is_bounded_payment months steps) h in
    let c = step_of steps k in
    let s = months_of months (step_starts steps) k in
    record {
      coefficients = bounded_from_test c s (holds_at_places (length steps)
          (λ k. is_bounded (step_of steps k) (months_of months (step_starts steps) k)) (test 0 true (lit< tt)) k b);
      amounts = λ j low. all_by (λ z. nat_le (unsigned_abs z) (10 ^ 12 * 2488320))
          (λ z. unsigned_abs z ≤ 10 ^ 12 * 2488320) (bernstein_numerators c j)
          (λ z h. leb-true (unsigned_abs z) (10 ^ 12 * 2488320) h)
          (holds_at_places s (amounts_within c)
          (holds_at_places (length steps) (λ k. list_all (amounts_within (step_of steps k))
          (places (months_of months (step_starts steps) k))) (test 1 true (lit< tt)) k b) j low);
    }
