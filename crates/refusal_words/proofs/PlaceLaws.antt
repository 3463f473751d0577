-- What places stand for, both ways.
use Rattle.std.proofs.Common.{◌≡◌, ℕ, zero, suc, ◌+◌, ◌*◌, ◌<◌, ◌/◌, ◌%◌, ◌-◌, ◌==◌, ◌≤◌, ◌∙◌, false}
use Rattle.std.proofs.Common.{refl, sym, ap, arith}
use Rattle.std.proofs.Math.Nat.{div-add-mod}
use Rattle.std.proofs.lemmas.Bool.Decides.{nat_tests}
use Rattle.refusal_words.specs.declared.places.Place.TheVariants as place
use Rattle.refusal_words.specs.declared.rules.Rule.{Rule}
use Rattle.refusal_words.specs.declared.rules.Rule.TheVariants as rule
use Rattle.refusal_words.specs.Laws.{IsPlaceOf, PlacesAreTold, number_of}
use Rattle.refusal_words.specs.Places.{place_of}

quotient : (k p : ℕ) → p < 4096 → (4096 * k + p) / 4096 ≡ k
quotient k p small = omega arith

remainder : (k p : ℕ) → p < 4096 → (4096 * k + p) % 4096 ≡ p
remainder k p small = omega arith

piece_is : (k p : ℕ) → p < 4096 → place.Piece ((4096 * k + p) / 4096) ((4096 * k + p) % 4096) ≡ place.Piece k p
piece_is k p small = rw (quotient k p small, remainder k p small) refl

step_is : (k p : ℕ) → p < 4096 → place.Step ((4096 * k + p) / 4096) ((4096 * k + p) % 4096) ≡ place.Step k p
step_is k p small = rw (quotient k p small, remainder k p small) refl

-- behind the name and the number of states come the states
later_name : (number : ℕ) → 2 ≤ number → place_of rule.Names number ≡ place.State (number - 2)
later_name number later =
    let not_first : (number == 0) ≡ false = grind (arith, nat_tests) in
    let not_second : (number == 1) ≡ false = grind (arith, nat_tests) in
    rw (not_first, not_second) refl

-- behind the keys come the payers
later_payer : (number : ℕ) → 1 ≤ number → place_of rule.Payers number ≡ place.Payer (number - 1)
later_payer number later =
    let not_first : (number == 0) ≡ false = grind (arith, nat_tests) in
    rw not_first refl

state_is : (i : ℕ) → place_of rule.Names (2 + i) ≡ place.State i
state_is i =
    let same : 2 + i - 2 ≡ i = omega arith in
    later_name (2 + i) (omega arith) ∙ ap (λ k. place.State k) same

payer_is : (i : ℕ) → place_of rule.Payers (1 + i) ≡ place.Payer i
payer_is i =
    let same : 1 + i - 1 ≡ i = omega arith in
    later_payer (1 + i) (omega arith) ∙ ap (λ k. place.Payer k) same

name_back : (number : ℕ) → number_of rule.Names (place_of rule.Names number) ≡ number
name_back zero = refl
name_back (suc zero) = refl
name_back (suc (suc i)) =
    let same : 2 + (suc (suc i) - 2) ≡ suc (suc i) = omega arith in
    ap (number_of rule.Names) (later_name (suc (suc i)) (omega arith)) ∙ same

payer_back : (number : ℕ) → number_of rule.Payers (place_of rule.Payers number) ≡ number
payer_back zero = refl
payer_back (suc i) =
    let same : 1 + (suc i - 1) ≡ suc i = omega arith in
    ap (number_of rule.Payers) (later_payer (suc i) (omega arith)) ∙ same

pattern_back : (number : ℕ) → number < 2 → number_of rule.Pattern (place_of rule.Pattern number) ≡ number
pattern_back zero small = refl
pattern_back (suc zero) small = refl
pattern_back (suc (suc i)) small = absurd (omega arith)

key_back : (number : ℕ) → number < 12 → number_of rule.Keys (place_of rule.Keys number) ≡ number
key_back zero small = refl
key_back (suc zero) small = refl
key_back (suc (suc zero)) small = refl
key_back (suc (suc (suc zero))) small = refl
key_back (suc (suc (suc (suc zero)))) small = refl
key_back (suc (suc (suc (suc (suc zero))))) small = refl
key_back (suc (suc (suc (suc (suc (suc zero)))))) small = refl
key_back (suc (suc (suc (suc (suc (suc (suc zero))))))) small = refl
key_back (suc (suc (suc (suc (suc (suc (suc (suc zero)))))))) small = refl
key_back (suc (suc (suc (suc (suc (suc (suc (suc (suc zero))))))))) small = refl
key_back (suc (suc (suc (suc (suc (suc (suc (suc (suc (suc zero)))))))))) small = refl
key_back (suc (suc (suc (suc (suc (suc (suc (suc (suc (suc (suc zero))))))))))) small = refl
key_back (suc (suc (suc (suc (suc (suc (suc (suc (suc (suc (suc (suc i)))))))))))) small = absurd (omega arith)

back : (own : Rule) (number : ℕ) → IsPlaceOf own number → number_of own (place_of own number) ≡ number
back rule.Keys number here = key_back number here
back rule.Format number here = sym here
back rule.Names number here = name_back number
back rule.Term number here = sym here
back rule.Denominator number here = sym here
back rule.Start number here = sym here
back rule.Transitions number here = refl
back rule.Pieces number here = div-add-mod number 4096
back rule.Coefficients number here = div-add-mod number 4096
back rule.Steps number here = div-add-mod number 4096
back rule.Amounts number here = div-add-mod number 4096
back rule.Lumps number here = refl
back rule.Payers number here = payer_back number
back rule.Pattern number here = pattern_back number here
back rule.Interest number here = refl
back rule.Intensities number here = refl
back rule.Exits number here = refl
back rule.Bound number here = sym here

pub places_are_told : PlacesAreTold
places_are_told = record {
  pieces = piece_is;
  coefficients = piece_is;
  steps = step_is;
  amounts = step_is;
  states = state_is;
  payers = payer_is;
  back = back;
}
