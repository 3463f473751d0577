-- Whole numbers that are not negative, and lists whose members differ.
use Rattle.std.proofs.Common.{◌≡◌, ℕ, ◌<◌, ◌≤◌, List, [], ◌∷◌, length, map, take, get_or}
use Rattle.std.proofs.Common.{arith, refl, ap, sym, subst, ◌∙◌}
use Rattle.std.specs.Prelude.{Bool, true, false, ◌||◌, ℤ, pos, negsuc, int_le, int_lt}
use Rattle.std.specs.List.{list_any}
use Rattle.std.proofs.lemmas.Bool.{true≢false, false≢true, ltb-true, leb-true, le-leb}
use Rattle.std.proofs.lemmas.List.{get_or-map, length-map}
use Rattle.whole_laws.specs.Whole.{natural_part}
use Rattle.model_specs.specs.RecordRules.{AreDistinct}
use Rattle.product_file.proofs.Passed.{none-passes}

-- what is at least 0 is its natural part
pub is_natural : (z : ℤ) → int_le (pos 0) z ≡ true → z ≡ pos (natural_part z)
is_natural (pos n) h = refl
is_natural (negsuc n) h = absurd (false≢true h)

-- the order of natural parts
pub natural_below : (z w : ℤ) → int_le (pos 0) z ≡ true → int_lt z w ≡ true → natural_part z < natural_part w
natural_below (pos a) (pos b) h l = ltb-true a b l
natural_below (pos a) (negsuc b) h l = absurd (false≢true l)
natural_below (negsuc a) w h l = absurd (false≢true h)

pub natural_most : (z w : ℤ) → int_le (pos 0) z ≡ true → int_le z w ≡ true → natural_part z ≤ natural_part w
natural_most (pos a) (pos b) h l = leb-true a b l
natural_most (pos a) (negsuc b) h l = absurd (false≢true l)
natural_most (negsuc a) w h l = absurd (false≢true h)

-- what is above a number that is not negative is not negative
pub natural_above : (z w : ℤ) → int_le (pos 0) z ≡ true → int_lt z w ≡ true → int_le (pos 0) w ≡ true
natural_above (pos a) (pos b) h l = le-leb 0 b (omega arith)
natural_above (pos a) (negsuc b) h l = absurd (false≢true l)
natural_above (negsuc a) w h l = absurd (false≢true h)

-- a number from 0 to 0 is 0
pub natural_zero : (z : ℤ) → int_le (pos 0) z ≡ true → int_le z (pos 0) ≡ true → natural_part z ≡ 0
natural_zero (pos a) h l = let e : a ≤ 0 = leb-true a 0 l in omega (arith, e)
natural_zero (negsuc a) h l = absurd (false≢true h)

-- a number from 1 on is not negative, and at least 1
pub natural_some : (z : ℤ) → int_le (pos 1) z ≡ true → 1 ≤ natural_part z
natural_some (pos a) h = leb-true 1 a h
natural_some (negsuc a) h = absurd (false≢true h)

pub some_natural : (z : ℤ) → int_le (pos 1) z ≡ true → int_le (pos 0) z ≡ true
some_natural (pos a) h = le-leb 0 a (omega arith)
some_natural (negsuc a) h = absurd (false≢true h)

-- values of a list of items differ where each differs from all earlier ones by a test
pub distinct_values : {A B : Type 0} (bare : B) (f : A → B) (same : B → B → Bool) (items : List A) (d : A)
    → ((y : B) → same y y ≡ true)
    → ((k : ℕ) → k < length items → list_any (λ e. same (f (get_or items k d)) (f e)) (take k items) ≡ false)
    → AreDistinct bare (map f items)
distinct_values bare f same items d always differ i j low below equal =
    let inside : j < length items = subst (λ n. j < n) (length-map items f) below in
    let first : get_or (map f items) i bare ≡ f (get_or items i d) =
    get_or-map f items i d bare (omega (arith, inside)) in
    let second : get_or (map f items) j bare ≡ f (get_or items j d) = get_or-map f items j d bare inside in
    let one : f (get_or items i d) ≡ f (get_or items j d) = sym first ∙ equal ∙ second in
    true≢false (sym (always (f (get_or items j d)))
    ∙ ap (same (f (get_or items j d))) (sym one)
    ∙ none-passes (λ e. same (f (get_or items j d)) (f e)) items j i d (differ j inside) low (omega (arith, inside)))

-- a test of the values is a test of the items
pub any-map : {A B : Type 0} (test : B → Bool) (f : A → B) (xs : List A)
    → list_any test (map f xs) ≡ list_any (λ x. test (f x)) xs
any-map test f [] = refl
any-map test f (x ∷ xs) = ap (λ b. test (f x) || b) (any-map test f xs)
