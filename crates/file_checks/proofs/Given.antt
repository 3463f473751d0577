-- The first that is there of values and further values.
use Rattle.std.proofs.Common.{◌≡◌, List, [], ◌∷◌, ◌++◌, Option, Some, None, Result, Ok, Err, refl}
use Rattle.std.specs.Prelude.{IfOk}
use Rattle.model_specs.specs.ValuationRules.{first_given}

pub given_first : {A : Type 0} (xs ys : List (Option A)) (a : A) → Some a ≡ first_given xs
    → Some a ≡ first_given (xs ++ ys)
given_first [] ys a given = cc
given_first (None ∷ xs) ys a given = given_first xs ys a given
given_first (Some x ∷ xs) ys a given = given

pub given_second : {A : Type 0} (xs ys : List (Option A)) → first_given xs ≡ None
    → first_given ys ≡ first_given (xs ++ ys)
given_second [] ys none = refl
given_second (None ∷ xs) ys none = given_second xs ys none
given_second (Some x ∷ xs) ys none = cc

-- what holds of the value holds of it by what follows from it
pub IfOk-follows : {T E : Type 0} (r : Result T E) (P Q : T → Type 0) → ((x : T) → P x → Q x) → IfOk r P → IfOk r Q
IfOk-follows (Ok x) P Q follows h = follows x h
IfOk-follows (Err e) P Q follows h = h
