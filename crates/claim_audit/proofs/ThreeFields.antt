-- Records of three fields.
use Rattle.std.proofs.Common.{◌≡◌, ℕ, List, [], ◌∷◌, length, Some, None, arith}
use Rattle.csv.specs.Records.{field_at}

-- the fields of a record that has three are those at its places
pub three_are : (fields : List (List ℕ)) (a b c : List ℕ) → length fields ≡ 3 → Some a ≡ field_at fields 0
    → Some b ≡ field_at fields 1 → Some c ≡ field_at fields 2 → fields ≡ a ∷ b ∷ c ∷ []
unfolding field_at
three_are [] a b c count first second third = absurd (omega arith)
three_are (x ∷ []) a b c count first second third = absurd (omega arith)
three_are (x ∷ y ∷ []) a b c count first second third = absurd (omega arith)
three_are (x ∷ y ∷ z ∷ []) a b c count first second third = cc
three_are (x ∷ y ∷ z ∷ w ∷ rest) a b c count first second third = absurd (omega arith)

-- none of the three places is empty
pub first_is_there : (fields : List (List ℕ)) → length fields ≡ 3 → None ≡ field_at fields 0 → ⊥
unfolding field_at
first_is_there [] count none = omega arith
first_is_there (x ∷ fields) count none = cc

pub second_is_there : (fields : List (List ℕ)) → length fields ≡ 3 → None ≡ field_at fields 1 → ⊥
unfolding field_at
second_is_there [] count none = omega arith
second_is_there (x ∷ []) count none = omega arith
second_is_there (x ∷ y ∷ fields) count none = cc

pub third_is_there : (fields : List (List ℕ)) → length fields ≡ 3 → None ≡ field_at fields 2 → ⊥
unfolding field_at
third_is_there [] count none = omega arith
third_is_there (x ∷ []) count none = omega arith
third_is_there (x ∷ y ∷ []) count none = omega arith
third_is_there (x ∷ y ∷ z ∷ fields) count none = cc
