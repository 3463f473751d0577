-- Records of five fields.
use Rattle.std.proofs.Common.{◌≡◌, ℕ, zero, suc, ◌<◌, List, [], ◌∷◌, length, Some, None, arith}
use Rattle.csv.specs.Records.{field_at}

-- the fields of a record that has five are those at its places
pub five_are : (fields : List (List ℕ)) (a b c d e : List ℕ) → length fields ≡ 5 → Some a ≡ field_at fields 0
    → Some b ≡ field_at fields 1 → Some c ≡ field_at fields 2 → Some d ≡ field_at fields 3
    → Some e ≡ field_at fields 4 → fields ≡ a ∷ b ∷ c ∷ d ∷ e ∷ []
unfolding field_at
five_are [] a b c d e count first second third fourth fifth = absurd (omega arith)
five_are (v ∷ []) a b c d e count first second third fourth fifth = absurd (omega arith)
five_are (v ∷ w ∷ []) a b c d e count first second third fourth fifth = absurd (omega arith)
five_are (v ∷ w ∷ x ∷ []) a b c d e count first second third fourth fifth = absurd (omega arith)
five_are (v ∷ w ∷ x ∷ y ∷ []) a b c d e count first second third fourth fifth = absurd (omega arith)
five_are (v ∷ w ∷ x ∷ y ∷ z ∷ []) a b c d e count first second third fourth fifth = cc
five_are (v ∷ w ∷ x ∷ y ∷ z ∷ u ∷ rest) a b c d e count first second third fourth fifth = absurd (omega arith)

-- no place before the end is empty
pub field_is_there : (fields : List (List ℕ)) (i : ℕ) → i < length fields → None ≡ field_at fields i → ⊥
unfolding field_at
field_is_there [] i within none = omega arith
field_is_there (x ∷ fields) zero within none = cc
field_is_there (x ∷ fields) (suc i) within none = field_is_there fields i (omega (arith, within)) none
