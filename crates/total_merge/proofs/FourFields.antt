-- Records of four fields.
use Rattle.std.proofs.Common.{◌≡◌, ℕ, List, [], ◌∷◌, length, Some, arith}
use Rattle.csv.specs.Records.{field_at}

-- the fields of a record that has four are those at its places
pub four_are : (fields : List (List ℕ)) (a b c d : List ℕ) → length fields ≡ 4 → Some a ≡ field_at fields 0
    → Some b ≡ field_at fields 1 → Some c ≡ field_at fields 2 → Some d ≡ field_at fields 3
    → fields ≡ a ∷ b ∷ c ∷ d ∷ []
unfolding field_at
four_are [] a b c d count first second third fourth = absurd (omega arith)
four_are (v ∷ []) a b c d count first second third fourth = absurd (omega arith)
four_are (v ∷ w ∷ []) a b c d count first second third fourth = absurd (omega arith)
four_are (v ∷ w ∷ x ∷ []) a b c d count first second third fourth = absurd (omega arith)
four_are (v ∷ w ∷ x ∷ y ∷ []) a b c d count first second third fourth = cc
four_are (v ∷ w ∷ x ∷ y ∷ z ∷ rest) a b c d count first second third fourth = absurd (omega arith)
