-- A text that is appended part by part.
use Rattle.std.proofs.Common.{◌≡◌, ℕ, List, ◌++◌, append_assoc}

-- six parts, one behind the other
pub six_parts : (start a b c d e f after_a after_b after_c after_d after_e after_f : List ℕ)
    → after_a ≡ start ++ a → after_b ≡ after_a ++ b → after_c ≡ after_b ++ c → after_d ≡ after_c ++ d
    → after_e ≡ after_d ++ e → after_f ≡ after_e ++ f → after_f ≡ start ++ (a ++ b ++ c ++ d ++ e ++ f)
six_parts start a b c d e f after_a after_b after_c after_d after_e after_f ea eb ec ed ee ef =
    rw (ef, ee, ed, ec, eb, ea) (simp append_assoc)
