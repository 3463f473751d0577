-- A text that is appended part by part.
use Rattle.std.proofs.Common.{◌≡◌, ℕ, List, ◌++◌, append_assoc}

-- three parts, one behind the other
pub three_parts : (start a b c after_a after_b after_c : List ℕ) → after_a ≡ start ++ a → after_b ≡ after_a ++ b
    → after_c ≡ after_b ++ c → after_c ≡ start ++ (a ++ b ++ c)
three_parts start a b c after_a after_b after_c ea eb ec = rw (ec, eb, ea) (simp append_assoc)

-- four parts
pub four_parts : (start a b c d after_a after_b after_c after_d : List ℕ) → after_a ≡ start ++ a
    → after_b ≡ after_a ++ b → after_c ≡ after_b ++ c → after_d ≡ after_c ++ d → after_d ≡ start ++ (a ++ b ++ c ++ d)
four_parts start a b c d after_a after_b after_c after_d ea eb ec ed = rw (ed, ec, eb, ea) (simp append_assoc)
