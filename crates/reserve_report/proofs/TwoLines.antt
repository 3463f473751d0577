-- One line after another.
use Rattle.std.proofs.Common.{◌≡◌, ℕ, List, ◌++◌, ap, ◌∙◌, append_assoc}

pub two_lines : (start a b middle end : List ℕ) → middle ≡ start ++ a → end ≡ middle ++ b → end ≡ start ++ (a ++ b)
two_lines start a b middle end first second = second ∙ ap (λ text. text ++ b) first ∙ append_assoc start a b
