-- Good names are text.
use Rattle.std.proofs.Common.{◌≡◌, ℕ, ◌<◌, ◌≤◌, List, length, get_or, arith, sym, ◌∙◌, inl, inr}
use Rattle.std.specs.Prelude.{true, false, IsUtf8}
use Rattle.std.proofs.lemmas.Bool.{cases_lt, true≢false}
use Rattle.std.proofs.lemmas.Bool.Decides.{nat_tests}
use Rattle.std.proofs.lemmas.List.{get_or_past}
use Rattle.std.proofs.lemmas.Str.{IsUtf8-from_ascii}
use Rattle.model_specs.specs.Names.{IsGoodName, is_name_byte}

-- a byte of a name is ASCII
not_of_a_name : (b : ℕ) → 128 ≤ b → is_name_byte b ≡ false
not_of_a_name b h = grind (arith, nat_tests)

byte_is_ascii : (b : ℕ) → is_name_byte b ≡ true → b < 128
byte_is_ascii b h = elim (cases_lt b 128) [
  | inl below ↦ below
  | inr above ↦ absurd (true≢false (sym h ∙ not_of_a_name b (omega (arith, above))))
]

pub name_is_text : (most : ℕ) (name : List ℕ) → IsGoodName most name → IsUtf8 name
name_is_text most name good = IsUtf8-from_ascii name (λ i. elim (cases_lt i (length name)) [
  | inl below ↦ byte_is_ascii (get_or name i 0) (good.bytes i 0 below)
  | inr above ↦ rw (get_or_past name i 0 (omega (arith, above))) (omega arith)
])
