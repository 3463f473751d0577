-- What an answer says of the tree that it was read from.
use Rattle.std.specs.Prelude.{◌≡◌, Result, Ok, Err, ⊤}
use Rattle.model_specs.specs.Product.{Product}
use Rattle.model_specs.specs.ValuationRules as model
use Rattle.product_reader.specs.declared.read.ReadError.{ReadError}
use Rattle.product_reader.specs.declared.read.ReadError.TheVariants.{NotToml, Rule, Memory}
use Rattle.rule_breaks.specs.Breaks.{break_of}

-- the answer is what the tree reads as, or memory was refused
abbrev pub IsReadingOf : Result Product ReadError → Result Product model.RuleBreak → Type 0
IsReadingOf (Ok product) reading = reading ≡ Ok product
IsReadingOf (Err (Rule found)) reading = reading ≡ Err (break_of found)
IsReadingOf (Err NotToml) reading = ⊥
IsReadingOf (Err Memory) reading = ⊤
