-- When a read is refused.
use Rattle.std.specs.Prelude.{◌⊎◌, Result, IsErrOf}
use Rattle.product_reader.specs.declared.read.ReadError.{ReadError}
use Rattle.product_reader.specs.declared.read.ReadError.TheVariants.{Memory}

-- the refusal comes exactly where its cause is, unless memory runs out
pub record ComesWhere {T : Type 0} (result : Result T ReadError) (refusal : ReadError) (Cause : Type 0)
    : Type 0 where
  pub only : IsErrOf result refusal → Cause
  pub always : Cause → IsErrOf result refusal ⊎ IsErrOf result Memory
