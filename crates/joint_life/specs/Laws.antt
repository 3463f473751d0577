-- What holds of the joint record of any two lives that can be joined.
use Rattle.model_specs.specs.Product.{Product}
use Rattle.model_specs.specs.RecordRules.{IsWellFormed}
use Rattle.joint_life.specs.Joining.{CanJoin}
use Rattle.joint_life.specs.JointRecord.{joint_of}
use Rattle.joint_life.specs.Marginals.{HasMarginals}

-- it obeys rules 3 to 14
abbrev pub JointRecordsAreWellFormed : Type 0
JointRecordsAreWellFormed = (a b : Product) → CanJoin a b → IsWellFormed (joint_of a b)

-- its marginals are the single lives' probabilities
abbrev pub MarginalsAreSingleLives : Type 0
MarginalsAreSingleLives = (a b : Product) → CanJoin a b → HasMarginals (joint_of a b) a b
