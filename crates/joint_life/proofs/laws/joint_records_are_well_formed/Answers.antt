use Rattle.joint_life.proofs.Records.{joint_records_are_well_formed}
use Rattle.joint_life.proofs.laws.joint_records_are_well_formed.Goals as goal

pub returns : goal.returns
returns c = joint_records_are_well_formed
