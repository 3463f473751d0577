use Rattle.charge_laws.proofs.Charges.{charges_come_off_sojourns}
use Rattle.charge_laws.proofs.laws.charges_come_off_sojourns.Goals as goal

pub returns : goal.returns
returns c = charges_come_off_sojourns
