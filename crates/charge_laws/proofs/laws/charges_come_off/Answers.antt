use Rattle.charge_laws.proofs.Charges.{charges_come_off_reserves, charges_come_off_values}
use Rattle.charge_laws.proofs.Charges.{charged_premiums_balance}
use Rattle.charge_laws.proofs.laws.charges_come_off.Goals as goal

pub returns-clause-reserves : goal.returns-clause-reserves
returns-clause-reserves c = charges_come_off_reserves

pub returns-clause-values : goal.returns-clause-values
returns-clause-values c = charges_come_off_values

pub returns-clause-balance : goal.returns-clause-balance
returns-clause-balance c = charged_premiums_balance
