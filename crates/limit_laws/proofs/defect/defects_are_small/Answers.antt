use Rattle.limit_laws.proofs.RunDefects.{plan_defects_are_small, pattern_defects_are_small}
use Rattle.limit_laws.proofs.RunDefects.{norberg_defects_are_small, kolmogorov_defects_are_small}
use Rattle.limit_laws.proofs.RunPolynomials.{defect_values_are_small}
use Rattle.limit_laws.proofs.defect.defects_are_small.Goals as goal

pub returns-clause-payments : goal.returns-clause-payments
returns-clause-payments c = plan_defects_are_small

pub returns-clause-pattern : goal.returns-clause-pattern
returns-clause-pattern c = pattern_defects_are_small

pub returns-clause-norberg : goal.returns-clause-norberg
returns-clause-norberg c = norberg_defects_are_small

pub returns-clause-kolmogorov : goal.returns-clause-kolmogorov
returns-clause-kolmogorov c = kolmogorov_defects_are_small

pub returns-clause-values : goal.returns-clause-values
returns-clause-values c = defect_values_are_small
