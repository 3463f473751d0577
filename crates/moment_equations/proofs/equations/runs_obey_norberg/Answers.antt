use Rattle.moment_equations.proofs.equations.runs_obey_norberg.Goals as goal

pub returns-clause-first_modulus : goal.returns-clause-first_modulus
returns-clause-first_modulus c =
    c.reserves_converge.ensures.payments c.args.adm.now c.product-product.ensures.admissible

pub returns-clause-first_defect : goal.returns-clause-first_defect
returns-clause-first_defect c =
    c.defects_are_small.ensures.payments c.args.adm.now c.product-product.ensures.admissible

pub returns-clause-modulus : goal.returns-clause-modulus
returns-clause-modulus c = c.second_moments_converge.ensures c.args.adm.now c.product-product.ensures.admissible

pub returns-clause-defect : goal.returns-clause-defect
returns-clause-defect c = c.defects_are_small.ensures.norberg c.args.adm.now c.product-product.ensures.admissible
