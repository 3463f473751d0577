use Rattle.kolmogorov_forward.proofs.equations.runs_obey_kolmogorov.Goals as goal

pub returns-clause-modulus : goal.returns-clause-modulus
returns-clause-modulus c = c.probabilities_converge.ensures c.args.adm.now c.product-product.ensures.admissible

pub returns-clause-defect : goal.returns-clause-defect
returns-clause-defect c = c.defects_are_small.ensures.kolmogorov c.args.adm.now c.product-product.ensures.admissible
