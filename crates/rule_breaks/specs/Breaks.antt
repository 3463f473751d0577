-- What a broken rule stands for in the model.
use Rattle.model_specs.specs.ValuationRules as model
use Rattle.rule_breaks.specs.declared.breaks.RuleBreak.{RuleBreak}

-- the rule and the place, as numbers without a bound
abbrev pub break_of : RuleBreak → model.RuleBreak
break_of b = record { rule = b.rule; place = b.place }
