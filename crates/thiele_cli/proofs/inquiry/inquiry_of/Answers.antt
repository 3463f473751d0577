use Rattle.std.proofs.Common.{subst, FitsSigned, rules, arith}
use Rattle.std.specs.Int.{w128}
use Rattle.std.proofs.lemmas.Int.{ints, to_z-of_z}
use Rattle.command_words.specs.Commands.{request_of}
use Rattle.thiele_cli.specs.Questions.{IsRead}
use Rattle.thiele_cli.proofs.AuditedClaims.{distance_of_words}
use Rattle.thiele_cli.proofs.inquiry.inquiry_of.Goals as goal

pub returns-in-Audit-clause-well : goal.returns-in-Audit-clause-well
returns-in-Audit-clause-well c =
    let distance = distance_of_words c.in-Audit.name.now c.in-Audit.claims.now c.in-Audit.eps
    (subst (λ command. IsRead (request_of command)) c.in-Audit.is c.requires) in
    let fits : FitsSigned w128 c.in-Audit.eps = first_of (search rules, grind (arith, ints, distance.small)) in
    simp to_z-of_z distance
