use Rattle.thiele_cli.proofs.auditing.audit_answer.Given as goal

abbrev pub ghosts-counted_audit : goal.ghosts-counted_audit
ghosts-counted_audit a = record { name = a.blank.name; parts = a.blank.parts }
