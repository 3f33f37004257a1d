-- The text of a session's rule, as other crates need it.
use Rattle.desk_server.proofs.Names.{Ask, Session, arith, cond-true, nat_tests, rule_text_after, ◌≡◌}

-- the text of the rule stays where the document does
pub rule-same : (s : Session) (ask : Ask) → rule_text_after s ask s.plan ≡ s.rule_text
rule-same s ask = grind (arith, cond-true, nat_tests)
