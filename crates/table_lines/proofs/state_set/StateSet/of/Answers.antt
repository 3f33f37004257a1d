use Rattle.table_lines.proofs.Names.{List, ap, arith, eqb, has, or-false, rising-agree, rising_one, ℕ, ◌||◌, ◌∙◌}
use Rattle.table_lines.proofs.state_set.StateSet.of.Goals as goal

pub returns : goal.returns
returns c =
    c.insert.ensures
    ∙ rising-agree _ (λ s. eqb s c.args.state) (λ s _. ap (λ (xs : List ℕ). eqb s c.args.state || has xs s) c.empty-set.ensures ∙ or-false _)
    ∙ rising_one c.args.state (omega arith)
