use Rattle.table_lines.proofs.Names.{Ok, Some, definition_in, rules, sym, ◌+◌, ◌≡◌}
use Rattle.table_lines.proofs.variables.Variables.define.Goals as goal

pub returns-clause-read : goal.returns-clause-read
returns-clause-read c =
    let name = c.in-Some.name in
    let found : definition_in c.args.line.now.text ≡ Some (name.now, c.in-Some.members) = search rules in
    let read = rw c.number-2.ensures at c.in_ok-set.ensures in
    rw (found, read) (λ i. Ok (record {
      defined = c.args.self.now.defined + 1;
      named = λ other. sym (c.in-Ok.ensures.updates.0 (record name { now = other })) i;
    }))
