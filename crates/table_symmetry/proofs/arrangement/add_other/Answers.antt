use Rattle.std.proofs.Common.{sym, ◌∙◌}
use Rattle.table_symmetry.proofs.Arranged.{list-known, list-more}
use Rattle.table_symmetry.proofs.arrangement.add_other.Goals as goal

pub returns-then-contains : goal.returns-then-contains
returns-then-contains c = list-known c.args.lists.now.items c.args.list (sym (rw c.deref.ensures.value at c.contains.ensures.value) ∙ c.if-contains.true)

pub returns : goal.returns
returns c = rw c.in_ok-push.ensures.items (list-more c.args.lists.now.items c.args.list (sym (rw c.deref.ensures.value at c.contains.ensures.value) ∙ c.if-contains.false))
