use Rattle.document_marks.proofs.Names.{ap, arith, asked_of, length}
use Rattle.document_marks.proofs.Shared.Grown.{is_within}
use Rattle.document_marks.proofs.marks.marks_at_most_after.Goals as goal

pub returns-clause-enough : goal.returns-clause-enough
returns-clause-enough c after edited is =
    let few = (is_within c.args.document.now after (asked_of c.args.edit.now) edited c.branches.ensures.sound is).marks in
    let interventions = ap length c.interventions.ensures in
    let bookmarks = ap length c.bookmarks.ensures.bookmarks in
    let branches = ap length c.branches.ensures.branches in
    let repeats = c.most_repeats.ensures in
    omega (arith, few, interventions, bookmarks, branches, repeats)
