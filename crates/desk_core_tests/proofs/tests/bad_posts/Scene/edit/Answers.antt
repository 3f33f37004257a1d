use Rattle.std.proofs.Common.{◌≡◌, ◌≤◌, ◌∙◌, length, ap, subst, sym, Result, Ok, Err}
use Rattle.std.specs.Prelude.{IfOk, OnErr}
use Rattle.schedule.specs.declared.edit.Edited.{Edited}
use Rattle.schedule.specs.declared.fault.EditFault.{EditFault}
use Rattle.schedule.specs.Asked.{Asked}
use Rattle.dependency_book.specs.BookState.{BookState, given_of}
use Rattle.desk_core.specs.Edited.{Makes}
use Rattle.desk_core_tests.proofs.tests.bad_posts.Scene.edit.Goals as goal

-- an edit leaves a desk its table, and how many numbers were given
stays : (r : Result Edited EditFault) (old new : BookState) (asked : Asked) → IfOk r (Makes asked old new) → OnErr r (new ≡ old) → (new.table ≡ old.table) × (given_of new ≡ given_of old)
stays (Ok edited) old new asked h same = (
  h.table,
  ap (λ es. length es) h.entries,
)
stays (Err fault) old new asked h same = (ap (λ (d : BookState). d.table) same, ap given_of same)

pub invariant_of-self : goal.invariant_of-self
invariant_of-self g c =
    let kept = stays c.edit.result _ c.edit.new.self _ c.edit.ensures.ok c.edit.ensures.unchanged in
    record {
      own = kept.0 ∙ c.args.self.now.own;
      posted = c.args.self.now.posted;
      floor = subst (λ n. c.args.self.now.post.floor ≤ n) (sym kept.1) c.args.self.now.floor;
    }
