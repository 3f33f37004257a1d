use Rattle.dependency_book.proofs.Names.{BookState, IsRightBook, [], ap, arith, length, mark_at, places_of, refl, subst, sym, ◌<◌, ◌∙◌}
use Rattle.dependency_book.proofs.Left.{LeavesNoneBefore, left_first, left_last, left_on}
use Rattle.dependency_book.proofs.Needed.{row_for}
use Rattle.dependency_book.proofs.Shared.Recalling.{recalls_book, recalls_then}
use Rattle.dependency_book.proofs.Standing.{length-keys}
use Rattle.dependency_book.proofs.Outs.{held_by}
use Rattle.dependency_book.proofs.book.Book.recall_all.Goals as goal

pub loop-place-init : goal.loop-place-init
loop-place-init c = record {
  recalls = ([], refl);
  remembers = λ s. refl;
  missed = omega arith;
  none = λ same.
      subst (λ d. LeavesNoneBefore d c.self.inside.cursor.steps) c.self.view_is
      (left_first c.self.invariant.held c.self.inside.cursor.steps c.self.invariant.passed.steps);
  right = subst IsRightBook c.self.view_is c.self.invariant.held.right;
  end =
      let is = c.len-place-end.ensures in
      let ok = c.self.inside.arrivals.ok.0 in
      let same = ap (λ (d : BookState). length d.arrivals) c.self.view_is in
      omega (arith, is, ok, same);
}

pub loop-place-preserved : goal.loop-place-preserved
loop-place-preserved c =
    let d = c.loop-place.self in
    let e = c.recall_at.new.self in
    let i = c.loop-place.invariant in
    let end = i.end in
    let x = row_for (mark_at 0 0) in
    let looks = c.recall_at.ensures.looks x in
    let was = i.missed in
    let more = looks.missed in
    let low : c.loop-place.place < length d.arrivals = omega (arith, end) in
    record {
      recalls = recalls_then c.args.self.now d e i.recalls looks.recalls;
      remembers = λ s. looks.remembers s ∙ i.remembers s;
      missed = omega (arith, was, more);
      none = λ same.
          left_on looks i.right c.loop-place.place x low refl (omega (arith, same, was, more))
          (i.none (omega (arith, same, was, more)));
      right = c.recall_at.ensures.right;
      end = end ∙ sym (length-keys e.arrivals d.arrivals (recalls_book d e looks.recalls).document.marks);
    }

pub returns-clause-all : goal.returns-clause-all
returns-clause-all c =
    let d = c.loop-place.self in
    let i = c.loop-place.invariant in
    let past = c.loop-place-test.false in
    let end = i.end in
    record {
      recalls = i.recalls;
      remembers = i.remembers;
      missed = i.missed;
      none = λ same.
          left_last (held_by d (places_of d.arrivals d.plan.bookmarks) refl i.right)
          (λ m can under. i.none same m can (omega (arith, under, past, end)));
    }
