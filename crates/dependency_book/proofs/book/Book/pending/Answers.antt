use Rattle.dependency_book.proofs.Names.{BookState, IsRightBook, TextRow, ap, arith, count_by, count_by-le-length, is_pending, length, length-map, rules, state_of, ◌≤◌}
use Rattle.dependency_book.proofs.book.Book.pending.Goals as goal

-- no more texts are pending than there are bookmarks
few : (d : BookState) → IsRightBook d → count_by is_pending d.texts ≤ length d.plan.bookmarks
few d right =
    let same = length-map d.texts (λ (r : TextRow). r.key) in
    let are = ap length right.bookmarks in
    let most = count_by-le-length is_pending d.texts in
    omega (arith, same, are, most)

pub overflow_cast-result : goal.overflow_cast-result
overflow_cast-result c =
    let low = few (state_of c.self.inside) c.self.invariant.held.right in
    let most = c.self.invariant.held.right.core.sound.few_bookmarks in
    let is = rw c.deref.ensures.value at c.pending_count.ensures in
    let small : c.pending_count.result ≤ 4096 = omega (arith, low, most, is) in
    search rules

pub returns-clause-bound : goal.returns-clause-bound
returns-clause-bound c =
    let low = few (state_of c.self.inside) c.self.invariant.held.right in
    let is = rw c.deref.ensures.value at c.pending_count.ensures in
    let few : c.pending_count.result ≤ length c.self.inside.document.bookmarks = omega (arith, low, is) in
    search rules
