use Rattle.document_marks.proofs.Names.{AreMarksOf, IsPermutation, acting_marks, ap, ap₂, arith, bookmark_mark, branch_marks, but_start, dedup_same, filter_same, flat_map, is_start, length, map, not, reach, rules, subst, sym, ◌++◌, ◌∙◌}
use Rattle.document_marks.proofs.Marked.{AreMarksOf-once, few_acting, same_rank}
use Rattle.document_marks.proofs.marks.marks_of.Goals as goal

pub add_interventions-requires : goal.add_interventions-requires
add_interventions-requires c =
    let p = c.args.document.now in
    let few = few_acting (reach p) p.interventions in
    let none = ap length c.requires.empty in
    let bookmarks = ap length c.bookmarks.ensures.bookmarks in
    let branches = ap length c.branches.ensures.branches in
    omega (arith, few, none, bookmarks, branches)

pub returns : goal.returns
returns c =
    let p = c.args.document.now in
    let all = c.add_interventions.ensures
    ∙ ap (λ ms. ms ++ flat_map (acting_marks (reach p)) p.interventions)
    (c.add_bookmarks.ensures.marks
    ∙ ap₂ (λ ms bs. ms ++ map bookmark_mark bs)
    (c.add_branches.ensures.marks
    ∙ ap₂ (λ ms bs. ms ++ flat_map branch_marks bs) c.requires.empty c.branches.ensures.branches)
    c.bookmarks.ensures.bookmarks) in
    let beside =
    filter_same _ (λ m. not (is_start m)) _ (λ x b f k. search rules) c.add_interventions.new.marks.items
    c.retain.new.self.items c.retain.ensures.filtered in
    let once =
    dedup_same _ same_rank _ (λ x y b f x' y' k. search rules) c.sort.new.marks.items
    c.dedup_by_key.new.self.items c.dedup_by_key.ensures.filtered in
    subst (AreMarksOf p) (sym once)
    (AreMarksOf-once p c.branches.ensures.sound c.sort.new.marks.items
    (subst (λ ms. IsPermutation ms c.sort.new.marks.items) (beside ∙ ap but_start all) c.sort.ensures.same)
    c.dedup_by_key.new.self.items once c.sort.ensures.sorted
    (let short = c.dedup_by_key.ensures.bound in
    let now = c.dedup_by_key.new.self.ok.0 in
    let was = c.sort.new.marks.ok.0 in omega (arith, short, now, was)))
