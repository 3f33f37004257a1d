use Rattle.std.proofs.Common.{◌≡◌, ◌+◌, ◌∙◌, [], ◌∷◌, drop, sym, ap, subst, arith, Some, None}
use Rattle.std.specs.List.{AllByRecursion}
use Rattle.std.proofs.lemmas.List.{drop_all, drop_more, drop-set-lt, get_or_default}
use Rattle.ranked_rows.specs.Rows.{rows_from}
use Rattle.ranked_rows.proofs.Passed.{IsTaken, all_from, none_taken, taken}
use Rattle.ranked_rows.proofs.remake.Left.row.Goals.{After-index_mut, After-anew, else-place-len-via-then-place-len+else-rank, else-place-len-via-else-place-len}
use Rattle.ranked_rows.proofs.remake.Left.row.Goals as goal

-- the row at the place is the first of those from the key's rank on
first : (g : _) (c : After-index_mut g) → rows_from g.T.Ranked.rank (g.M.Remakes.key_rank c.args.key.now) c.args.self.now
    ≡ c.index_mut.result.now ∷ drop (c.self.inside.place + 1) c.self.inside.rows.items
first g c =
    let rows = c.self.inside.rows.items in
    let k = c.self.inside.place in
    let x = c.index_mut.result.now in
    ap (λ n. rows_from g.T.Ranked.rank n c.args.self.now) (sym c.key_rank-rank.ensures)
    ∙ sym (c.self.view_is ∙ c.pass.ensures)
    ∙ drop_more rows k x (omega (arith, c.if-place-len.true, c.len.ensures))
    ∙ ap (λ y. y ∷ drop (k + 1) rows) (sym c.index_mut.ensures.value)

takes : (g : _) (c : After-index_mut g) → IsTaken g.T.Ranked.rank (g.M.Remakes.key_rank c.args.key.now) c.args.self.now
    (Some c.index_mut.result.now) (drop (c.self.inside.place + 1) c.self.inside.rows.items)
takes g c =
    let rank = g.T.Ranked.rank in
    let rows = c.self.inside.rows.items in
    let k = c.self.inside.place in
    let x = c.index_mut.result.now in
    let y = c.index.result.now in
    let same : x ≡ y = c.index_mut.ensures.value ∙ get_or_default rows k x y (omega (arith, c.if-place-len.true, c.len.ensures))
    ∙ sym c.index.ensures in
    taken rank (g.M.Remakes.key_rank c.args.key.now) c.args.self.now x (drop (k + 1) rows) c.requires.ranked (first g c)
    (ap rank same ∙ sym c.rank.ensures ∙ c.if-rank.true ∙ c.key_rank-rank.ensures)

takes_none : (g : _) (c : After-anew g) → IsTaken g.T.Ranked.rank (g.M.Remakes.key_rank c.args.key.now) c.args.self.now
    None c.pass.new.self
takes_none g c =
    let rank = g.T.Ranked.rank in
    let n = g.M.Remakes.key_rank c.args.key.now in
    let rows = c.self.inside.rows.items in
    let k = c.self.inside.place in
    let from : c.pass.new.self ≡ rows_from rank n c.args.self.now =
    c.pass.ensures ∙ ap (λ m. rows_from rank m c.args.self.now) c.key_rank-rank.ensures in
    subst (IsTaken rank n c.args.self.now None) (sym from)
    (none_taken rank n c.args.self.now c.requires.ranked (λ x xs is named.
    let left : drop k rows ≡ x ∷ xs = c.self.view_is ∙ from ∙ is in
    elim c.else-place-len.branch [
      | else-place-len-via-then-place-len+else-rank w ↦
          (let y = w.index.result.now in
          let head = sym (drop_more rows k y (omega (arith, w.if-place-len.true, c.len.ensures))) ∙ left in
          let same : y ≡ x = w.index.ensures ∙ cc in
          w.if-rank.false (w.rank.ensures ∙ ap rank same ∙ named ∙ sym c.key_rank-rank.ensures))
      | else-place-len-via-else-place-len w ↦
          (let none : [] ≡ x ∷ xs = sym (drop_all k rows (omega (arith, w.if-place-len.false, c.len.ensures))) ∙ left in cc)
    ]))

pub of_old-requires : goal.of_old-requires
of_old-requires g c =
    let owed = all_from (g.M.Remakes.may_go c.args.maker.now) g.T.Ranked.rank (g.M.Remakes.key_rank c.args.key.now)
    c.args.self.now c.requires.may_go in
    (subst (AllByRecursion (g.M.Remakes.may_go c.args.maker.now)) (first g c) owed).0

pub returns-then-rank-clause-row : goal.returns-then-rank-clause-row
returns-then-rank-clause-row g c =
    c.of_old.ensures ∙ ap (g.M.Remakes.made c.args.maker.now c.args.key.now) (sym (takes g c.before.before).is)

pub returns-then-rank-clause-left : goal.returns-then-rank-clause-left
returns-then-rank-clause-left g c =
    let k = c.self.inside.place in
    drop-set-lt (k + 1) c.self.inside.rows.items k c.of_old.new.old (omega arith) ∙ sym (takes g c.before.before).left

pub returns-else-place-len-clause-row : goal.returns-else-place-len-clause-row
returns-else-place-len-clause-row g c =
    c.anew.ensures ∙ ap (g.M.Remakes.made c.args.maker.now c.args.key.now) (sym (takes_none g c).is)

pub returns-else-place-len-clause-left : goal.returns-else-place-len-clause-left
returns-else-place-len-clause-left g c = sym (takes_none g c).left
