-- An edit that is felt nowhere leaves the patterns as they are.
use Rattle.desk_events.proofs.Names.{Acts, AddBookmark, AddBranch, Asked, IsSound, IsUnfelt, IsUnfeltAt, IsUnfeltWhere, LayAlikeOn, LayAlikeWithin, Mark, MoveBookmark, None, Option, Plan, RemoveBookmark, RemoveBranch, ReplaceRule}
use Rattle.desk_events.proofs.Names.{ReplaceStart, SetCells, Some, Touched, UnfeltTouch, World, acting, acts_on, after, and_parts, ap, arith, arrival, cells_acting_at, changed, lay, mark_at, reach, refl, subst, sym, touched_by, true, ℕ, ◌&&◌}
use Rattle.desk_events.proofs.Names.{◌==◌, ◌≡◌, ◌≤◌}
use Rattle.desk_events.proofs.Shared.Gives.{Arrives}
use Rattle.desk_events.proofs.Shared.Tests.{either_way, true_eq}
use Rattle.desk_events.proofs.Shared.Touching.{SameUntouched, untouched}

-- the lists of two documents lay alike on what arrives in the first at a mark
abbrev LaysAlike : Plan → Plan → Mark → Type 0
LaysAlike p q m = after p m.branch m.generation ≡ lay (cells_acting_at q.interventions m) (arrival p m.branch m.generation)

where_known : (p q : Plan) (m : Mark) (o : Option World)
    → ((w : World) → o ≡ Some w → w ≡ arrival p m.branch m.generation) → LayAlikeOn o (cells_acting_at p.interventions m)
    (cells_acting_at q.interventions m) → LaysAlike p q m
where_known p q m o arrives h = grind arith

-- so they do where something acts, as far as its branch reaches, if it is unfelt there
where_acting : (p q : Plan) (known : Mark → Option World) (branch : ℕ) (acts : Acts) (m : Mark) → Arrives known p
    → IsUnfeltWhere known p q branch acts → (branch == m.branch && acts_on acts m.generation) ≡ true
    → m.generation ≤ reach p m.branch → LaysAlike p q m
where_acting p q known branch acts m arrives h acting far =
    let parts = and_parts (branch == m.branch) (acts_on acts m.generation) acting in
    let here : branch ≡ m.branch = true_eq branch m.branch parts.0 in
    where_known p q m (known m) (arrives m)
    (subst (λ b. IsUnfeltAt known p q (mark_at b m.generation)) here
    (h m.generation parts.1 (subst (λ b. m.generation ≤ reach p b) (sym here) far)))

-- and at each generation that a branch reaches, if what is touched is
alike_each : (p q : Plan) (known : Mark → Option World) (o : Option Touched) (m : Mark) → Arrives known p
    → SameUntouched p.interventions q.interventions o → UnfeltTouch known p q o → m.generation ≤ reach p m.branch
    → LaysAlike p q m
alike_each p q known None m arrives same h far = absurd h
alike_each p q known (Some t) m arrives same h far =
    either_way (t.branch == m.branch && acts_on t.was m.generation)
    (λ before. where_acting p q known t.branch t.was m arrives h.0 before far)
    (λ off.
    either_way (t.branch == m.branch && acts_on t.is m.generation)
    (λ later. where_acting p q known t.branch t.is m arrives h.1 later far)
    (λ none. ap (λ cs. lay cs (arrival p m.branch m.generation)) (same m.branch m.generation off none)))

alike : (p : Plan) (known : Mark → Option World) (asked : Asked) → IsSound p → Arrives known p
    → IsUnfelt known p asked (changed p asked).plan → p.rule ≡ (changed p asked).plan.rule
    → p.start ≡ (changed p asked).plan.start → p.branches ≡ (changed p asked).plan.branches
    → LayAlikeWithin p (changed p asked).plan
alike p known asked sound arrives h rule start branches = record {
  rule = rule;
  start = start;
  branches = branches;
  lists = λ b g late far.
      alike_each p (changed p asked).plan known (touched_by p asked) (mark_at b g) arrives (untouched p asked sound) h
      far;
}

-- so the document before the edit and the one after it lay alike as far as branches reach
pub unfelt_alike : (p : Plan) (known : Mark → Option World) (asked : Asked) → IsSound p → Arrives known p
    → IsUnfelt known p asked (changed p asked).plan → LayAlikeWithin p (changed p asked).plan
unfelt_alike p known (SetCells cells) sound arrives h = absurd h
unfelt_alike p known (ReplaceStart start) sound arrives h = absurd h
unfelt_alike p known (ReplaceRule rule) sound arrives h = absurd h
unfelt_alike p known (AddBookmark branch g view) sound arrives h = absurd h
unfelt_alike p known (MoveBookmark id g) sound arrives h = absurd h
unfelt_alike p known (RemoveBookmark id) sound arrives h = absurd h
unfelt_alike p known (AddBranch parent g) sound arrives h = absurd h
unfelt_alike p known (RemoveBranch n) sound arrives h = absurd h
unfelt_alike p known asked sound arrives h = alike p known asked sound arrives h refl refl refl
