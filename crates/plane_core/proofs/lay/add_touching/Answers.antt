use Rattle.plane_core.proofs.Names.{All, AreThoseIn, CanBeDrawn, IsTrue, List, None, Span, Touches, [], ap, append-nil, append_assoc, arith, refl, rules, slice_get, spans_of_runs, subst, sym, ◌++◌, ◌↔◌, ◌∙◌, ◌∷◌, ◌≡◌}
use Rattle.plane_core.proofs.Laying.{all-left, all-right, adds-kept, adds-passed}
use Rattle.plane_core.proofs.lay.add_touching.Goals as goal

-- what is left of a run can be drawn
left : (done rest run : List Span) → done ++ rest ≡ run → All CanBeDrawn run → All CanBeDrawn rest
left done rest run is all = all-right CanBeDrawn done rest (subst (All CanBeDrawn) (sym is) all)

pub loop-first-init : goal.loop-first-init
loop-first-init c = ([], refl, λ before those. subst (λ (ss : List Span). AreThoseIn c.args.part ss (spans_of_runs c.args.found.now.items)) (sym (append-nil before)) those)

pub touches-is_near-requires-clause-span : goal.touches-is_near-requires-clause-span
touches-is_near-requires-clause-span c =
    let range = left c.loop-first.invariant.0 c.loop-first.rest.now c.args.run.now c.loop-first.invariant.1 c.requires.spans in
    search (rules, range)

pub run_length-requires-clause-spans : goal.run_length-requires-clause-spans
run_length-requires-clause-spans c = left c.loop-first.invariant.0 c.loop-first.rest.now c.args.run.now c.loop-first.invariant.1 c.requires.spans

pub loop-first-preserved-in_ok-push : goal.loop-first-preserved-in_ok-push
loop-first-preserved-in_ok-push c =
    let p = c.args.part in
    let done = c.loop-first.invariant.0 in
    let here : List Span = c.split_at.result.0.now in
    let more : List Span = c.split_at.result.1.now in
    let split = c.split_at.ensures.by_index.0 in
    let range = left done c.loop-first.rest.now c.args.run.now c.loop-first.invariant.1 c.requires.spans in (
      done ++ here,
      append_assoc done here more ∙ ap (λ (ss : List Span). done ++ ss) (sym split) ∙ c.loop-first.invariant.1,
      adds-kept p done c.split_at.result.0 c.args.found.now.items c.loop-first.found.items c.push.new.self.items (all-left CanBeDrawn here more (subst (All CanBeDrawn) split range)) c.in_ok-push.ensures.items c.loop-first.invariant.2,
    )

pub loop-first-preserved : goal.loop-first-preserved
loop-first-preserved c =
    let p = c.args.part in
    let done = c.loop-first.invariant.0 in
    let here : List Span = c.split_at.result.0.now in
    let more : List Span = c.split_at.result.1.now in
    let split = c.split_at.ensures.by_index.0 in (
      done ++ here,
      append_assoc done here more ∙ ap (λ (ss : List Span). done ++ ss) (sym split) ∙ c.loop-first.invariant.1,
      adds-passed p done here c.args.found.now.items c.loop-first.found.items c.touches-is_near.result (sym c.if-is_near.false)
          (subst (All (λ s. IsTrue c.touches-is_near.result ↔ Touches p s)) (sym c.split_at.ensures.front) c.run_length.ensures.same) c.loop-first.invariant.2,
    )

-- a list without a first element is empty
no_first : (xs : List Span) → None ≡ slice_get xs 0 → xs ≡ []
no_first [] none = refl
no_first (x ∷ xs) none = grind (arith)

pub returns : goal.returns
returns c =
    let p = c.args.part in
    let done = c.loop-first.invariant.0 in
    let empty = no_first c.loop-first.rest.now c.in_default.ensures.value in
    let is = sym (append-nil done) ∙ ap (λ (ss : List Span). done ++ ss) (sym empty) ∙ c.loop-first.invariant.1 in
    λ before those. subst (λ (ss : List Span). AreThoseIn p (before ++ ss) (spans_of_runs c.loop-first.found.items)) is (c.loop-first.invariant.2 before those)
