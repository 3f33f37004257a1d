-- The edits for a document make it anew.
use Rattle.replay_laws.proofs.Names.{AllByRecursion, Asked, Branch, IsForked, IsMade, IsSound, Lead, List, Plan, ReplaceRule, ReplaceStart, RowsAreMadeAnew, [], all_so, ap, arith, bare, bookmark_edits, branch_edits, edits_for}
use Rattle.replay_laws.proofs.Names.{intervention_edits, length, length-append, opening, refl, remade, row_edits, ◌++◌, ◌+◌, ◌<◌, ◌^◌, ◌∷◌, ◌≡◌}
use Rattle.replay_laws.proofs.Shared.Worlds.{rule_leads, start_leads}
use Rattle.replay_laws.proofs.Branches.{branches_added, with_branches}
use Rattle.replay_laws.proofs.Bookmarks.{bookmarks_added, with_bookmarks}
use Rattle.replay_laws.proofs.Interventions.{interventions_added, with_interventions}
use Rattle.replay_laws.proofs.Shared.Leading.{add_all_lead, lead_on, lead_to}

-- ids of branches are above those of their parents
pub branches_from_one : (p : Plan) → IsSound p → AllByRecursion (λ (x : Branch). 0 < x.id) p.branches
branches_from_one p sound = all_so (IsForked p.branches) (λ (x : Branch). 0 < x.id) p.branches
    (λ x h. (let l = h.later in omega (arith, l))) sound.branches_sound.forked

pub length-rows : (p : Plan)
    → length (row_edits p) ≡ length (branch_edits p) + length (bookmark_edits p) + length (intervention_edits p)
length-rows p =
    omega (
      arith,
      length-append (branch_edits p ++ bookmark_edits p) (intervention_edits p),
      length-append (branch_edits p) (bookmark_edits p),
    )

pub rows_are_made_anew : RowsAreMadeAnew
rows_are_made_anew p sound made k left =
    let xs = branch_edits p in
    let bs = bookmark_edits p in
    let is = intervention_edits p in
    let long = length-rows p in
    let a : Plan = with_branches p k [] 0 in
    let b : Plan = with_bookmarks p (k + length xs) [] 0 in
    let c : Plan = with_interventions p (k + length xs + length bs) [] 0 in
    let d : Plan = remade (k + length xs + length bs + length is) p in
    let first : Lead xs a b = add_all_lead _ _ _ (with_branches p) p.branches (branches_added p sound) [] p.branches k 0
    refl tt (branches_from_one p sound) sound.branches_sound.rise (omega (arith, left, long)) in
    let second : Lead bs b c = add_all_lead _ _ _ (with_bookmarks p) p.bookmarks (bookmarks_added p sound) []
    p.bookmarks (k + length xs) 0 refl tt made.bookmarks_from_one sound.bookmarks_rise (omega (arith, left, long)) in
    let third : Lead is c d = add_all_lead _ _ _ (with_interventions p) p.interventions
    (interventions_added p sound made) [] p.interventions (k + length xs + length bs) 0 refl tt
    made.interventions_from_one sound.interventions_rise (omega (arith, left, long)) in
    lead_to (row_edits p) a d (remade (k + length (row_edits p)) p)
    (lead_on (xs ++ bs) is a c d (lead_on xs bs a b c first second) third)
    (ap (λ n. remade n p) (omega (arith, long)))

-- with rule and start before
pub made_anew : (p : Plan) → IsSound p → IsMade p → length (edits_for p) < 2 ^ 64
    → Lead (edits_for p) (opening 0) (remade (length (edits_for p)) p)
made_anew p sound made left =
    let rule : List Asked = ReplaceRule p.rule ∷ [] in
    let start : List Asked = ReplaceStart p.start ∷ [] in
    let ruled : Plan = record (opening 1) { rule = p.rule } in
    let end : Plan = remade (2 + length (row_edits p)) p in
    lead_to (edits_for p) (opening 0) end (remade (length (edits_for p)) p)
    (lead_on rule (start ++ row_edits p) (opening 0) ruled end (rule_leads p 0 (omega arith))
    (lead_on start (row_edits p) ruled (bare 2 p) end (start_leads p sound 1 (omega arith))
    (rows_are_made_anew p sound made 2 (omega (arith, left)))))
    (ap (λ n. remade n p) (omega arith))
