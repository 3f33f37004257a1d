-- What holds of every document that edits made of an opening one.
use Rattle.replay_laws.proofs.Names.{Acts, AddBookmark, AddBranch, AllByRecursion, Asked, Bookmark, Bool, Branch, CellSet, Change, DocumentsAreMadeAnew, EditsMakeDocuments, IdsRise, Insert, Intervention, IsMade, Lead, List}
use Rattle.replay_laws.proofs.Names.{MoveBookmark, None, Plan, RemoveBookmark, RemoveBranch, RemoveIntervention, [], acting, add_bookmark, add_branch, add_intervention, all_append, arith, bookmark_id, branch_id, changed, changed_at}
use Rattle.replay_laws.proofs.Names.{if◌then◌else◌, intervention_id, last_id, length, length-append, length-map, marking, next_bookmark, next_branch, next_intervention, not, opening, refl, refusal, row_edits, skip_bookmark, skip_branch}
use Rattle.replay_laws.proofs.Names.{skip_intervention, subst, sym, with_changed_intervention, with_intervention, without, ℕ, ◌*◌, ◌++◌, ◌+◌, ◌<◌, ◌==◌, ◌∷◌, ◌≡◌, ◌≤◌}
use Rattle.schedule.proofs.Shared.Ids.{each_filter, each_map, given_push, rise_filter, rise_map, rise_push}
use Rattle.schedule.proofs.Unrefused.{fit_change, fit_insertion}
use Rattle.replay_laws.proofs.Elements.{length-without}
use Rattle.replay_laws.proofs.Shared.Leading.{length-add_all}
use Rattle.replay_laws.proofs.Shared.Remade.{length-rows, made_anew}

-- rising ids from 1 up to `last`
pub record AreNumbered {X : Type 0} (id : X → ℕ) (xs : List X) (last : ℕ) : Type 0 where
  pub from_one : AllByRecursion (λ x. 0 < id x) xs
  pub given : AllByRecursion (λ x. id x ≤ last) xs
  pub rise : IdsRise id xs

-- one more, some changed, and one left out

numbered_push : {X : Type 0} (id : X → ℕ) (xs : List X) (x : X) (last : ℕ) → AreNumbered id xs last → id x ≡ last + 1
    → AreNumbered id (xs ++ x ∷ []) (last + 1)
numbered_push id xs x last h next =
    grind (arith, all_append (λ y. 0 < id y) xs (x ∷ []), given_push id xs x last, rise_push id xs x last)

numbered_changed : {X : Type 0} (id : X → ℕ) (f : X → X) (xs : List X) (n last : ℕ) → ((x : X) → id (f x) ≡ id x)
    → AreNumbered id xs last → AreNumbered id (changed_at id f xs n) last
numbered_changed id f xs n last same h = grind (
  arith,
  each_map (λ x. 0 < id x) (λ x. id x == n) f xs (λ x k. let e = same x in omega (arith, e, k)),
  each_map (λ x. id x ≤ last) (λ x. id x == n) f xs (λ x k. let e = same x in omega (arith, e, k)),
  rise_map id (λ x. id x == n) f xs same,
)

numbered_without : {X : Type 0} (id : X → ℕ) (xs : List X) (n last : ℕ) → AreNumbered id xs last
    → AreNumbered id (without id xs n) last
numbered_without {X} id xs n last h =
    let c : X → Bool = λ x. not (id x == n) in
    grind (arith, each_filter (λ x. 0 < id x) c xs, each_filter (λ x. id x ≤ last) c xs, rise_filter id c xs)

-- interventions of few cells
abbrev pub AreSmall : List Intervention → Type 0
AreSmall = AllByRecursion (λ (i : Intervention). length i.cells ≤ 10000)

-- how many ids were given
abbrev pub ids_given : Plan → ℕ
ids_given p = p.last_intervention + p.last_bookmark + p.last_branch

-- how many elements there are
abbrev pub elements : Plan → ℕ
elements p = length p.interventions + length p.bookmarks + length p.branches

-- ids are given from 1 on, and interventions are small. Each id that was given took a revision, and so did each element
-- that was removed
pub record IsNumbered (p : Plan) : Type 0 where
  pub interventions : AreNumbered intervention_id p.interventions p.last_intervention
  pub bookmarks : AreNumbered bookmark_id p.bookmarks p.last_bookmark
  pub branches : AreNumbered branch_id p.branches p.last_branch
  pub small : AreSmall p.interventions
  pub spent : 2 * ids_given p ≤ p.revision + elements p

pub numbered_opening : (revision : ℕ) → IsNumbered (opening revision)
numbered_opening revision = grind arith

-- one element more, or another, takes a revision

numbered_inserted : (p : Plan) (b : ℕ) (acts : Acts) (cells : List CellSet) → IsNumbered p → length cells ≤ 10000
    → IsNumbered (with_intervention p b acts cells).plan
numbered_inserted p b acts cells h few =
    let i : Intervention = next_intervention p b acts cells in
    let listed = numbered_push intervention_id p.interventions i p.last_intervention h.interventions refl in
    let small = all_append (λ (j : Intervention). length j.cells ≤ 10000) p.interventions (i ∷ []) h.small (few, tt) in
    grind (arith, listed, small, length-append p.interventions (i ∷ []))

numbered_acting : (p : Plan) (id : ℕ) (acts : Acts) (cells : List CellSet) → IsNumbered p → length cells ≤ 10000
    → IsNumbered (with_changed_intervention p id acts cells).plan
numbered_acting p id acts cells h few =
    let f = acting acts cells in
    let c : Intervention → Bool = λ i. i.id == id in
    let long = length-map p.interventions (λ i. if c i then f i else i) in
    let listed = numbered_changed intervention_id f p.interventions id p.last_intervention (λ i. refl) h.interventions in
    let small = each_map (λ (i : Intervention). length i.cells ≤ 10000) c f p.interventions (λ _ _. few) h.small in
    grind (arith, long, listed, small)

-- an edit that isn't refused keeps that
pub numbered_step : (p : Plan) (asked : Asked) → IsNumbered p → refusal p asked ≡ None
    → IsNumbered (changed p asked).plan
numbered_step p (Insert b acts cells) h free =
    numbered_inserted p b acts cells h (fit_insertion p b acts cells free).set.few
numbered_step p (Change id acts cells) h free =
    numbered_acting p id acts cells h (fit_change p id acts cells free).set.few
numbered_step p (RemoveIntervention id) h free =
    let long = length-without intervention_id p.interventions id h.interventions.rise in
    let listed = numbered_without intervention_id p.interventions id p.last_intervention h.interventions in
    let small = each_filter (λ (i : Intervention). length i.cells ≤ 10000) (λ (i : Intervention). not (i.id == id))
    p.interventions h.small in
    grind (arith, long, listed, small)
numbered_step p (AddBookmark b generation view) h free =
    let k : Bookmark = next_bookmark p b generation view in
    let listed = numbered_push bookmark_id p.bookmarks k p.last_bookmark h.bookmarks refl in
    grind (arith, listed, length-append p.bookmarks (k ∷ []))
numbered_step p (MoveBookmark id generation) h free =
    let f = marking generation in
    let long = length-map p.bookmarks (λ (k : Bookmark). if k.id == id then f k else k) in
    let listed = numbered_changed bookmark_id f p.bookmarks id p.last_bookmark (λ k. refl) h.bookmarks in
    grind (arith, long, listed)
numbered_step p (RemoveBookmark id) h free =
    let long = length-without bookmark_id p.bookmarks id h.bookmarks.rise in
    let listed = numbered_without bookmark_id p.bookmarks id p.last_bookmark h.bookmarks in
    grind (arith, long, listed)
numbered_step p (AddBranch parent generation) h free =
    let x : Branch = next_branch p parent generation in
    let listed = numbered_push branch_id p.branches x p.last_branch h.branches refl in
    grind (arith, listed, length-append p.branches (x ∷ []))
numbered_step p (RemoveBranch b) h free =
    let long = length-without branch_id p.branches b h.branches.rise in
    let listed = numbered_without branch_id p.branches b p.last_branch h.branches in
    grind (arith, long, listed)
numbered_step p asked h free = grind arith

-- so do all of a list
pub numbered_all : (edits : List Asked) (p q : Plan) → IsNumbered p → Lead edits p q → IsNumbered q
numbered_all [] p q h is = subst IsNumbered (sym is) h
numbered_all (asked ∷ edits) p q h lead =
    numbered_all edits (changed p asked).plan q (numbered_step p asked h lead.0) lead.1

pub made : (p : Plan) → IsNumbered p → IsMade p
made p h = grind arith

pub edits_make_documents : EditsMakeDocuments
edits_make_documents revision edits p lead =
    made p (numbered_all edits (opening revision) p (numbered_opening revision) lead)

-- the last id of a list was given
last_given : {X : Type 0} (id : X → ℕ) (last most : ℕ) (xs : List X) → last ≤ most
    → AllByRecursion (λ x. id x ≤ most) xs → last_id id last xs ≤ most
last_given id last most [] low given = low
last_given id last most (x ∷ xs) low given = last_given id (id x) most xs given.0 given.1

-- adding elements takes no more edits than revisions were spent on them
pub rows_few : (p : Plan) → IsNumbered p → length (row_edits p) ≤ p.revision
rows_few p h =
    let spent = h.spent in
    omega (
      arith,
      spent,
      length-rows p,
      length-add_all intervention_id skip_intervention add_intervention (λ n. refl) 0 p.interventions
          h.interventions.from_one h.interventions.rise,
      length-add_all bookmark_id skip_bookmark add_bookmark (λ n. refl) 0 p.bookmarks h.bookmarks.from_one
          h.bookmarks.rise,
      length-add_all branch_id skip_branch add_branch (λ n. refl) 0 p.branches h.branches.from_one h.branches.rise,
      last_given intervention_id 0 p.last_intervention p.interventions (omega arith) h.interventions.given,
      last_given bookmark_id 0 p.last_bookmark p.bookmarks (omega arith) h.bookmarks.given,
      last_given branch_id 0 p.last_branch p.branches (omega arith) h.branches.given,
    )

pub documents_are_made_anew : DocumentsAreMadeAnew
documents_are_made_anew revision edits p sound lead left =
    let h = numbered_all edits (opening revision) p (numbered_opening revision) lead in
    let few = rows_few p h in
    made_anew p sound (made p h) (omega (arith, few, left))
