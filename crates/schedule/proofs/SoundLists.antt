-- Edits of interventions and bookmarks that aren't refused keep the limits of documents.
use Rattle.schedule.proofs.Names.{Acts, AllByRecursion, AreMarked, ArePlaced, Bookmark, Bool, CellSet, Every, IdsRise, Intervention, IsAllowed, IsPlaced, IsSound, KeepsViewLimits, List, None, Once, Plan, View, [], acting, all_append, arith}
use Rattle.schedule.proofs.Names.{bookmark_branch, bookmark_id, changed_at, changed_bookmarks, false, filter, first_of, first_refusal, fold-map, for_bookmark, for_changed_intervention, for_intervention, for_moved_bookmark}
use Rattle.schedule.proofs.Names.{has_too_many_marks, if◌then◌else◌, intervention_id, is_before_fork, is_too_far, length, length-append, length-map, map, marking, marks_to, marks_within, next_bookmark, next_intervention, not, reach, refl}
use Rattle.schedule.proofs.Names.{repeat_marks, repeats, revised, states_of, sum_by_push, unwrap_or, with_changed_intervention, with_intervention, with_moved_bookmark, without, without_bookmark, without_intervention, ℕ, ◌&&◌, ◌++◌, ◌+◌}
use Rattle.schedule.proofs.Names.{◌<◌, ◌==◌, ◌^◌, ◌∷◌, ◌≡◌, ◌≤◌}
use Rattle.schedule.proofs.Shared.Ids.{rise_push, given_push, each_map, rise_map, each_filter, rise_filter, length-filter_le, placed_at}
use Rattle.schedule.proofs.Shared.Repeats.{sum-less, sum-filter, marks_to-more, reach-unmarked}
use Rattle.schedule.proofs.Each.{all_are}
use Rattle.schedule.proofs.Unrefused.{near, placed, few_enough, fit_insertion, fit_change, fit_bookmark}

-- a list of at most 4,096 elements, by rising ids up to `last`, of each of which P holds
record IsListed {X : Type 0} (id : X → ℕ) (P : X → Type 0) (xs : List X) (last : ℕ) : Type 0 where
  pub each : AllByRecursion P xs
  pub rise : IdsRise id xs
  pub given : AllByRecursion (λ x. id x ≤ last) xs
  pub few : length xs ≤ 4096

-- another element at its end, some elements changed, and some left out
with_one : {X : Type 0} (id : X → ℕ) (P : X → Type 0) (xs : List X) (last : ℕ) (x : X) → IsListed id P xs last
    → id x ≡ last + 1 → P x → length xs < 4096 → IsListed id P (xs ++ x ∷ []) (last + 1)
with_one id P xs last x listed next here few = grind (
  arith,
  all_append P xs (x ∷ []),
  rise_push id xs x last,
  given_push id xs x last,
  length-append xs (x ∷ []),
)

with_changed : {X : Type 0} (id : X → ℕ) (P : X → Type 0) (xs : List X) (last : ℕ) (c : X → Bool) (f : X → X)
    → IsListed id P xs last → ((x : X) → id (f x) ≡ id x) → ((x : X) → P x → P (f x))
    → IsListed id P (map (λ x. if c x then f x else x) xs) last
with_changed id P xs last c f listed same stays =
    let long = length-map xs (λ x. if c x then f x else x) in
    let given = each_map (λ x. id x ≤ last) c f xs (λ x k. let e = same x in omega (arith, e, k)) in
    grind (arith, each_map P c f xs stays, rise_map id c f xs same, given, long)

with_fewer : {X : Type 0} (id : X → ℕ) (P : X → Type 0) (xs : List X) (last : ℕ) (c : X → Bool)
    → IsListed id P xs last → IsListed id P (filter c xs) last
with_fewer id P xs last c listed = grind (
  arith,
  each_filter P c xs,
  rise_filter id c xs,
  each_filter (λ x. id x ≤ last) c xs,
  length-filter_le c xs,
)

-- the interventions of a document, and others that keep the limits
listed_interventions : (p : Plan) → IsSound p
    → IsListed intervention_id (IsAllowed (states_of p.rule)) p.interventions p.last_intervention
listed_interventions p sound = grind arith

IsSound-interventions : (p : Plan) (is : List Intervention) (last : ℕ) → IsSound p
    → IsListed intervention_id (IsAllowed (states_of p.rule)) is last → last ≤ p.revision + 1
    → marks_within (reach p) is ≤ 8192 → ArePlaced p.branches is
    → IsSound (record (revised p) { interventions = is; last_intervention = last })
IsSound-interventions p is last sound listed within marks stand = grind arith

-- one more intervention, whose marks aren't too many
few_inserted : (p : Plan) (b : ℕ) (acts : Acts) (cells : List CellSet) → repeat_marks p ≤ 8192
    → (repeats acts && has_too_many_marks (with_intervention p b acts cells).plan) ≡ false
    → repeat_marks (with_intervention p b acts cells).plan ≤ 8192
few_inserted p b (Once generation) cells few free =
    grind (arith, sum_by_push (λ (j : Intervention). marks_to (reach p j.branch) j.acts) p.interventions)
few_inserted p b (Every first every last) cells few free = grind (arith, few_enough)

pub IsSound-intervention : (p : Plan) (b : ℕ) (acts : Acts) (cells : List CellSet) → IsSound p
    → first_refusal (for_intervention p b acts cells) ≡ None → IsSound (with_intervention p b acts cells).plan
IsSound-intervention p b acts cells sound free =
    let fit = fit_insertion p b acts cells free in
    let i : Intervention = next_intervention p b acts cells in
    IsSound-interventions p (p.interventions ++ i ∷ []) (p.last_intervention + 1) sound
    (with_one intervention_id _ p.interventions p.last_intervention i (listed_interventions p sound) refl
    (record { timely = fit.timely; named = fit.set.named; below = fit.set.below }) fit.few)
    (let within = sound.interventions_within in omega (arith, within))
    (few_inserted p b acts cells sound.few_marks fit.marks.few)
    (all_append _ p.interventions (i ∷ []) sound.branches_sound.interventions_placed (fit.placed, tt))

-- another intervention in the place of one, whose marks aren't too many
few_changed : (p : Plan) (id : ℕ) (acts : Acts) (cells : List CellSet) → repeat_marks p ≤ 8192
    → (repeats acts && has_too_many_marks (with_changed_intervention p id acts cells).plan) ≡ false
    → repeat_marks (with_changed_intervention p id acts cells).plan ≤ 8192
few_changed p id (Once generation) cells few free =
    let f : Intervention → ℕ = λ j. marks_to (reach p j.branch) j.acts in
    let own : Intervention → Intervention = λ j. if j.id == id then acting (Once generation) cells j else j in
    let sum = fold-map (λ s (j : Intervention). s + f j) own 0 p.interventions in
    let less = sum-less (λ j. f (own j)) f p.interventions
    (all_are (λ (j : Intervention). f (own j) ≤ f j) p.interventions (λ j. grind arith)) in
    omega (arith, sum, less, few)
few_changed p id (Every first every last) cells few free = grind (arith, few_enough)

pub IsSound-changed_intervention : (p : Plan) (id : ℕ) (acts : Acts) (cells : List CellSet) → IsSound p
    → first_refusal (for_changed_intervention p id acts cells) ≡ None
    → IsSound (with_changed_intervention p id acts cells).plan
IsSound-changed_intervention p id acts cells sound free =
    let fit = fit_change p id acts cells free in
    let f = acting acts cells in
    IsSound-interventions p (changed_at intervention_id f p.interventions id) p.last_intervention sound
    (with_changed intervention_id _ p.interventions p.last_intervention (λ (i : Intervention). i.id == id) f
    (listed_interventions p sound) (λ i. refl)
    (λ i _. record { timely = fit.timely; named = fit.set.named; below = fit.set.below }))
    (let within = sound.interventions_within in omega (arith, within))
    (few_changed p id acts cells sound.few_marks fit.marks.few)
    (placed_at intervention_id (λ (i : Intervention). i.branch) (λ (i : Intervention). first_of i.acts)
    (IsPlaced p.branches) f p.interventions id (first_of acts) (λ i. refl)
    (λ i. refl) sound.interventions_rise sound.branches_sound.interventions_placed
    (λ n on _ stands. placed p n (first_of acts) stands.there (rw on at fit.late)))

pub IsSound-removed_intervention : (p : Plan) (id : ℕ) → IsSound p → IsSound (without_intervention p id).plan
IsSound-removed_intervention p id sound =
    let c : Intervention → Bool = λ i. not (i.id == id) in
    let within = sound.interventions_within in
    let few = sound.few_marks in
    let less = sum-filter (λ (i : Intervention). marks_to (reach p i.branch) i.acts) c p.interventions in
    IsSound-interventions p (without intervention_id p.interventions id) p.last_intervention sound
    (with_fewer intervention_id _ p.interventions p.last_intervention c (listed_interventions p sound))
    (omega (arith, within)) (omega (arith, few, less))
    (each_filter _ c p.interventions sound.branches_sound.interventions_placed)

-- without a bookmark there are no more marks
few_unmarked : (p : Plan) (id : ℕ) → repeat_marks p ≤ 8192 → repeat_marks (without_bookmark p id).plan ≤ 8192
few_unmarked p id few =
    let q : Plan = (without_bookmark p id).plan in
    let less = sum-less (λ (i : Intervention). marks_to (reach q i.branch) i.acts)
    (λ i. marks_to (reach p i.branch) i.acts) p.interventions
    (all_are _ p.interventions (λ i. marks_to-more i.acts (reach q i.branch) (reach p i.branch)
    (reach-unmarked p id i.branch))) in
    omega (arith, less, few)

-- the bookmarks of a document, and others that keep the limits
listed_bookmarks : (p : Plan) → IsSound p
    → IsListed bookmark_id (λ (b : Bookmark). b.generation ≤ 2 ^ 60) p.bookmarks p.last_bookmark
listed_bookmarks p sound = grind arith

IsSound-bookmarks : (p : Plan) (bs : List Bookmark) (last : ℕ) → IsSound p
    → IsListed bookmark_id (λ (b : Bookmark). b.generation ≤ 2 ^ 60) bs last
    → AllByRecursion (λ (b : Bookmark). KeepsViewLimits b.view) bs → last ≤ p.revision + 1
    → repeat_marks (record (revised p) { bookmarks = bs; last_bookmark = last }) ≤ 8192
    → AreMarked p.branches bs → IsSound (record (revised p) { bookmarks = bs; last_bookmark = last })
IsSound-bookmarks p bs last sound listed views within marks marked = grind arith

pub IsSound-bookmark : (p : Plan) (n generation : ℕ) (view : View) → IsSound p
    → first_refusal (for_bookmark p n generation view) ≡ None → IsSound (changed_bookmarks p n generation view).plan
IsSound-bookmark p n generation view sound free =
    let fit = fit_bookmark p n generation view free in
    let b : Bookmark = next_bookmark p n generation view in
    IsSound-bookmarks p (p.bookmarks ++ b ∷ []) (p.last_bookmark + 1) sound
    (with_one bookmark_id _ p.bookmarks p.last_bookmark b (listed_bookmarks p sound) refl fit.near fit.few)
    (all_append _ p.bookmarks (b ∷ []) sound.views_within (fit.within, tt))
    (let within = sound.bookmarks_within in omega (arith, within))
    (few_enough (changed_bookmarks p n generation view).plan fit.marks.few)
    (all_append _ p.bookmarks (b ∷ []) sound.branches_sound.bookmarks_placed (fit.placed, tt))

pub IsSound-moved_bookmark : (p : Plan) (id generation : ℕ) → IsSound p
    → first_refusal (for_moved_bookmark p id generation) ≡ None → IsSound (with_moved_bookmark p id generation).plan
IsSound-moved_bookmark p id generation sound free =
    let n = bookmark_branch p.bookmarks id in
    let tests : (is_too_far generation ≡ false) × (is_before_fork p (unwrap_or n 0) generation ≡ false)
    × (has_too_many_marks (with_moved_bookmark p id generation).plan ≡ false) = grind arith in
    let f = marking generation in
    let c : Bookmark → Bool = λ b. b.id == id in
    IsSound-bookmarks p (changed_at bookmark_id f p.bookmarks id) p.last_bookmark sound
    (with_changed bookmark_id _ p.bookmarks p.last_bookmark c f (listed_bookmarks p sound) (λ b. refl)
    (λ b _. near generation tests.0))
    (each_map _ c f p.bookmarks (λ b k. k) sound.views_within)
    (let within = sound.bookmarks_within in omega (arith, within))
    (few_enough (with_moved_bookmark p id generation).plan tests.2)
    (placed_at bookmark_id (λ (b : Bookmark). b.branch) (λ (b : Bookmark). b.generation)
    (IsPlaced p.branches) f p.bookmarks id generation (λ b. refl)
    (λ b. refl) sound.bookmarks_rise sound.branches_sound.bookmarks_placed
    (λ m on _ stands. placed p m generation stands.there (rw on at tests.1)))

pub IsSound-removed_bookmark : (p : Plan) (id : ℕ) → IsSound p → IsSound (without_bookmark p id).plan
IsSound-removed_bookmark p id sound =
    let c : Bookmark → Bool = λ b. not (b.id == id) in
    IsSound-bookmarks p (without bookmark_id p.bookmarks id) p.last_bookmark sound
    (with_fewer bookmark_id _ p.bookmarks p.last_bookmark c (listed_bookmarks p sound))
    (each_filter _ c p.bookmarks sound.views_within)
    (let within = sound.bookmarks_within in omega (arith, within)) (few_unmarked p id sound.few_marks)
    (each_filter _ c p.bookmarks sound.branches_sound.bookmarks_placed)
