-- Where an edit changes what interventions set.
use Rattle.desk_events.proofs.Names.{Acts, AllByRecursion, Asked, CellSet, Change, IdsRise, Insert, Intervention, IsSound, List, None, Option, Plan, RemoveIntervention, Some, Touched, [], acting, acts-from, acts_on, added, ap, append-nil}
use Rattle.desk_events.proofs.Names.{ap₂, arith, cells_at, changed, changed_at, element_at, false, first_of, first_touched, intervention_id, min, moved, nat_le, nat_tests, next_intervention, option_map, own_cells, refl, removed, subst, sym}
use Rattle.desk_events.proofs.Names.{touched_by, without, ℕ, ◌&&◌, ◌++◌, ◌<◌, ◌==◌, ◌∙◌, ◌∷◌, ◌≡◌, ◌≤◌}
use Rattle.std.proofs.lemmas.Grind.{flat_map-append}
use Rattle.schedule.specs.Laws.{SameElsewhere}
use Rattle.desk_events.proofs.Shared.Tests.{either_way, true_eq}
use Rattle.desk_events.proofs.Shared.Walk.{own_cells-other}

-- two lists set the same cells but where what is touched acts, before or after; and where nothing
-- is touched they are the same
abbrev pub SameUntouched : List Intervention → List Intervention → Option Touched → Type 0
SameUntouched is others None = is ≡ others
SameUntouched is others (Some t) = (b g : ℕ) → (t.branch == b && acts_on t.was g) ≡ false
    → (t.branch == b && acts_on t.is g) ≡ false → cells_at is b g ≡ cells_at others b g

-- so it is with one more before them
untouched_more : (i : Intervention) (is others : List Intervention) (o : Option Touched) → SameUntouched is others o
    → SameUntouched (i ∷ is) (i ∷ others) o
untouched_more i is others None same = ap (λ js. i ∷ js) same
untouched_more i is others (Some t) same = λ b g was now. ap (λ cs. own_cells i b g ++ cs) (same b g was now)

-- one is inserted
untouched_inserted : (is : List Intervention) (i : Intervention)
    → SameUntouched is (is ++ i ∷ []) (Some (added i.branch i.acts))
untouched_inserted is i b g was now =
    sym (flat_map-append (λ j. own_cells j b g) is (i ∷ [])
    ∙ ap (λ cs. cells_at is b g ++ cs) (append-nil (own_cells i b g) ∙ own_cells-other i b g was)
    ∙ append-nil (cells_at is b g))

-- the one of an id is changed

changed_above : (f : Intervention → Intervention) (is : List Intervention) (id : ℕ)
    → AllByRecursion (λ j. id < intervention_id j) is → changed_at intervention_id f is id ≡ is
changed_above f [] id h = refl
changed_above f (i ∷ is) id h = grind (arith, nat_tests, changed_above f is id h.1)

untouched_changed : (is : List Intervention) (id : ℕ) (acts : Acts) (cells : List CellSet) → IdsRise intervention_id is
    → SameUntouched is (changed_at intervention_id (acting acts cells) is id)
    (option_map (moved acts) (element_at intervention_id is id))
untouched_changed [] id acts cells rise = refl
untouched_changed (i ∷ is) id acts cells rise =
    let f = acting acts cells in
    either_way (i.id == id)
    (λ hit.
    let above = subst (λ n. AllByRecursion (λ j. n < intervention_id j) is) (true_eq i.id id hit) rise.0 in
    rw hit
    (λ b g was now.
    ap₂ (λ own more. own ++ more) (own_cells-other i b g was ∙ sym (own_cells-other (f i) b g now))
    (ap (λ js. cells_at js b g) (sym (changed_above f is id above)))))
    (λ miss.
    rw miss
    (untouched_more i is (changed_at intervention_id f is id)
    (option_map (moved acts) (element_at intervention_id is id)) (untouched_changed is id acts cells rise.1)))

-- or removed

without_above : (is : List Intervention) (id : ℕ) → AllByRecursion (λ j. id < intervention_id j) is
    → without intervention_id is id ≡ is
without_above [] id h = refl
without_above (i ∷ is) id h = grind (arith, nat_tests, without_above is id h.1)

untouched_removed : (is : List Intervention) (id : ℕ) → IdsRise intervention_id is
    → SameUntouched is (without intervention_id is id) (option_map removed (element_at intervention_id is id))
untouched_removed [] id rise = refl
untouched_removed (i ∷ is) id rise =
    either_way (i.id == id)
    (λ hit.
    let above = subst (λ n. AllByRecursion (λ j. n < intervention_id j) is) (true_eq i.id id hit) rise.0 in
    rw hit
    (λ b g was now.
    ap (λ own. own ++ cells_at is b g) (own_cells-other i b g was)
    ∙ ap (λ js. cells_at js b g) (sym (without_above is id above))))
    (λ miss.
    rw miss
    (untouched_more i is (without intervention_id is id) (option_map removed (element_at intervention_id is id))
    (untouched_removed is id rise.1)))

-- so it is with every edit
pub untouched : (p : Plan) (asked : Asked) → IsSound p
    → SameUntouched p.interventions (changed p asked).plan.interventions (touched_by p asked)
untouched p (Insert branch acts cells) sound =
    untouched_inserted p.interventions (next_intervention p branch acts cells)
untouched p (Change id acts cells) sound =
    untouched_changed p.interventions id acts cells sound.interventions_rise
untouched p (RemoveIntervention id) sound = untouched_removed p.interventions id sound.interventions_rise
untouched p asked sound = refl

-- before it first acts nothing is touched

before_first : (acts : Acts) (c k b g : ℕ) → k ≤ first_of acts → (b == c && nat_le k g) ≡ false
    → (c == b && acts_on acts g) ≡ false
before_first acts c k b g early off =
    either_way (acts_on acts g)
    (λ acting. let from = acts-from acts g acting in grind (arith, nat_tests))
    (λ none. grind arith)

pub untouched_elsewhere : (is others : List Intervention) (t : Touched) → SameUntouched is others (Some t)
    → SameElsewhere is others (first_touched t).branch (first_touched t).generation
untouched_elsewhere is others t same b g off =
    let first = min (first_of t.was) (first_of t.is) in
    same b g (before_first t.was t.branch first b g (omega arith) off)
    (before_first t.is t.branch first b g (omega arith) off)
