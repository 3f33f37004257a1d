-- How many marks and bookmarks an edit leaves at most.
use Rattle.document_marks.proofs.Names.{AddBookmark, AddBranch, AllByRecursion, Asked, Bool, Change, Insert, Intervention, IsSound, List, MoveBookmark, None, Ok, Option, Plan, RemoveBookmark, RemoveBranch, RemoveIntervention, ReplaceRule}
use Rattle.document_marks.proofs.Names.{ReplaceStart, SetCells, Some, [], all_append, arith, asks_to_repeat, changed_at, each_filter, each_map, either_way, false, intervention_id, length, length-filter_le, length-map, list_any}
use Rattle.document_marks.proofs.Names.{marks_at_most, marks_at_most_after, marks_to, marks_within, most_repeats, not, or_parts, reach, refl, repeat_marks, repeats, subst, sum_by-cons, without, ℕ, ◌++◌, ◌+◌, ◌==◌, ◌||◌, ◌∷◌, ◌≡◌, ◌≤◌}
use Rattle.std.proofs.Common.{length-append}
use Rattle.schedule.specs.declared.acts.Acts.{Acts}
use Rattle.schedule.specs.declared.acts.Acts.TheVariants.{Once, Every}
use Rattle.schedule.specs.declared.edit.Edited.{Edited}
use Rattle.schedule.specs.declared.fault.EditFault.{EditFault}
use Rattle.schedule.specs.Change.{Changed, change, changed, made, refusal, unless_refused}
use Rattle.schedule.proofs.Shared.Fits.{few_marks-changed}

-- what an accepted edit made
pub accepted : (o : Option EditFault) (c e : Changed) → unless_refused o c ≡ Ok e → c ≡ e
accepted None c e h = cc
accepted (Some fault) c e h = absurd cc

pub unrefused : (o : Option EditFault) (c e : Changed) → unless_refused o c ≡ Ok e → o ≡ None
unrefused None c e h = refl
unrefused (Some fault) c e h = absurd cc

-- lists with an element more, changed or less

more : {X : Type 0} (xs : List X) (x : X) → length (xs ++ x ∷ []) ≤ length xs + 1
more xs x = let long = length-append xs (x ∷ []) in omega (arith, long)

other : {X : Type 0} (id : X → ℕ) (f : X → X) (xs : List X) (n : ℕ) → length (changed_at id f xs n) ≤ length xs + 1
other id f xs n = let long : length (changed_at id f xs n) ≡ length xs = length-map xs _ in omega (arith, long)

less : {X : Type 0} (id : X → ℕ) (xs : List X) (n : ℕ) → length (without id xs n) ≤ length xs + 1
less id xs n = let few : length (without id xs n) ≤ length xs = length-filter_le _ xs in omega (arith, few)

-- interventions none of which repeats
abbrev NoneRepeats : List Intervention → Type 0
NoneRepeats = AllByRecursion (λ i. repeats i.acts ≡ false)

none_more : (is : List Intervention) (i : Intervention) → repeats i.acts ≡ false → NoneRepeats is
    → NoneRepeats (is ++ i ∷ [])
none_more is i own none = all_append (λ i. repeats i.acts ≡ false) is (i ∷ []) none (own, tt)

none_other : (f : Intervention → Intervention) (is : List Intervention) (n : ℕ)
    → ((i : Intervention) → repeats (f i).acts ≡ false) → NoneRepeats is
    → NoneRepeats (changed_at intervention_id f is n)
none_other f is n own none =
    each_map (λ i. repeats i.acts ≡ false) (λ i. i.id == n) f is (λ i _. own i) none

none_less : (is : List Intervention) (n : ℕ) → NoneRepeats is → NoneRepeats (without intervention_id is n)
none_less is n none = each_filter (λ i. repeats i.acts ≡ false) (λ i. not (i.id == n)) is none

-- an edit makes at most one more of each, and one that repeats only where it asks for it
record Grows (p q : Plan) (repeats : Bool) : Type 0 where
  pub interventions : length q.interventions ≤ length p.interventions + 1
  pub bookmarks : length q.bookmarks ≤ length p.bookmarks + 1
  pub branches : length q.branches ≤ length p.branches + 1
  pub once : repeats ≡ false → NoneRepeats p.interventions → NoneRepeats q.interventions

grows : (p : Plan) (asked : Asked) → Grows p (changed p asked).plan (asks_to_repeat asked)
grows p (Insert branch acts cells) = search (arith, more, none_more)
grows p (Change id acts cells) = search (arith, other, none_other)
grows p (RemoveIntervention id) = search (arith, less, none_less)
grows p (SetCells cells) = search arith
grows p (ReplaceStart start) = search arith
grows p (ReplaceRule rule) = search arith
grows p (AddBookmark branch generation view) = search (arith, more)
grows p (MoveBookmark id generation) = search (arith, other)
grows p (RemoveBookmark id) = search (arith, less)
grows p (AddBranch parent generation) = search (arith, more)
grows p (RemoveBranch n) = search (arith, less)

-- where nothing repeats no mark is made by repeating

none_each : (is : List Intervention) → list_any (λ (i : Intervention). repeats i.acts) is ≡ false → NoneRepeats is
none_each [] none = tt
none_each (i ∷ is) none =
    let parts = or_parts (repeats i.acts) (list_any (λ (j : Intervention). repeats j.acts) is) none in
    (parts.0, none_each is parts.1)

none_make : (far : ℕ → ℕ) (is : List Intervention) → NoneRepeats is → marks_within far is ≡ 0
none_make far [] none = refl
none_make far (i ∷ is) none =
    let own = makes_none (far i.branch) i.acts none.0 in
    let rest = none_make far is none.1 in
    let sum = sum_by-cons (λ (j : Intervention). marks_to (far j.branch) j.acts) i is in
    omega (arith, own, rest, sum)
  where
    makes_none : (far : ℕ) (acts : Acts) → repeats acts ≡ false → marks_to far acts ≡ 0
    makes_none far (Once generation) once = refl
    makes_none far (Every first every last) once = absurd cc

-- so there are at most as many marks of what repeats as there is room for
few_repeats : (p : Plan) (asked : Asked) → IsSound p → refusal p asked ≡ None
    → repeat_marks (changed p asked).plan ≤ most_repeats p asked
few_repeats p asked sound free =
    let q = (changed p asked).plan in
    let some = list_any (λ (i : Intervention). repeats i.acts) p.interventions in
    either_way (some || asks_to_repeat asked)
    (λ hit. rw hit (few_marks-changed p asked sound free))
    (λ miss.
    let parts = or_parts some (asks_to_repeat asked) miss in
    let nothing = none_make (reach q) q.interventions ((grows p asked).once parts.1 (none_each p.interventions parts.0)) in
    rw miss (omega (arith, nothing)))

-- an edit makes at most one more bookmark, and marks for which there is room
pub record IsWithin (p q : Plan) (asked : Asked) : Type 0 where
  pub marks : marks_at_most q ≤ marks_at_most_after p asked
  pub bookmarks : length q.bookmarks ≤ length p.bookmarks + 1

pub is_within : (p q : Plan) (asked : Asked) (edited : Edited) → IsSound p → change p asked ≡ Ok (made q edited)
    → IsWithin p q asked
is_within p q asked edited sound is =
    let free = unrefused (refusal p asked) (changed p asked) (made q edited) is in
    let few = few_repeats p asked sound free in
    let one = grows p asked in
    let i = one.interventions in
    let b = one.bookmarks in
    let x = one.branches in
    subst (λ (c : Changed). IsWithin p c.plan asked) (accepted (refusal p asked) (changed p asked) (made q edited) is)
    (record { marks = omega (arith, i, b, x, few); bookmarks = b })
