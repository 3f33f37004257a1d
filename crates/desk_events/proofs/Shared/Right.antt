-- Each event leaves a desk right.
use Rattle.desk_events.proofs.Names.{Answer, AreSameSteps, Asked, Bookmark, Bool, Branch, CanEdit, CanIssue, CanRecall, CellSet, Core, EditFault, Entry, GivesWanted, IsFelt, IsRight, IsSound, IsTrueAnswer, List, Mark, MayBeAsked, Need}
use Rattle.desk_events.proofs.Names.{None, Option, Plan, ReplaceRule, Row, Some, Stands, Step, Stepping, Value, View, World, [], after_edit, after_event, and_parts, answered, ap, ap₂, arith, arrival, arrival_in, awaits, bookmark_in}
use Rattle.desk_events.proofs.Names.{cancelled, cancels, changed, collects, edits, false, given_by, holds, if◌then◌else◌, inl, inr, is_need, is_start, issues, iterate, keeps, keeps_bookmark, kept_row, lay, length, length-append, mark_at}
use Rattle.desk_events.proofs.Names.{nat_tests, next_of, nothing, pattern, recalls, refl, refusal, slice_get, states_of, stays_mark, step, step_to, subst, suc, sym, true, unless_refused, wanted, world_after, world_in, zero, ℕ, ◌++◌, ◌<◌}
use Rattle.desk_events.proofs.Names.{◌==◌, ◌∙◌, ◌∷◌, ◌≡◌, ◌⊎◌}
use Rattle.std.proofs.lemmas.Option.{slice_get-get_or, slice_get_within}
use Rattle.std.proofs.Math.Seq.{get_or-append_seam}
use Rattle.rule_tree.specs.declared.rule.Kind.{Kind}
use Rattle.schedule.proofs.Shared.Changed.{HasStates, sound_changed, some_changed}
use Rattle.desk_events.proofs.Shared.Gives.{Arrives, entry_gives, step_gives}
use Rattle.desk_events.proofs.Shared.Needs.{need_is}
use Rattle.desk_events.proofs.Shared.Start.{start_wanted}
use Rattle.desk_events.proofs.Shared.StillWanted.{Keeps, wants_same}
use Rattle.desk_events.proofs.Shared.Tests.{true_eq}

-- one of two is picked by a test
pub picked : {A X : Type 0} (b : Bool) (x y : X) → (b ≡ true → (if b then x else y) ≡ x → A)
    → (b ≡ false → (if b then x else y) ≡ y → A) → A
picked true x y hit miss = hit refl refl
picked false x y hit miss = miss refl refl

-- something right stands either way
stands_if : (es : List Entry) (p : Plan) (need : Need) (b : Bool) (x y : Row) → (b ≡ true → Stands es p need x)
    → (b ≡ false → Stands es p need y) → Stands es p need (if b then x else y)
stands_if es p need true x y hit miss = hit refl
stands_if es p need false x y hit miss = miss refl

-- entries by number

pub get_left : {A : Type 0} (xs ys : List A) (k : ℕ) (x : A) → slice_get xs k ≡ Some x → slice_get (xs ++ ys) k ≡ Some x
get_left [] ys k x h = absurd cc
get_left (y ∷ xs) ys zero x h = h
get_left (y ∷ xs) ys (suc k) x h = get_left xs ys k x h

pub get_last : {A : Type 0} (xs : List A) (x : A) → slice_get (xs ++ x ∷ []) (length xs) ≡ Some x
get_last {A} xs x =
    let long = length-append xs (x ∷ []) in
    slice_get-get_or (xs ++ x ∷ []) (length xs) x (omega (arith, long))
    ∙ ap (λ (y : A). Some y) (get_or-append_seam xs x [] x)

-- what is known to arrive does
pub known_arrives : (c : Core) → IsRight c → Arrives (arrival_in c) c.plan
known_arrives c right m w is = of_row (c.rows (step_to m)) is (right.stands (step_to m))
  where
    of_row : (s : Row) → world_in s ≡ Some w → Stands c.entries c.plan (step_to m) s
        → w ≡ arrival c.plan m.branch m.generation
    of_row s h stands = grind arith

-- a number that is awaited was given
pub below_given : (c : Core) (need : Need) (n : ℕ) → IsRight c → c.rows need ≡ awaits n → n < length c.entries
below_given c need n right out =
    let h = subst (Stands c.entries c.plan need) out (right.stands need) in
    slice_get_within c.entries n h.entry h.there

-- other rows, in each of which something right stands, and of which none awaits what it didn't
with_rows : (c : Core) (rows : Need → Row) → IsRight c → ((need : Need) → Stands c.entries c.plan need (rows need))
    → ((need : Need) (n : ℕ) → rows need ≡ awaits n → c.rows need ≡ awaits n) → IsRight (record c { rows = rows })
with_rows c rows right stands out = record {
  sound = right.sound;
  stands = stands;
  once = λ a b n here there. right.once a b n (out a n here) (out b n there);
  few = right.few;
}

pub one_number : (m n : ℕ) → awaits m ≡ awaits n → m ≡ n
one_number m n h = cc

-- a job is issued

stands_more : (es : List Entry) (e : Entry) (p : Plan) (need : Need) (s : Row) → Stands es p need s
    → Stands (es ++ e ∷ []) p need s
stands_more es e p need (awaits n) h =
    record { entry = h.entry; there = get_left es (e ∷ []) n h.entry h.there; gives = h.gives }
stands_more es e p need s h = h

-- a number is given
pub more_right : (c : Core) (entry : Entry) → IsRight c → length c.entries < 16777216
    → IsRight (record c { entries = c.entries ++ entry ∷ [] })
more_right c entry right few = record {
  sound = right.sound;
  stands = λ need. stands_more c.entries entry c.plan need (c.rows need) (right.stands need);
  once = right.once;
  few = let long = length-append c.entries (entry ∷ []) in omega (arith, few, long);
}

pub issues_right : (c : Core) (need : Need) (entry : Entry) → IsRight c → CanIssue c need entry
    → IsRight (after_event c (issues need entry))
issues_right c need entry right can =
    let n = length c.entries in
    let more = c.entries ++ entry ∷ [] in
    record {
      sound = right.sound;
      stands = λ other.
          stands_if more c.plan other (is_need need other) (awaits n) (c.rows other)
          (λ hit. record {
            entry = entry;
            there = get_last c.entries entry;
            gives = ap (wanted c.plan) (sym (need_is need other hit))
                ∙ entry_gives c.plan (arrival_in c) need entry right.sound (known_arrives c right) can.own;
          })
          (λ miss. stands_more c.entries entry c.plan other (c.rows other) (right.stands other));
      once = λ a b k out other.
          grind (
            arith,
            right.once a b k,
            below_given c a k right,
            below_given c b k right,
            newly a k out,
            newly b k other,
          );
      few = let long = length-append c.entries (entry ∷ []) in let few = can.few in omega (arith, few, long);
    }
  where
    newly : (other : Need) (k : ℕ)
        → (if is_need need other then awaits (length c.entries) else c.rows other) ≡ awaits k
        → ((need ≡ other) × (length c.entries ≡ k)) ⊎ (c.rows other ≡ awaits k)
    newly other k out =
        picked (is_need need other) (awaits (length c.entries)) (c.rows other)
        (λ hit is. inl (need_is need other hit, one_number (length c.entries) k (sym is ∙ out)))
        (λ miss is. inr (sym is ∙ out))

-- an answer is collected

gives_found : (c : Core) (need : Need) (k n : ℕ) (value_is : Option Value) → k ≡ n → IsTrueAnswer c.entries
    (record { number = n; value = value_is }) → GivesWanted c.entries c.plan need k
    → Stands c.entries c.plan need (given_by value_is)
gives_found c need k n value_is same true_one h = grind arith

collects_row : (c : Core) (need : Need) (answer : Answer) (s : Row) → IsTrueAnswer c.entries answer
    → Stands c.entries c.plan need s → Stands c.entries c.plan need (answered answer s)
collects_row c need answer s true_one stands =
    let found = λ (n : ℕ). gives_found c need n answer.number answer.value in
    grind (arith, nat_tests, found)

pub answered_out : (answer : Answer) (s : Row) (n : ℕ) → answered answer s ≡ awaits n → s ≡ awaits n
answered_out answer s n out = grind (arith, nat_tests)

pub collects_right : (c : Core) (answer : Answer) → IsRight c → IsTrueAnswer c.entries answer
    → IsRight (after_event c (collects answer))
collects_right c answer right true_one =
    with_rows c (λ need. answered answer (c.rows need)) right
    (λ need. collects_row c need answer (c.rows need) true_one (right.stands need))
    (λ need n out. answered_out answer (c.rows need) n out)

-- an answer to a number that isn't awaited changes nothing
pub unawaited : (answer : Answer) (s : Row) → ((n : ℕ) → s ≡ awaits n → (n == answer.number) ≡ false)
    → answered answer s ≡ s
unawaited answer s off = grind (arith, nat_tests)

-- a job is cancelled

cancels_row : (c : Core) (need : Need) (number : ℕ) (s : Row) → Stands c.entries c.plan need s
    → Stands c.entries c.plan need (cancelled number s)
cancels_row c need number s stands = grind arith

pub cancelled_out : (number : ℕ) (s : Row) (n : ℕ) → cancelled number s ≡ awaits n → s ≡ awaits n
cancelled_out number s n out = grind (arith, nat_tests)

pub cancels_right : (c : Core) (number : ℕ) → IsRight c → IsRight (after_event c (cancels number))
cancels_right c number right =
    with_rows c (λ need. cancelled number (c.rows need)) right
    (λ need. cancels_row c need number (c.rows need) (right.stands need))
    (λ need n out. cancelled_out number (c.rows need) n out)

-- an earlier step is entered

abbrev came : Kind → World → List CellSet → ℕ → World
came kind from cells gens = iterate gens (step (next_of (record { name = []; kind = kind }))) (lay cells from)

pub same_comes : (s t : Stepping) → AreSameSteps s t → world_after s ≡ world_after t
same_comes s t h = λ i. came (h.rule i) (h.from i) (h.cells i) (h.gens i)

pub recalled_out : (need other : Need) (v : Value) (s : Row) (n : ℕ)
    → (if is_need need other then holds v else s) ≡ awaits n → s ≡ awaits n
recalled_out need other v s n out = grind arith

pub recalls_right : (c : Core) (mark : Mark) (number : ℕ) (s : Stepping) → IsRight c → CanRecall c mark number s
    → IsRight (after_event c (recalls mark number s))
recalls_right c mark number s right can =
    let need = step_to mark in
    let found = pattern (world_after s) in
    with_rows c (λ other. if is_need need other then holds found else c.rows other) right
    (λ other. stands_if c.entries c.plan other (is_need need other) (holds found) (c.rows other)
    (λ hit. ap (wanted c.plan) (sym (need_is need other hit))
    ∙ ap (λ w. Some (pattern w))
    (sym (same_comes s can.own can.same
    ∙ step_gives c.plan (arrival_in c) mark can.own right.sound (known_arrives c right) can.is)))
    (λ miss. right.stands other))
    (λ other n out. recalled_out need other found (c.rows other) n out)

-- an edit is asked

same_stands : (es : List Entry) (p q : Plan) (need : Need) (s : Row) → wanted q need ≡ wanted p need
    → Stands es p need s → Stands es q need s
same_stands es p q need (awaits n) same h = record { entry = h.entry; there = h.there; gives = same ∙ h.gives }
same_stands es p q need s same h = grind arith

-- what is kept of a bookmark's row is that of a bookmark which is there
keeps_there : (branches : List Branch) (p : Plan) (asked : Asked) (felt : Option Mark) (id : ℕ)
    → branches ≡ (changed p asked).plan.branches
    → keeps_bookmark branches felt asked (bookmark_in p.bookmarks id) ≡ true → Keeps p asked felt (View id)
keeps_there branches p asked felt id are on = by_bookmark (bookmark_in p.bookmarks id) refl on
  where
    by_bookmark : (o : Option Bookmark) → bookmark_in p.bookmarks id ≡ o → keeps_bookmark branches felt asked o ≡ true
        → Keeps p asked felt (View id)
    by_bookmark None is h = absurd cc
    by_bookmark (Some b) is h =
        (b, is, subst (λ bs. keeps_bookmark bs felt asked (Some b) ≡ true) are h)

kept_stands : (es : List Entry) (p : Plan) (known : Mark → Option World) (asked : Asked) (felt : Option Mark)
    (need : Need) (row : Row) → IsSound p → refusal p asked ≡ None → Arrives known p
    → IsFelt known p asked (changed p asked).plan felt → Stands es p need row
    → Stands es (changed p asked).plan need (kept_row p asked felt (changed p asked).plan need row)
kept_stands es p known asked felt (Step branch mark) row sound free arrives from stands =
    let q = (changed p asked).plan in
    let m = mark_at branch mark in
    let need = Step branch mark in
    stands_if es q need (is_start m) (holds (pattern q.start)) (if stays_mark felt p q m then row else nothing)
    (λ hit.
    let parts = and_parts (branch == 0) (mark == 0) hit in
    ap₂ (λ b g. wanted q (Step b g)) (true_eq branch 0 parts.0) (true_eq mark 0 parts.1) ∙ start_wanted q)
    (λ miss. stands_if es q need (stays_mark felt p q m) row nothing
    (λ on. same_stands es p q need row (wants_same p known asked felt need sound free arrives from (miss, on)) stands)
    (λ off. tt))
kept_stands es p known asked felt (View id) row sound free arrives from stands =
    let q = (changed p asked).plan in
    stands_if es q (View id) (keeps p asked felt q (View id)) row nothing
    (λ on. same_stands es p q (View id) row
    (wants_same p known asked felt (View id) sound free arrives from (keeps_there q.branches p asked felt id refl on))
    stands) (λ off. tt)

pub kept_out : (p : Plan) (asked : Asked) (felt : Option Mark) (q : Plan) (need : Need) (row : Row) (n : ℕ)
    → kept_row p asked felt q need row ≡ awaits n → row ≡ awaits n
kept_out p asked felt q (Step branch mark) row n out =
    by_tests (is_start (mark_at branch mark)) (stays_mark felt p q (mark_at branch mark)) (pattern q.start) row out
  where
    by_tests : (a b : Bool) (v : Value) (row : Row) → (if a then holds v else if b then row else nothing) ≡ awaits n
        → row ≡ awaits n
    by_tests a b v row is = grind arith
kept_out p asked felt q (View id) row n out = by_test (keeps p asked felt q (View id)) out
  where
    by_test : (b : Bool) → (if b then row else nothing) ≡ awaits n → row ≡ awaits n
    by_test b is = grind arith

has_states : (asked : Asked) → MayBeAsked asked → HasStates asked
has_states (ReplaceRule rule) h = (let two = h.0 in omega (arith, two), h.1)
has_states asked h = tt

-- the document keeps its limits, which the law takes from the edit before, or a caller from its
-- document
pub edits_right_on : (c : Core) (asked : Asked) (felt : Option Mark) → IsRight c
    → (refusal c.plan asked ≡ None → IsSound (changed c.plan asked).plan)
    → IsFelt (arrival_in c) c.plan asked (changed c.plan asked).plan felt → IsRight (after_event c (edits asked felt))
edits_right_on c asked felt right sound from = by_refusal (refusal c.plan asked) refl
  where
    by_refusal : (o : Option EditFault) → refusal c.plan asked ≡ o
        → IsRight (after_edit c asked felt (unless_refused o (changed c.plan asked)))
    by_refusal (Some fault) is = right
    by_refusal None free = record {
      sound = sound free;
      stands = λ need. kept_stands c.entries c.plan (arrival_in c) asked felt need (c.rows need) right.sound free
          (known_arrives c right) from (right.stands need);
      once = λ a b n here there.
          right.once a b n (kept_out c.plan asked felt (changed c.plan asked).plan a (c.rows a) n here)
          (kept_out c.plan asked felt (changed c.plan asked).plan b (c.rows b) n there);
      few = right.few;
    }

pub edits_right : (c : Core) (asked : Asked) (felt : Option Mark) → IsRight c → 0 < states_of c.plan.rule
    → CanEdit c asked felt → IsRight (after_event c (edits asked felt))
edits_right c asked felt right some can =
    edits_right_on c asked felt right
    (λ free. sound_changed c.plan asked right.sound some (has_states asked can.rule) free) can.felt_there

pub edits_some : (c : Core) (asked : Asked) (felt : Option Mark) → 0 < states_of c.plan.rule → MayBeAsked asked
    → 0 < states_of (after_event c (edits asked felt)).plan.rule
edits_some c asked felt some may = by_refusal (refusal c.plan asked)
  where
    by_refusal : (o : Option EditFault)
        → 0 < states_of (after_edit c asked felt (unless_refused o (changed c.plan asked))).plan.rule
    by_refusal (Some fault) = some
    by_refusal None = some_changed c.plan asked some (has_states asked may)
