-- Nothing that is remembered is left to enter.
use Rattle.dependency_book.proofs.Names.{ArrivalRow, BookState, CanBeReached, ComesBefore, Empty, Expected, IsHeldBook, IsRightBook, IsSome, IsSound, Known, List}
use Rattle.dependency_book.proofs.Names.{LooksUp, Mark, Need, None, NoneBefore, NoneKnown, PutsRow, Remembers, RowState, SameBook}
use Rattle.dependency_book.proofs.Names.{SameButFacts, Some, Step, StepsFrom, StepsTo, Value, View, World, [], ap, ap₂, arc_value, arith}
use Rattle.dependency_book.proofs.Names.{arrival_known, arrival_row, before_one, by_key, cells_at, clash, either_way, false_lt, is_mark, is_need, known, length}
use Rattle.dependency_book.proofs.Names.{mark_at, mark_near, mark_rank, nat_lt, need_is, need_same, pattern, place_in, places_of, rank_rises, refl, row_of, state_map, step_said}
use Rattle.dependency_book.proofs.Names.{step_to, steppable, subst, sym, text, true, with_facts, world_after, true_lt, ℕ, ◌+◌, ◌<◌}
use Rattle.dependency_book.proofs.Names.{◌∙◌, ◌≡◌, ◌≤◌}
use Rattle.worlds.specs.declared.cell.CellSet.{CellSet}
use Rattle.rule_tree.specs.declared.rule.Kind.{Kind}
use Rattle.rule_tree.specs.declared.rule.Rule.{Rule}
use Rattle.revision_jobs.specs.declared.entry.Step.{Step as Stepping}
use Rattle.step_facts.specs.Known.{Fact}
use Rattle.step_facts.specs.Known as remembered
use Rattle.step_facts.specs.Same.{Asked, asked_of, coded_asked, same_code, same_step}
use Rattle.std.specs.Map.{lookup}
use Rattle.dependency_book.proofs.Needed.{before_lower, reached_there, row_for}
use Rattle.dependency_book.proofs.Outs.{held_by}
use Rattle.dependency_book.proofs.Recalled.{CanBeEntered, entered, puts_beside}
use Rattle.dependency_book.proofs.Placed.{mark_of, mark_row, place_of_mark}
use Rattle.dependency_book.proofs.Standing.{place_in-keys}
use Rattle.dependency_book.proofs.Shared.Recalling.{recalls_book}

-- to a mark there leads one step, so that one pattern at most is remembered for it

abbrev asked : Kind → World → List CellSet → ℕ → Asked
asked kind from cells gens = record { kind = kind; from = from; cells = cells; gens = gens }

one_step : (d : BookState) (mark : Mark) (s t : Stepping) → IsSound d.plan → StepsTo d mark s → StepsTo d mark t
    → asked_of s ≡ asked_of t
one_step d mark s t sound own other =
    let before = before_one d.plan own.before other.before mark sound own.comes other.comes in
    let rule : arc_value s.rule ≡ arc_value t.rule = own.rule ∙ sym other.rule in
    let known : Some (arc_value s.from) ≡ Some (arc_value t.from) =
    sym own.from ∙ ap (arrival_known d) before ∙ other.from in
    let from : arc_value s.from ≡ arc_value t.from = cc in
    let cells : s.cells ≡ t.cells = own.cells
    ∙ ap (λ (m : Mark). cells_at d.plan.interventions m.branch m.generation) before ∙ sym other.cells in
    let at = ap (λ (m : Mark). m.generation) before in
    let here = own.gap in
    let there = other.gap in
    let gens : s.gens ≡ t.gens = omega (arith, at, here, there) in
    ap₂ (λ (r : Rule) w. asked r.kind w s.cells s.gens) rule from
    ∙ ap₂ (asked (arc_value t.rule).kind (arc_value t.from)) cells gens

known_same : (facts : List Fact) (s t : Stepping) → asked_of s ≡ asked_of t
    → remembered.known facts s ≡ remembered.known facts t
unfolding same_step
known_same facts s t same =
    ap (λ a. lookup (λ (u : Stepping). same_code (coded_asked.code a) (coded_asked.code (asked_of u))) facts) same

-- a look by which no row changes

pub looks_only : {mark : Mark} {d e : BookState} → SameButFacts d e → Remembers d e → d.missed ≤ e.missed
    → (e.missed ≡ d.missed → CanBeReached e mark → NoneKnown e mark) → LooksUp mark d e
looks_only same remembers more none = record {
  recalls = ([], same);
  others = λ need off. ap (λ b. row_of b need) same;
  remembers = remembers;
  missed = more;
  none = none;
}

pub none_known : {mark : Mark} (d e : BookState) (s : Stepping) → SameButFacts d e → Remembers d e → IsSound d.plan
    → StepsTo d mark s → remembered.known d.facts s ≡ None → NoneKnown e mark
none_known {mark} d e s same remembers sound own none t other =
    let is : asked_of t ≡ asked_of s =
    one_step d mark t s sound (subst (λ b. StepsTo b mark t) same other) own in
    remembers t ∙ known_same d.facts t s is ∙ none

-- what was found is entered
pub looks_found : {mark : Mark} {d e : BookState} {s : Stepping} (w : World) (facts : List Fact) → CanBeEntered d mark s
    → w ≡ world_after s → ((t : Stepping) → remembered.known facts t ≡ remembered.known d.facts t)
    → PutsRow (step_to mark) (Known (pattern w)) (with_facts d facts d.missed) e → LooksUp mark d e
looks_found {mark} {d} {e} {s} w facts h is same puts = record {
  recalls = entered h e w is (puts_beside (step_to mark) (Known (pattern w)) d facts d.missed e puts);
  others = λ need off. puts.rows need ∙ rw off refl;
  remembers = λ t. ap (λ fs. remembered.known fs t) puts.remembered.facts ∙ same t;
  missed = (let still = puts.remembered.missed in omega (arith, still));
  none = λ still can. absurd
      (let here : row_of e (step_to mark) ≡ Known (pattern w) = puts.rows (step_to mark)
      ∙ rw (need_same (step_to mark)) refl in
      let none : row_of e (step_to mark) ≡ Empty = ap (state_map pattern) can.empty in
      cc);
}

-- the marks whose rows stand before a place have none left

abbrev pub LeavesNoneBefore : BookState → ℕ → Type 0
LeavesNoneBefore d n = (m : Mark) → CanBeReached d m → place_of_mark d m < n → NoneKnown d m

module _ {d : BookState} {places : List ℕ} (held : IsHeldBook d places) where
  pub left_first : (n : ℕ) → NoneBefore (steppable d.plan.branches d.arrivals) n → LeavesNoneBefore d n
  left_first n none m can under s own =
      let x = row_for m in
      let f = mark_row held m can.led.above can.led.is in
      clash (steppable d.plan.branches d.arrivals (place_of_mark d m) x) (reached_there held m can f x)
      (none (place_of_mark d m) x under)

  pub left_last : LeavesNoneBefore d (length d.arrivals) → (m : Mark) → CanBeReached d m → NoneKnown d m
  left_last before m can = before m can (mark_row held m can.led.above can.led.is).at.low

-- and behind a look for the next one

abbrev mark_named : Need → Mark
mark_named (Step branch mark) = mark_at branch mark
mark_named (View id) = mark_at 0 0

abbrev unpatterned : RowState Value → RowState World
unpatterned Empty = Empty
unpatterned (Expected job) = Expected job
unpatterned (Known (pattern w)) = Known w
unpatterned (Known (text bytes)) = Empty

pattern_back : (s : RowState World) → unpatterned (state_map pattern s) ≡ s
pattern_back Empty = refl
pattern_back (Expected job) = refl
pattern_back (Known w) = refl

module _ {d e : BookState} {mark : Mark} (looks : LooksUp mark d e) (right : IsRightBook d) where
  book : SameBook d e
  book = recalls_book d e looks.recalls

  beside : (m : Mark) → (mark ≡ m → ⊥) → arrival_row e m ≡ arrival_row d m
  beside m off =
      either_way (is_need (step_to mark) (step_to m))
      (λ hit. absurd (off (ap mark_named (need_is (step_to mark) (step_to m) hit))))
      (λ miss. sym (pattern_back (arrival_row e m)) ∙ ap unpatterned (looks.others (step_to m) miss)
      ∙ pattern_back (arrival_row d m))

  module _ (m : Mark) (there : is_mark d.plan m ≡ true) (under : mark_rank m < mark_rank mark) where
    same_before : (b : Mark) → ComesBefore d.plan b m → arrival_row e b ≡ arrival_row d b
    same_before b comes =
        let near = mark_near d.plan m right.core.sound there in
        let lower = before_lower d.plan b m right.core.sound near comes in
        beside b (λ is. let same = ap mark_rank is in absurd (omega (arith, same, lower, under)))

    reached_before : CanBeReached e m → CanBeReached d m
    reached_before can =
        let b = can.led.before in
        let comes = subst (λ p. ComesBefore p b m) book.document.plan can.led.comes in
        record {
          led = record {
            above = can.led.above;
            is = there;
            before = b;
            comes = comes;
            arrived = subst (λ r. IsSome (known r)) (same_before b comes) can.led.arrived;
          };
          empty = sym (beside m (λ is. let same = ap mark_rank is in absurd (omega (arith, same, under))))
              ∙ can.empty;
        }

    step_before : (s : Stepping) → StepsTo e m s → StepsTo d m s
    step_before s own =
        let o = subst (λ p. StepsFrom p (arrival_known e) m (step_said s)) book.document.plan own in
        record {
          noted = o.noted;
          before = o.before;
          comes = o.comes;
          rule = o.rule;
          from = sym (ap known (same_before o.before o.comes)) ∙ o.from;
          cells = o.cells;
          gap = o.gap;
        }

  pub left_on : (n : ℕ) (x : ArrivalRow) → n < length d.arrivals → mark ≡ mark_of d.arrivals n x
      → e.missed ≡ d.missed → LeavesNoneBefore d n → LeavesNoneBefore e (n + 1)
  left_on n x low is still before m can under s own =
      let held = held_by d (places_of d.arrivals d.plan.bookmarks) refl right in
      let there = subst (λ p. is_mark p m ≡ true) book.document.plan can.led.is in
      let f = mark_row held m can.led.above there in
      let q = place_of_mark d m in
      let rank = mark_rank m in
      let same : place_of_mark e m ≡ q = place_in-keys mark_rank rank e.arrivals
      ∙ ap (place_in mark_rank rank) book.document.marks ∙ sym (place_in-keys mark_rank rank d.arrivals) in
      either_way (nat_lt q n)
      (λ hit.
      let less = true_lt q n hit in
      let rises = rank_rises (by_key mark_rank) d.arrivals q n x held.marks_rise less low in
      let at : mark_rank (mark_of d.arrivals q x) ≡ rank = ap mark_rank (f.is x) in
      let here : mark_rank mark ≡ mark_rank (mark_of d.arrivals n x) = ap mark_rank is in
      let lower : rank < mark_rank mark = omega (arith, rises, at, here) in
      looks.remembers s ∙ before m (reached_before m there lower can) less s (step_before m there lower s own))
      (λ miss.
      let up = false_lt q n miss in
      let last : n ≡ q = omega (arith, up, same, under) in
      let one : mark ≡ m = is ∙ ap (λ k. mark_of d.arrivals k x) last ∙ f.is x in
      subst (λ a. CanBeReached e a → NoneKnown e a) one (looks.none still) can s own)
