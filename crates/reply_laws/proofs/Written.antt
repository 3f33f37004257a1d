-- The rows of a document can be written.
use Rattle.reply_laws.proofs.Names.{AllByRecursion, AreMarked, AreNamed, ArePlaced, AreWritten, Asked, Bookmark, Bool, Branch, CanBeWritten, FitsSigned, HasText, Insert, Intervention, IsAllowed, IsCount, IsForked, IsInside, IsName}
use Rattle.reply_laws.proofs.Names.{IsNameByte, IsPlaced, IsSound, IsTimely, IsTrue, IsWritten, IsWrittenCell, IsWrittenDistance, IsWrittenView, Kind, List, NamedRule, NoRuleLine, None, NumberedLine, Ok, Option, Plan, RuleFile, SetBelow}
use Rattle.reply_laws.proofs.Names.{Some, [], add_all, add_bookmark, add_branch, add_intervention, after, all_append, all_tested, arith, bookmark_edits, branch_edits, codes, cond, file_of, first_of, flat_map, ids_between}
use Rattle.reply_laws.proofs.Names.{intervention_edits, ints, is_name, is_name_byte, kind_of, length, name_of, named, nat_le, nat_lt, nat_tests, numbered_from, ok_or, option_and_then, option_map, pos, range_with_len, refl, row_edits}
use Rattle.reply_laws.proofs.Names.{rule_name, rule_of, says, section_of, skip_bookmark, skip_branch, skip_intervention, states_of, subst, suc, sym, then-ok, true, w64, zero, ℕ, ℤ, ◌&&◌, ◌*◌, ◌++◌, ◌+◌, ◌-◌, ◌<◌, ◌==◌, ◌>>=◌, ◌^◌, ◌∷◌, ◌≡◌}
use Rattle.reply_laws.proofs.Names.{◌≤◌}
use Rattle.std.proofs.lemmas.Bool.{and_parts, ltb-true}
use Rattle.std.proofs.Math.Nat.{le-mul_of_pos_right, mul-le-mul_left}
use Rattle.worlds.specs.declared.cell.CellSet.{CellSet}
use Rattle.bookmarks.specs.declared.view.View.{View}
use Rattle.bookmarks.specs.Within.{KeepsViewLimits, spans_plane}
use Rattle.bookmarks.proofs.Places.{area, spanned}
use Rattle.schedule.specs.declared.acts.Acts.{Acts}
use Rattle.schedule.specs.Branches.{has_branch}
use Rattle.schedule.specs.Ids.{bookmark_id, branch_id, has_id, intervention_id}

-- ids between others
range-counts : (a n : ℕ) → (0 < n → a + n < 2 ^ 64) → AllByRecursion IsCount (range_with_len a n)
range-counts a zero h = tt
range-counts a (suc n) h =
    let top = h (omega arith) in
    (omega (arith, top), range-counts (a + 1) n (λ some. omega (arith, top)))

between-counts : (last id : ℕ) → IsCount id → AllByRecursion IsCount (ids_between last id)
between-counts last id h = range-counts (last + 1) (id - (last + 1)) (λ some. omega (arith, some, h))

module _ {X : Type 0} (id : X → ℕ) (skip : ℕ → List Asked) (add : X → Asked)
    (skips : (n : ℕ) → IsCount n → AllByRecursion IsWritten (skip n)) where
  skipped : (ids : List ℕ) → AllByRecursion IsCount ids → AllByRecursion IsWritten (flat_map skip ids)
  skipped [] h = tt
  skipped (n ∷ ids) h = all_append IsWritten (skip n) (flat_map skip ids) (skips n h.0) (skipped ids h.1)

  all-written : (last : ℕ) (xs : List X) → AllByRecursion (λ x. IsCount (id x) × IsWritten (add x)) xs
      → AllByRecursion IsWritten (add_all id skip add last xs)
  all-written last [] h = tt
  all-written last (x ∷ xs) h =
      all_append IsWritten (flat_map skip (ids_between last (id x))) (add x ∷ add_all id skip add (id x) xs)
      (skipped (ids_between last (id x)) (between-counts last (id x) h.0.0)) (h.0.1, all-written (id x) xs h.1)

-- a branch that is there
listed : (branches : List Branch) (b last : ℕ) → AllByRecursion (λ (x : Branch). x.id ≤ last) branches
    → has_id branch_id branches b ≡ true → b ≤ last
listed [] b last given there = absurd (cc there)
listed (x ∷ xs) b last given there = grind (arith, nat_tests, given.0, listed xs b last given.1)

there-counts : (branches : List Branch) (b last : ℕ) → AllByRecursion (λ (x : Branch). x.id ≤ last) branches
    → IsCount last → has_branch branches b ≡ true → IsCount b
there-counts branches b last given small there = grind (arith, listed, nat_tests)

-- cells that may be named
cell-written : (n : ℕ) (c : CellSet) → n ≤ 256 → IsInside (2 ^ 60) c.x c.y → c.state < n → IsWrittenCell c
cell-written n c few h low = grind (arith, ints)

named-cells : (cs : List CellSet) → AreNamed cs → AllByRecursion (λ (c : CellSet). IsInside (2 ^ 60) c.x c.y) cs
named-cells [] h = tt
named-cells (c ∷ cs) h = (h.0, named-cells cs h.1)

cells-written : (n : ℕ) (cs : List CellSet) → n ≤ 256 → AllByRecursion (λ (c : CellSet). IsInside (2 ^ 60) c.x c.y) cs
    → SetBelow n cs → AllByRecursion IsWrittenCell cs
cells-written n [] few named below = tt
cells-written n (c ∷ cs) few named below =
    (cell-written n c few named.0 below.0, cells-written n cs few named.1 below.1)

insert-written : (b : ℕ) (acts : Acts) (cs : List CellSet) → IsCount b → IsTimely acts → IsWrittenDistance acts → AreWritten cs
    → IsWritten (Insert b acts cs)
insert-written b acts cs small timely counted cells = grind (arith)

-- a view within its limits
sides : (w k : ℕ) → IsTrue (nat_lt 0 w && nat_lt 0 k && nat_le (w * k) 65536) → (w < 2 ^ 32) × (k < 2 ^ 32)
sides w k h = grind (arith, and_parts, area, le-mul_of_pos_right, ltb-true, mul-le-mul_left)

signed-written : (z : ℤ) (n : ℕ) → IsTrue (spans_plane z n) → n < 2 ^ 32 → FitsSigned w64 z
signed-written z n h small = grind (arith, ints, spanned)

view-written : (v : View) → KeepsViewLimits v → IsWrittenView v
view-written v h = grind (arith, and_parts, sides, signed-written)

-- the branches, bookmarks and interventions of a sound document
module _ (p : Plan) (sound : IsSound p) (small : IsCount p.revision) where
  last-branch : IsCount p.last_branch
  last-branch = grind (arith)

  placed-counts : (b g : ℕ) → IsPlaced p.branches b g → IsCount b
  placed-counts b g h = there-counts p.branches b p.last_branch sound.branches_sound.given last-branch h.there

  branch-one : (xs : List Branch) → AllByRecursion (IsForked p.branches) xs
      → AllByRecursion (λ (x : Branch). x.id ≤ p.last_branch) xs
      → AllByRecursion (λ (x : Branch). IsCount x.id × IsWritten (add_branch x)) xs
  branch-one [] forked given = tt
  branch-one (x ∷ xs) forked given = grind (arith, last-branch, placed-counts, branch-one xs forked.1 given.1)

  bookmark-one : (xs : List Bookmark) → AllByRecursion (λ (b : Bookmark). b.id ≤ p.last_bookmark) xs
      → AreMarked p.branches xs → AllByRecursion (λ (b : Bookmark). b.generation ≤ 2 ^ 60) xs
      → AllByRecursion (λ (b : Bookmark). KeepsViewLimits b.view) xs
      → AllByRecursion (λ (b : Bookmark). IsCount b.id × IsWritten (add_bookmark b)) xs
  bookmark-one [] given placed near within = tt
  bookmark-one (b ∷ bs) given placed near within =
      let low = sound.bookmarks_within in
      let there = placed-counts b.branch b.generation placed.0 in (
        grind (arith, view-written, low, there, given.0, near.0, within.0),
        bookmark-one bs given.1 placed.1 near.1 within.1,
      )

  intervention-one : (xs : List Intervention) → AllByRecursion (λ (i : Intervention). i.id ≤ p.last_intervention) xs
      → ArePlaced p.branches xs → AllByRecursion (IsAllowed (states_of p.rule)) xs
      → AllByRecursion (λ (i : Intervention). 0 < length i.cells) xs
      → AllByRecursion (λ (i : Intervention). IsWrittenDistance i.acts) xs
      → AllByRecursion (λ (i : Intervention). IsCount i.id × IsWritten (add_intervention i)) xs
  intervention-one [] given placed allowed some counted = tt
  intervention-one (i ∷ is) given placed allowed some counted =
      let low = sound.interventions_within in
      let one = allowed.0 in
      let cells : AreWritten i.cells = record {
        some = some.0;
        each = cells-written (states_of p.rule) i.cells sound.few_states (named-cells i.cells one.named) one.below;
      } in (
        (
          omega (arith, given.0, low, small),
          insert-written i.branch i.acts i.cells (placed-counts i.branch (first_of i.acts) placed.0) one.timely counted.0 cells,
        ),
        intervention-one is given.1 placed.1 allowed.1 some.1 counted.1,
      )

  branches-written : AllByRecursion IsWritten (branch_edits p)
  branches-written =
      all-written branch_id skip_branch add_branch (λ n h. ((omega arith, omega arith), (h, tt))) 0 p.branches
      (branch-one p.branches sound.branches_sound.forked sound.branches_sound.given)

  bookmarks-written : AllByRecursion IsWritten (bookmark_edits p)
  bookmarks-written =
      all-written bookmark_id skip_bookmark add_bookmark (λ n h. ((omega arith, omega arith, tt), (h, tt))) 0 p.bookmarks
      (bookmark-one p.bookmarks sound.bookmarks_given sound.branches_sound.bookmarks_placed sound.bookmarks_near
      sound.views_within)

  interventions-written : AllByRecursion (λ (i : Intervention). 0 < length i.cells) p.interventions
      → AllByRecursion (λ (i : Intervention). IsWrittenDistance i.acts) p.interventions
      → AllByRecursion IsWritten (intervention_edits p)
  interventions-written some counted =
      all-written intervention_id skip_intervention add_intervention
      (λ n h. ((omega arith, omega arith, one-cell), (h, tt))) 0 p.interventions
      (intervention-one p.interventions sound.interventions_given sound.branches_sound.interventions_placed
      sound.interventions_allowed some counted)
    where
      one-cell : AreWritten (record { x = pos 0; y = pos 0; state = 0 } ∷ [])
      one-cell = record { some = omega arith; each = (record { x = grind (arith, ints); y = grind (arith, ints); state = omega arith }, tt) }

pub rows-written : (p : Plan) → IsSound p → CanBeWritten p → AllByRecursion IsWritten (row_edits p)
rows-written p sound can =
    let small = can.revision in
    all_append IsWritten (branch_edits p ++ bookmark_edits p) (intervention_edits p)
    (all_append IsWritten (branch_edits p) (bookmark_edits p) (branches-written p sound small)
    (bookmarks-written p sound small)) (interventions-written p sound small can.cells can.distances)

-- the name of a rule that a text means
name_byte : (b : ℕ) → is_name_byte b ≡ true → IsNameByte b
name_byte b h = grind (arith, nat_tests)

name-is : (name : List ℕ) → is_name name ≡ true → IsName name
name-is name h = grind (arith, all_tested, and_parts, name_byte, nat_tests)

if-named : (o : Option (List ℕ)) (name : List ℕ) → option_and_then (λ n. cond (is_name n) (Some n) None) o ≡ Some name
    → is_name name ≡ true
if-named o name h = grind (arith)

line-named : (v : Bool) (o : Option (List ℕ)) (lines : List NumberedLine) (found : List ℕ × List NumberedLine)
    → ((name : List ℕ) → o ≡ Some name → is_name name ≡ true) → (named lines ≡ Ok found → is_name found.0 ≡ true)
    → cond v (named lines) (ok_or (option_map (λ name. (name, lines)) o) NoRuleLine) ≡ Ok found → is_name found.0 ≡ true
line-named v o lines found here later h = grind (arith)

named-is : (lines : List NumberedLine) (found : List ℕ × List NumberedLine) → named lines ≡ Ok found
    → is_name found.0 ≡ true
named-is [] found h = absurd cc
named-is (line ∷ lines) found h =
    line-named (length line.text == 0) (rule_name line.text) lines found
    (λ name. if-named (after (codes "@RULE ") line.text) name) (named-is lines found) h

rule-named : (text : List ℕ) (rule : NamedRule) → rule_of text ≡ Ok rule → IsName (name_of rule)
rule-named text rule h =
    let of : RuleFile → Kind → NamedRule = λ file kind. record { name = file.name; kind = kind } in
    let file = then-ok (file_of text) (λ file. kind_of file.section >>= λ kind. Ok (of file kind)) rule h in
    let kind = then-ok (kind_of file.0.section) (λ kind. Ok (of file.0 kind)) rule file.2 in
    let found = then-ok (named (numbered_from 1 (says text)))
    (λ found. section_of found.1 >>= λ section. Ok (record { name = found.0; section = section })) file.0 file.1 in
    let section = then-ok (section_of found.0.1) (λ section. Ok (record { name = found.0.0; section = section })) file.0 found.2 in
    let same : found.0.0 ≡ name_of rule = cc (section.2, kind.2) in
    subst IsName same (name-is found.0.0 (named-is (numbered_from 1 (says text)) found.0 found.1))

pub text-named : (p : Plan) (text : Option (List ℕ)) → HasText p text → IsName (name_of p.rule)
text-named p None has = subst (λ (r : NamedRule). IsName (name_of r)) (sym has) (name-is (codes "still") refl)
text-named p (Some text) has = rule-named text p.rule has.means
