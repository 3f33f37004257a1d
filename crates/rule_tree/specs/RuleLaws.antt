-- What holds of every rule.
use Rattle.std.specs.Prelude.{◌≡◌, ℕ, ◌<◌, Bool, true, false, if◌then◌else◌, List, slice_index}
use Rattle.std.proofs.Common.{ap, refl, arith}
use Rattle.worlds.specs.Step.{nine_zeros, AreNineBelow}
use Rattle.table_symmetry.specs.RuleLaws as table
use Rattle.rule_tree.specs.declared.rule.Kind.{Kind}
use Rattle.rule_tree.specs.declared.rule.Kind.TheVariants.{Table, Tree}
use Rattle.rule_tree.specs.NamedRule.{NamedRule}
use Rattle.rule_tree.specs.Rule.{AreAlike, AreEqual, is_sound, next_of, plain_next, states_of, states_of_kind}
use Rattle.decision_tree.specs.TreeLaws as tree

guarded-quiet : (sound : Bool) (n : ℕ) → (sound ≡ true → n ≡ 0) → (if sound then n else 0) ≡ 0
guarded-quiet true n h = h refl
guarded-quiet false n h = refl

plain-quiet : (kind : Kind) → is_sound kind ≡ true → plain_next kind nine_zeros ≡ 0
plain-quiet (Table t) sound = table.next-quiet t sound
plain-quiet (Tree t) sound = tree.next-quiet t sound

-- a cell of state 0 among such cells keeps it
pub next_of-quiet : (rule : NamedRule) → next_of rule nine_zeros ≡ 0
next_of-quiet rule =
    guarded-quiet (is_sound rule.kind) (plain_next rule.kind nine_zeros) (plain-quiet rule.kind)

guarded-below : (sound : Bool) (n m : ℕ) → 0 < n → (sound ≡ true → m < n)
    → (if sound then m else 0) < n
guarded-below true n m some h = h refl
guarded-below false n m some h = some

plain-below : (kind : Kind) (states : List ℕ) → AreNineBelow (states_of_kind kind) states
    → is_sound kind ≡ true → plain_next kind states < states_of_kind kind
plain-below (Table t) states nine sound = table.next-below t states sound nine
plain-below (Tree t) states nine sound = tree.next-below t states sound nine

-- the next state is a state
pub next_of-below : (rule : NamedRule) (states : List ℕ) → AreNineBelow (states_of rule) states
    → next_of rule states < states_of rule
next_of-below rule states nine =
    let low : slice_index states 0 < states_of rule = nine.below 0 0 (omega (arith, nine.nine)) in
    guarded-below (is_sound rule.kind) (states_of rule) (plain_next rule.kind states)
    (omega (arith, low)) (plain-below rule.kind states nine)

-- the next state under a sound rule is that of its table or tree
pub next_of-plain : (rule : NamedRule) → is_sound rule.kind ≡ true
    → next_of rule ≡ plain_next rule.kind
next_of-plain rule sound =
    let guarded : Bool → List ℕ → ℕ = λ b around. if b then plain_next rule.kind around else 0 in
    ap guarded sound

-- equal rules are alike
pub equal-alike : (rule other : NamedRule) → AreEqual rule other → AreAlike rule other
equal-alike rule other same =
    record {
      states = ap states_of_kind same;
      next = ap (λ kind around. if is_sound kind then plain_next kind around else 0) same;
    }
