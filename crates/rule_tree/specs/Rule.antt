-- The rule that a file means, and the next state of a cell under a rule.
use Rattle.std.specs.Prelude.{◌≡◌, ℕ, Bool, if◌then◌else◌, List, codes, slice_index, Option, Some, Result, Ok}
use Rattle.std.proofs.Common.{refl}
use Rattle.rule_file.specs.declared.fault.RuleFault.{RuleFault}
use Rattle.rule_file.specs.declared.text.SectionKind.{SectionKind}
use Rattle.rule_file.specs.declared.text.SectionKind.TheVariants as section
use Rattle.basics.specs.Results.{◌>>=◌}
use Rattle.rule_file.specs.RuleFile.{Section, file_of}
use Rattle.table_symmetry.specs.NextState as table
use Rattle.table_symmetry.specs.Rule as table_rule
use Rattle.table_symmetry.specs.TableLines.{table_of}
use Rattle.rule_tree.specs.declared.rule.Kind.{Kind}
use Rattle.rule_tree.specs.declared.rule.Kind.TheVariants.{Table, Tree}
use Rattle.rule_tree.specs.Asked.{IsTreeFor}
use Rattle.rule_tree.specs.NamedRule.{NamedRule}
use Rattle.decision_tree.specs.Tree as tree_rule
use Rattle.decision_tree.specs.TreeLines.{tree_of}

abbrev pub name_of : NamedRule → List ℕ
name_of rule = rule.name

-- how many states the cells have
abbrev pub states_of_kind : Kind → ℕ
states_of_kind (Table t) = t.states
states_of_kind (Tree t) = t.states

abbrev pub states_of : NamedRule → ℕ
states_of rule = states_of_kind rule.kind

-- the next state of a cell, by the nine states at and around it
abbrev pub plain_next : Kind → List ℕ → ℕ
plain_next (Table t) around = table.next t around
plain_next (Tree t) around = tree_rule.next t around

-- a table or a tree that a file may have
abbrev pub is_sound : Kind → Bool
is_sound (Table t) = table_rule.is_sound t
is_sound (Tree t) = tree_rule.is_sound t

-- the next state of a cell under a rule. A rule's laws, that nine zeros give 0 and that the answer
-- is a state, are asked of all values of this type, also of those that aren't sound: there it is 0.
-- The rule that a file means is sound, so that this is `plain_next` (`RulesOfFilesArePlain`)
abbrev pub next_of : NamedRule → List ℕ → ℕ
next_of rule around = if is_sound rule.kind then plain_next rule.kind around else 0

-- the table or the tree that a section says, or its one fault
abbrev pub kind_by : SectionKind → Section → Result Kind RuleFault
kind_by section.Table s = table_of s.lines >>= λ t. Ok (Table t)
kind_by section.Tree s = tree_of s >>= λ t. Ok (Tree t)

abbrev pub kind_of : Section → Result Kind RuleFault
kind_of s = kind_by s.kind s

-- the rule that a file means, or its one fault
abbrev pub rule_of : List ℕ → Result NamedRule RuleFault
rule_of bytes = do
  file ← file_of bytes
  kind ← kind_of file.section
  Ok (record { name = file.name; kind = kind })

-- rules of the same kind with equal parts, whatever their names are
abbrev pub AreEqual : NamedRule → NamedRule → Type 0
AreEqual rule other = rule.kind ≡ other.kind

-- rules of the same states that give the same next state of every cell
pub record AreAlike (rule other : NamedRule) : Type 0 where
  pub states : states_of rule ≡ states_of other
  pub next : next_of rule ≡ next_of other

-- the tree that is asked for the next states: a tree is asked itself, and in place of a table its
-- translation, unless that is too large
abbrev pub IsAsked : Kind → Option tree_rule.Tree → Type 0
IsAsked (Tree t) asked = asked ≡ Some t
IsAsked (Table t) asked = IsTreeFor t asked

-- the rule `still`, under which each cell keeps its state
abbrev pub still : NamedRule
still = record { name = codes "still"; kind = Table table_rule.still_table }

pub name_of-still : name_of still ≡ codes "still"
name_of-still = refl

pub states_of-still : states_of still ≡ 2
states_of-still = refl

pub next_of-still : (states : List ℕ) → next_of still states ≡ slice_index states 0
next_of-still states = refl
