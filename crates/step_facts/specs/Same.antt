-- When two steps are the same.
use Rattle.std.specs.Prelude.{◌≡◌, ℕ, Bool, true, false, ◌==◌, ◌&&◌, List}
use Rattle.std.specs.Arc.{arc_value}
use Rattle.std.specs.Coded.{Coded, codes}
use base.Stored.{Gv, gnil, gnum, gcons}
use Rattle.worlds.specs.World.{World, coded_world}
use Rattle.worlds.specs.declared.cell.CellSet.{CellSet}
use Rattle.rule_tree.specs.declared.rule.Kind.{Kind}
use Rattle.revision_jobs.specs.declared.entry.Step.{Step}

-- what a step comes of: what its rule does, whatever its name is, its pattern, the cells that are
-- laid on that, and how many generations pass
pub record Asked : Type 0 where
  pub kind : Kind
  pub from : World
  pub cells : List CellSet
  pub gens : ℕ

abbrev pub asked_of : Step → Asked
asked_of s = record {
  kind = (arc_value s.rule).kind;
  from = arc_value s.from;
  cells = s.cells;
  gens = s.gens;
}

-- a code that tells such apart
pub coded_asked : Coded Asked
coded_asked = hlevel (codes, coded_world)

-- whether two codes are one
unfoldable pub same_code : Gv → Gv → Bool
same_code gnil gnil = true
same_code (gnum m) (gnum n) = m == n
same_code (gcons a b) (gcons c d) = same_code a c && same_code b d
same_code gnil (gnum n) = false
same_code gnil (gcons c d) = false
same_code (gnum m) gnil = false
same_code (gnum m) (gcons c d) = false
same_code (gcons a b) gnil = false
same_code (gcons a b) (gnum n) = false

-- whether two steps are the same but for the names of their rules
unfoldable pub same_step : Step → Step → Bool
same_step s t = same_code (coded_asked.code (asked_of s)) (coded_asked.code (asked_of t))
