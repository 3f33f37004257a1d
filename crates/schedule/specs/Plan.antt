-- What a document says.
use Rattle.std.specs.Prelude.{ℕ, List, []}
use Rattle.worlds.specs.World.{World, blank}
use Rattle.rule_tree.specs.declared.rule.Rule.{Rule}
use Rattle.rule_tree.specs.Rule.{still}
use Rattle.schedule.specs.declared.document.Intervention.{Intervention}
use Rattle.schedule.specs.declared.document.Bookmark.{Bookmark}
use Rattle.schedule.specs.declared.branch.Branch.{Branch}

-- a rule, a start, interventions, bookmarks and the branches besides 0 by rising id, the revision,
-- and the last ids that were given
pub record Plan : Type 0 where
  pub rule : Rule
  pub start : World
  pub interventions : List Intervention
  pub bookmarks : List Bookmark
  pub branches : List Branch
  pub revision : ℕ
  pub last_intervention : ℕ
  pub last_bookmark : ℕ
  pub last_branch : ℕ

-- the document that every experiment begins with
abbrev pub opening : ℕ → Plan
opening revision = record {
  rule = still;
  start = blank;
  interventions = [];
  bookmarks = [];
  branches = [];
  revision = revision;
  last_intervention = 0;
  last_bookmark = 0;
  last_branch = 0;
}
