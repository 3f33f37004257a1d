-- A document that an edit changes keeps its limits.
use Rattle.schedule.proofs.Names.{AddBookmark, AddBranch, Asked, Change, Insert, IsSound, MoveBookmark, None, Plan, RemoveBookmark, RemoveBranch, RemoveIntervention, ReplaceRule, ReplaceStart, SetCells, changed, refusal, states_of, ⊤, ◌<◌}
use Rattle.schedule.proofs.Names.{◌≡◌, ◌≤◌}
use Rattle.schedule.proofs.Sounds.{IsSound-cells, IsSound-start, IsSound-rule, IsSound-branch, IsSound-removed_branch}
use Rattle.schedule.proofs.SoundLists.{IsSound-intervention, IsSound-changed_intervention, IsSound-removed_intervention, IsSound-bookmark, IsSound-moved_bookmark, IsSound-removed_bookmark}

-- a rule that is asked for has states, and not too many
abbrev pub HasStates : Asked → Type 0
HasStates (ReplaceRule rule) = (0 < states_of rule) × (states_of rule ≤ 256)
HasStates _ = ⊤

pub sound_changed : (p : Plan) (asked : Asked) → IsSound p → 0 < states_of p.rule → HasStates asked
    → refusal p asked ≡ None → IsSound (changed p asked).plan
sound_changed p (Insert b acts cells) sound some has free = IsSound-intervention p b acts cells sound free
sound_changed p (Change id acts cells) sound some has free = IsSound-changed_intervention p id acts cells sound free
sound_changed p (RemoveIntervention id) sound some has free = IsSound-removed_intervention p id sound
sound_changed p (SetCells cells) sound some has free = IsSound-cells p cells sound free
sound_changed p (ReplaceStart start) sound some has free = IsSound-start p start sound free some
sound_changed p (ReplaceRule rule) sound some has free = IsSound-rule p rule sound free has.0 has.1
sound_changed p (AddBookmark b generation view) sound some has free =
    IsSound-bookmark p b generation view sound free
sound_changed p (MoveBookmark id generation) sound some has free =
    IsSound-moved_bookmark p id generation sound free
sound_changed p (RemoveBookmark id) sound some has free = IsSound-removed_bookmark p id sound
sound_changed p (AddBranch parent generation) sound some has free =
    IsSound-branch p parent generation sound free
sound_changed p (RemoveBranch b) sound some has free = IsSound-removed_branch p b sound free

-- and its rule still has states
pub some_changed : (p : Plan) (asked : Asked) → 0 < states_of p.rule → HasStates asked
    → 0 < states_of (changed p asked).plan.rule
some_changed p (ReplaceRule rule) some has = has.0
some_changed p asked some has = some
