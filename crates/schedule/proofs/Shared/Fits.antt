-- After an edit that isn't refused the cells that interventions set can be laid, and the marks
-- aren't too many.
use Rattle.schedule.proofs.Names.{AddBookmark, AddBranch, All, Asked, CanBeLaid, Change, Insert, IsSound, MoveBookmark, None, Plan, RemoveBookmark, RemoveBranch, RemoveIntervention, cells_at, changed, first_refusal, refusals, repeat_marks}
use Rattle.schedule.proofs.Names.{states_of, ℕ, ◌≡◌, ◌≤◌}
use Rattle.schedule.proofs.Shared.History.{AreNamed-at, SetBelow-at, CanBeLaid-named}
use Rattle.schedule.proofs.Sounds.{IsSound-branch, IsSound-removed_branch}
use Rattle.schedule.proofs.SoundLists.{IsSound-intervention, IsSound-changed_intervention, IsSound-removed_intervention, IsSound-bookmark, IsSound-moved_bookmark, IsSound-removed_bookmark}

-- those of a document
pub CanBeLaid-at : (p : Plan) (b g : ℕ) → IsSound p → All CanBeLaid (cells_at p.interventions b g)
CanBeLaid-at p b g sound = CanBeLaid-named (states_of p.rule) (cells_at p.interventions b g) sound.few_states
    (AreNamed-at p b g sound) (SetBelow-at p b g sound)

-- and those after an edit
pub CanBeLaid-changed : (p : Plan) (asked : Asked) (b g : ℕ) → IsSound p → first_refusal (refusals p asked) ≡ None
    → All CanBeLaid (cells_at (changed p asked).plan.interventions b g)
CanBeLaid-changed p (Insert n acts cells) b g sound free =
    CanBeLaid-at (changed p (Insert n acts cells)).plan b g (IsSound-intervention p n acts cells sound free)
CanBeLaid-changed p (Change id acts cells) b g sound free =
    CanBeLaid-at (changed p (Change id acts cells)).plan b g (IsSound-changed_intervention p id acts cells sound free)
CanBeLaid-changed p (RemoveIntervention id) b g sound free =
    CanBeLaid-at (changed p (RemoveIntervention id)).plan b g (IsSound-removed_intervention p id sound)
CanBeLaid-changed p asked b g sound free = CanBeLaid-at p b g sound

-- after an edit there are no more marks than a document may have
pub few_marks-changed : (p : Plan) (asked : Asked) → IsSound p → first_refusal (refusals p asked) ≡ None
    → repeat_marks (changed p asked).plan ≤ 8192
few_marks-changed p (Insert n acts cells) sound free = (IsSound-intervention p n acts cells sound free).few_marks
few_marks-changed p (Change id acts cells) sound free =
    (IsSound-changed_intervention p id acts cells sound free).few_marks
few_marks-changed p (RemoveIntervention id) sound free = (IsSound-removed_intervention p id sound).few_marks
few_marks-changed p (AddBookmark n generation view) sound free =
    (IsSound-bookmark p n generation view sound free).few_marks
few_marks-changed p (MoveBookmark id generation) sound free =
    (IsSound-moved_bookmark p id generation sound free).few_marks
few_marks-changed p (RemoveBookmark id) sound free = (IsSound-removed_bookmark p id sound).few_marks
few_marks-changed p (AddBranch parent generation) sound free =
    (IsSound-branch p parent generation sound free).few_marks
few_marks-changed p (RemoveBranch n) sound free = (IsSound-removed_branch p n sound free).few_marks
few_marks-changed p asked sound free = sound.few_marks
