-- Marks that are counted with the reach of one branch at hand.
use Rattle.std.specs.Prelude.{ℕ, ◌+◌, ◌-◌, ◌^◌, min, List, fold, ◌==◌, if◌then◌else◌}
use Rattle.schedule.specs.declared.document.Intervention.{Intervention}
use Rattle.schedule.specs.declared.acts.Acts.{Acts}
use Rattle.schedule.specs.declared.repeats.Tally.{Tally}
use Rattle.schedule.specs.Acts.{repeats, marks_to}
use Rattle.schedule.specs.Branches.{reach}
use Rattle.schedule.specs.Change.{with_moved_bookmark}
use Rattle.schedule.specs.Plan.{Plan}
use Rattle.schedule.specs.Repeats.{reach_with}

-- a tally with the marks of what acts then in a branch that reaches this far
abbrev pub with_marks : Tally → ℕ → ℕ → Acts → Tally
with_marks t b far acts = record {
  marks = min (t.marks + marks_to far acts) (2 ^ 64 - 1);
  branch = b;
  reach = far;
}

-- the reach of a branch, taken from a tally if that looked at the branch last
abbrev pub reach_after : (ℕ → ℕ) → Tally → ℕ → ℕ
reach_after reaches t b = if t.branch == b then t.reach else reaches b

-- a tally with the marks of what acts then in a branch, if it repeats
abbrev pub tallied : (ℕ → ℕ) → Tally → ℕ → Acts → Tally
tallied reaches t b acts =
    if repeats acts then with_marks t b (reach_after reaches t b) acts else t

-- the tally of interventions, where it is said when each acts and with which branch one begins
abbrev pub tally_of : (ℕ → ℕ) → ℕ → (Intervention → Acts) → List Intervention → Tally
tally_of reaches b acts interventions =
    fold (λ t (i : Intervention). tallied reaches t i.branch (acts i))
    (record { marks = 0; branch = b; reach = reaches b }) interventions

-- that of a document if branch b reaches to `least` at least
abbrev pub tally_with : Plan → ℕ → ℕ → Tally
tally_with p b least =
    tally_of (reach_with p b least) b (λ (i : Intervention). i.acts) p.interventions

-- if the intervention of an id acts then
abbrev pub tally_changed : Plan → ℕ → Acts → Tally
tally_changed p id acts =
    tally_of (reach p) 0 (λ (i : Intervention). if i.id == id then acts else i.acts) p.interventions

-- if the bookmark of an id stands at this generation
abbrev pub tally_moved : Plan → ℕ → ℕ → Tally
tally_moved p id generation =
    tally_of (reach (with_moved_bookmark p id generation).plan) 0
    (λ (i : Intervention). i.acts) p.interventions
