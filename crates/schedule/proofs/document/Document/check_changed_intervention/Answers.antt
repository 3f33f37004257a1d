use Rattle.schedule.proofs.Names.{Intervention, ap, false, first_of, first_refusal, for_cells_before, for_changed, for_changed_intervention, is_before_fork, le-ltb, lt-ltb, option_map, refl, sym, true, ◌∙◌, ◌≡◌}
use Rattle.schedule.specs.Change.{for_acting}
use Rattle.schedule.specs.declared.fault.EditFault.TheVariants.{BadRepeat, BeforeFork, GenerationTooFar}
use Rattle.schedule.proofs.Refused.{changed_there, checks_same, pass, stop}
use Rattle.schedule.proofs.document.Document.check_changed_intervention.Goals as goal

pub returns-in_default : goal.returns-in_default
returns-in_default c =
    let p = c.args.self.now in
    ap
    (λ o. first_refusal
    (for_acting p (option_map (λ (x : Intervention). x.branch) o) c.args.acts c.args.cells.now
    (for_changed p c.args.id c.args.acts c.args.cells.now)))
    (sym c.in_default.ensures)

pub returns-then-acts_too_far : goal.returns-then-acts_too_far
returns-then-acts_too_far c =
    let far = sym c.acts_too_far.ensures ∙ c.if-acts_too_far.true in
    ap first_refusal
    (changed_there c.args.self.now c.args.id c.args.acts c.args.cells.now c.in-Some.intervention.now
    c.in-Some.ensures)
    ∙ stop GenerationTooFar _ far

pub returns-then-is_bad_repeat : goal.returns-then-is_bad_repeat
returns-then-is_bad_repeat c =
    let near = sym c.acts_too_far.ensures ∙ c.if-acts_too_far.false in
    let bad = sym c.is_bad_repeat.ensures ∙ c.if-is_bad_repeat.true in
    ap first_refusal
    (changed_there c.args.self.now c.args.id c.args.acts c.args.cells.now c.in-Some.intervention.now
    c.in-Some.ensures)
    ∙ pass GenerationTooFar near (stop BadRepeat _ bad)

pub returns-then-first-fork_of : goal.returns-then-first-fork_of
returns-then-first-fork_of c =
    let near = sym c.acts_too_far.ensures ∙ c.if-acts_too_far.false in
    let good = sym c.is_bad_repeat.ensures ∙ c.if-is_bad_repeat.false in
    let less = rw (c.first.ensures, c.fork_of.ensures, c.deref.ensures.value) at c.if-first-fork_of.true in
    let early : is_before_fork c.args.self.now c.in-Some.intervention.now.branch (first_of c.args.acts) ≡ true
    =
    rw (← c.self.view_is) (lt-ltb _ _ less) in
    ap first_refusal
    (changed_there c.args.self.now c.args.id c.args.acts c.args.cells.now c.in-Some.intervention.now
    c.in-Some.ensures)
    ∙ pass GenerationTooFar near (pass BadRepeat good (stop BeforeFork _ early))

pub returns : goal.returns
returns c =
    let near = sym c.acts_too_far.ensures ∙ c.if-acts_too_far.false in
    let good = sym c.is_bad_repeat.ensures ∙ c.if-is_bad_repeat.false in
    let most = rw (c.first.ensures, c.fork_of.ensures, c.deref.ensures.value) at c.if-first-fork_of.false in
    let late : is_before_fork c.args.self.now c.in-Some.intervention.now.branch (first_of c.args.acts) ≡ false
    =
    rw (← c.self.view_is) (le-ltb _ _ most) in
    let p = c.args.self.now in
    let last = for_changed p c.args.id c.args.acts c.args.cells.now in
    checks_same c.check_changed.result (for_cells_before p c.args.cells.now last)
    (for_changed_intervention p c.args.id c.args.acts c.args.cells.now)
    (ap first_refusal
    (changed_there p c.args.id c.args.acts c.args.cells.now c.in-Some.intervention.now c.in-Some.ensures)
    ∙ pass GenerationTooFar near (pass BadRepeat good (pass BeforeFork late refl)))
    (rw c.as_slice.ensures at c.check_changed.ensures)
