use Rattle.step_engine.proofs.Names.{Err, rules, subst, sym, ◌∙◌}
use Rattle.worlds.specs.Stop.{CountsStop}
use Rattle.step_engine.specs.Evolved.{IsRoomSpent}
use Rattle.step_engine.specs.Kept.{IsRightCache}
use Rattle.step_engine.proofs.Caches.{IsRoomSpent-limit}
use Rattle.step_engine.specs.declared.evolved.EvolveFault.TheVariants.{Stopped}
use Rattle.step_engine.proofs.Shared.Ends.{CountsStop-memory, no_room-memory}
use Rattle.step_engine.proofs.kept.Engine.evolve.Goals as goal

pub invariant_of-self : goal.invariant_of-self
invariant_of-self g c = subst (λ r. IsRightCache (g.R.Next.meaning r) c.pass-found.new.self) c.new.ensures.rule c.pass-found.ensures.right

pub invariant_of-self-in_err-self-inside : goal.invariant_of-self-in_err-self-inside
invariant_of-self-in_err-self-inside g c = subst (λ r. IsRightCache (g.R.Next.meaning r) c.pass-found.new.self) c.new.ensures.rule c.pass-found.ensures.right

pub invariant_of-self-2 : goal.invariant_of-self-2
invariant_of-self-2 g c = subst (λ r. IsRightCache (g.R.Next.meaning r) c.pass.new.self) c.new-2.ensures.rule c.pass.ensures.right

pub pass-requires-clause-right : goal.pass-requires-clause-right
pass-requires-clause-right g c = c.in_ok-self-inside.ensures.right _

pub returns-then-was_new-clause-stop : goal.returns-then-was_new-clause-stop
returns-then-was_new-clause-stop g c = c.pass-found.ensures.stop

pub returns-in_err-self-inside-clause-stop : goal.returns-in_err-self-inside-clause-stop
returns-in_err-self-inside-clause-stop g c = CountsStop-memory c.from_residual.result c.from_residual.ensures.1 (search rules)

pub returns-in_err-self-inside-clause-no_room : goal.returns-in_err-self-inside-clause-no_room
returns-in_err-self-inside-clause-no_room g c = λ h. absurd (no_room-memory c.from_residual.result c.from_residual.ensures.1 h)

pub returns-clause-stop : goal.returns-clause-stop
returns-clause-stop g c = subst (λ n. CountsStop c.pass.result (Err Stopped) n (g.S.Stop.yes_count c.pass.new.stop)) (search rules) c.pass.ensures.stop

pub returns-clause-no_room : goal.returns-clause-no_room
returns-clause-no_room g c = λ h. rw (sym c.self.view_is)
    (subst (λ r. IsRoomSpent c.self.inside.cache.limit (g.R.Next.meaning r) c.args.plane.now c.args.generations) c.new-2.ensures.rule
    (IsRoomSpent-limit (c.in_ok-self-inside.ensures.limit ∙ c.pass-found.ensures.limit) (c.pass.ensures.no_room h c.in_ok-self-inside.ensures.new)))
