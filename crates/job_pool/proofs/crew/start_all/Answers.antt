use Rattle.job_pool.proofs.Names.{Entries, Terms, arith, terms_of, ◌≡◌}
use Rattle.job_pool.proofs.Pops.{popped}
use Rattle.job_pool.proofs.crew.start_all.Goals as goal

pub start-requires-after_bounds : goal.start-requires-after_bounds
start-requires-after_bounds g c κs within =
    let own = λ (s : Entries). s ≡ c.args.entries.now in
    let known = λ (s : Terms). s ≡ terms_of c.args.entries.now c.args.squares in (
      (popped own _ _ _ c.in-Some-Some-Some.ensures'.items c.crew.invariant.inboxes).1,
      (popped known _ _ _ c.in-Some-Some-Some.ensures''.items c.crew.invariant.senders).1,
    )

pub crew-preserved : goal.crew-preserved
crew-preserved g c =
    let own = λ (s : Entries). s ≡ c.args.entries.now in
    let known = λ (s : Terms). s ≡ terms_of c.args.entries.now c.args.squares in
    let gates = c.in-Some-Some-Some.ensures.cases in
    let inboxes = c.in-Some-Some-Some.ensures'.cases in
    let senders = c.in-Some-Some-Some.ensures''.cases in
    record {
      inboxes = (popped own _ _ _ c.in-Some-Some-Some.ensures'.items c.crew.invariant.inboxes).0;
      senders = (popped known _ _ _ c.in-Some-Some-Some.ensures''.items c.crew.invariant.senders).0;
      gates_left = omega (arith, gates, c.crew.invariant.gates_left);
      inboxes_left = omega (arith, inboxes, c.crew.invariant.inboxes_left);
      senders_left = omega (arith, senders, c.crew.invariant.senders_left);
    }
