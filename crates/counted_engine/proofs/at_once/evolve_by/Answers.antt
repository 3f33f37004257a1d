use Rattle.counted_engine.proofs.Names.{Err, Table, ap, arith, length, one_world, refl, rules, ◌∙◌, ◌≤◌}
use Rattle.step_engine.proofs.Shared.Spent.{root-for, root-asked, root-later, later-world, searching, start-spent, search-spent}
use Rattle.step_engine.proofs.Shared.Beside.{no_rows}
use Rattle.counted_engine.proofs.Reported.{searched, all-put}
use Rattle.step_engine.proofs.Shared.Ends.{CountsStop-memory, CountsStop-ok, CountsStop-search, CountsStop-table, full-search, full-table, went_on}
use Rattle.counted_engine.proofs.at_once.evolve_by.Goals as goal

pub result-requires : goal.result-requires
result-requires g c = root-asked c.rooted.ensures.adds c.in_ok-root.ensures.root c.requires.below

pub pack-requires-clause-world : goal.pack-requires-clause-world
pack-requires-clause-world g c =
    later-world (g.Q.Ask.meaning c.args.rule.now) (g.met.Q.Ask.quiet c.args.rule.now) c.requires.fits (root-for c.rooted.ensures.adds c.in_ok-root.ensures.root) c.in_ok-found.ensures.found.square

pub returns-clause-asks : goal.returns-clause-asks
returns-clause-asks g c =
    let root = root-for c.rooted.ensures.adds c.in_ok-root.ensures.root in
    c.in_ok-found.ensures.once c.args.plane.now _ _ root.room.few root.centred.square

pub returns-in_err-root-clause-no_room : goal.returns-in_err-root-clause-no_room
returns-in_err-root-clause-no_room g c = λ h. start-spent c.rooted.ensures.adds
    (c.rooted.ensures.full (c.in_err-root.was ∙ ap (λ f. Err f) (full-table c.from_residual-in_err-root.result c.in_err-root.field-0.0 c.from_residual-in_err-root.ensures.1 h)))
    c.args.limit (no_rows _ (ap (λ (t : Table). t.rows) c.in_ok-table.ensures)) (omega (arith, ap (λ (t : Table). length t.rows) c.in_ok-table.ensures, ap (λ (t : Table). t.limit) c.in_ok-table.ensures))

pub returns-in_err-found-clause-no_room : goal.returns-in_err-found-clause-no_room
returns-in_err-found-clause-no_room g c = λ h. search-spent c.rooted.ensures.adds c.in_ok-root.ensures.root c.result.ensures.grows
    (c.result.ensures.end.full (c.in_err-found.was ∙ ap (λ f. Err f) (full-search c.from_residual-in_err-found.result c.in_err-found.field-0.0 c.from_residual-in_err-found.ensures.1 h))) c.args.limit
    (no_rows _ (ap (λ (t : Table). t.rows) c.in_ok-table.ensures)) (omega (arith, ap (λ (t : Table). length t.rows) c.in_ok-table.ensures, ap (λ (t : Table). t.limit) c.in_ok-table.ensures))

pub returns-clause-evolved : goal.returns-clause-evolved
returns-clause-evolved g c =
    let next = g.Q.Ask.meaning c.args.rule.now in
    let adds = c.rooted.ensures.adds in
    let rooted = c.in_ok-root.ensures.root in
    let counts = c.in_ok-found.ensures.found in
    let few : c.len.result ≤ c.args.limit = search rules in
    record {
      plane = one_world c.in_ok-plane.plane _ _ _ c.in_ok-plane.ensures.plane (root-later next (g.met.Q.Ask.quiet c.args.rule.now) (root-for adds rooted) counts.square);
      report = record {
        within = record { squares = few; fours = omega (arith, counts.few, c.len.ensures.count); base = counts.base };
        k = adds.k;
        root = adds.root;
        held = λ all way. searched adds rooted c.result.ensures.grows.grows counts.made c.len.ensures.distinct
            (searching adds rooted c.result.ensures.grows all way (grind (arith, c.in_ok-table.ensures))) c.len.ensures.count counts.fours;
        put = all-put adds rooted counts.put;
      };
    }

pub returns-in_err-table-clause-stop : goal.returns-in_err-table-clause-stop
returns-in_err-table-clause-stop g c = CountsStop-memory c.from_residual.result c.from_residual.ensures.1 refl

pub returns-in_err-root-clause-stop : goal.returns-in_err-root-clause-stop
returns-in_err-root-clause-stop g c = CountsStop-table c.from_residual-in_err-root.result c.in_err-root.field-0.0 c.from_residual-in_err-root.ensures.1 refl

pub returns-in_err-found-clause-stop : goal.returns-in_err-found-clause-stop
returns-in_err-found-clause-stop g c =
    CountsStop-search c.from_residual-in_err-found.result c.in_err-found.field-0.0 c.from_residual-in_err-found.ensures.1 c.in_err-found.was c.result.ensures.end.stop

pub returns-in_err-plane-clause-stop : goal.returns-in_err-plane-clause-stop
returns-in_err-plane-clause-stop g c =
    CountsStop-memory c.from_residual-in_err-plane.result c.from_residual-in_err-plane.ensures.1 (went_on c.in_ok-found.was c.result.ensures.end.stop)

pub returns-clause-stop : goal.returns-clause-stop
returns-clause-stop g c = CountsStop-ok _ (went_on c.in_ok-found.was c.result.ensures.end.stop)
