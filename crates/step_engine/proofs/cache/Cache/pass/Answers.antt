use Rattle.step_engine.proofs.Names.{Err, Grows, Grows-then, IsRight-grows, ap, arith, one_world, refl, ◌∙◌, ◌≡◌}
use Rattle.step_engine.proofs.Caches.{IsRightCache-grows, SpendsNew-beside}
use Rattle.step_engine.proofs.Shared.Spent.{root-for, root-asked, root-later, later-world, start-spent, search-spent}
use Rattle.step_engine.proofs.Shared.Ends.{CountsStop-memory, CountsStop-ok, CountsStop-search, CountsStop-table, full-search, full-table, went_on}
use Rattle.step_engine.specs.Padded.{IsSquareOf}
use Rattle.hash_engine.specs.Memo.{IsRightMemo}
use Rattle.step_engine.proofs.cache.Cache.pass.Goals as goal
use Rattle.step_engine.proofs.cache.Cache.pass.Goals.{in-Ok+in-Some-1, in-Ok+in-None-1, in_default}

pub search-requires : goal.search-requires
search-requires g c = record {
  asked = root-asked c.rooted.ensures.adds c.in_ok-root.ensures.root c.requires.evolve.below;
  right = IsRight-grows (g.Q.Ask.meaning c.args.rule.now) c.args.self.now.table c.rooted.new.table c.args.self.now.memo c.rooted.ensures.adds.grows c.rooted.ensures.adds.notes c.requires.right.right;
}

pub pack-requires-clause-world : goal.pack-requires-clause-world
pack-requires-clause-world g c =
    later-world (g.Q.Ask.meaning c.args.rule.now) (g.met.Q.Ask.quiet c.args.rule.now) c.requires.evolve.fits (root-for c.rooted.ensures.adds c.in_ok-root.ensures.root) c.in_ok-found.ensures.square

pub returns-in_err-root-clause-right : goal.returns-in_err-root-clause-right
returns-in_err-root-clause-right g c = IsRightCache-grows c.requires.right c.rooted.ensures.adds.grows
    (IsRight-grows (g.Q.Ask.meaning c.args.rule.now) c.args.self.now.table c.rooted.new.table c.args.self.now.memo c.rooted.ensures.adds.grows c.rooted.ensures.adds.notes c.requires.right.right) tt

pub returns-in_err-found-clause-right : goal.returns-in_err-found-clause-right
returns-in_err-found-clause-right g c = IsRightCache-grows c.requires.right (Grows-then c.args.self.now.table c.rooted.new.table c.search.new.table c.rooted.ensures.adds.grows c.search.ensures.grows.grows) c.search.ensures.right tt

pub returns-in_err-later-clause-right : goal.returns-in_err-later-clause-right
returns-in_err-later-clause-right g c =
    let next = g.Q.Ask.meaning c.args.rule.now in
    let grows = Grows-then c.args.self.now.table c.rooted.new.table c.search.new.table c.rooted.ensures.adds.grows c.search.ensures.grows.grows in
    rw c.pack.ensures.same (IsRightCache-grows c.requires.right grows c.search.ensures.right tt)

pub returns-clause-right : goal.returns-clause-right
returns-clause-right g c =
    let next = g.Q.Ask.meaning c.args.rule.now in
    let was = c.search.new.table in
    let later = c.in_ok-later.later in
    let found = c.in_ok-found.found in
    let same : c.pack.new.self ≡ was = c.pack.ensures.same in
    let grows : Grows c.args.self.now.table c.pack.new.self =
    rw same (Grows-then c.args.self.now.table c.rooted.new.table was c.rooted.ensures.adds.grows c.search.ensures.grows.grows) in
    let memo : IsRightMemo next c.pack.new.self c.search.new.memo = rw same c.search.ensures.right in
    let root = root-for c.rooted.ensures.adds c.in_ok-root.ensures.root in
    let is : IsSquareOf was later found =
    record { held = c.in_ok-found.ensures.square.held; low = omega (arith, c.in_ok-found.ensures.square.level, root.level.0); centred = c.in_ok-later.ensures.plane } in
    let packed : IsSquareOf c.pack.new.self later found = rw same is in
    elim c.match-copy.branch [
      | in-Ok+in-Some-1 w ↦ rw w.self-is (IsRightCache-grows c.requires.right grows memo (rw w.in-Ok.ensures packed))
      | in-Ok+in-None-1 w ↦ rw w.self-is (IsRightCache-grows c.requires.right grows memo (rw w.in-Ok.ensures packed))
      | in_default w ↦ rw w.self-is (IsRightCache-grows c.requires.right grows memo tt)
    ]

pub returns-in_err-root-clause-no_room : goal.returns-in_err-root-clause-no_room
returns-in_err-root-clause-no_room g c = λ h. SpendsNew-beside c.requires.right (start-spent c.rooted.ensures.adds
    (c.rooted.ensures.full (c.in_err-root.was ∙ ap (λ f. Err f) (full-table c.from_residual.result c.in_err-root.field-0.0 c.from_residual.ensures.1 h))))

pub returns-in_err-found-clause-no_room : goal.returns-in_err-found-clause-no_room
returns-in_err-found-clause-no_room g c = λ h. SpendsNew-beside c.requires.right (search-spent c.rooted.ensures.adds c.in_ok-root.ensures.root c.search.ensures.grows
    (c.search.ensures.end.full (c.in_err-found.was ∙ ap (λ f. Err f) (full-search c.from_residual-in_err-found.result c.in_err-found.field-0.0 c.from_residual-in_err-found.ensures.1 h))))

pub returns-clause-plane : goal.returns-clause-plane
returns-clause-plane g c =
    let root = root-for c.rooted.ensures.adds c.in_ok-root.ensures.root in
    one_world _ _ _ _ c.in_ok-later.ensures.plane (root-later (g.Q.Ask.meaning c.args.rule.now) (g.met.Q.Ask.quiet c.args.rule.now) root c.in_ok-found.ensures.square)

pub returns-in_err-root-clause-stop : goal.returns-in_err-root-clause-stop
returns-in_err-root-clause-stop g c = CountsStop-table c.from_residual.result c.in_err-root.field-0.0 c.from_residual.ensures.1 refl

pub returns-in_err-found-clause-stop : goal.returns-in_err-found-clause-stop
returns-in_err-found-clause-stop g c =
    CountsStop-search c.from_residual-in_err-found.result c.in_err-found.field-0.0 c.from_residual-in_err-found.ensures.1 c.in_err-found.was c.search.ensures.end.stop

pub returns-in_err-later-clause-stop : goal.returns-in_err-later-clause-stop
returns-in_err-later-clause-stop g c =
    CountsStop-memory c.from_residual-in_err-later.result c.from_residual-in_err-later.ensures.1 (went_on c.in_ok-found.was c.search.ensures.end.stop)

pub returns-clause-stop : goal.returns-clause-stop
returns-clause-stop g c = CountsStop-ok c.in_ok-later.later (went_on c.in_ok-found.was c.search.ensures.end.stop)
