use Rattle.multistate_rle.proofs.Names.{List, Token, ap, behind, finished, joined, place_of, rules, tokens, way, ◌++◌, ◌∙◌, ◌∷◌, ◌≡◌}
use Rattle.multistate_rle.proofs.Runs.{GoesOn, breaks, begins}
use Rattle.multistate_rle.proofs.body.Body.advance.Goals as goal

pub returns-clause-written : goal.returns-clause-written
returns-clause-written c cells =
    let left = c.args.left in
    let run = c.args.run in
    let cell = c.args.cell.now in
    let apart : GoesOn run cell → ⊥ = λ same. let hit = c.goes_on_with.ensures.1 same in cc in
    let rest = joined 1 cell.state (tokens left (behind (place_of cell)) cells) in
    let way_written : (ts : List Token) → finished c.push_way.new.self ts ≡ finished c.push.new.self (way left (run.y, run.next) (place_of cell) ++ ts) = search rules in
    ap (finished c.push_way.new.self) (begins left c.of.result cell cells c.of.ensures.place c.of.ensures.cells)
    ∙ way_written rest
    ∙ c.in_ok-push.ensures (way left (run.y, run.next) (place_of cell) ++ rest)
    ∙ ap (λ t. finished c.args.self.now (t ∷ (way left (run.y, run.next) (place_of cell) ++ rest))) c.token.ensures
    ∙ ap (finished c.args.self.now) (breaks left run cell cells apart)
