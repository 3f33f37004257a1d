use Rattle.multistate_rle.proofs.Names.{List, OnOk, Place, Token, [], ap, arith, behind, finished, joined, length, map, of_cell, on_ok_weaker, place_of, rules, sym, tokens, tokens_on, way, ℕ, ◌++◌, ◌∙◌, ◌∷◌, ◌≡◌, ◌≤◌}
use Rattle.multistate_rle.proofs.Runs.{begins, cells_done}
use Rattle.multistate_rle.proofs.body.Body.push_cells.Goals as goal

pub returns-in_default : goal.returns-in_default
returns-in_default c =
    let left = c.args.frame.now.left in
    let top = c.args.frame.now.top in
    let none : length c.args.cells.now ≤ 0 = omega (arith, c.in_default.ensures.cases) in
    on_ok_weaker c.push.result
    (λ written. written [] ∙ ap (λ cells. finished c.args.self.now (tokens left (top, left) cells)) (sym (cells_done c.args.cells.now 0 none))) c.push.ensures

pub returns : goal.returns
returns c =
    let left = c.args.frame.now.left in
    let top = c.args.frame.now.top in
    let first = c.in-Some.first.now in
    let cells : List (Place × ℕ) = map of_cell c.in-Some.rest.now in
    let split : c.args.cells.now ≡ first ∷ c.in-Some.rest.now = search rules in
    let way_written : (ts : List Token) → finished c.push_way.new.self ts ≡ finished c.args.self.now (way left (top, left) (place_of first) ++ ts) = search rules in
    let rest_written : OnOk c.push_rest.result (finished c.push_rest.new.self [] ≡ finished c.push_way.new.self (tokens_on left c.of.result cells)) = search rules in
    on_ok_weaker c.push_rest.result
    (λ written. grind (arith, begins, split, way_written (joined 1 first.state (tokens left (behind (place_of first)) cells)))) rest_written
