use Rattle.counted_engine.proofs.Names.{HasNoFull, IsCounted, Table, ap, ap₂, arith, cells_of, level_of, refl, rules, square_at, square_in, suc, ◌-◌, ◌^◌, ◌∙◌, ◌≡◌, ◌≤◌}
use Rattle.std.proofs.lemmas.Result.{IfOk-from_err}
use Rattle.hash_engine.proofs.Shared.Ending.{went_on, End-found, End-same, End-memory}
use Rattle.hash_engine.proofs.Shared.Roots.{CanSeek-root, Grows-root}
use Rattle.counted_engine.proofs.Blocks.{Grows-unnoted, put_blocks, asked_once, asked_without}
use Rattle.counted_engine.proofs.found.result.Goals as goal

pub forward-requires : goal.forward-requires
forward-requires g c =
    let next = g.Q.Ask.meaning c.args.rule.now in
    let t = c.forget_notes.new.self in
    CanSeek-root (asked_without c.forget_notes.ensures c.requires) (g.met.Q.Ask.below c.args.rule.now) c.level-k.ensures c.number.ensures
    (c.turn_to.ensures.right next t (c.nothing-memo.ensures.right next t (search rules)))

pub returns : goal.returns
returns g c =
    let next = g.Q.Ask.meaning c.args.rule.now in
    let t = c.forget_notes.new.self in
    let rows : t.rows ≡ c.args.table.now.rows = ap (λ (u : Table). u.rows) c.forget_notes.ensures in
    let k = c.level-k.result - 2 in
    let made = c.in_ok-number.ensures in
    let count = c.count_squares-counts.ensures in
    let less : k ≡ level_of c.args.root - 2 = ap (λ l. l - 2) c.level-k.ensures in
    let level : suc (suc k) ≡ level_of c.args.root = omega (arith, c.requires.level.0, c.level-k.ensures) in
    let root : square_in t.rows (suc (suc k)) c.number.result ≡ cells_of c.args.table.now c.args.root =
    ap (λ rs. square_in rs (suc (suc k)) c.number.result) rows ∙ ap₂ (square_in c.args.table.now.rows) level c.number.ensures in
    let none : HasNoFull t = search rules in
    let has = c.turn_to.ensures.put next t (c.nothing-memo.ensures.put next t none) in
    let whole = (made.made (c.turn_to.ensures.made next t (c.nothing-memo.ensures.made next t none))).1 in
    let counted : c.args.generations ≤ 2 ^ (level_of c.args.root - 2) → IsCounted next k c.args.generations t c.turn_to.new.self = λ few. grind (arith, less, few, has) in
    let blocks = λ (few : c.args.generations ≤ 2 ^ (level_of c.args.root - 2)). put_blocks c.number.result none (counted few) made.keeps.right count.distinct count.put (made.asks (counted few)) (made.found.put (counted few)) in
    record {
      grows = Grows-unnoted c.forget_notes.ensures (Grows-root c.level-k.ensures c.number.ensures c.requires.level.0 made.keeps);
      rule = made.keeps.rule;
      found = record {
        square = grind (arith, made.found.square, less, root, c.in_ok-square.ensures, c.level-k.ensures, level);
        made = grind (arith, whole, less, root);
        fours = count.fours;
        few = count.few;
        base = count.base;
        put = λ few. grind (arith, blocks few, less, root);
      };
      once = λ w x y few at.
          let cells : square_in t.rows (suc (suc k)) c.number.result ≡ square_at w (suc (suc k)) x y = grind (arith, root, level, at) in
          asked_once c.number.result none (counted few) made.keeps.right count.distinct count.put (made.asks (counted few)) w x y
          (g.met.Q.Ask.quiet c.args.rule.now) cells (blocks few);
      end = End-found _ (went_on made.end);
    }

pub returns-in_err-number-clause-grows : goal.returns-in_err-number-clause-grows
returns-in_err-number-clause-grows g c =
    Grows-unnoted c.forget_notes.ensures (Grows-root c.level-k.ensures c.number.ensures c.requires.level.0 c.forward.ensures.keeps)

pub returns-in_err-number-clause-rule : goal.returns-in_err-number-clause-rule
returns-in_err-number-clause-rule g c = c.forward.ensures.keeps.rule

pub returns-in_err-number-clause-found : goal.returns-in_err-number-clause-found
returns-in_err-number-clause-found g c = IfOk-from_err c.from_residual.result _ c.from_residual.ensures.0

pub returns-in_err-number-clause-once : goal.returns-in_err-number-clause-once
returns-in_err-number-clause-once g c = IfOk-from_err c.from_residual.result _ c.from_residual.ensures.0

pub returns-in_err-number-clause-end : goal.returns-in_err-number-clause-end
returns-in_err-number-clause-end g c = End-same c.forward.result c.from_residual.result c.in_err-number.field-0.0 c.in_err-number.was c.from_residual.ensures.1 c.forward.ensures.end refl

pub returns-in_err-square-clause-grows : goal.returns-in_err-square-clause-grows
returns-in_err-square-clause-grows g c =
    Grows-unnoted c.forget_notes.ensures (Grows-root c.level-k.ensures c.number.ensures c.requires.level.0 c.in_ok-number.ensures.keeps)

pub returns-in_err-square-clause-rule : goal.returns-in_err-square-clause-rule
returns-in_err-square-clause-rule g c = c.in_ok-number.ensures.keeps.rule

pub returns-in_err-square-clause-found : goal.returns-in_err-square-clause-found
returns-in_err-square-clause-found g c = IfOk-from_err c.from_residual-in_err-square.result _ c.from_residual-in_err-square.ensures.0

pub returns-in_err-square-clause-once : goal.returns-in_err-square-clause-once
returns-in_err-square-clause-once g c = IfOk-from_err c.from_residual-in_err-square.result _ c.from_residual-in_err-square.ensures.0

pub returns-in_err-square-clause-end : goal.returns-in_err-square-clause-end
returns-in_err-square-clause-end g c = End-memory c.from_residual-in_err-square.result c.from_residual-in_err-square.ensures.1 (went_on c.in_ok-number.ensures.end)
