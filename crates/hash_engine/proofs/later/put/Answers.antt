use Rattle.hash_engine.proofs.Names.{Adds, IsCounted, IsNumber-grows, IsRightMemo, IsSameRule, KeepsOnWay, List, Makes, Memo, Puts-itself, StandsFor, Table, [], arith, later, result-later, rules, sought, subst, sym, ℕ, ◌<◌, ◌∷◌}
use Rattle.hash_engine.proofs.Standing.{above, within}
use Rattle.hash_engine.proofs.Finding.{Keeps-noted, Keeps-adds, one_result, IsFound-put, IsPut-noted, Asks-put}
use Rattle.hash_engine.proofs.Making.{MakesFor-put}
use Rattle.hash_engine.proofs.later.put.Goals as goal

pub later-requires : goal.later-requires
later-requires g c = search (rules, Puts-itself)

-- the rule was asked, and the table has the square that came of it
asked : (n : ℕ) {next new : List ℕ → ℕ} {c d ahead : ℕ} {t u : Table} {memo : Memo} → 0 < ahead → IsSameRule next new c d →
    Adds (later next (sought t 0 n) ∷ []) t u → IsRightMemo next t memo → KeepsOnWay next new c d (Makes next 0 ahead (sought t 0 n)) t u memo
asked n {next} {new} {c} {d} {ahead} {t} {u} {memo} some rule adds right =
    Keeps-adds rule right adds (one_result next 0 ahead (sought t 0 n) (sym (result-later next ahead (sought t 0 n) some)))

pub returns-in_err-made-clause-keeps : goal.returns-in_err-made-clause-keeps
returns-in_err-made-clause-keeps g c = search (rules, asked)

pub remember-requires-clause-number : goal.remember-requires-clause-number
remember-requires-clause-number g c =
    let rows = c.later.new.table.rows in
    let numbered = IsNumber-grows c.args.table.now c.later.new.table 2 c.args.number c.in_ok-made.ensures.adds.grows c.requires.ready.numbered in
    (above rows 1 c.args.number numbered, within rows 1 c.args.number numbered)

pub returns-in_err-remember-clause-keeps : goal.returns-in_err-remember-clause-keeps
returns-in_err-remember-clause-keeps g c =
    let made = c.in_ok-made.ensures in
    let numbered = c.requires.ready.numbered in
    let keeps = asked c.args.number c.requires.some made.rule made.adds c.requires.anew.right in
    let found = IsFound-put c.args.table.now c.args.number {Counted = ⊥} c.requires.some made.square (λ no. absurd no) in
    Keeps-noted c.remember.new.self keeps numbered found c.remember.ensures.rows c.remember.ensures.right

pub returns : goal.returns
returns g c =
    let made = c.in_ok-made.ensures in
    let some = c.requires.some in
    let numbered = c.requires.ready.numbered in
    let keeps = asked c.args.number some made.rule made.adds c.requires.anew.right in
    let noted = c.in_ok-remember.ensures.noted in
    let positive : 0 < c.in_ok-made.made = omega (arith, above c.later.new.table.rows 0 c.in_ok-made.made made.square.numbered) in
    let rows = c.remember.ensures.rows in
    let square = subst (λ rows. StandsFor rows 1 c.in_ok-made.made (later (g.Q.Ask.meaning c.args.rule.now) (sought c.args.table.now 0 c.args.number))) (sym rows.rows) made.square in
    let found = IsFound-put c.args.table.now c.args.number {Counted = ⊥} some made.square (λ no. absurd no) in
    record {
      keeps = Keeps-noted c.remember.new.self keeps numbered found rows c.remember.ensures.right;
      found = IsFound-put c.args.table.now c.args.number some square
          (λ (is : IsCounted (g.Q.Ask.meaning c.args.rule.now) 0 c.args.ahead c.args.table.now c.args.memo.now). IsPut-noted some is.few keeps.grows numbered rows noted positive);
      asks = λ is.
          let anew = c.requires.anew.anew (let few = is.few in omega (arith, some, few)) in
          Asks-put some is.few keeps.grows numbered rows noted positive made.adds.notes c.requires.anew.right is.has anew made.asks;
      made = MakesFor-put c.args.number some keeps.grows made.adds.notes c.requires.anew.right numbered made.square rows noted;
      full = search rules;
    }
