use Rattle.hash_engine.proofs.Names.{Contains, IfOk-weaker, Puts-itself, Puts-last, StandsFor, arith, lit<, subst, sym, ◌<◌, ◌∙◌}
use Rattle.hash_engine.proofs.Finding.{same_rule}
use Rattle.hash_engine.proofs.ByBlocks.{Keeps-way, result_none, result_some, keeps_block}
use Rattle.hash_engine.proofs.eight.forward.Goals as goal

pub returns-then-ahead-eq0-clause-keeps : goal.returns-then-ahead-eq0-clause-keeps
returns-then-ahead-eq0-clause-keeps g c =
    keeps_block (g.Q.Ask.meaning c.args.rule.now) c.args.ahead c.args.table.now c.args.quadrants (result_none _ _ c.if-ahead-eq0.true)
    (same_rule _ _) (c.middle_of.ensures.adds 0 c.requires.ready.numbered) c.requires.right

pub returns-then-ahead-eq0-clause-found : goal.returns-then-ahead-eq0-clause-found
returns-then-ahead-eq0-clause-found g c = IfOk-weaker c.middle_of.result _ _
    (λ r gives. subst (StandsFor c.middle_of.new.table.rows 1 r) (result_none _ _ c.if-ahead-eq0.true) (gives 0 c.requires.ready.numbered)) c.middle_of.ensures.square

pub returns-in-Some-clause-found : goal.returns-in-Some-clause-found
returns-in-Some-clause-found g c =
    let some : 0 < c.args.ahead = omega (arith, c.if-ahead-eq0.false) in
    let known = c.in-Some.ensures (g.Q.Ask.meaning c.args.rule.now) c.args.table.now c.requires.right in
    subst (StandsFor c.args.table.now.rows 1 c.in-Some.known) (result_some _ _ some) known.result

pub put-requires : goal.put-requires
put-requires g c =
    let some : 0 < c.args.ahead = omega (arith, c.if-ahead-eq0.false) in
    let below = Puts-last (g.Q.Ask.meaning c.args.rule.now) 1 _ _ (Puts-itself _ c.args.ahead _ _ some c.requires.ready.below) in
    record { ready = record { numbered = c.requires.ready.numbered; below = below }; right = c.requires.right }

pub returns-clause-keeps : goal.returns-clause-keeps
returns-clause-keeps g c =
    let some : 0 < c.args.ahead = omega (arith, c.if-ahead-eq0.false) in
    Keeps-way (λ all way. subst (Contains all) (sym (result_some _ _ some) ∙ result_some _ _ (lit< tt)) way) c.put.ensures.keeps

pub returns-clause-found : goal.returns-clause-found
returns-clause-found g c =
    let some : 0 < c.args.ahead = omega (arith, c.if-ahead-eq0.false) in
    IfOk-weaker c.put.result _ _ (λ r found. subst (StandsFor c.put.new.table.rows 1 r) (sym (result_some _ _ (lit< tt)) ∙ result_some _ _ some) found) c.put.ensures.found
