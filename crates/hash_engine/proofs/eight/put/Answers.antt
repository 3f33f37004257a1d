use Rattle.hash_engine.proofs.Names.{Puts-itself, StandsFor, lit<, subst}
use Rattle.hash_engine.proofs.ByBlocks.{result_some, keeps_block, known_block}
use Rattle.hash_engine.proofs.eight.put.Goals as goal

pub later_of-requires : goal.later_of-requires
later_of-requires g c = record { numbered = c.requires.ready.numbered; below = Puts-itself _ 1 _ _ (lit< tt) c.requires.ready.below }

pub returns-in_err-result-clause-keeps : goal.returns-in_err-result-clause-keeps
returns-in_err-result-clause-keeps g c =
    keeps_block (g.Q.Ask.meaning c.args.rule.now) 1 c.args.table.now c.args.quadrants (result_some _ _ (lit< tt)) c.later_of.ensures.rule c.later_of.ensures.adds c.requires.right

pub returns-clause-keeps : goal.returns-clause-keeps
returns-clause-keeps g c =
    let next = g.Q.Ask.meaning c.args.rule.now in
    let made = c.in_ok-result.ensures in
    let keeps = keeps_block next 1 c.args.table.now c.args.quadrants (result_some _ _ (lit< tt)) made.rule made.adds c.requires.right in
    let known = known_block c.requires.ready.numbered keeps.grows made.square in
    record { rule = keeps.rule; grows = keeps.grows; right = c.keep_block.ensures next _ keeps.right known; adds = keeps.adds }

pub returns-clause-found : goal.returns-clause-found
returns-clause-found g c = subst (StandsFor c.later_of.new.table.rows 1 c.in_ok-result.result) (result_some _ _ (lit< tt)) c.in_ok-result.ensures.square
