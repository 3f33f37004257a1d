use Rattle.hash_engine.proofs.Names.{Adds, IfOk-weaker, IsBelow, StandsFor, [], ap, later, subst, sym, ◌∷◌}
use Rattle.hash_engine.proofs.Standing.{kids_of}
use Rattle.hash_engine.proofs.parts.later.Goals as goal

pub later_of-requires : goal.later_of-requires
later_of-requires g c =
    let q = kids_of _ 1 c.args.number _ c.requires.numbered c.quadrants.ensures in
    record { numbered = q.0; below = subst (IsBelow (g.Q.Ask.state_count c.args.rule.now)) q.1 c.requires.below }

pub returns : goal.returns
returns g c =
    let t = c.args.table.now in
    let u = c.later_of.new.table in
    let q = kids_of _ 1 c.args.number _ c.requires.numbered c.quadrants.ensures in
    let is = sym (ap (later (g.Q.Ask.meaning c.args.rule.now)) q.1) in
    let made = c.later_of.ensures in
    record {
      adds = subst (λ s. Adds (s ∷ []) t u) is made.adds;
      square = IfOk-weaker c.later_of.result _ _ (λ n there. subst (StandsFor u.rows 1 n) is there) made.square;
      rule = made.rule;
      asks = made.asks;
      full = made.full;
    }
