use Rattle.hash_engine.proofs.Names.{Adds, IfOk-weaker, StandsFor, [], ap, middle, subst, suc, sym, ◌∙◌, ◌∷◌}
use Rattle.hash_engine.proofs.Standing.{kids_of}
use Rattle.hash_engine.proofs.parts.middle.Goals as goal

pub returns-clause-square : goal.returns-clause-square
returns-clause-square c =
    let u = c.middle_of.new.table in
    IfOk-weaker c.middle_of.result _ _
    (λ n is k s whole.
    let q = kids_of _ (suc k) c.args.number _ whole.numbered c.quadrants.ensures in
    subst (StandsFor u.rows (suc k) n) (ap middle (sym q.1 ∙ whole.square)) (is k q.0))
    c.middle_of.ensures.square

pub returns-clause-adds : goal.returns-clause-adds
returns-clause-adds c = λ k s whole.
    let q = kids_of _ (suc k) c.args.number _ whole.numbered c.quadrants.ensures in
    subst (λ m. Adds (m ∷ []) c.args.table.now c.middle_of.new.table) (ap middle (sym q.1 ∙ whole.square)) (c.middle_of.ensures.adds k q.0)
