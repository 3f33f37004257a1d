use Rattle.hash_engine.proofs.Names.{Adds, Grows-same, IfOk-weaker, StandsFor, [], ap, middle, subst, suc, sym, ◌∷◌}
use Rattle.hash_engine.proofs.Standing.{sixteen_of, StandsFor-joined, Adds-made}
use Rattle.hash_engine.proofs.parts.middle_of.Goals as goal

pub returns-clause-square : goal.returns-clause-square
returns-clause-square c =
    let u = c.join_numbers.new.self in
    IfOk-weaker c.join_numbers.result _ _
    (λ n is k are.
    let q = sixteen_of are c.quadrants.ensures c.quadrants-2.ensures c.quadrants-3.ensures c.quadrants-4.ensures in
    subst (StandsFor u.rows (suc k) n) (sym (ap middle q.is)) (StandsFor-joined q.centre c.join_numbers.ensures.grows is (Grows-same u)))
    c.join_numbers.ensures.square

pub returns-clause-adds : goal.returns-clause-adds
returns-clause-adds c = λ k are.
    let q = sixteen_of are c.quadrants.ensures c.quadrants-2.ensures c.quadrants-3.ensures c.quadrants-4.ensures in
    subst (λ m. Adds (m ∷ []) c.args.table.now c.join_numbers.new.self) (sym (ap middle q.is))
    (Adds-made q.centre c.join_numbers.ensures.grows c.join_numbers.ensures.one)
