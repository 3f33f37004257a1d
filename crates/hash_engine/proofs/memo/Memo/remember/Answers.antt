use Rattle.hash_engine.proofs.Names.{Table, ap, first_number, get_or, get_or-set_other, refl, ◌-◌, ◌∙◌}
use Rattle.hash_engine.proofs.memo.Memo.remember.Goals as goal

pub returns-then-generations-full-clause-noted : goal.returns-then-generations-full-clause-noted
returns-then-generations-full-clause-noted c =
    let t = c.args.table.now in
    let place = c.args.number - first_number in
    record {
      full = λ whole. record {
        here = c.note.ensures.noted;
        others = λ j other. ap (λ (u : Table). get_or u.notes j 0) c.note.ensures.table ∙ get_or-set_other t.notes place j c.args.found 0 other;
      };
      other = λ not. absurd (not (c.if-generations-full.true ∙ c.full.ensures));
      counts = refl;
      part = λ by j other. refl;
      rest = λ not. refl;
      blocks = refl;
      lean = refl;
    }
