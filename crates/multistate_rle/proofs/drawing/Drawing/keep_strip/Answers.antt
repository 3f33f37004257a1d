use Rattle.multistate_rle.proofs.Names.{Err, Ok, OnOk, Result, SFits, Strip, ap, arith, cells_of_spans, false, inl, ints, is_err, on_ok_weaker, rules, sym, w64, ◌++◌, ◌∙◌, ◌≡◌}
use Rattle.multistate_rle.proofs.Strips.{lies_within, span-strip, spans-push}
use Rattle.multistate_rle.proofs.drawing.Drawing.keep_strip.Goals as goal

pub push_span-requires : goal.push_span-requires
push_span-requires c =
    let d = c.self.inside in
    let x : SFits w64 d.origin.x = search rules in
    let y : SFits w64 d.origin.y = search rules in
    let strip : Strip = record { row = d.row; column = d.column; count = c.args.count; state = c.args.state } in
    let at = lies_within d.origin strip (rw (← c.self.view_is) at c.requires.inside) in
    record {
      range = search rules;
      span = record { left = omega (arith, ints); right = omega (arith, ints); top = omega (arith, ints); bottom = omega (arith, ints); state = omega arith };
    }

of_ok : {T E P : Type 0} (r : Result T E) → is_err r ≡ false → OnOk r P → P
of_ok (Ok x) h p = p
of_ok (Err e) h p = absurd cc

pub returns-else-is_err : goal.returns-else-is_err
returns-else-is_err c =
    let d = c.self.inside in
    let x : SFits w64 d.origin.x = search rules in
    let y : SFits w64 d.origin.y = search rules in
    let strip : Strip = record { row = d.row; column = d.column; count = c.args.count; state = c.args.state } in
    let at = lies_within d.origin strip (rw (← c.self.view_is) at c.requires.inside) in
    let kept = on_ok_weaker c.push_span.result
    (λ e. ap (λ cells. record { origin = d.origin; row = d.row; column = d.column; live = d.live; is_inside = d.is_inside; is_whole = d.is_whole; cells = cells })
    (ap cells_of_spans e ∙ spans-push d.spans.items _ ∙ ap (λ cells. cells_of_spans d.spans.items ++ cells) (span-strip d.origin strip _ (omega (arith, ints)) (omega (arith, ints)) (omega arith) (omega arith))))
    c.push_span.ensures.spans in
    rw (← c.self.view_is) (inl (of_ok c.push_span.result (sym c.is_err.ensures.value ∙ c.if-is_err.false) kept))
