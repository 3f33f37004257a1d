use Rattle.dependency_book.proofs.Names.{Option, ap, arith, drop, least_out, lesser, subst, sym, ℕ, ◌+◌, ◌∙◌, ◌∷◌, ◌≡◌}
use Rattle.std.proofs.lemmas.List.{drop_more}
use Rattle.dependency_book.proofs.row.least_out.Goals as goal

lesser_then : (a b c : Option ℕ) → lesser (lesser a b) c ≡ lesser a (lesser b c)
lesser_then a b c = grind arith

pub loop-row-preserved : goal.loop-row-preserved
loop-row-preserved g c =
    let rows = c.args.rows.now in
    let i = c.loop-row.row-index in
    let next : drop i rows ≡ c.row-item.result ∷ drop (i + 1) rows =
    drop_more rows i c.row-item.result c.loop-row-test.true
    ∙ ap (λ x. x ∷ drop (i + 1) rows) (sym c.row-item.is) in
    let least : lesser c.lesser-least.result (least_out (drop (i + 1) rows))
    ≡ lesser c.loop-row.least (least_out (c.row-item.result ∷ drop (i + 1) rows))
    =
    rw (c.lesser-least.ensures, c.number_out.ensures)
    (lesser_then c.loop-row.least _ (least_out (drop (i + 1) rows))) in
    least ∙ subst (λ left. lesser c.loop-row.least (least_out left) ≡ least_out rows) next c.loop-row.invariant
