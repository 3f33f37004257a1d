use Rattle.plain_steps.proofs.Names.{Cells, ap, arith, cell-blank, length, place_cmp, refl, rules, state_at, sym, to_z-of_z, unwrap_or, w64, ◌<◌, ◌∙◌}
use Rattle.std.specs.FinMap as finite
use Rattle.plain_steps.proofs.Together.{shown-set}
use Rattle.plain_steps.proofs.room.set_all.Goals as goal

pub loop-cell-init : goal.loop-cell-init
loop-cell-init c = record {
  level = refl;
  shown = λ x y.
      ap (λ (v : Cells). unwrap_or (state_at v x y) 0) c.requires.keeps
      ∙ ap (λ o. unwrap_or o 0) (finite.get-empty place_cmp (y, x))
      ∙ sym (cell-blank x y);
}

pub loop-cell-preserved : goal.loop-cell-preserved
loop-cell-preserved c =
    let below : c.loop-cell.cell-index < length c.args.cells.now = omega arith in
    record {
      level = ap (λ (v : Cells). v.level) c.in_ok-set.ensures.ok ∙ c.loop-cell.invariant.level;
      shown = shown-set c.loop-cell.patch c.set.new.self c.args.cells.now c.loop-cell.cell-index _ _ _ below c.loop-cell.invariant.shown (to_z-of_z {w = w64} (search rules)) (to_z-of_z {w = w64} (search rules)) c.in_ok-set.ensures.ok;
    }
