use Rattle.macrocell_lines.proofs.Names.{Some, ap, arith, common_steps, option_map, refl, row_of, rows_of, rules, sym, take, ◌-◌, ◌∙◌, ◌≡◌}
use Rattle.macrocell_lines.proofs.Rows.{dead-more, drawn-all, drawn-more, small-dead, small-set, with_front}
use Rattle.macrocell_lines.proofs.bitmap.read_bitmap.Goals as goal

pub loop-text-init : goal.loop-text-init
loop-text-init c = record {
  drawn = search rules;
  dead = refl;
  small = small-dead 8;
  long = refl;
  within = omega arith;
}

pub loop-text-preserved-then-y-lt8 : goal.loop-text-preserved-then-y-lt8
loop-text-preserved-then-y-lt8 c =
    let y = c.loop-text.y in
    let rows = c.loop-text.rows in
    let is : row_of c.in-Some.text.now ≡ Some c.in_ok-row.row = sym c.in_ok-row.ensures.row in
    record {
      drawn = drawn-more y rows c.in-Some.text.now c.next.new.self c.in_ok-row.row (omega arith) c.loop-text.invariant.long is
          ∙ ap (λ texts. with_front (take y rows) (rows_of (8 - y) texts)) (sym c.in-Some.ensures) ∙ c.loop-text.invariant.drawn;
      dead = dead-more y rows c.in_ok-row.row c.loop-text.invariant.dead;
      small = small-set rows y c.in_ok-row.row c.loop-text.invariant.small c.in_ok-row.ensures.below;
      long = grind (arith, common_steps);
      within = omega arith;
    }

pub returns-clause-bitmap : goal.returns-clause-bitmap
returns-clause-bitmap c =
    let y = c.loop-text.y in
    let rows = c.loop-text.rows in
    ap (option_map (λ rows. record { rows = rows }))
    (sym (drawn-all y rows c.loop-text.invariant.dead)
    ∙ ap (λ texts. with_front (take y rows) (rows_of (8 - y) texts)) (sym c.in_default.ensures)
    ∙ c.loop-text.invariant.drawn)

pub returns-clause-whole : goal.returns-clause-whole
returns-clause-whole c = record { long = c.loop-text.invariant.long; each = c.loop-text.invariant.small }
