use Rattle.table_lines.proofs.Names.{VariablesBelow, ap, arith, common_steps, defines_variable, descriptor_of, drop, drop_more, false, is_some, rules, subst, sym, transitions_of, true, variables_of, ◌+◌, ◌∙◌, ◌∷◌, ◌≡◌}
use Rattle.table_lines.proofs.Unions.{behind-push, variables_after-below}
use Rattle.table_lines.proofs.transitions.read_transitions.Goals as goal

pub loop-line-init : goal.loop-line-init
loop-line-init c = record { read = grind (arith, common_steps); below = subst (VariablesBelow c.args.head.states) (sym c.new-variables.ensures) (λ name v h. absurd cc); count = search rules }

pub loop-line-preserved-then-defines_variable : goal.loop-line-preserved-then-defines_variable
loop-line-preserved-then-defines_variable c =
    let line = c.line-item.result in
    let rest = drop (c.loop-line.line-index + 1) c.args.lines.now in
    let here : drop c.loop-line.line-index c.args.lines.now ≡ line ∷ rest = drop_more _ _ _ c.loop-line-test.true ∙ ap (λ l. l ∷ rest) (sym c.line-item.is) in
    let plain : is_some (descriptor_of line.text) ≡ false = grind (arith, c.text.ensures) in
    let defines : defines_variable line.text ≡ true = cc in
    let read = c.in_ok-define.ensures.read in
    record {
      read = rw (here, plain, defines, read) at c.loop-line.invariant.read;
      below = variables_after-below c.args.head (variables_of c.loop-line.variables) _ line c.loop-line.invariant.below read;
      count = omega arith;
    }

pub loop-line-preserved : goal.loop-line-preserved
loop-line-preserved c =
    let line = c.line-item.result in
    let rest = drop (c.loop-line.line-index + 1) c.args.lines.now in
    let here : drop c.loop-line.line-index c.args.lines.now ≡ line ∷ rest = drop_more _ _ _ c.loop-line-test.true ∙ ap (λ l. l ∷ rest) (sym c.line-item.is) in
    let plain : is_some (descriptor_of line.text) ≡ false = grind (arith, c.text.ensures) in
    let defines : defines_variable line.text ≡ false = cc in
    record {
      read = rw (c.in_ok-push.ensures.items, behind-push c.loop-line.transitions.items c.in_ok-read_transition.field-0 (transitions_of c.args.head (variables_of c.loop-line.variables) rest))
          (rw (here, plain, defines, c.in_ok-read_transition.ensures) at c.loop-line.invariant.read);
      below = c.loop-line.invariant.below;
      count = omega arith;
    }
