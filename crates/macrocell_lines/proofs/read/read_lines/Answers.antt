use Rattle.macrocell_lines.proofs.Names.{Err, NoMemory, Ok, after_line, ap, arith, common_steps, drop, rules, said_of, sym, ◌+◌, ◌-◌, ◌∙◌, ◌∷◌, ◌≡◌}
use Rattle.std.proofs.lemmas.Result.{err_from_is_err_and}
use Rattle.macrocell_lines.proofs.PassedLines.{left-more, passed-more, wants-there}
use Rattle.macrocell_lines.proofs.read.read_lines.Goals as goal

pub loop-line-preserved : goal.loop-line-preserved
loop-line-preserved c =
    let at = c.loop-line in
    let line = c.in-Some.line.now in
    let rest = c.next.new.self in
    let before = said_of at.heading at.nodes.items in
    let after = said_of c.in_ok-heading.heading c.take_line.new.nodes.items in
    let first : at.lines ≡ line ∷ rest = search rules in
    let left : drop (at.number - 1) c.args.lines ≡ line ∷ rest = at.invariant.left ∙ first in
    let taken : after_line (at.number + 1) before line ≡ Ok after = c.in_ok-heading.ensures.read in
    record {
      read = first_of (search rules, grind (arith, common_steps));
      passed = passed-more at.number c.args.lines rest line before after at.invariant.low left at.invariant.passed taken;
      left = left-more at.number c.args.lines rest line at.invariant.low left;
      nodes = c.in_ok-heading.ensures.nodes;
      low = omega arith;
      few = grind (arith, common_steps);
    }

pub returns-in_err-heading-clause-want : goal.returns-in_err-heading-clause-want
returns-in_err-heading-clause-want c =
    let at = c.loop-line in
    let line = c.in-Some.line.now in
    let rest = c.next.new.self in
    let before = said_of at.heading at.nodes.items in
    let first : at.lines ≡ line ∷ rest = search rules in
    let left : drop (at.number - 1) c.args.lines ≡ line ∷ rest = at.invariant.left ∙ first in
    let p = err_from_is_err_and c.from_residual.result c.from_residual.ensures.1 in
    λ h.
    let same : p.0 ≡ NoMemory = cc (sym p.1 ∙ h) in
    let wanted = c.in_err-heading.ensures.want (ap Err (sym p.2 ∙ same)) in
    wants-there at.number c.args.lines rest line before wanted.0 at.invariant.low left at.invariant.passed wanted.1
