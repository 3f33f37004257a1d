use Rattle.script_lines.proofs.Names.{[], arith, common_steps, false, is_blank, rules, sym, true, ◌==◌, ◌∙◌, ◌≡◌}
use Rattle.script_lines.proofs.Keeping.{took_none, took_gap, took_more}
use Rattle.script_lines.proofs.kept_line.KeptLine.push.Goals as goal
use Rattle.script_lines.proofs.kept_line.KeptLine.push.Goals.{else-is_empty-via-then-is_empty+else-is_blank, else-is_empty-via-else-is_empty, else-self-via-then-self+else-byte-eq32, else-self-via-else-self}

pub returns-then-is_blank-clause-took : goal.returns-then-is_blank-clause-took
returns-then-is_blank-clause-took c =
    let empty : c.args.self.now.kept.items ≡ [] = grind (arith, common_steps) in
    λ bytes t. took_none c.args.self.now bytes _ empty (sym c.is_blank.ensures ∙ c.if-is_blank.true) t

pub returns-then-byte-eq32-clause-took : goal.returns-then-byte-eq32-clause-took
returns-then-byte-eq32-clause-took c =
    let gap : c.args.self.now.gap ≡ true = search rules in
    let space : (c.args.byte == 32) ≡ true = search rules in
    λ bytes t. took_gap c.args.self.now bytes _ gap space t

pub returns-clause-took : goal.returns-clause-took
returns-clause-took c = λ bytes t.
    let line = c.args.self.now in
    let solid : line.kept.items ≡ [] → is_blank c.args.byte ≡ false = λ e. elim c.else-is_empty.branch [
      | else-is_empty-via-then-is_empty+else-is_blank w ↦ sym w.is_blank.ensures ∙ w.if-is_blank.false
      | else-is_empty-via-else-is_empty w ↦ absurd (grind (arith, common_steps, e))
    ] in
    let apart : line.gap ≡ true → (c.args.byte == 32) ≡ false = λ g. elim c.else-self.branch [
      | else-self-via-then-self+else-byte-eq32 w ↦ search rules
      | else-self-via-else-self w ↦ absurd (let f : true ≡ false = sym g ∙ w.if-self.false in cc)
    ] in
    took_more line c.add.new.self bytes _ solid apart c.add.ensures.gap c.add.ensures.holds t
