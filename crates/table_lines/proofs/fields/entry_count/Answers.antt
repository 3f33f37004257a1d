use Rattle.table_lines.proofs.Names.{ap, false, if◌then◌else◌, length, list_any, nat_le, not, parts, single_bytes, sym, ◌&&◌, ◌+◌, ◌==◌, ◌∙◌, ◌≡◌}
use Rattle.table_lines.proofs.Splits.{length-parts}
use Rattle.table_lines.proofs.fields.entry_count.Goals as goal

pub returns : goal.returns
returns c =
    let line = c.args.line.now in
    let parted : (nat_le c.args.states 10 && not (list_any (λ b. b == 44) line)) ≡ false = sym c.is_compact.ensures ∙ c.if-is_compact.false in
    ap (λ n. n + 1) c.comma_count.ensures.value ∙ sym (length-parts line) ∙ ap (λ b. length (if b then single_bytes line else parts line)) (sym parted)
