use Rattle.script_lines.proofs.Names.{arith, false, get_or, length, rules, subst, sym, take, take_more, ◌==◌, ◌≡◌}
use Rattle.script_lines.proofs.Splitting.{words-at, no_space-push, NoSpace, starts-some, starts-apart}
use Rattle.script_lines.proofs.words.word_len.Goals as goal

pub returns-then-byte-eq32-clause-split : goal.returns-then-byte-eq32-clause-split
returns-then-byte-eq32-clause-split c = words-at c.args.bytes.now c.loop-i.i (starts-apart c.args.bytes.now c.loop-i.i c.requires c.if-byte-eq32.true) (omega arith) c.loop-i.invariant (λ h. c.if-byte-eq32.true)

pub loop-i-preserved : goal.loop-i-preserved
loop-i-preserved c =
    let xs = c.args.bytes.now in
    let other : (get_or xs c.loop-i.i 0 == 32) ≡ false = search rules in
    subst NoSpace (sym (take_more xs c.loop-i.i 0 c.loop-i-test.true)) (no_space-push _ _ c.loop-i.invariant other)

pub returns-clause-split : goal.returns-clause-split
returns-clause-split c =
    let xs = c.args.bytes.now in
    let at_end : c.loop-i.i ≡ length xs = omega arith in
    words-at xs (length xs) (starts-some xs c.requires) (omega arith) (subst (λ n. NoSpace (take n xs)) at_end c.loop-i.invariant) (λ h. absurd (omega arith))
