use Rattle.std.proofs.Common.{◌*◌, ◌<◌, length, arith}
use Rattle.tree_translation.proofs.Runs.{AreFewRuns, few-runs, many-runs}
use Rattle.tree_translation.proofs.packed.Packed.of.Goals as goal
use Rattle.tree_translation.proofs.packed.Packed.of.Goals.{Joined-len-numbers, then-len-numbers, else-len-numbers+in_ok-each_of}

-- where the runs are fewer than half
few : (c : Joined-len-numbers) → 2 * c.len.result < length c.args.numbers.now → AreFewRuns c.args.numbers.now c.in_ok-runs.runs.items
few c less = few-runs c.args.numbers.now c.in_ok-runs.runs.items c.in_ok-runs.ensures (omega (arith, c.len.ensures, less))

pub invariant_of-result : goal.invariant_of-result
invariant_of-result c = elim c.if-len-numbers.branch [
  | then-len-numbers w ↦ rw w.form-is (let runs = few c w.if-len-numbers.true in (runs.same, runs.kept))
  | else-len-numbers+in_ok-each_of w ↦
      rw (w.form-is, w.in_ok-each_of.ensures)
      (many-runs c.args.numbers.now c.in_ok-runs.runs.items c.in_ok-runs.ensures (omega (arith, c.len.ensures, w.if-len-numbers.false)))
]

pub returns : goal.returns
returns c = elim c.if-len-numbers.branch [
  | then-len-numbers w ↦ rw w.form-is (few c w.if-len-numbers.true).spread
  | else-len-numbers+in_ok-each_of w ↦ rw w.form-is w.in_ok-each_of.ensures
]
