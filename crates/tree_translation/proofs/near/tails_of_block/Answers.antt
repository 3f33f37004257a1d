use Rattle.tree_translation.proofs.Names.{Global, Vec, ap, get_or, take, take_more, ℕ, ◌∙◌}
use Rattle.tree_translation.proofs.TailsNear.{lets-none, near-more, near-passed}
use Rattle.tree_translation.proofs.near.tails_of_block.Goals as goal
use Rattle.tree_translation.proofs.near.tails_of_block.Goals.{then-word-ne0+in_ok-push, else-word-ne0}

pub loop-number-preserved : goal.loop-number-preserved
loop-number-preserved c =
    let layer = c.args.layer.now in
    let list = c.args.list.now in
    let number = get_or list c.loop-number.number-index 0 in
    let passed = take c.loop-number.number-index list in
    rw (take_more list c.loop-number.number-index 0 c.loop-number-test.true)
    (elim c.if-word-ne0.branch [
      | then-word-ne0+in_ok-push w ↦
          rw (ap (λ (v : Vec ℕ Global). v.items) w.near-is ∙ w.in_ok-push.ensures.items)
          (near-more layer c.args.block passed c.loop-number.near.items number (c.requires.inside c.loop-number.number-index 0 c.loop-number-test.true) c.loop-number.invariant)
      | else-word-ne0 w ↦
          rw (ap (λ (v : Vec ℕ Global). v.items) w.near-is)
          (near-passed layer c.args.block passed c.loop-number.near.items number
          (λ state same. lets-none layer number c.args.block state (rw (c.from.ensures, w.if-word-ne0.false) at c.word.ensures) same) c.loop-number.invariant)
    ])
