use Rattle.table_symmetry.proofs.Names.{ap, arith, drop, length, length-append, length-map, map, min, sets_of, take, ◌∙◌, ◌≡◌}
use Rattle.table_symmetry.specs.NextState as meaning
use Rattle.table_symmetry.proofs.Growing.{split_one}
use Rattle.table_symmetry.proofs.expansion.push_one.Goals as goal

pub returns : goal.returns
returns c =
    let sets : c.deref.result.now ≡ sets_of c.args.transition.now = c.deref.ensures.value ∙ c.in_ok-sets.ensures ∙ ap (map meaning.admitted) c.as_slice.ensures in
    let middle : c.min.result ≡ min (length c.deref.result.now) 1 = omega (arith, c.min.ensures, c.len.ensures, c.deref.ensures.len) in
    let split = split_one c.deref.result.now c.min.result middle in
    let centre : c.split_at.result.0.now ≡ take 1 (sets_of c.args.transition.now) = c.split_at.ensures.front ∙ split.0 ∙ ap (take 1) sets in
    let circle : c.split_at.result.1.now ≡ drop 1 (sets_of c.args.transition.now) = c.split_at.ensures.back ∙ split.1 ∙ ap (drop 1) sets in
    let lists = rw circle at c.in_ok-lists.ensures in
    let pushed = c.in_ok-push_lists.ensures in
    let count = simp (length-append, length-map) at (ap length pushed) in
    (rw (centre, c.given.ensures, c.deref-2.ensures.value, lists) at pushed, omega (arith, count, c.if-len.false, c.len-2.ensures, c.len-3.ensures, c.requires))
