use Rattle.table_lines.proofs.Names.{arith, has, is_bit_set, map-id, ℕ, ◌∙◌, ◌≡◌}
use Rattle.std.proofs.lemmas.List.{append-nil}
use Rattle.std.proofs.lemmas.List.FromFn.{filter_of_map_range_with_len_more}
use Rattle.table_lines.proofs.Sets.{filter_has}
use Rattle.table_lines.proofs.state_set.StateSet.to_vec.Goals as goal

pub loop-state-preserved : goal.loop-state-preserved
loop-state-preserved c =
    let next = simp map-id at (filter_of_map_range_with_len_more (has c.args.self.now) (λ k. k) 0 c.loop-state.state c.loop-state.state (omega arith)) in
    grind (arith, next, append-nil {A = ℕ})

pub returns : goal.returns
returns c =
    let all : c.loop-state.state ≡ 256 = omega arith in
    rw all at c.loop-state.invariant ∙ filter_has (is_bit_set c.self.inside.words) c.args.self.now c.self.view_is
