use Rattle.std.proofs.lemmas.Result.{IfOk-weaker}
use Rattle.bit_blocks.proofs.Known.{is_unknown}
use Rattle.bit_blocks.proofs.answers.unknown_list.Goals as goal

pub returns : goal.returns
returns c = IfOk-weaker c.vec.result _ _ (λ list made. is_unknown c.args.count list.items (made (λ state is. is))) c.vec.ensures.items_if_clones_equal
