use Rattle.multistate_rle.proofs.Names.{after_part, is_blank, rules, tests}
use Rattle.std.proofs.lemmas.Iterator.Consumers.{fold_from_yields_List}
use Rattle.std.proofs.lemmas.Iterator.Splits.{YieldsList-from_slice_split}
use Rattle.multistate_rle.proofs.comment.after_parts.Goals as goal

pub returns : goal.returns
returns c =
    fold_from_yields_List _ after_part c.args.origin c.fold.result c.fold.ensures.ran
    (YieldsList-from_slice_split _ is_blank c.args.bytes.now c.split.ensures.rest c.split.ensures.done c.split.ensures.closure (λ x r q k. search (rules, tests)))
    (λ a x b q k. search (rules, tests))
