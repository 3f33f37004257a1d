use Rattle.tree_translation.proofs.Names.{and_parts, arith, bytes_eq-Decides, common_steps, eqb-true, get_or_from_slice_get, slice_get_within}
use Rattle.tree_translation.proofs.sharing.add_node.Goals as goal

pub returns-clause-stored : goal.returns-clause-stored
returns-clause-stored c =
    let stored = c.in_ok-index.ensures.stored in
    let keys = c.insert_full.new.self.keys in
    grind (
      arith,
      common_steps,
      slice_get_within keys c.in_ok-index.index stored.0 stored.1,
      get_or_from_slice_get keys c.in_ok-index.index stored.0 stored.0 stored.1,
      and_parts,
      bytes_eq-Decides,
      eqb-true,
    )
