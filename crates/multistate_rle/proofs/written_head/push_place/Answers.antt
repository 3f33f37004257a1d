use Rattle.multistate_rle.proofs.Names.{IfOk-equal, OnOk, append_assoc, rules, signed_decimal, ◌++◌, ◌≡◌}
use Rattle.multistate_rle.proofs.written_head.push_place.Goals as goal

pub returns : goal.returns
returns c =
    let frame = c.args.frame.now in
    let left : c.push_signed.new.text.items ≡ c.extend_from_slice.new.self.items ++ signed_decimal frame.left = search rules in
    let top : OnOk c.push_signed-2.result (c.push_signed-2.new.text.items ≡ c.extend_from_slice-2.new.self.items ++ signed_decimal frame.top) = search rules in
    IfOk-equal c.push_signed-2.result _ _ _ top (rw (c.in_ok-extend_from_slice-2.ensures.items, left, c.in_ok-extend_from_slice.ensures.items) (simp append_assoc))
