use Rattle.std.proofs.Common.{ap, refl, rules}
use mathlib.Core.List.{IsPrefix}
use Rattle.desk_board.specs.BoardHistory.{BoardHistory}
use Rattle.desk_board.proofs.Receipts.{compared}
use Rattle.desk_board.proofs.receipt.Receipt.begins.Goals as goal

pub returns : goal.returns
returns c =
    let h = c.args.self.now in
    let k = c.args.other.now in
    let both = c.learn.new.self.log in
    let p : IsPrefix h.pictures both = search rules in
    let q : IsPrefix k.pictures both = search rules in
    rw (c.self.invariant, c.other.invariant, ap (λ (v : BoardHistory). v.pictures) c.self.view_is, ap (λ (v : BoardHistory). v.pictures) c.other.view_is) (compared h k both c.requires p q _ refl)
