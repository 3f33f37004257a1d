use Rattle.std.proofs.Common.{◌≡◌, ◌∙◌, ap, refl, rules}
use Rattle.desk_board.specs.BoardHistory.{BoardHistory}
use Rattle.desk_board.proofs.Steps.{sees}
use Rattle.desk_board.proofs.viewer.Viewer.look.Goals as goal

pub enter_as-requires : goal.enter_as-requires
enter_as-requires c x = sees _ _ x x refl

pub begins-requires : goal.begins-requires
begins-requires c =
    let latest : c.receipt-latest.result.now ≡ c.in-Ok.reading.part.value = search rules in
    ap (λ (h : BoardHistory). h.board) latest ∙ c.in-Ok.ensures.1.1 c.self.inside.receipt.board c.self.invariant
