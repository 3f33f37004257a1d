use Rattle.std.proofs.Common.{◌≡◌, ◌+◌, ◌∙◌, length, sym, ap, rules}
use Rattle.desk_board.specs.BoardHistory.{BoardHistory}
use Rattle.desk_board.specs.Log.{head_of}
use Rattle.desk_board.proofs.Counting.{adds_moves}
use Rattle.desk_board.proofs.receipt.Receipt.and.Goals as goal

pub compare_exchange-found-requires : goal.compare_exchange-found-requires
compare_exchange-found-requires c =
    let h : c.args.counter.now ≡ head_of c.self.inside.fact.book = c.requires ∙ sym (ap (λ (k : BoardHistory). head_of k.board) c.self.view_is) in
    let seen : c.again-fact.result.book ≡ c.args.counter.now.book = ap (λ s. s.book) c.again-fact.ensures ∙ sym (ap (λ w. w.book) h) in
    let count : c.self.inside.position ≡ length c.self.inside.fact.log = c.self.invariant in
    let next : c.in_ok-position.position ≡ c.self.inside.position + 1 = search rules in
    let known : length c.again-fact.result.log ≡ c.self.inside.position = ap (λ s. length s.log) c.again-fact.ensures ∙ sym count in
    let offer = c.plain-offer.ensures in
    let pen = c.no_pen-pen.ensures in (
      ap (λ w. w.tracked) h,
      seen,
      pen.0 ∙ seen,
      offer.0,
      rw (ap (λ w. w.key) h, pen.1, offer.1, offer.3, next) (adds_moves c.again-fact.result.log c.args.next.now c.self.inside.position known),
    )
