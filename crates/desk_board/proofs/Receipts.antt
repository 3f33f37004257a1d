-- Of two receipts of one board one begins the other.
use Rattle.std.proofs.Common.{◌≡◌, ◌<◌, Bool, true, false, List, length, sym, arith, MatchBool}
use Rattle.std.proofs.lemmas.Bool.{leb-true, leb-false}
use lib.Dec.{leb}
use mathlib.Core.List.{IsPrefix}
use Rattle.desk_board.specs.Picture.{Picture}
use Rattle.desk_board.specs.BoardHistory.{BoardHistory, Begins, Precedes}
use Rattle.desk_board.proofs.Beginnings.{prefix_shorter}

pub compared : (h k : BoardHistory) (both : List Picture) → k.board ≡ h.board → IsPrefix h.pictures both → IsPrefix k.pictures both → (b : Bool) → leb (length h.pictures) (length k.pictures) ≡ b → MatchBool b (Begins h k) (Precedes k h)
compared h k both one p q true is = record { board = one; goes_on = prefix_shorter h.pictures k.pictures both p q (leb-true _ _ is) }
compared h k both one p q false is =
    let less : length k.pictures < length h.pictures = leb-false _ _ is in
    record { begins = record { board = sym one; goes_on = prefix_shorter k.pictures h.pictures both q p (omega (arith, less)) }; more = less }
