-- The result of a square of 16 by 16 cells by its blocks, which are small squares.
use Rattle.hash_engine.proofs.Names.{AreNumbers, CanCompute, Grows, Grows-same, GrowsBy, IsNumber, IsRightMemo, IsSameRule, IsSquareOf, KeepsOnWay, List, Makes, Memo, StandsFor, Table, [], ap, get_or, result, sought, square_of, subst}
use Rattle.hash_engine.proofs.Names.{sym, true, ℕ, ◌+◌, ◌<◌, ◌∙◌, ◌∷◌, ◌≡◌}
use Rattle.bit_blocks.specs.Numbers.{eight_of, sixteen_of}
use Rattle.hash_engine.specs.Memo.{StaysRightUnder}
use Rattle.hash_engine.specs.Small.{BeginsWithSmall, IsSixteen}
use Rattle.hash_engine.proofs.Finding.{Keeps-adds, one_result}
use Rattle.hash_engine.proofs.SmallRows.{four_number, eight_of-numbers}
use Rattle.hash_engine.proofs.Standing.{Adds-made, StandsFor-joined}

-- where the rule may have been asked, and no more
module _ {next new : List ℕ → ℕ} {c d number : ℕ} {t : Table} {old memo : Memo} (can : CanCompute next c t old 2 4 number) (rule : IsSameRule next new c d)
    (stays : StaysRightUnder next old memo) where
  right : IsRightMemo next t memo
  right = stays t can.seek.right

  pub asked_keeps : KeepsOnWay next new c d (Makes next 2 4 (sought t 2 number)) t t memo
  asked_keeps = record { rule = rule; grows = Grows-same t; right = right; adds = λ all way are. are }

  -- and its middle is joined
  module _ (u : Table) (blocks : List (List ℕ)) (kids : List ℕ) (p q r s : ℕ) (small : old.has_small ≡ true) (is : IsSixteen t.rows number blocks)
      (later : eight_of (p ∷ q ∷ r ∷ s ∷ []) ≡ result next 2 4 (sixteen_of blocks)) (hp : p < 65536) (hq : q < 65536) (hr : r < 65536) (hs : s < 65536)
      (nw : get_or kids 0 0 ≡ 272 + p) (ne : get_or kids 1 0 ≡ 272 + q) (sw : get_or kids 2 0 ≡ 272 + r) (se : get_or kids 3 0 ≡ 272 + s) where
    begins : BeginsWithSmall t.rows
    begins = can.seek.right.small small

    numbers : AreNumbers t.rows 2 kids
    numbers = record {
      nw = subst (IsNumber t.rows 2) (sym nw) (four_number begins p hp);
      ne = subst (IsNumber t.rows 2) (sym ne) (four_number begins q hq);
      sw = subst (IsNumber t.rows 2) (sym sw) (four_number begins r hr);
      se = subst (IsNumber t.rows 2) (sym se) (four_number begins s hs);
    }

    square : square_of t.rows 2 kids ≡ result next 2 4 (sought t 2 number)
    square = eight_of-numbers begins kids p q r s hp hq hr hs nw ne sw se ∙ later ∙ ap (result next 2 4) (sym (is begins))

    module _ (grows : Grows t u) where
      pub joined_keeps : GrowsBy kids t u → KeepsOnWay next new c d (Makes next 2 4 (sought t 2 number)) t u memo
      joined_keeps step = Keeps-adds rule right (Adds-made numbers grows step) (one_result next 2 4 (sought t 2 number) square)

      pub joined_found : (n : ℕ) → IsSquareOf u.rows kids n → StandsFor u.rows 3 n (result next 2 4 (sought t 2 number))
      joined_found n is_n = subst (StandsFor u.rows 3 n) square (StandsFor-joined numbers grows is_n (Grows-same u))
