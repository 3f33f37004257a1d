-- What a report counts, from what the table has in the end.
use Rattle.counted_engine.proofs.Names.{AreAmong, AreDifferent, AreDistinct, AreReported, Contains, Grows, HasPut, HoldsWithin, IsMade, IsNumber-grows, IsRooted, AddsStart, List, Makes, Makes-weaker}
use Rattle.counted_engine.proofs.Names.{PutsBlocks, Report, Square, Table, World, arith, cells_of, edge, false, is_block, is_four, is_four-more, is_four-two, length, level_of}
use Rattle.counted_engine.proofs.Names.{number_of, square_at, square_in-grows, subst, suc, sym, within-made, zero, ℕ, ◌-◌, ◌^◌, ◌∙◌, ◌≡◌, ◌≤◌}
use Rattle.std.proofs.lemmas.Bool.Decides.{nat_tests}
use Rattle.square_table.specs.declared.square.Square as handles
use Rattle.square_table.specs.Squares.{IsNumber, square_in}
use Rattle.counted_engine.specs.Found.{places_of_four}
use Rattle.step_engine.proofs.Shared.Held.{found, made-there}
use Rattle.step_engine.proofs.Shared.Spent.{high, whole}

-- a square of 4 by 4 cells, by its number
not_block : (rows : List (List ℕ)) (n : ℕ) → IsNumber rows 1 n → is_four rows n ≡ false
unfolding IsNumber
not_block rows n is = grind (arith, nat_tests, is.2)

block_is : (rows : List (List ℕ)) (level n : ℕ) → IsNumber rows (suc level) n → is_block (square_in rows (suc level) n) ≡ is_four rows n
unfolding square_in
block_is rows zero n is = sym (not_block rows n is)
block_is rows (suc zero) n is = sym (is_four-two rows n is)
block_is rows (suc (suc k)) n is = sym (is_four-more rows k n is)

-- the squares of a table are those that are reported: they have all that is made of its root and on the way
reported : (all : List Square) (rows : List (List ℕ)) → AreDistinct rows → AreAmong all rows → (next : List ℕ → ℕ) (w : World) (k n root : ℕ) (report : Report) →
    report.squares ≡ length rows → report.fours ≡ length (places_of_four rows) →
    IsNumber rows (suc (suc k)) root → square_in rows (suc (suc k)) root ≡ square_at w (suc (suc k)) (edge (suc (suc k))) (edge (suc (suc k)))
    → Makes next k n (square_in rows (suc (suc k)) root) (IsMade rows) → AreReported all next w k n report
unfolding places_of_four
reported all rows distinct among next w k n root report is_many is_fours numbered is makes =
    let first = found all rows distinct among in
    let there = made-there all rows distinct among in
    record {
      squares = first.squares;
      different = subst (λ m. AreDifferent first.squares m all) (sym is_many) first.different;
      blocks = first.passing is_block (is_four rows) (block_is rows) ∙ sym is_fours;
      search = record {
        root = subst (HoldsWithin (Contains first.squares)) is (within-made (Contains first.squares) rows there (suc (suc k)) root numbered);
        way = subst (λ s. Makes next k n s (Contains first.squares)) is (Makes-weaker next k n _ (IsMade rows) (Contains first.squares) there makes);
      };
    }

module _ {w : World} {n : ℕ} {t u : Table} {root : handles.Square} (adds : AddsStart w n t u) (rooted : IsRooted w n u root) where
  up : level_of root ≡ suc (suc adds.k)
  up = high adds rooted

  all_of : square_at w (suc (suc adds.k)) (edge (suc (suc adds.k))) (edge (suc (suc adds.k))) ≡ cells_of u root
  all_of = whole adds rooted

  -- all that a search goes through is reported
  pub searched : {all : List Square} {next : List ℕ → ℕ} {v : Table} {report : Report} → Grows u v → Makes next (level_of root - 2) n (cells_of u root) (IsMade v.rows)
      → AreDistinct v.rows → AreAmong all v.rows → report.squares ≡ length v.rows → report.fours ≡ length (places_of_four v.rows) → AreReported all next w adds.k n report
  searched {all} {next} {v} {report} grows makes distinct among is_many is_fours =
      let k = suc (suc adds.k) in
      let number = number_of root in
      let there : IsNumber u.rows k number = let held = rooted.held.numbered in grind (arith, up) in
      let kept = square_in-grows u v k number grows there in
      reported all v.rows distinct among next w adds.k n number report is_many is_fours (IsNumber-grows u v k number grows there) (grind (arith, up, all_of)) (grind (arith, up))

  -- and all that is put to the rule on the way is counted
  pub all-put : {next : List ℕ → ℕ} {base : ℕ} → (n ≤ 2 ^ (level_of root - 2) → PutsBlocks next (level_of root - 2) n (cells_of u root) base) → HasPut next w adds.k n base
  all-put puts = let few = adds.root.room.few in let put = puts (grind (arith, up)) in grind (arith, up, all_of)
