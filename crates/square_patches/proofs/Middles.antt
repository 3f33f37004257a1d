-- A quadtree in a corner of a larger square, and round its middle.
use Rattle.square_patches.proofs.Names.{Bool, Cells, HasLevel, IsHeld, IsLaidAs, IsLaidOn, None, Option, Quadtree, Table, ap, ap₂, arith, at, cell, cells_of, cond, in_corner, in_middle, in_quadrant, ints, keep, least, level_of, nat_lt}
use Rattle.square_patches.proofs.Names.{number_of, pos, quad, reach, refl, square_in, state_at, suc, sym, zero, ℕ, ◌*◌, ◌+ℤ◌, ◌+◌, ◌-◌, ◌<◌, ◌^◌, ◌||◌, ◌∙◌, ◌≡◌, ◌≤◌}
use Rattle.std.proofs.Math.Pow.{pow_mono}
use Rattle.square_tree.specs.Over.{over}
use Rattle.square_tree.specs.Laid.{IsLaid, at_from}
use Rattle.square_tree.specs.TreeOf.{IsTreeOf}
use Rattle.square_tree.proofs.Shared.Placed.{double, split, or_none, none_or, at_from_west, at_from_north, at_from_move_x, at_from_move_y, laid_nw, laid_ne, laid_sw, laid_all}
use Rattle.square_tree.proofs.Shared.Quarters.{laid_quadrants, laid_where, laid_keep, reach_half, reach_mono}
use Rattle.square_table.specs.declared.square.Square.{Square}
use Rattle.square_table.proofs.Shared.Numbers.{square_in-IsSquare}
use Rattle.square_patches.proofs.Laid.{laid-says}

-- what is laid in the south-east quadrant is laid on the square
laid_se : {l x y k : ℕ} {other nw ne sw se se' : Quadtree} → HasLevel k other → HasLevel l (quad nw ne sw se) → 2 ^ (l - 1) ≤ x → 2 ^ (l - 1) ≤ y
    → IsLaid (l - 1) (x - 2 ^ (l - 1)) (y - 2 ^ (l - 1)) k other se se' → IsLaid l x y k other (quad nw ne sw se) (quad nw ne sw se')
laid_se {l} {x} {y} {k} {other} {nw} {ne} {sw} {se} {se'} h q px py laid = grind (arith, split, nat_lt, none_or, at_from_north, at_from_west, at_from_move_x, at_from_move_y)

over-keep : (t : Quadtree) → t ≡ over t keep
over-keep keep = refl
over-keep (cell s) = refl
over-keep (quad a b c d) = refl

nothing : (b c : Bool) → cond b (cond {A = Option ℕ} c None None) (cond c None None) ≡ None
nothing q0 q1 = grind (arith)

-- quadrants that say nothing are as good as nothing
fresh : {l x y k : ℕ} {t new : Quadtree} → IsLaid l x y k t (quad keep keep keep keep) new → IsLaid l x y k t keep new
fresh {l} {x} {y} {k} {t} laid = grind (arith, nothing, nat_lt)

keeps : (l : ℕ) → 0 < l → HasLevel l (quad keep keep keep keep)
keeps l h = (h, tt, tt, tt, tt)

-- all of an equal square
whole : (l k : ℕ) (t : Quadtree) → l ≡ k → HasLevel k t → IsLaid l 0 0 k t keep t
whole l k t e h = grind (arith, laid_all, over-keep)

-- a larger square is wider
wider : (k l : ℕ) → k ≤ l → 2 ^ k ≤ 2 ^ l
wider k l h = pow_mono h

no_inset : (l k : ℕ) → l ≡ k → 0 ≡ 2 ^ l - 2 ^ k
no_inset l k e = let same : 2 ^ l ≡ 2 ^ k = ap (λ j. 2 ^ j) e in omega (arith, same)

-- a corner in the far half of a square, and the same corner of that half
module _ (l k : ℕ) (h : k < l) where
  room : 2 ^ k ≤ 2 ^ (l - 1)
  room = wider k (l - 1) (omega (arith, h))

  at_start : 0 + 2 ^ k ≤ 2 ^ (l - 1)
  at_start = omega (arith, room)

  twice : 2 ^ l ≡ 2 * 2 ^ (l - 1)
  twice = double l (omega (arith, h))

  in_far_half : 2 ^ (l - 1) ≤ 2 ^ l - 2 ^ k
  in_far_half = omega (arith, room, twice)

  of_far_half : 2 ^ (l - 1) - 2 ^ k ≡ 2 ^ l - 2 ^ k - 2 ^ (l - 1)
  of_far_half = omega (arith, room, twice)

-- in the corners of a larger square
corner_nw : (d l k : ℕ) (t : Quadtree) → l ≡ k + d → HasLevel k t → IsLaid l 0 0 k t keep (in_corner 0 d t)
corner_nw zero l k t e h = whole l k t (omega (arith, e)) h
corner_nw (suc d) l k t e h =
    let few : k < l = omega (arith, e) in
    fresh (laid_nw h (keeps l (omega (arith, e))) (at_start l k few) (at_start l k few) (corner_nw d (l - 1) k t (omega (arith, e)) h))

corner_ne : (d l k : ℕ) (t : Quadtree) → l ≡ k + d → HasLevel k t → IsLaid l (2 ^ l - 2 ^ k) 0 k t keep (in_corner 1 d t)
corner_ne zero l k t e h = let same : l ≡ k = omega (arith, e) in laid_where (no_inset l k same) refl (whole l k t same h)
corner_ne (suc d) l k t e h =
    let few : k < l = omega (arith, e) in
    fresh (laid_ne h (keeps l (omega (arith, e))) (in_far_half l k few) (at_start l k few) (laid_where (of_far_half l k few) refl (corner_ne d (l - 1) k t (omega (arith, e)) h)))

corner_sw : (d l k : ℕ) (t : Quadtree) → l ≡ k + d → HasLevel k t → IsLaid l 0 (2 ^ l - 2 ^ k) k t keep (in_corner 2 d t)
corner_sw zero l k t e h = let same : l ≡ k = omega (arith, e) in laid_where refl (no_inset l k same) (whole l k t same h)
corner_sw (suc d) l k t e h =
    let few : k < l = omega (arith, e) in
    fresh (laid_sw h (keeps l (omega (arith, e))) (at_start l k few) (in_far_half l k few) (laid_where refl (of_far_half l k few) (corner_sw d (l - 1) k t (omega (arith, e)) h)))

corner_se : (d l k : ℕ) (t : Quadtree) → l ≡ k + d → HasLevel k t → IsLaid l (2 ^ l - 2 ^ k) (2 ^ l - 2 ^ k) k t keep (in_corner 3 d t)
corner_se zero l k t e h = let same : l ≡ k = omega (arith, e) in laid_where (no_inset l k same) (no_inset l k same) (whole l k t same h)
corner_se (suc d) l k t e h =
    let few : k < l = omega (arith, e) in
    fresh (laid_se h (keeps l (omega (arith, e))) (in_far_half l k few) (in_far_half l k few) (laid_where (of_far_half l k few) (of_far_half l k few) (corner_se d (l - 1) k t (omega (arith, e)) h)))

-- round the middle of a larger square
middle : (d l k : ℕ) (t : Quadtree) → l ≡ k + d → HasLevel k t → IsLaid l (reach l - reach k) (reach l - reach k) k t keep (in_middle d t)
middle d l k keep e h = laid_keep l (reach l - reach k) (reach l - reach k) k keep tt
middle zero l k (cell s) e h =
    let same : l ≡ k = omega (arith, e) in
    let no : 0 ≡ reach l - reach k = let r : reach l ≡ reach k = ap reach same in omega (arith, r) in
    laid_where no no (whole l k (cell s) same h)
middle (suc d) l k (cell s) e h =
    let low : k ≡ 0 = h in
    let some : 0 < l = omega (arith, e) in
    let at : reach l - reach k ≡ 2 ^ (l - 1) = let r : reach k ≡ 0 = ap reach low in let p = reach_half l some in omega (arith, r, p) in
    let half : 2 ^ (l - 1) ≤ reach l - reach k = omega (arith, at) in
    let start : 0 ≡ reach l - reach k - 2 ^ (l - 1) = omega (arith, at) in
    fresh (laid_se h (keeps l some) half half (laid_where start start (corner_nw d (l - 1) k (cell s) (omega (arith, e)) h)))
middle d l k (quad a b c f) e h =
    let j = k - 1 in
    let i = reach l - reach k in
    let low : 0 < k = h.0 in
    let under : l - 1 ≡ j + d = omega (arith, e, low) in
    let some : 0 < l = omega (arith, e, low) in
    let p = reach_half k low in
    let q = reach_half l some in
    let fits : 2 ^ j ≤ 2 ^ (l - 1) = wider j (l - 1) (omega (arith, under)) in
    let near : 2 ^ (l - 1) - 2 ^ j ≡ i = omega (arith, p, q, fits) in
    let ends : i + 2 ^ j ≡ 2 ^ (l - 1) = omega (arith, p, q, fits) in
    let before : i + 2 ^ j ≤ 2 ^ (l - 1) = omega (arith, ends) in
    let behind : 2 ^ (l - 1) ≤ i + 2 ^ j = omega (arith, ends) in
    let start : 0 ≡ i + 2 ^ j - 2 ^ (l - 1) = omega (arith, ends) in
    let nw = laid_where near near (corner_se d (l - 1) j a under h.1) in
    let ne = laid_where start near (corner_sw d (l - 1) j b under h.2) in
    let sw = laid_where near start (corner_ne d (l - 1) j c under h.3) in
    let se = laid_where start start (corner_nw d (l - 1) j f under h.4) in
    laid_quadrants h
    (fresh (laid_nw h.1 (keeps l some) before before nw))
    (laid_ne h.2 (some, nw.level, tt, tt, tt) behind before ne)
    (laid_sw h.3 (some, nw.level, ne.level, tt, tt) before behind sw)
    (laid_se h.4 (some, nw.level, ne.level, sw.level, tt) behind behind se)

-- what it says of a cell of the larger square
from_middle : (c : Cells) (l k : ℕ) (t : Quadtree) (x y : ℕ) → reach k ≤ reach l → IsTreeOf c k t
    → at_from (reach l - reach k) (reach l - reach k) k t x y ≡ state_at c (least l +ℤ pos x) (least l +ℤ pos y)
from_middle c l k t x y less tree =
    let i = reach l - reach k in
    let s = state_at c (least l +ℤ pos x) (least l +ℤ pos y) in
    split x i (λ b. cond (b || nat_lt y i) None (at t k (x - i) (y - i)) ≡ s)
    (λ left. sym (tree.west _ _ (omega (arith, ints, less, left))))
    (λ right. split y i (λ b. cond b None (at t k (x - i) (y - i)) ≡ s)
    (λ above. sym (tree.north _ _ (omega (arith, ints, less, above))))
    (λ below.
    let p : (least k +ℤ pos (x - i)) ≡ (least l +ℤ pos x) = omega (arith, ints, less, right) in
    let q : (least k +ℤ pos (y - i)) ≡ (least l +ℤ pos y) = omega (arith, ints, less, below) in
    tree.says (x - i) (y - i) ∙ ap₂ (state_at c) p q))

-- the quadtree of a patch, in the middle of a larger square
pub tree_of_middle : (c : Cells) (d l k : ℕ) (t : Quadtree) → l ≡ k + d → IsTreeOf c k t → IsTreeOf c l (in_middle d t)
tree_of_middle c d l k t e tree =
    let laid = middle d l k t e tree.level in
    let less = reach_mono k l (omega (arith, e)) in
    record {
      level = laid.level;
      says = λ x y. laid.says x y ∙ or_none (at_from (reach l - reach k) (reach l - reach k) k t x y) ∙ from_middle c l k t x y less tree;
      west = λ x y h. tree.west x y (omega (arith, ints, less, h));
      north = λ x y h. tree.north x y (omega (arith, ints, less, h));
    }

-- the quadtree of one cell in the middle of a larger square
pub middle_cell : (t : Quadtree) (s d e : ℕ) → t ≡ cell s → d ≡ suc e → in_middle d t ≡ in_quadrant 3 (in_corner 0 e t)
middle_cell t s d e same up = ap₂ in_middle up same ∙ sym (ap (λ u. in_quadrant 3 (in_corner 0 e u)) same)

pub middle_zero : (t : Quadtree) (s d : ℕ) → t ≡ cell s → d ≡ 0 → in_middle d t ≡ cell s
middle_zero t s d same none = ap₂ in_middle none same

-- the square on which the tree of a patch is laid has what the patch says
pub laid-patch : (c : Cells) (old new : Table) (before s : Square) (k n : ℕ) (t : Quadtree) → k ≤ level_of before → IsTreeOf c k t → IsHeld old before
    → IsLaidAs (in_middle (level_of before - k) t) old.rows (level_of before) (number_of before) new.rows n → IsHeld new s → level_of s ≡ level_of before → number_of s ≡ n → IsLaidOn c old before new s
laid-patch c old new before s k n t less tree held is there level number =
    let l = level_of before in
    let all = in_middle (l - k) t in
    let whole = tree_of_middle c (l - k) l k t (omega (arith, less)) tree in
    let shape = square_in-IsSquare old.rows l (number_of before) held.numbered in
    record {
      held = there;
      level = level;
      cells = ap₂ (square_in new.rows) level number ∙ is.square ∙ sym (laid-says c l (least l) (least l) all (cells_of old before) shape whole.level (λ u v p q. whole.says u v));
    }
