-- A quadtree that is laid by its quadrants.
use Rattle.square_tree.proofs.Names.{Bool, HasLevel, IsAligned, IsLaid, IsPartlyLaid, None, Option, Quadtree, ap, ap₂, arith, at, at_from, cond, false, inl, inr, keep, nat_lt, nat_tests, option_or, pow-add, pow_mono, pow_pos, quad, reach}
use Rattle.square_tree.proofs.Names.{refl, sym, true, ℕ, ◌*◌, ◌+◌, ◌-◌, ◌/◌, ◌<◌, ◌^◌, ◌||◌, ◌∙◌, ◌≡◌, ◌≤◌, ◌⊎◌}
use Rattle.square_tree.proofs.Shared.Placed.{double, at_from_west, at_from_north, at_from_east, at_from_south, split}

-- which of four quadrants says what the square says, where the others say nothing
data Quarter (w nw ne sw se : Option ℕ) : Type 0 where
  in_nw : nw ≡ w → ne ≡ None → sw ≡ None → se ≡ None → Quarter w nw ne sw se
  in_ne : nw ≡ None → ne ≡ w → sw ≡ None → se ≡ None → Quarter w nw ne sw se
  in_sw : nw ≡ None → ne ≡ None → sw ≡ w → se ≡ None → Quarter w nw ne sw se
  in_se : nw ≡ None → ne ≡ None → sw ≡ None → se ≡ w → Quarter w nw ne sw se

guarded : (a b : Bool) (x y : Option ℕ) → (b ≡ false → x ≡ y) → a ≡ b → cond a None x ≡ cond b None y
guarded a true x y f e = ap (λ t. cond t None x) e
guarded a false x y f e = ap (λ t. cond t None x) e ∙ f refl

-- the quadrant of a place
quarter_of : (k : ℕ) (nw ne sw se : Quadtree) (d x y : ℕ) → HasLevel k (quad nw ne sw se)
    → Quarter (at_from d d k (quad nw ne sw se) x y) (at_from d d (k - 1) nw x y) (at_from (d + 2 ^ (k - 1)) d (k - 1) ne x y) (at_from d (d + 2 ^ (k - 1)) (k - 1) sw x y) (at_from (d + 2 ^ (k - 1)) (d + 2 ^ (k - 1)) (k - 1) se x y)
quarter_of k nw ne sw se d x y h =
    let n = k - 1 in
    let m = 2 ^ n in
    let pick : (s e : Bool) → nat_lt (y - d) m ≡ s → nat_lt (x - d) m ≡ e
    → at (quad nw ne sw se) k (x - d) (y - d) ≡ cond s (cond e (at nw n (x - d) (y - d)) (at ne n (x - d - m) (y - d)))
    (cond e (at sw n (x - d) (y - d - m)) (at se n (x - d - m) (y - d - m))) =
    λ s e p q. ap₂ (λ a b. cond a (cond b (at nw n (x - d) (y - d)) (at ne n (x - d - m) (y - d))) (cond b (at sw n (x - d) (y - d - m)) (at se n (x - d - m) (y - d - m)))) p q in
    let same_x : d + m ≤ x → x - d - m ≡ x - (d + m) = λ p. omega (arith, p) in
    let same_y : d + m ≤ y → y - d - m ≡ y - (d + m) = λ p. omega (arith, p) in
    split y (d + m) (λ t. Quarter (at_from d d k (quad nw ne sw se) x y) (at_from d d n nw x y) (at_from (d + m) d n ne x y) (at_from d (d + m) n sw x y) (at_from (d + m) (d + m) n se x y))
    (λ above. split x (d + m) (λ t. Quarter (at_from d d k (quad nw ne sw se) x y) (at_from d d n nw x y) (at_from (d + m) d n ne x y) (at_from d (d + m) n sw x y) (at_from (d + m) (d + m) n se x y))
    (λ left. in_nw
    (guarded _ (nat_lt x d || nat_lt y d) _ _ (λ off. sym (pick true true (grind (arith, nat_tests, above, off)) (grind (arith, nat_tests, left, off)))) refl)
    (at_from_west ne n (d + m) d x y left) (at_from_north sw n d (d + m) x y above) (at_from_north se n (d + m) (d + m) x y above))
    (λ right. in_ne
    (at_from_east nw n d d x y h.1 right)
    (guarded _ (nat_lt x d || nat_lt y d) _ _ (λ off. ap (λ c. at ne n c (y - d)) (sym (same_x right)) ∙ sym (pick true false (grind (arith, nat_tests, above, off)) (grind (arith, nat_tests, right, off)))) (grind (arith, nat_tests, right)))
    (at_from_north sw n d (d + m) x y above) (at_from_north se n (d + m) (d + m) x y above)))
    (λ below. split x (d + m) (λ t. Quarter (at_from d d k (quad nw ne sw se) x y) (at_from d d n nw x y) (at_from (d + m) d n ne x y) (at_from d (d + m) n sw x y) (at_from (d + m) (d + m) n se x y))
    (λ left. in_sw
    (at_from_south nw n d d x y h.1 below) (at_from_west ne n (d + m) d x y left)
    (guarded _ (nat_lt x d || nat_lt y d) _ _ (λ off. ap (λ r. at sw n (x - d) r) (sym (same_y below)) ∙ sym (pick false true (grind (arith, nat_tests, below, off)) (grind (arith, nat_tests, left, off)))) (grind (arith, nat_tests, below)))
    (at_from_west se n (d + m) (d + m) x y left))
    (λ right. in_se
    (at_from_south nw n d d x y h.1 below) (at_from_south ne n (d + m) d x y h.2 below) (at_from_east sw n d (d + m) x y h.3 right)
    (guarded _ (nat_lt x d || nat_lt y d) _ _ (λ off. ap₂ (λ c r. at se n c r) (sym (same_x right)) (sym (same_y below))
    ∙ sym (pick false false (grind (arith, nat_tests, below, off)) (grind (arith, nat_tests, right, off))))
    (grind (arith, nat_tests, right, below)))))

-- each cell after the four quadrants are laid
four_laid : {w nw ne sw se b c d e : Option ℕ} (a : Option ℕ) → Quarter w nw ne sw se → b ≡ option_or nw a → c ≡ option_or ne b → d ≡ option_or sw c → e ≡ option_or se d → e ≡ option_or w a
four_laid a (in_nw f g h i) p q r s = grind arith
four_laid a (in_ne f g h i) p q r s = grind arith
four_laid a (in_sw f g h i) p q r s = grind arith
four_laid a (in_se f g h i) p q r s = grind arith

-- all four quadrants are laid
pub laid_quadrants : {l k d : ℕ} {nw ne sw se t u v w new : Quadtree} → HasLevel k (quad nw ne sw se)
    → IsLaid l d d (k - 1) nw t u → IsLaid l (d + 2 ^ (k - 1)) d (k - 1) ne u v → IsLaid l d (d + 2 ^ (k - 1)) (k - 1) sw v w → IsLaid l (d + 2 ^ (k - 1)) (d + 2 ^ (k - 1)) (k - 1) se w new
    → IsLaid l d d k (quad nw ne sw se) t new
laid_quadrants {l} {k} {d} {nw} {ne} {sw} {se} {t} h p q r s = record {
  level = s.level;
  says = λ x y. four_laid (at t l x y) (quarter_of k nw ne sw se d x y h) (p.says x y) (q.says x y) (r.says x y) (s.says x y);
}

-- each cell after a part of a quadrant is laid
more : {w n a b c : Option ℕ} → (n ≡ None) ⊎ (n ≡ w) → (b ≡ a) ⊎ (b ≡ option_or w a) → (c ≡ b) ⊎ (c ≡ option_or n b) → (c ≡ a) ⊎ (c ≡ option_or w a)
more e p q = grind arith

-- each quadrant says nothing or what the square says
record EachSays (w nw ne sw se : Option ℕ) : Type 0 where
  of_nw : (nw ≡ None) ⊎ (nw ≡ w)
  of_ne : (ne ≡ None) ⊎ (ne ≡ w)
  of_sw : (sw ≡ None) ⊎ (sw ≡ w)
  of_se : (se ≡ None) ⊎ (se ≡ w)

each_says : {w nw ne sw se : Option ℕ} → Quarter w nw ne sw se → EachSays w nw ne sw se
each_says (in_nw f g h i) = record { of_nw = inr f; of_ne = inl g; of_sw = inl h; of_se = inl i }
each_says (in_ne f g h i) = record { of_nw = inl f; of_ne = inr g; of_sw = inl h; of_se = inl i }
each_says (in_sw f g h i) = record { of_nw = inl f; of_ne = inl g; of_sw = inr h; of_se = inl i }
each_says (in_se f g h i) = record { of_nw = inl f; of_ne = inl g; of_sw = inl h; of_se = inr i }

-- what is laid is partly laid
pub partly_of_laid : {l x y k : ℕ} {other old new : Quadtree} → IsLaid l x y k other old new → IsPartlyLaid l x y k other old new
partly_of_laid laid = record { level = laid.level; says = λ x y. inr (laid.says x y) }

-- a part of the first quadrant is laid
pub partly_nw : {l k d : ℕ} {nw ne sw se t u : Quadtree} → HasLevel k (quad nw ne sw se) → IsPartlyLaid l d d (k - 1) nw t u → IsPartlyLaid l d d k (quad nw ne sw se) t u
partly_nw {k = k} {d = d} {nw = nw} {ne = ne} {sw = sw} {se = se} h p = record { level = p.level; says = λ x y. more (each_says (quarter_of k nw ne sw se d x y h)).of_nw (inl refl) (p.says x y) }

-- of the second one too
pub partly_ne : {l k d : ℕ} {nw ne sw se t u v : Quadtree} → HasLevel k (quad nw ne sw se) → IsPartlyLaid l d d k (quad nw ne sw se) t u → IsPartlyLaid l (d + 2 ^ (k - 1)) d (k - 1) ne u v → IsPartlyLaid l d d k (quad nw ne sw se) t v
partly_ne {k = k} {d = d} {nw = nw} {ne = ne} {sw = sw} {se = se} h before p = record { level = p.level; says = λ x y. more (each_says (quarter_of k nw ne sw se d x y h)).of_ne (before.says x y) (p.says x y) }

-- of the third one
pub partly_sw : {l k d : ℕ} {nw ne sw se t u v : Quadtree} → HasLevel k (quad nw ne sw se) → IsPartlyLaid l d d k (quad nw ne sw se) t u → IsPartlyLaid l d (d + 2 ^ (k - 1)) (k - 1) sw u v → IsPartlyLaid l d d k (quad nw ne sw se) t v
partly_sw {k = k} {d = d} {nw = nw} {ne = ne} {sw = sw} {se = se} h before p = record { level = p.level; says = λ x y. more (each_says (quarter_of k nw ne sw se d x y h)).of_sw (before.says x y) (p.says x y) }

-- of the last one
pub partly_se : {l k d : ℕ} {nw ne sw se t u v : Quadtree} → HasLevel k (quad nw ne sw se) → IsPartlyLaid l d d k (quad nw ne sw se) t u
    → IsPartlyLaid l (d + 2 ^ (k - 1)) (d + 2 ^ (k - 1)) (k - 1) se u v → IsPartlyLaid l d d k (quad nw ne sw se) t v
partly_se {k = k} {d = d} {nw = nw} {ne = ne} {sw = sw} {se = se} h before p = record { level = p.level; says = λ x y. more (each_says (quarter_of k nw ne sw se d x y h)).of_se (before.says x y) (p.says x y) }

-- a square reaches as far as its quadrants are wide
pub reach_half : (l : ℕ) → 0 < l → reach l ≡ 2 ^ (l - 1)
reach_half l h = let d = double l h in omega (arith, d)

-- a smaller square does not reach further
pub reach_mono : (k l : ℕ) → k ≤ l → reach k ≤ reach l
reach_mono k l h = let p : 2 ^ k ≤ 2 ^ l = pow_mono h in omega (arith, p)

steps : (l k : ℕ) → 0 < k → k ≤ l → 2 ^ (l - 1) ≡ 2 ^ (l - k) * 2 ^ (k - 1)
steps l k h less = let e : l - k + (k - 1) ≡ l - 1 = omega (arith, h, less) in ap (λ n. 2 ^ n) (sym e) ∙ pow-add 2 (l - k) (k - 1)

-- a quadrant that begins in the middle of a larger square
pub aligned_centre : (l k : ℕ) → 0 < k → k ≤ l → IsAligned l (k - 1) (2 ^ (l - 1))
aligned_centre l k h less =
    let mono : 2 ^ (k - 1) ≤ 2 ^ (l - 1) = let low : k - 1 ≤ l - 1 = omega (arith, less) in pow_mono low in
    let d = double l (omega (arith, h, less)) in
    record { smaller = omega (arith, less); before = 2 ^ (l - k); is = steps l k h less; inside = omega (arith, mono, d) }

-- and one that ends there
pub aligned_near : (l k : ℕ) → 0 < k → k ≤ l → IsAligned l (k - 1) (2 ^ (l - 1) - 2 ^ (k - 1))
aligned_near l k h less =
    let n = 2 ^ (l - k) in
    let positive : 0 < n = pow_pos (l - k) in
    let sum : n ≡ n - 1 + 1 = omega (arith, positive) in
    let all : 2 ^ (l - 1) ≡ (n - 1 + 1) * 2 ^ (k - 1) = steps l k h less ∙ ap (λ m. m * 2 ^ (k - 1)) sum in
    let d = double l (omega (arith, h, less)) in
    record { smaller = omega (arith, less); before = n - 1; is = omega (arith, all); inside = omega (arith, all, d) }

-- the single cell of a square of the level 0
pub aligned_cell : (l k : ℕ) → k ≡ 0 → IsAligned l k (2 ^ l / 2)
aligned_cell l k e =
    let positive : 0 < 2 ^ l = pow_pos l in
    let one : 2 ^ k ≡ 1 = ap (λ n. 2 ^ n) e in
    record { smaller = omega (arith, e); before = 2 ^ l / 2; is = rw one (omega arith); inside = rw one (omega (arith, positive)) }

-- where the quadrants of a square in the middle of a larger one begin, by the widths of both ones' quadrants
pub record Middle (l k centre low : ℕ) : Type 0 where
  pub near : centre - low ≡ reach l - reach k
  pub far : centre ≡ reach l - reach k + 2 ^ (k - 1)
  pub aligned_near : IsAligned l (k - 1) (centre - low)
  pub aligned_far : IsAligned l (k - 1) centre

pub middle : {l k centre low : ℕ} → 0 < k → k ≤ l → centre ≡ 2 ^ (l - 1) → low ≡ 2 ^ (k - 1) → Middle l k centre low
middle {l} {k} some less is_centre is_low =
    let h = reach_half k some in
    let i = reach_half l (omega (arith, some, less)) in
    let m = reach_mono k l less in
    record {
      near = omega (arith, h, i, m, is_centre, is_low);
      far = omega (arith, h, i, m, is_centre);
      aligned_near = rw (is_centre, is_low) (aligned_near l k some less);
      aligned_far = rw is_centre (aligned_centre l k some less);
    }

-- the same, where the place is given in other words
pub laid_where : {l x y x' y' k : ℕ} {other old new : Quadtree} → x ≡ x' → y ≡ y' → IsLaid l x y k other old new → IsLaid l x' y' k other old new
laid_where e f laid = grind arith

pub partly_where : {l x y x' y' k : ℕ} {other old new : Quadtree} → x ≡ x' → y ≡ y' → IsPartlyLaid l x y k other old new → IsPartlyLaid l x' y' k other old new
partly_where e f laid = grind arith

-- nothing is laid
pub laid_keep : (l x y k : ℕ) (old : Quadtree) → HasLevel l old → IsLaid l x y k keep old old
laid_keep l x y k old h = record { level = h; says = λ x' y'. grind arith }
