-- Where a quadtree says nothing, and what it says of the cells of a larger square.
use Rattle.square_tree.proofs.Names.{Bool, HasLevel, IsAligned, IsLaid, IsPartlyLaid, IsPartlyOver, None, Option, Quadtree, Some, ap, ap₂, arith, at, at_from, cell, cond, false, inl, inr, keep, nat_lt, nat_tests, option_or, over, pow-add}
use Rattle.square_tree.proofs.Names.{pow_pos, quad, refl, subst, suc, sym, true, zero, ℕ, ◌*◌, ◌+◌, ◌-◌, ◌<◌, ◌^◌, ◌∙◌, ◌≡◌, ◌≤◌, ◌⊎◌}
use Rattle.std.proofs.Math.Nat.{pow-suc, lt_of_mul-lt-mul_right, mul-le-mul_right, mul-lt-mul_of_pos_right}
use Rattle.square_tree.proofs.Covered.{HasLevel-over}

-- a square is twice as wide as its quadrants
pub double : (l : ℕ) → 0 < l → 2 ^ l ≡ 2 * 2 ^ (l - 1)
double zero h = absurd (omega arith)
double (suc k) h = rw pow-suc (let e : suc k - 1 ≡ k = omega arith in rw e (omega arith))

both : {A : Type 0} (b : Bool) {x y z : A} → x ≡ z → y ≡ z → cond b x y ≡ z
both true p q = p
both false p q = q

-- by whether a number is below another
pub split : (a b : ℕ) (P : Bool → Type 0) → (a < b → P true) → (b ≤ a → P false) → P (nat_lt a b)
split a b P f g = elim (nat_lt a b) as (λ t. nat_lt a b ≡ t → P t) [ true ↦ λ e. f (grind (arith, nat_tests, e)) | false ↦ λ e. g (grind (arith, nat_tests, e)) ] refl

-- nothing is said of cells beyond the square
at_beyond : (t : Quadtree) (l x y : ℕ) → HasLevel l t → (2 ^ l ≤ x) ⊎ (2 ^ l ≤ y) → at t l x y ≡ None
at_beyond keep l x y h p = refl
at_beyond (cell s) l x y h p = let one : 2 ^ l ≡ 1 = rw h refl in grind (arith, nat_tests, one)
at_beyond (quad nw ne sw se) l x y h p =
    let m = 2 ^ (l - 1) in
    grind (arith, nat_tests, double l h.0, at_beyond nw (l - 1) x y h.1, at_beyond ne (l - 1) (x - m) y h.2, at_beyond sw (l - 1) x (y - m) h.3, at_beyond se (l - 1) (x - m) (y - m) h.4)

-- to the east or to the south
pub at_east : (t : Quadtree) (l x y : ℕ) → HasLevel l t → 2 ^ l ≤ x → at t l x y ≡ None
at_east t l x y h p = at_beyond t l x y h (inl p)

pub at_south : (t : Quadtree) (l x y : ℕ) → HasLevel l t → 2 ^ l ≤ y → at t l x y ≡ None
at_south t l x y h p = at_beyond t l x y h (inr p)

pub or_none : (o : Option ℕ) → option_or o None ≡ o
or_none None = refl
or_none (Some s) = refl

-- what one quadtree laid on another of its level says
pub at-over : (t u : Quadtree) (l x y : ℕ) → HasLevel l t → HasLevel l u → at (over t u) l x y ≡ option_or (at t l x y) (at u l x y)
at-over keep u l x y h k = refl
at-over (cell s) keep l x y h k = sym (or_none _)
at-over (cell s) (cell s') l x y h k = grind arith
at-over (cell s) (quad a b c d) l x y h k = let e : l ≡ 0 = h in let f : 0 < l = k.0 in absurd (omega arith)
at-over (quad a b c d) keep l x y h k = sym (or_none _)
at-over (quad a b c d) (cell s) l x y h k = let e : l ≡ 0 = k in let f : 0 < l = h.0 in absurd (omega arith)
at-over (quad a b c d) (quad e f g i) l x y h k =
    let m = 2 ^ (l - 1) in
    grind (arith, at-over a e (l - 1) x y h.1 k.1, at-over b f (l - 1) (x - m) y h.2 k.2, at-over c g (l - 1) x (y - m) h.3 k.3, at-over d i (l - 1) (x - m) (y - m) h.4 k.4)

-- nothing is said from some place on of what lies to its west
pub at_from_west : (t : Quadtree) (k x y x' y' : ℕ) → x' < x → at_from x y k t x' y' ≡ None
at_from_west t k x y x' y' p = grind (arith, nat_tests)

-- or to its north
pub at_from_north : (t : Quadtree) (k x y x' y' : ℕ) → y' < y → at_from x y k t x' y' ≡ None
at_from_north t k x y x' y' p = grind (arith, nat_tests)

-- or to the east of the square
pub at_from_east : (t : Quadtree) (k x y x' y' : ℕ) → HasLevel k t → x + 2 ^ k ≤ x' → at_from x y k t x' y' ≡ None
at_from_east t k x y x' y' h p = grind (arith, at_east t k (x' - x) (y' - y) h)

-- or to its south
pub at_from_south : (t : Quadtree) (k x y x' y' : ℕ) → HasLevel k t → y + 2 ^ k ≤ y' → at_from x y k t x' y' ≡ None
at_from_south t k x y x' y' h p = grind (arith, at_south t k (x' - x) (y' - y) h)

-- the same, counted in the quadrants to the east
pub at_from_move_x : (t : Quadtree) (k x y x' y' m : ℕ) → m ≤ x → m ≤ x' → at_from (x - m) y k t (x' - m) y' ≡ at_from x y k t x' y'
at_from_move_x t k x y x' y' m p q = let f : x' - m - (x - m) ≡ x' - x = omega (arith, p, q) in grind (arith, nat_tests, f)

-- the same, counted in the quadrants to the south
pub at_from_move_y : (t : Quadtree) (k x y x' y' m : ℕ) → m ≤ y → m ≤ y' → at_from x (y - m) k t x' (y' - m) ≡ at_from x y k t x' y'
at_from_move_y t k x y x' y' m p q = let f : y' - m - (y - m) ≡ y' - y = omega (arith, p, q) in grind (arith, nat_tests, f)

-- from the corner on it is what the square says
pub at_from_corner : (t : Quadtree) (k x y : ℕ) → at_from 0 0 k t x y ≡ at t k x y
at_from_corner t k x y =
    let f : x - 0 ≡ x = omega arith in
    let g : y - 0 ≡ y = omega arith in
    grind (arith, nat_tests, f, g)

-- a square of the same level is the square
pub aligned_corner : {l x : ℕ} → IsAligned l l x → x ≡ 0
aligned_corner a = omega (arith, a.inside)

parts : (l k : ℕ) → k < l → 2 ^ (l - 1) ≡ 2 ^ (l - 1 - k) * 2 ^ k
parts l k h = let e : l - 1 - k + k ≡ l - 1 = omega (arith, h) in ap (λ n. 2 ^ n) (sym e) ∙ pow-add 2 (l - 1 - k) k

-- a smaller one that begins in the west lies there
pub aligned_west : {l k x : ℕ} → IsAligned l k x → k < l → x < 2 ^ (l - 1) → IsAligned (l - 1) k x
aligned_west {l} {k} {x} a less west =
    let n = 2 ^ (l - 1 - k) in
    let p : 2 ^ (l - 1) ≡ n * 2 ^ k = parts l k less in
    let is : x ≡ a.before * 2 ^ k = a.is in
    let below : a.before * 2 ^ k < n * 2 ^ k = omega (arith, p, is, west) in
    let few : a.before + 1 ≤ n = omega (arith, lt_of_mul-lt-mul_right (2 ^ k) below) in
    let room : (a.before + 1) * 2 ^ k ≤ n * 2 ^ k = mul-le-mul_right (2 ^ k) few in
    record { smaller = omega (arith, less); before = a.before; is = is; inside = omega (arith, room, p, is) }

-- and one that begins in the east there
pub aligned_east : {l k x : ℕ} → IsAligned l k x → k < l → 2 ^ (l - 1) ≤ x → IsAligned (l - 1) k (x - 2 ^ (l - 1))
aligned_east {l} {k} {x} a less east =
    let n = 2 ^ (l - 1 - k) in
    let p : 2 ^ (l - 1) ≡ n * 2 ^ k = parts l k less in
    let is : x ≡ a.before * 2 ^ k = a.is in
    let below : a.before < n → ⊥ = λ q. let lt : a.before * 2 ^ k < n * 2 ^ k = mul-lt-mul_of_pos_right q (pow_pos k) in omega (arith, lt, p, is, east) in
    let sum : a.before ≡ n + (a.before - n) = omega (arith, below) in
    let spread : x ≡ (n + (a.before - n)) * 2 ^ k = is ∙ ap (λ b. b * 2 ^ k) sum in
    let inside : x + 2 ^ k ≤ 2 ^ l = a.inside in
    let d : 2 ^ l ≡ 2 * 2 ^ (l - 1) = double l (omega (arith, less)) in
    record { smaller = omega (arith, less); before = a.before - n; is = omega (arith, spread, p); inside = omega (arith, inside, d, east) }

pub none_or : {w z : Option ℕ} → w ≡ None → z ≡ option_or w z
none_or {w} {z} e = sym (ap (λ o. option_or o z) e)

-- what is laid in the north-west quadrant is laid on the square
pub laid_nw : {l x y k : ℕ} {other nw ne sw se nw' : Quadtree} → HasLevel k other → HasLevel l (quad nw ne sw se) → x + 2 ^ k ≤ 2 ^ (l - 1) → y + 2 ^ k ≤ 2 ^ (l - 1)
    → IsLaid (l - 1) x y k other nw nw' → IsLaid l x y k other (quad nw ne sw se) (quad nw' ne sw se)
laid_nw {l} {x} {y} {k} {other} {nw} {ne} {sw} {se} {nw'} h q px py laid = record {
  level = (q.0, laid.level, q.2, q.3, q.4);
  says = λ x' y'. grind (arith, nat_tests, laid.says x' y', at_from_east other k x y x' y' h, at_from_south other k x y x' y' h, px, py);
}

-- in the north-east one
pub laid_ne : {l x y k : ℕ} {other nw ne sw se ne' : Quadtree} → HasLevel k other → HasLevel l (quad nw ne sw se) → 2 ^ (l - 1) ≤ x → y + 2 ^ k ≤ 2 ^ (l - 1)
    → IsLaid (l - 1) (x - 2 ^ (l - 1)) y k other ne ne' → IsLaid l x y k other (quad nw ne sw se) (quad nw ne' sw se)
laid_ne {l} {x} {y} {k} {other} {nw} {ne} {sw} {se} {ne'} h q px py laid = record {
  level = (q.0, q.1, laid.level, q.3, q.4);
  says = λ x' y'. grind (arith, nat_tests, laid.says (x' - 2 ^ (l - 1)) y', at_from_west other k x y x' y', at_from_south other k x y x' y' h, at_from_move_x other k x y x' y' (2 ^ (l - 1)), px, py);
}

-- in the south-west one
pub laid_sw : {l x y k : ℕ} {other nw ne sw se sw' : Quadtree} → HasLevel k other → HasLevel l (quad nw ne sw se) → x + 2 ^ k ≤ 2 ^ (l - 1) → 2 ^ (l - 1) ≤ y
    → IsLaid (l - 1) x (y - 2 ^ (l - 1)) k other sw sw' → IsLaid l x y k other (quad nw ne sw se) (quad nw ne sw' se)
laid_sw {l} {x} {y} {k} {other} {nw} {ne} {sw} {se} {sw'} h q px py laid = record {
  level = (q.0, q.1, q.2, laid.level, q.4);
  says = λ x' y'. grind (arith, nat_tests, laid.says x' (y' - 2 ^ (l - 1)), at_from_north other k x y x' y', at_from_east other k x y x' y' h, at_from_move_y other k x y x' y' (2 ^ (l - 1)), px, py);
}

-- on all of the square
laid_corner : {l x y : ℕ} (t u v : Quadtree) → HasLevel l t → HasLevel l u → IsAligned l l x → IsAligned l l y → v ≡ over t u → IsLaid l x y l t u v
laid_corner {l} {x} {y} t u v h k a b is = record {
  level = subst (HasLevel l) (sym is) (HasLevel-over l t u h k);
  says = λ x' y'.
      ap (λ w. at w l x' y') is ∙ at-over t u l x' y' h k
      ∙ sym (ap (λ o. option_or o (at u l x' y')) (ap₂ (λ p q. at_from p q l t x' y') (aligned_corner a) (aligned_corner b) ∙ at_from_corner t l x' y'));
}

-- on a part of it
partly_laid_corner : {l x y : ℕ} (t u v : Quadtree) → HasLevel l t → HasLevel l u → IsAligned l l x → IsAligned l l y → IsPartlyOver t u v → IsPartlyLaid l x y l t u v
partly_laid_corner {l} {x} {y} t u v h k a b p = record {
  level = p.level l h k;
  says = λ x' y'.
      let e = at-over t u l x' y' h k ∙ sym (ap (λ o. option_or o (at u l x' y')) (ap₂ (λ p q. at_from p q l t x' y') (aligned_corner a) (aligned_corner b) ∙ at_from_corner t l x' y')) in
      subst (λ o. (at v l x' y' ≡ at u l x' y') ⊎ (at v l x' y' ≡ o)) e (p.says l x' y');
}

-- what is laid on a square of the same level is laid on all of it
pub laid_all : {l k x y : ℕ} (t u v : Quadtree) → l ≡ k → HasLevel k t → HasLevel l u → IsAligned l k x → IsAligned l k y → v ≡ over t u → IsLaid l x y k t u v
laid_all {l} {k} {x} {y} t u v e h j a b is =
    subst (λ n. HasLevel n t → IsAligned l n x → IsAligned l n y → IsLaid l x y n t u v) e (λ h a b. laid_corner t u v h j a b is) h a b

-- or on a part of it
pub partly_laid_all : {l k x y : ℕ} (t u v : Quadtree) → l ≡ k → HasLevel k t → HasLevel l u → IsAligned l k x → IsAligned l k y → IsPartlyOver t u v → IsPartlyLaid l x y k t u v
partly_laid_all {l} {k} {x} {y} t u v e h j a b p =
    subst (λ n. HasLevel n t → IsAligned l n x → IsAligned l n y → IsPartlyLaid l x y n t u v) e (λ h a b. partly_laid_corner t u v h j a b p) h a b
