-- What one quadtree laid on another says, and what it says after a part of the way.
use Rattle.square_tree.proofs.Names.{Bool, Err, HasLevel, IsPartlyOver, Ok, OnErr, OnOk, Quadtree, Result, cell, cond, false, inl, inr, keep, nat_lt, over, quad, refl, subst, sym, true, ℕ, ◌-◌, ◌^◌, ◌≡◌, ◌⊎◌}

-- it has the level of both
pub HasLevel-over : (l : ℕ) (t u : Quadtree) → HasLevel l t → HasLevel l u → HasLevel l (over t u)
HasLevel-over l keep u h k = k
HasLevel-over l (cell s) u h k = h
HasLevel-over l (quad nw ne sw se) keep h k = h
HasLevel-over l (quad nw ne sw se) (cell s) h k = h
HasLevel-over l (quad nw ne sw se) (quad nw' ne' sw' se') h k =
    (h.0, HasLevel-over (l - 1) nw nw' h.1 k.1, HasLevel-over (l - 1) ne ne' h.2 k.2, HasLevel-over (l - 1) sw sw' h.3 k.3, HasLevel-over (l - 1) se se' h.4 k.4)

-- nothing is laid yet
pub partly_none : (t u : Quadtree) → IsPartlyOver t u u
partly_none t u = record { level = λ l h k. k; says = λ l x y. inl refl }

-- all is laid
pub partly_all : (t u new : Quadtree) → new ≡ over t u → IsPartlyOver t u new
partly_all t u new is = record { level = λ l h k. subst (HasLevel l) (sym is) (HasLevel-over l t u h k); says = λ l x y. inr (rw is refl) }

-- a fact on both sides of a test
either : {A : Type 0} (b : Bool) {x x' x'' y y' y'' : A} → (x ≡ x') ⊎ (x ≡ x'') → (y ≡ y') ⊎ (y ≡ y'') → (cond b x y ≡ cond b x' y') ⊎ (cond b x y ≡ cond b x'' y'')
either true p q = p
either false p q = q

-- where each quadrant is partly laid, the square is
pub partly_quad : {a b c d e f g h nw ne sw se : Quadtree} → IsPartlyOver a e nw → IsPartlyOver b f ne → IsPartlyOver c g sw → IsPartlyOver d h se → IsPartlyOver (quad a b c d) (quad e f g h) (quad nw ne sw se)
partly_quad p q r s = record {
  level = λ l j k. (j.0, p.level (l - 1) j.1 k.1, q.level (l - 1) j.2 k.2, r.level (l - 1) j.3 k.3, s.level (l - 1) j.4 k.4);
  says = λ l x y.
      let m = 2 ^ (l - 1) in
      either (nat_lt y m) (either (nat_lt x m) (p.says (l - 1) x y) (q.says (l - 1) (x - m) y)) (either (nat_lt x m) (r.says (l - 1) x (y - m)) (s.says (l - 1) (x - m) (y - m)));
}

-- a fact that holds on every way holds on an Err
pub on_any_err : {T E : Type 0} (r : Result T E) {P : Type 0} → P → OnErr r P
on_any_err (Ok v) p = tt
on_any_err (Err e) p = p

-- what follows on an Err
pub on_err : {T E : Type 0} (r : Result T E) {P Q : Type 0} → OnErr r P → (P → Q) → OnErr r Q
on_err (Ok v) h f = tt
on_err (Err e) h f = f h

-- what follows on an Ok
pub on_ok : {T E : Type 0} (r : Result T E) {P Q : Type 0} → OnOk r P → (P → Q) → OnOk r Q
on_ok (Ok v) h f = f h
on_ok (Err e) h f = tt
