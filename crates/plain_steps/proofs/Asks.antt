-- What asking at one more place adds.
use Rattle.plain_steps.proofs.Names.{All, All-nil, All-push, Asked, AsksMore, CellSet, Cells, HasAsked, IsHeld, IsKeptCell, IsNoted, List, Place, World, [], and_parts, ap, append-nil, append_assoc, arith, blank, cell, cell-blank, cell-fill}
use Rattle.plain_steps.proofs.Names.{cell-put, eqb-true, false, fill, fill-append, fill-none, fill-one, follows, is_some, lay, lay-push, list_any, list_any-append, listed_as, place_cmp, places_total, put, refl, same_is, same_place}
use Rattle.plain_steps.proofs.Names.{same_world, state_at, subst, suc, sym, true, zero, ℕ, ℤ, ◌++◌, ◌<◌, ◌==◌, ◌∙◌, ◌∷◌, ◌≡◌}
use Rattle.std.specs.FinMap as finite
use Rattle.square_tree.specs.Cells as patches

-- a place that was one of these
member-again : (p q : Place) (ps : List Place) → list_any (same_place q) ps ≡ true → list_any (same_place p) (ps ++ q ∷ []) ≡ list_any (same_place p) ps
member-again p q ps h = grind (arith, list_any-append (same_place p) ps (q ∷ []), same_is p q)

-- a state put where it is
put-itself : (w : World) (x y : ℤ) (s : ℕ) → cell w x y ≡ s → put w x y s ≡ w
put-itself w x y s h = same_world (put w x y s) w (λ x' y'. grind (arith, cell-put w x y s x' y', same_is (y', x') (y, x)))

fill-push : (ps : List Place) (x y : ℤ) (f : ℤ → ℤ → ℕ) → fill (ps ++ (y, x) ∷ []) f blank ≡ put (fill ps f blank) x y (f x y)
fill-push ps x y f = fill-append ps ((y, x) ∷ []) f blank ∙ fill-one x y f (fill ps f blank)

-- nothing was asked
pub HasAsked-none : (next : List ℕ → ℕ) (w : World) (a : Asked) → a.patch ≡ patches.blank a.patch.level → a.cells.items ≡ [] → HasAsked next w [] a
HasAsked-none next w a keeps none = record {
  says = λ x y. ap (λ (c : Cells). state_at c x y) keeps ∙ finite.get-empty place_cmp (y, x);
  laid = ap (λ cs. lay cs blank) none ∙ sym (fill-none (follows next w) blank);
  listed = subst (All (IsKeptCell a.patch.level (follows next w))) (sym none) (All-nil (IsKeptCell a.patch.level (follows next w)));
  still = λ _ x y h. absurd (cc);
}

-- nothing more
pub AsksMore-none : (next : List ℕ → ℕ) (w : World) (a : Asked) → AsksMore next w [] a a
AsksMore-none next w a = record { level = refl; asked = λ ps h. rw append-nil h }

-- more, and then more
pub AsksMore-then : (next : List ℕ → ℕ) (w : World) (qs rs : List Place) (a b c : Asked) → AsksMore next w qs a b → AsksMore next w rs b c → AsksMore next w (qs ++ rs) a c
AsksMore-then next w qs rs a b c first second = record {
  level = second.level ∙ first.level;
  asked = λ ps h. rw append_assoc at (second.asked (ps ++ qs) (first.asked ps h));
}

-- at the same place, or around it
pub AsksMore-at : (f : Place → List Place) {next : List ℕ → ℕ} {w : World} {a b : Asked} (x y : ℤ) (q : Place) → y ≡ q.0 → x ≡ q.1 → AsksMore next w (f (y, x)) a b → AsksMore next w (f q) a b
AsksMore-at f {next} {w} {a} {b} x y q ey ex h = let at : (y, x) ≡ q = λ i. (ey i, ex i) in subst (λ (p : Place). AsksMore next w (f p) a b) at h

-- at a place that has an answer
pub AsksMore-again : (next : List ℕ → ℕ) (w : World) (a : Asked) (x y : ℤ) → is_some (state_at a.patch x y) ≡ true → AsksMore next w ((y, x) ∷ []) a a
AsksMore-again next w a x y has = record {
  level = refl;
  asked = λ ps h.
      let f : ℤ → ℤ → ℕ = follows next w in
      let here : list_any (same_place (y, x)) ps ≡ true = grind (arith, h.says x y) in
      record {
        says = λ x' y'. grind (arith, h.says x' y', member-again (y', x') (y, x) ps);
        laid = h.laid ∙ sym (fill-push ps x y f ∙ put-itself (fill ps f blank) x y (f x y) (grind (arith, cell-fill ps f blank x y)));
        listed = h.listed;
        still = λ s x' y' e. h.still s x' y' (sym (member-again (y', x') (y, x) ps here) ∙ e);
      };
}

-- a cell that is listed where it is live
lay-listed : (cs : List CellSet) (x y : ℤ) (s : ℕ) → cell (lay cs blank) x y ≡ 0 → lay (cs ++ listed_as x y s) blank ≡ put (lay cs blank) x y s
lay-listed cs x y zero dead = grind (arith, append-nil, put-itself (lay cs blank) x y 0)
lay-listed cs x y (suc n) dead = lay-push cs (record { x = x; y = y; state = suc n }) blank

All-listed : (l : ℕ) (f : ℤ → ℤ → ℕ) (cs : List CellSet) (x y : ℤ) (s : ℕ) → f x y ≡ s → s < 256 → IsHeld l x y → All (IsKeptCell l f) cs → All (IsKeptCell l f) (cs ++ listed_as x y s)
All-listed l f cs x y zero is small held all = rw append-nil all
All-listed l f cs x y (suc n) is small held all =
    All-push (IsKeptCell l f) cs (record { x = x; y = y; state = suc n }) all (record { live = omega (arith, is); state = small; held = held })

-- at a place that has none
pub AsksMore-noted : (next : List ℕ → ℕ) (w : World) (a b : Asked) (x y : ℤ) (before state : ℕ) → is_some (state_at a.patch x y) ≡ false → IsHeld a.patch.level x y
    → before ≡ cell w x y → state ≡ follows next w x y → state < 256 → IsNoted x y before state a b → AsksMore next w ((y, x) ∷ []) a b
AsksMore-noted next w a b x y before state has held was is small noted = record {
  level = ap (λ (c : Cells). c.level) noted.patch;
  asked = λ ps h.
      let f : ℤ → ℤ → ℕ = follows next w in
      let dead : cell (lay a.cells.items blank) x y ≡ 0 = grind (arith, h.says x y, cell-fill ps f blank x y, cell-blank x y) in
      record {
        says = λ x' y'.
            grind (
              arith,
              finite.get-insert places_total a.patch.states (y, x) state (y', x'),
              same_is (y', x') (y, x),
              h.says x' y',
              list_any-append (same_place (y', x')) ps ((y, x) ∷ []),
            );
        laid = grind (arith, lay-listed a.cells.items x y state, fill-push ps x y f);
        listed =
            rw noted.cells
            (subst (λ l. All (IsKeptCell l f) (a.cells.items ++ listed_as x y state)) (sym (ap (λ (c : Cells). c.level) noted.patch))
            (All-listed a.patch.level f a.cells.items x y state (sym is) small held h.listed));
        still = λ s x' y' e.
            grind (
              arith,
              h.still,
              same_is (y', x') (y, x),
              eqb-true before state,
              and_parts a.is_still (before == state),
              list_any-append (same_place (y', x')) ps ((y, x) ∷ []),
            );
      };
}
