-- The next generation, once the rule was asked at and around each live cell.
use Rattle.plain_steps.proofs.Names.{AreTogether, Asked, CellSet, HasAsked, List, Place, World, [], append-nil, arith, blank, cases_Bool, cell, cell-blank, cell-fill, cell-live, cell-step, false, fill, flat_map, follows, get_or, inl, inr}
use Rattle.plain_steps.proofs.Names.{ints, is_same, lay, length, list_any, list_any-append, list_any_at, lit<, map, map-append, nine_zeros, or_cases, or_left, or_right, places_around, pos, same_is, same_place, same_place-itself, same_world}
use Rattle.plain_steps.proofs.Names.{step, step-fill, subst, sym, take, take_more, true, ℕ, ℤ, ◌++◌, ◌+ℤ◌, ◌+◌, ◌<◌, ◌∙◌, ◌∷◌, ◌≡◌, ◌≤◌}
use Rattle.std.proofs.Common.{take_all}
use Rattle.std.proofs.lemmas.Grind.{flat_map-append}
use Rattle.std.specs.FinMap as finite
use Rattle.plain_steps.proofs.Mentions.{place_of, cell-unmentioned, live-mentioned}

-- what is around a listed place is among what is around all of them
around_listed : (p q : Place) (ks : List Place) → list_any (same_place q) ks ≡ true → list_any (same_place p) (places_around q) ≡ true → list_any (same_place p) (flat_map places_around ks) ≡ true
around_listed p q [] h t = absurd (cc)
around_listed p q (k ∷ ks) h t =
    list_any-append (same_place p) (places_around k) (flat_map places_around ks)
    ∙ elim (or_cases (same_place q k) (list_any (same_place q) ks) h) [
      | inl e ↦ or_left _ _ (subst (λ r. list_any (same_place p) (places_around r) ≡ true) (same_is q k e) t)
      | inr e ↦ or_right _ _ (around_listed p q ks e t)
    ]

-- what is around some places is around more
covers : (p : Place) (ks ls : List Place) → ((q : Place) → list_any (same_place q) ks ≡ true → list_any (same_place q) ls ≡ true)
    → list_any (same_place p) (flat_map places_around ks) ≡ true → list_any (same_place p) (flat_map places_around ls) ≡ true
covers p [] ls more h = absurd (cc)
covers p (k ∷ ks) ls more h =
    elim (or_cases (list_any (same_place p) (places_around k)) (list_any (same_place p) (flat_map places_around ks)) (sym (list_any-append (same_place p) (places_around k) (flat_map places_around ks)) ∙ h)) [
      | inl t ↦ around_listed p k ls (more k (or_left _ _ (same_place-itself k))) t
      | inr t ↦ covers p ks ls (λ q e. more q (or_right _ _ e)) t
    ]

-- a place is one of those around itself
around_itself : (p : Place) → list_any (same_place p) (places_around p) ≡ true
around_itself p = list_any_at (same_place p) (places_around p) 0 p (lit< tt) (is_same p (p.0 +ℤ pos 0, p.1 +ℤ pos 0) (omega (arith, ints)) (omega (arith, ints)))

-- the places to ask at for listed cells
abbrev pub asked_for : List CellSet → List Place
asked_for cs = flat_map places_around (map place_of cs)

-- one more of them
pub asked_for-more : (cs : List CellSet) (i : ℕ) (d : CellSet) → i < length cs → asked_for (take (i + 1) cs) ≡ asked_for (take i cs) ++ places_around (place_of (get_or cs i d))
asked_for-more cs i d h = simp (take_more cs i d h, map-append, flat_map-append, append-nil)

-- all of them
pub asked_all : {next : List ℕ → ℕ} {w : World} {cs ds : List CellSet} {a : Asked} (i : ℕ) → length cs ≤ i → cs ≡ ds → lay ds blank ≡ w → HasAsked next w (asked_for (take i cs)) a
    → HasAsked next (lay ds blank) (asked_for ds) a
asked_all {cs = cs} i all same is h = rw is (rw (take_all i cs all, same) at h)

-- at another place nothing is live
apart-now : (cs : List CellSet) (x y : ℤ) → list_any (same_place (y, x)) (asked_for cs) ≡ false → cell (lay cs blank) x y ≡ 0
apart-now cs x y h =
    grind (
      arith,
      cases_Bool (list_any (same_place (y, x)) (map place_of cs)),
      around_listed (y, x) (y, x) (map place_of cs),
      around_itself (y, x),
      cell-unmentioned cs x y,
    )

-- and nothing will be
apart-later : (next : List ℕ → ℕ) → next nine_zeros ≡ 0 → (cs : List CellSet) (x y : ℤ) → list_any (same_place (y, x)) (asked_for cs) ≡ false → follows next (lay cs blank) x y ≡ 0
apart-later next quiet cs x y h =
    let w = lay cs blank in
    let near : List Place = flat_map places_around (finite.keys w) in
    let listed = covers (y, x) (finite.keys w) (map place_of cs) (λ q k. live-mentioned cs q.1 q.0 (cell-live w q.1 q.0 k)) in
    grind (
      arith,
      cases_Bool (list_any (same_place (y, x)) near),
      cell-step next quiet w x y,
      step-fill next w,
      cell-fill near (follows next w) blank x y,
      cell-blank,
    )

module _ (next : List ℕ → ℕ) (quiet : next nine_zeros ≡ 0) (cs : List CellSet) (a : Asked) (h : HasAsked next (lay cs blank) (asked_for cs) a) where
  -- the cells that were found are those of the next generation
  pub next-laid : lay a.cells.items blank ≡ step next (lay cs blank)
  next-laid =
      let w = lay cs blank in
      h.laid
      ∙ same_world (fill (asked_for cs) (follows next w) blank) (step next w) (λ x y.
      grind (
        arith,
        cell-fill (asked_for cs) (follows next w) blank x y,
        cell-blank,
        cases_Bool (list_any (same_place (y, x)) (asked_for cs)),
        apart-later next quiet cs x y,
        cell-step next quiet w x y,
      ))

  -- they and the answers are a generation
  pub next-together : AreTogether a.cells.items a.patch
  next-together = record {
    listed = λ k d at. let c = h.listed k d at in record { live = rw (next-laid, cell-step next quiet (lay cs blank)) c.live; state = c.state; held = c.held };
    shown = λ x y. grind (arith, h.says x y, cell-fill (asked_for cs) (follows next (lay cs blank)) blank x y, cell-blank);
  }

  -- where each answer is the state that the cell had, the world is still
  pub next-still : a.is_still ≡ true → step next (lay cs blank) ≡ lay cs blank
  next-still still = same_world (step next (lay cs blank)) (lay cs blank) (λ x y.
      grind (
        arith,
        cell-step next quiet (lay cs blank) x y,
        cases_Bool (list_any (same_place (y, x)) (asked_for cs)),
        h.still still x y,
        apart-later next quiet cs x y,
        apart-now cs x y,
      ))
