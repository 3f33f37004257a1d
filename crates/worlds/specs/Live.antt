-- The live cells of a world, row by row, and how many there are.
use Rattle.std.specs.Prelude.{◌≡◌, ℕ, suc, ◌<◌, Bool, true, false, cond, List, [], ◌∷◌, map, length, ℤ, ◌==◌, count_by, Option, Some, unwrap_or, T}
use Rattle.std.proofs.Common.{refl, sym, ap, ◌∙◌, subst, arith}
use Rattle.std.specs.declared.cmp.Ordering.{Ordering}
use Rattle.std.specs.declared.cmp.Ordering.TheVariants.{Less, Equal, Greater}
use Rattle.std.specs.Ordering.{is_eq, is_lt}
use Rattle.std.specs.Cmp.{eq_by_cmp_equiv}
use Rattle.std.specs.List.{AllByRecursion}
use Rattle.std.specs.Map.{keys_of, lookup}
use Rattle.std.specs.FinMap as map
use Rattle.std.specs.FinMap.Entries.{find, below_all, is_sorted}
use Rattle.worlds.specs.World.{World, Place, place_cmp, same_place, same_place-itself, cell, cell-get, places_total, state_of}
use Rattle.basics.proofs.Shared.Tests.{first, second}
use Rattle.worlds.specs.Fill.{same_is}
use Rattle.worlds.specs.declared.cell.Cell.{Cell}

-- a live cell's place and state, by the entry that a world has of it
abbrev pub as_live : Place × ℕ → Place × ℕ
as_live e = (e.0, suc e.1)

-- the live cells with their states, row by row and in a row by x
pub live : World → List (Place × ℕ)
live w = map as_live (map.entries w)

-- how many cells are live
abbrev pub population : World → ℕ
population w = length (live w)

-- how many live cells have the state s
abbrev pub count_of : World → ℕ → ℕ
count_of w s = count_by (λ e. e.1 == s) (live w)

-- a cell's place and state
abbrev pub of_cell : Cell → Place × ℕ
of_cell c = ((c.y, c.x), c.state)

-- a cell's place
abbrev pub place_of : Cell → Place
place_of c = (c.y, c.x)

-- the state that a list of cells gives a place: that of its first mention, else 0
abbrev pub state_at : List (Place × ℕ) → Place → ℕ
state_at es p = unwrap_or (lookup (same_place p) es) 0

-- `live`, by the entries
pub live-entries : (w : World) → live w ≡ map as_live (map.entries w)
unfolding live
live-entries w = refl

keys_of-as_live : (es : List (Place × ℕ))
    → map (λ (e : Place × ℕ). e.0) (map as_live es) ≡ map (λ (e : Place × ℕ). e.0) es
keys_of-as_live [] = refl
keys_of-as_live (e ∷ es) = ap (λ ps. e.0 ∷ ps) (keys_of-as_live es)

-- the places of the live cells
pub keys-live : (w : World) → keys_of (live w) ≡ map.keys w
unfolding live
keys-live w = keys_of-as_live (map.entries w)

found : (b : Bool) (n : ℕ) (o : Option ℕ) (m : ℕ) → state_of o ≡ m
    → state_of (cond b (Some n) o) ≡ cond b (suc n) m
found true n o m h = refl
found false n o m h = h

look : (b : Bool) (n : ℕ) (o : Option ℕ)
    → cond b n (unwrap_or o 0) ≡ unwrap_or (cond b (Some n) o) 0
look true n o = refl
look false n o = refl

state_at-entries : (q : Place) (es : List (Place × ℕ))
    → state_of (find place_cmp q es) ≡ state_at (map as_live es) q
state_at-entries q [] = refl
state_at-entries q (e ∷ es) =
    found (same_place q e.0) e.1 (find place_cmp q es) _ (state_at-entries q es)
    ∙ look (same_place q e.0) (suc e.1) (lookup (same_place q) (map as_live es))

-- each state, by the list of the live cells
pub cell-state_at : (w : World) (x y : ℤ) → cell w x y ≡ state_at (live w) (y, x)
cell-state_at w x y =
    cell-get w x y ∙ ap state_of (map.get-entries w (y, x))
    ∙ state_at-entries (y, x) (map.entries w) ∙ ap (λ es. state_at es (y, x)) (sym (live-entries w))

-- a property of each listed cell is one of each live place
pub by_place : (es : List (Place × ℕ)) (P : ℤ → ℤ → ℕ → Type 0)
    → AllByRecursion (λ (e : Place × ℕ). P e.0.1 e.0.0 e.1) es → (x y : ℤ) → 0 < state_at es (y, x)
    → P x y (state_at es (y, x))
by_place [] P h x y live = absurd (omega (arith, live))
by_place (e ∷ es) P h x y live =
    elim (same_place (y, x) e.0) as
    (λ b. same_place (y, x) e.0 ≡ b
    → 0 < unwrap_or (cond b (Some e.1) (lookup (same_place (y, x)) es)) 0
    → P x y (unwrap_or (cond b (Some e.1) (lookup (same_place (y, x)) es)) 0)) [
      | true ↦ λ same l. subst (λ (p : Place). P p.1 p.0 e.1) (sym (same_is (y, x) e.0 same)) h.0
      | false ↦ λ same l. by_place es P h.1 x y l
    ] refl live

apart : (o : Ordering) → T (is_lt o) → is_eq o ≡ false
apart Less h = refl
apart Equal h = absurd h
apart Greater h = absurd h

other : (b : Bool) (n m : ℕ) (o : Option ℕ) → b ≡ false → o ≡ Some m → cond b (Some n) o ≡ Some m
other true n m o e h = cc
other false n m o e h = h

-- each entry below stays found when a lesser one is put before it
still_found : (e : Place × ℕ) (fs es : List (Place × ℕ)) → T (below_all place_cmp e.0 fs)
    → AllByRecursion (λ f. find place_cmp f.0 es ≡ Some f.1) fs
    → AllByRecursion (λ f. find place_cmp f.0 (e ∷ es) ≡ Some f.1) fs
still_found e [] es below h = tt
still_found e (f ∷ fs) es below h = (
  other (same_place f.0 e.0) e.1 f.1 _
      ((eq_by_cmp_equiv places_total).symm f.0 e.0 ∙ apart (place_cmp e.0 f.0) (first _ _ below))
      h.0,
  still_found e fs es (second _ _ below) h.1,
)

each_found : (es : List (Place × ℕ)) → T (is_sorted place_cmp es)
    → AllByRecursion (λ f. find place_cmp f.0 es ≡ Some f.1) es
each_found [] h = tt
each_found (e ∷ es) h = (
  ap (λ b. cond b (Some e.1) (find place_cmp e.0 es)) (same_place-itself e.0),
  still_found e es es (first _ _ h) (each_found es (second _ _ h)),
)

each_state : (w : World) (es : List (Place × ℕ))
    → AllByRecursion (λ f. find place_cmp f.0 (map.entries w) ≡ Some f.1) es
    → AllByRecursion (λ (f : Place × ℕ). (cell w f.0.1 f.0.0 ≡ f.1) × (0 < f.1)) (map as_live es)
each_state w [] h = tt
each_state w (e ∷ es) h = (
  (cell-get w e.0.1 e.0.0 ∙ ap state_of (map.get-entries w e.0 ∙ h.0), omega arith),
  each_state w es h.1,
)

-- each listed cell is live, in the state that is listed
pub live-states : (w : World)
    → AllByRecursion (λ (e : Place × ℕ). (cell w e.0.1 e.0.0 ≡ e.1) × (0 < e.1)) (live w)
live-states w =
    subst (AllByRecursion (λ (e : Place × ℕ). (cell w e.0.1 e.0.0 ≡ e.1) × (0 < e.1)))
    (sym (live-entries w))
    (each_state w (map.entries w) (each_found (map.entries w) (map.entries_sorted w)))
