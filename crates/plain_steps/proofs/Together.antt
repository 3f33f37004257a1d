-- The list and the patch of a generation, and those with which the first one begins.
use Rattle.plain_steps.proofs.Names.{All, All-from_recursion, All-map, AreTogether, CellSet, Cells, HasMargin, IsHeld, IsInside, List, World, ap, arith, blank, cell, cell-put, get_or, lay, lay-push, length, live, live-states, map}
use Rattle.plain_steps.proofs.Names.{places_total, recursion_from_All, state_at, subst, sym, take, take_more, unwrap_or, ℕ, ℤ, ◌+◌, ◌<◌, ◌∙◌, ◌≡◌}
use Rattle.std.specs.FinMap as finite
use Rattle.square_tree.specs.Cells.{put}
use Rattle.plain_steps.proofs.Mentions.{IsListedIn, set_of, live-mentioned, each_mentioned, lay-live}

-- no cell outside the patch's square is live
pub dead_outside : (cells : List CellSet) (patch : Cells) (x y : ℤ) → AreTogether cells patch → (IsHeld patch.level x y → ⊥) → cell (lay cells blank) x y ≡ 0
dead_outside cells patch x y t out =
    let held = recursion_from_All (λ (c : CellSet). IsHeld patch.level c.x c.y) cells (λ k d at. (t.listed k d at).held) in
    let dead : 0 < cell (lay cells blank) x y → ⊥ = λ alive. out (each_mentioned (IsHeld patch.level) cells x y held (live-mentioned cells x y alive)) in
    omega (arith, dead)

-- the live cells of a world, as they are laid
module _ (w : World) (sets : List CellSet) (are : sets ≡ map set_of (live w)) where
  live_sets : All (λ c. 0 < cell w c.x c.y) sets
  live_sets = subst (All (λ (c : CellSet). 0 < cell w c.x c.y)) (sym are)
      (All-map (λ (c : CellSet). 0 < cell w c.x c.y) set_of (live w) (λ k d at. omega (arith, All-from_recursion (IsListedIn w) (live w) (live-states w) k d at)))

  pub inside_sets : (margin : ℕ) → HasMargin margin w → All (λ c. IsInside margin c.x c.y) sets
  inside_sets margin room k d at = room _ _ (live_sets k d at)

  pub lay-sets : lay sets blank ≡ w
  lay-sets = ap (λ ds. lay ds blank) are ∙ lay-live w

  -- they and a patch in which each was set are together
  pub together-sets : (patch : Cells) → All (λ c. c.state < 256) sets → All (λ c. IsHeld patch.level c.x c.y) sets
      → ((x y : ℤ) → unwrap_or (state_at patch x y) 0 ≡ cell (lay sets blank) x y) → AreTogether sets patch
  together-sets patch small held shown = record {
    listed = λ k d at. record { live = subst (λ v. 0 < cell v (get_or sets k d).x (get_or sets k d).y) (sym lay-sets) (live_sets k d at); state = small k d at; held = held k d at };
    shown = shown;
  }

-- one more cell is set
pub shown-set : (p q : Cells) (cs : List CellSet) (i : ℕ) (d : CellSet) (x' y' : ℤ) → i < length cs → ((x y : ℤ) → unwrap_or (state_at p x y) 0 ≡ cell (lay (take i cs) blank) x y)
    → x' ≡ (get_or cs i d).x → y' ≡ (get_or cs i d).y → q ≡ put p x' y' (get_or cs i d).state → (x y : ℤ) → unwrap_or (state_at q x y) 0 ≡ cell (lay (take (i + 1) cs) blank) x y
shown-set p q cs i d x' y' below shown ex ey is x y =
    let c : CellSet = get_or cs i d in
    grind (
      arith,
      shown x y,
      finite.get-insert places_total p.states (y', x') c.state (y, x),
      cell-put (lay (take i cs) blank) c.x c.y c.state x y,
      lay-push (take i cs) c blank,
      take_more cs i d below,
    )
