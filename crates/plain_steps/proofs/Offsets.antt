-- The offsets as the code lists them.
use Rattle.plain_steps.proofs.Names.{All-from_recursion, All-get_or, AllByRecursion, List, Place, World, [], arith, around, cell, get_or, get_or-map, ints, negsuc, places_around, pos, ℕ, ℤ, ◌+ℤ◌, ◌<◌, ◌∷◌, ◌≡◌}
use Rattle.plain_steps.specs.declared.spot.Spot.{Spot}
use Rattle.worlds.specs.Near.{IsNear}

abbrev pub spots : List Spot
spots =
    record { x = pos 0; y = pos 0 }
    ∷ record { x = pos 0; y = negsuc 0 }
    ∷ record { x = pos 1; y = negsuc 0 }
    ∷ record { x = pos 1; y = pos 0 }
    ∷ record { x = pos 1; y = pos 1 }
    ∷ record { x = pos 0; y = pos 1 }
    ∷ record { x = negsuc 0; y = pos 1 }
    ∷ record { x = negsuc 0; y = pos 0 }
    ∷ record { x = negsuc 0; y = negsuc 0 }
    ∷ []

near_spots : AllByRecursion (λ (s : Spot). IsNear 1 s.x s.y) spots
near_spots = grind (arith, ints)

pub near_at : (i : ℕ) (d : Spot) → i < 9 → IsNear 1 (get_or spots i d).x (get_or spots i d).y
near_at i d h = All-get_or (λ (s : Spot). IsNear 1 s.x s.y) spots i d h (All-from_recursion (λ (s : Spot). IsNear 1 s.x s.y) spots near_spots)

pub state_at : (w : World) (x y : ℤ) (i : ℕ) (d : Spot) → i < 9 → get_or (around w x y) i 0 ≡ cell w (x +ℤ (get_or spots i d).x) (y +ℤ (get_or spots i d).y)
state_at w x y i d h = get_or-map (λ (s : Spot). cell w (x +ℤ s.x) (y +ℤ s.y)) spots i d 0 h

pub place_at : (p : Place) (i : ℕ) (d : Spot) → i < 9 → get_or (places_around p) i p ≡ (p.0 +ℤ (get_or spots i d).y, p.1 +ℤ (get_or spots i d).x)
place_at p i d h = get_or-map (λ (s : Spot). (p.0 +ℤ s.y, p.1 +ℤ s.x)) spots i d p h
