-- What a plane keeps some generations later.
use Rattle.step_engine.proofs.Names.{AllBelow, AllBelow-step, AreNineBelow, CanEvolve, HasMargin, HasMargin-less, HasMargin-step, IsCentred, List, World, arith, edge, iterate-add, nine_zeros, step, subst, suc, sym, zero, ℕ, ℤ, ◌+◌, ◌<◌}
use Rattle.step_engine.proofs.Names.{◌≡◌, ◌≤◌}
use Rattle.worlds.specs.Iterate.{iterate}
use Rattle.worlds.specs.Square as squares
use Rattle.worlds.specs.Square.{square_at}
use Rattle.hash_life_laws.specs.Puts.{IsBelow}

-- the states of a square of a world
IsBelow-square_at : (c : ℕ) (w : World) (k : ℕ) (x y : ℤ) → AllBelow c w → IsBelow c (square_at w k x y)
unfolding square_at IsBelow
IsBelow-square_at c w zero x y below = below x y
IsBelow-square_at c w (suc k) x y below =
    (IsBelow-square_at c w k x y below, IsBelow-square_at c w k _ y below, IsBelow-square_at c w k x _ below, IsBelow-square_at c w k _ _ below)

pub IsBelow-centred : (c : ℕ) (w : World) (k : ℕ) (s : squares.Square) → AllBelow c w → IsCentred w k s → IsBelow c s
IsBelow-centred c w k s below is = subst (IsBelow c) (sym is.square) (IsBelow-square_at c w k (edge k) (edge k) below)

-- room for more generations leaves room for those that are to come
pub HasMargin-later : (m n r : ℕ) (next : List ℕ → ℕ) (w : World) → next nine_zeros ≡ 0 → n + m ≤ r → HasMargin r w → HasMargin m (iterate n (step next) w)
unfolding iterate
HasMargin-later m zero r next w quiet few h = HasMargin-less m r w (omega (arith, few)) h
HasMargin-later m (suc n) r next w quiet few h = HasMargin-step m next (iterate n (step next) w) quiet (HasMargin-later (suc m) n r next w quiet (omega (arith, few)) h)

-- what keeps the states of a rule keeps them for any number of generations
AllBelow-iterate : (c n : ℕ) (next : List ℕ → ℕ) (w : World) → next nine_zeros ≡ 0 → ((states : List ℕ) → AreNineBelow c states → next states < c) → AllBelow c w → AllBelow c (iterate n (step next) w)
unfolding iterate
AllBelow-iterate c zero next w quiet below h = h
AllBelow-iterate c (suc n) next w quiet below h = AllBelow-step c next (iterate n (step next) w) quiet below (AllBelow-iterate c n next w quiet below h)

-- what can evolve so long can go on after some of the generations
pub CanEvolve-later : (c before count n : ℕ) (next : List ℕ → ℕ) (w : World) → next nine_zeros ≡ 0
    → ((states : List ℕ) → AreNineBelow c states → next states < c) → before + count ≤ n → CanEvolve c n w
    → CanEvolve c count (iterate before (step next) w)
CanEvolve-later c before count n next w quiet below within can = record {
  below = AllBelow-iterate c before next w quiet below can.below;
  few = omega (arith, can.few, within);
  fits = HasMargin-later count before n next w quiet within can.fits;
}

-- some generations more
pub iterate-more : (f : World → World) (w v : World) (count before after : ℕ) → count + before ≡ after → v ≡ iterate before f w → iterate count f v ≡ iterate after f w
iterate-more f w v count before after sum is = grind (arith, iterate-add f w count before)
