-- What an engine made on its way, from what its table grew by.
use Rattle.step_engine.proofs.Names.{AddsRound, AddsStart, AllBelow, AreAmong, Grows-then, GrowsFor, HasMargin, HasRoomFor, HasWay, IsCentred, IsFull, IsRoomLevel}
use Rattle.step_engine.proofs.Names.{IsRootLevel, IsRooted, IsWidened, List, Table, World, ap, arith, cells_of, edge, ints, iterate, length, level_of, min, nine_zeros, square_at}
use Rattle.step_engine.proofs.Names.{step, suc, sym, ℕ, ◌+◌, ◌-◌, ◌^◌, ◌∙◌, ◌≡◌, ◌≤◌}
use Rattle.worlds.specs.Square as squares
use Rattle.plane_core.specs.Rows.{Fits}
use Rattle.square_table.specs.declared.square.Square.{Square}
use Rattle.hash_engine.specs.Adding.{GrowsOnWay}
use Rattle.hash_engine.specs.Found.{CanBeAsked, IsLater}
use Rattle.step_engine.proofs.Reaching.{LiesWithin-more, LiesWithin-iterate}
use Rattle.step_engine.proofs.Centring.{edge-suc, IsCentred-result}
use Rattle.step_engine.proofs.Evolving.{IsBelow-centred, HasMargin-later}
use Rattle.std.specs.Prelude.{◌++◌}
use Rattle.step_engine.specs.Evolved.{IsRoomSpent}
use Rattle.step_engine.specs.Kept.{AreSquares}
use Rattle.step_engine.proofs.Shared.Beside.{beside_many, own, way-more}

-- the square with room holds the live cells
room-fits : (n k : ℕ) (w : World) → HasRoomFor n k w → Fits (suc (suc k)) w
room-fits n k w room x y live =
    let at = room.within x y live in
    let double : 2 ^ suc k ≡ 2 ^ k + 2 ^ k = omega arith in
    let twice : 2 ^ suc (suc k) ≡ 2 ^ suc k + 2 ^ suc k = omega arith in
    let e = edge-suc (suc k) in
    omega (arith, ints)

module _ {w : World} {n k level : ℕ} (is : IsRoomLevel n w k) (e : level ≡ k + 2) where
  -- so the level of a plane's least square isn't above it
  pub low_enough : (j : ℕ) → IsRootLevel j w → j ≤ level
  low_enough j root = omega (arith, root.least.least (suc (suc k)) (omega arith) (room-fits n k w is.room), e)

  -- what a table has more once the world's square is loaded, and has empty squares round it
  pub AddsStart-widened : {t u v : Table} {square : Square} → GrowsFor w t u → IsCentred w (level_of square) (cells_of u square) → AddsRound u square level v → AddsStart w n t v
  AddsStart-widened {t} {u} {v} grows centred adds = record {
    grows = Grows-then t u v grows.grows adds.grows;
    notes = adds.notes ∙ grows.notes;
    k = k;
    root = is;
    among = λ all start are. let loaded = grows.among (suc (suc k)) all (omega arith) (room-fits n k w is.room) start are in adds.among w all centred (grind arith) loaded;
  }

  pub IsRooted-widened : {t u : Table} {start root : Square} → IsCentred w (level_of start) (cells_of t start) → IsWidened t start level u root → IsRooted w n u root
  IsRooted-widened centred widened = record {
    held = widened.held;
    level = λ j other. let up = is.least j other.room in let down = other.least k is.room in omega (arith, widened.raised, e, up, down);
    centred = let at = widened.centred w centred in grind (arith, widened.raised);
  }

-- once it is loaded
pub AddsStart-loaded : {w : World} {n k : ℕ} {t u : Table} → IsRoomLevel n w k → GrowsFor w t u → AddsStart w n t u
AddsStart-loaded {w} {n} {k} is grows = record {
  grows = grows.grows;
  notes = grows.notes;
  k = k;
  root = is;
  among = λ all start. grows.among (suc (suc k)) all (omega arith) (room-fits n k w is.room) start;
}

-- the square whose result is sought
pub record IsRootFor (w : World) (n : ℕ) (t : Table) (root : Square) : Type 0 where
  pub level : (2 ≤ level_of root) × (level_of root ≤ 63)
  pub centred : IsCentred w (level_of root) (cells_of t root)
  pub room : HasRoomFor n (level_of root - 2) w

-- its result is the square of the world so many generations later
pub root-later : (next : List ℕ → ℕ) → next nine_zeros ≡ 0 → {w : World} {n : ℕ} {u v : Table} {root square : Square} → IsRootFor w n u root → IsLater next n u root v square
    → IsCentred (iterate n (step next) w) (level_of square) (cells_of v square)
root-later next quiet {w} {n} {u} {v} {root} {square} is later =
    let k = level_of root - 2 in
    let near = LiesWithin-more (n + (2 ^ k - n)) (2 ^ k) (iterate n (step next) w) (omega (arith, is.room.few)) (LiesWithin-iterate n (2 ^ k - n) next w quiet is.room.within) in
    let found = IsCentred-result next quiet w k n (cells_of u root) is.room.few (grind (arith, is.level, is.centred)) near in
    grind (arith, later.level, later.cells, is.level)

-- as a plane needs it
pub later-world : (next : List ℕ → ℕ) → next nine_zeros ≡ 0 → {w : World} {n : ℕ} {u v : Table} {root square : Square} → HasMargin n w → IsRootFor w n u root → IsLater next n u root v square
    → (x : World) × HasMargin 0 x × IsCentred x (level_of square) (cells_of v square)
later-world next quiet {w} {n} fits is later = (iterate n (step next) w, HasMargin-later 0 n n next w quiet (omega arith) fits, root-later next quiet is later)

-- if each row of the table is that of a square, and it may hold as many others as an engine, the way to the world n generations later has as
-- many different ones as that
abbrev pub SpendsBeside : (List ℕ → ℕ) → World → ℕ → Table → Type 0
SpendsBeside next w n t = (limit : ℕ) → AreSquares (length t.rows) t.rows → min limit 16777216 + length t.rows ≤ t.limit → IsRoomSpent limit next w n

-- a table that was full before a search has as many different squares as it may
pub start-spent : {next : List ℕ → ℕ} {w : World} {n : ℕ} {t u : Table} → AddsStart w n t u → IsFull u → SpendsBeside next w n t
start-spent {t = t} {u = u} adds full limit are most = record {
  k = adds.k;
  root = adds.root;
  made = λ all way.
      beside_many adds.grows full.distinct are all (λ among. adds.among (all ++ (own are).squares) (way-more all (own are).squares way).start among) (min limit 16777216) (omega (arith, most, adds.grows.limit, full.count));
}

module _ {w : World} {n : ℕ} {t u : Table} {root : Square} (adds : AddsStart w n t u) (rooted : IsRooted w n u root) where
  pub high : level_of root ≡ suc (suc adds.k)
  high = rooted.level adds.k adds.root

  pub root-for : IsRootFor w n u root
  root-for = record { level = omega (arith, high, adds.root.few); centred = rooted.centred; room = let room = adds.root.room in grind (arith, high) }

  pub root-asked : {c : ℕ} → AllBelow c w → CanBeAsked c u root
  root-asked {c} below = record { held = rooted.held; level = root-for.level; below = IsBelow-centred c w _ _ below rooted.centred }

  pub whole : square_at w (suc (suc adds.k)) (edge (suc (suc adds.k))) (edge (suc (suc adds.k))) ≡ cells_of u root
  whole = ap (λ l. square_at w l (edge l) (edge l)) (sym high) ∙ sym rooted.centred.square

  -- all that a search for it adds is made on the way
  pub searching : {next : List ℕ → ℕ} {v : Table} → GrowsOnWay next n u root v → (all : List squares.Square) → HasWay all next w adds.k n → AreAmong all t.rows → AreAmong all v.rows
  searching grows all way are = grows.among all (let made = way.way in grind (arith, high, whole)) (adds.among all way.start are)

  -- one that was filled by it
  pub search-spent : {next : List ℕ → ℕ} {v : Table} → GrowsOnWay next n u root v → IsFull v → SpendsBeside next w n t
  search-spent {v = v} grows full limit are most = record {
    k = adds.k;
    root = adds.root;
    made = λ all way.
        beside_many (Grows-then t u v adds.grows grows.grows) full.distinct are all (λ among. searching grows (all ++ (own are).squares) (way-more all (own are).squares way) among) (min limit 16777216)
        (omega (arith, most, adds.grows.limit, grows.grows.limit, full.count));
  }
