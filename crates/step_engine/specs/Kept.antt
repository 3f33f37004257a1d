-- Squares and results that an engine keeps from one call to the next.
use Rattle.std.specs.Prelude.{◌≡◌, ℕ, suc, ◌+◌, ◌<◌, ◌≤◌, min, List, length, Bool, true, false, IfSome, None}
use Rattle.worlds.specs.World.{World}
use Rattle.square_table.specs.Squares.{Table, IsNumber, first_number, no_squares}
use Rattle.hash_engine.specs.Memo.{IsRightMemo, HasNoFull}
use Rattle.hash_engine.specs.Small.{small_count}
use Rattle.step_engine.specs.declared.cache.Cache.{Cache}
use Rattle.step_engine.specs.declared.cache.Packed.{Packed}
use Rattle.step_engine.specs.Evolved.{IsRoomSpent}
use Rattle.step_engine.specs.Padded.{IsSquareOf}

-- an engine as contracts see it: its rule, and how many squares it may hold
pub record RuleEngine (R : Type 0) : Type 0 where
  pub rule : R
  pub limit : ℕ

-- the square is one of the table's, and the plane's round the origin
abbrev pub IsPackedIn : Table → Packed → Type 0
IsPackedIn table packed = IsSquareOf table packed.plane packed.square

-- how many squares a table begins with
abbrev pub begun_by : Bool → ℕ
begun_by true = small_count
begun_by false = 0

abbrev pub begun_in : Cache → ℕ
begun_in cache = begun_by cache.is_small

-- the table has room for as many squares as are wanted beside those with which it begins
abbrev pub HasRoom : Cache → Type 0
HasRoom cache = min cache.limit 16777216 + begun_in cache ≤ cache.table.limit

-- the first so many rows are those of squares
pub record AreSquares (many : ℕ) (rows : List (List ℕ)) : Type 0 where
  pub there : many ≤ length rows
  pub each : (i : ℕ) → i < many → (level : ℕ) × IsNumber rows (suc level) (first_number + i)

-- what is kept: the squares with which it began are there, results of squares are all HashLife's
-- under the rule, and a plane has its square
pub record IsRightCache (next : List ℕ → ℕ) (cache : Cache) : Type 0 where
  pub room : HasRoom cache
  pub begins : AreSquares (begun_in cache) cache.table.rows
  pub right : IsRightMemo next cache.table cache.memo
  pub latest : IfSome cache.latest (IsPackedIn cache.table)

-- no square is kept, and no plane
pub record HasNothing (cache : Cache) : Type 0 where
  pub room : HasRoom cache
  pub empty : cache.table ≡ no_squares cache.table.limit
  pub none : cache.latest ≡ None

-- it has no square but those with which it began, and is right for each rule
pub record IsNewCache (most : ℕ) (cache : Cache) : Type 0 where
  pub limit : cache.limit ≡ most
  pub new : length cache.table.rows ≡ begun_in cache
  pub right : (next : List ℕ → ℕ) → IsRightCache next cache

-- for whichever rule its results were right whatever the table was, all that is kept is right
abbrev pub LaysFor : Cache → Cache → Type 0
LaysFor old new = (next : List ℕ → ℕ) →
    ((t : Table) → HasNoFull t → IsRightMemo next t old.memo) → IsRightCache next new

-- for whichever rule it was right, it is right still
abbrev pub ClearsFor : Cache → Cache → Type 0
ClearsFor old new = (next : List ℕ → ℕ) → IsRightCache next old → IsRightCache next new

-- if it had no square but those with which it began, the way to the world n generations later has
-- as many others as it may hold
abbrev pub SpendsNew : (List ℕ → ℕ) → World → ℕ → Cache → Type 0
SpendsNew next w n cache =
    length cache.table.rows ≡ begun_in cache → IsRoomSpent cache.limit next w n
