-- The faults of a body, wherever its pattern lies.
use Rattle.multistate_rle.proofs.Names.{Bool, Cell, CellOutOfRange, Digit, End, Err, HasNoFaultAnywhere, IsFaultAnywhere, IsOk, List, NoMemory, Ok, Origin, Result, RleFault, RowEnd, Run, Strip, Symbol, TooManyLive, Unknown, World, [], ap}
use Rattle.multistate_rle.proofs.Names.{arith, blank, cells_of_strip, cond, drawn_by, false, flat_map, inl, inr, lay, lies_inside, list_all, live_count, nat_lt, onto, refl, runs_from, strips_from, sym, true, unplaced, world_of, ℕ, ◌>>=◌, ◌∙◌}
use Rattle.multistate_rle.proofs.Names.{◌∷◌, ◌≡◌, ◌≢◌, ◌⊎◌}

-- a fault in which no place has a part
abbrev IsUnplaced : RleFault → Type 0
IsUnplaced e = (unplaced e ≡ e) × (e ≢ NoMemory)

-- all places give one such fault, or none but cells out of range
abbrev IsTold : (Origin → Result World RleFault) → Type 0
IsTold drawn = ((e : RleFault) × IsUnplaced e × ((origin : Origin) → drawn origin ≡ Err e)) ⊎ ((origin : Origin) → IsOk (drawn origin) ⊎ (drawn origin ≡ Err CellOutOfRange))

-- what is no list of runs is such a fault
abbrev IsRead : Result (List Run) RleFault → Type 0
IsRead (Ok runs) = Unit {0}
IsRead (Err e) = IsUnplaced e

onto-read : (run : Run) (read : Result (List Run) RleFault) → IsRead read → IsRead (onto run read)
onto-read run read h = grind (arith)

runs-read : (n : ℕ) (ss : List Symbol) → IsRead (runs_from n ss)
runs-read n [] = tt
runs-read n (Digit d ∷ ss) = runs-read _ ss
runs-read n (Cell s ∷ ss) = onto-read _ (runs_from 0 ss) (runs-read 0 ss)
runs-read n (RowEnd ∷ ss) = onto-read _ (runs_from 0 ss) (runs-read 0 ss)
runs-read n (End ∷ ss) = tt
runs-read n (Unknown offset ∷ ss) = (refl, λ e. cc)

-- the world of some cells, if they lie in the plane
abbrev world_if : Bool → World → Result World RleFault
world_if inside world = cond inside (Ok world) (Err CellOutOfRange)

outcome-told : (many : Bool) (inside : Origin → Bool) (world : Origin → World) → IsTold (λ origin. cond many (Err TooManyLive) (world_if (inside origin) (world origin)))
outcome-told true inside world = inl (TooManyLive, (refl, λ e. cc), λ origin. refl)
outcome-told false inside world = inr (λ origin. grind arith)

drawn-told : (ss : List Symbol) → IsTold (λ origin. drawn_by origin ss)
drawn-told ss = by (runs_from 0 ss) (runs-read 0 ss)
  where
    by : (read : Result (List Run) RleFault) → IsRead read → IsTold (λ origin. read >>= λ runs. world_of origin (strips_from 0 0 runs))
    by (Err e) h = inl (e, h, λ origin. refl)
    by (Ok runs) h =
        let strips : List Strip = strips_from 0 0 runs in
        outcome-told (nat_lt 16777216 (live_count strips)) (λ origin. list_all (lies_inside origin) strips) (λ origin. lay (flat_map (cells_of_strip origin) strips) blank)

-- what the fault at one place, if there is one, tells of the body
pub record IsFault (e : RleFault) (ss : List Symbol) : Type 0 where
  pub anywhere : IsFaultAnywhere (unplaced e) ss
  pub none : unplaced e ≡ NoMemory → HasNoFaultAnywhere ss

fault-told : (here : Result World RleFault) (e : RleFault) → (e ≡ NoMemory) ⊎ (here ≡ Err e) → IsOk here ⊎ (here ≡ Err CellOutOfRange) → unplaced e ≡ NoMemory
fault-told here e h told = grind (arith)

pub fault_told_anywhere : (origin : Origin) (ss : List Symbol) (e : RleFault) → (e ≡ NoMemory) ⊎ (drawn_by origin ss ≡ Err e) → (e ≡ NoMemory → IsOk (drawn_by origin ss)) → IsFault e ss
fault_told_anywhere origin ss e given sound = by (drawn-told ss) given
  where
    by : IsTold (λ origin. drawn_by origin ss) → (e ≡ NoMemory) ⊎ (drawn_by origin ss ≡ Err e) → IsFault e ss
    by (inr none) h = record { anywhere = λ there k. absurd (k (fault-told (drawn_by origin ss) e h (none origin))); none = λ k. none }
    by (inl told) (inl want) = let ok = sound want in let all = told.2 origin in absurd cc
    by (inl told) (inr is) =
        let all = told.2 origin in
        let same : told.0 ≡ e = cc in
        record {
          anywhere = λ there k. told.2 there ∙ ap Err (sym told.1.0 ∙ ap unplaced same);
          none = λ k. absurd (told.1.1 (sym told.1.0 ∙ ap unplaced same ∙ k));
        }
