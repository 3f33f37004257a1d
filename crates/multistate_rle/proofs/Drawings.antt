-- A drawing of the runs that were read: at its end it tells what their strips tell.
use Rattle.multistate_rle.proofs.Names.{Cell, Cells, Digit, Drawn, Err, Gives, IsLike, IsOk, List, NoMemory, Ok, Origin, Result, RleFault, RowEnd, RowEnds, Run, Strip, Symbol, WantsAlone, World, [], after_cells, after_rows, and_parts, ap}
use Rattle.multistate_rle.proofs.Names.{append-nil, append_assoc, ap₂, arith, capped, cells_of_strip, cond, cond-true, drawn_by, flat_map, flat_map_more, is_in_range, lies_inside, list_all, live_count, max, nat_le, nat_tests, onto, pos, refl}
use Rattle.multistate_rle.proofs.Names.{runs_from, strip_at, strips_from, sum_by_push, sym, tests, true, undrawn, with_strip, world_drawn, world_of, ℕ, ◌&&◌, ◌*◌, ◌++◌, ◌+ℤ◌, ◌+◌, ◌==◌, ◌>>=◌, ◌∙◌, ◌∷◌, ◌≡◌, ◌≤◌}
use Rattle.std.proofs.lemmas.List.Folds.{list_all-append}
use Rattle.std.proofs.Math.Bool.{and-true}
use Rattle.multistate_rle.proofs.Strips.{IsPlaced, lies_inside-alike, capped-in_range}

-- where the next run begins, behind these strips
pub record Front : Type 0 where
  pub row : ℕ
  pub column : ℕ
  pub strips : List Strip

-- a drawing stands for the strips, and has their cells, unless they were given up
pub record Follows (origin : Origin) (d : Drawn) (front : Front) : Type 0 where
  pub begun : d.origin ≡ origin
  pub row : d.row ≡ capped front.row
  pub column : d.column ≡ capped front.column
  pub live : d.live ≡ capped (live_count front.strips)
  pub inside : d.is_inside ≡ list_all (lies_inside origin) front.strips
  pub cells : d.is_whole ≡ true → live_count front.strips ≤ 16777216 → list_all (lies_inside origin) front.strips ≡ true → d.cells ≡ flat_map (cells_of_strip origin) front.strips

-- so many cells of a state, from there on
abbrev strip_from : Front → ℕ → ℕ → Strip
strip_from front n s = record { row = front.row; column = front.column; count = n; state = s }

-- where the run behind them begins; cells of state 0 make no strip
abbrev pub front_behind : Front → ℕ → ℕ → Front
front_behind front n s = record front { column = front.column + n; strips = cond (s == 0) front.strips (front.strips ++ strip_from front n s ∷ []) }

-- whether the strips lie in the plane, with one strip more
inside-push : (origin : Origin) (strips : List Strip) (strip : Strip)
    → list_all (lies_inside origin) (strips ++ strip ∷ []) ≡ (list_all (lies_inside origin) strips && lies_inside origin strip)
inside-push origin strips strip = grind (arith, nat_tests, list_all-append, and-true)

-- one strip more, of which the drawing counts the cells as far as it can
follows-strip : {origin : Origin} {d : Drawn} {front : Front} (m n s : ℕ) → IsPlaced origin → n ≡ capped m → Follows origin d front
    → Follows origin (record (with_strip d (strip_at d n s)) { column = capped (d.column + n) })
    (record front { column = front.column + m; strips = front.strips ++ strip_from front m s ∷ [] })
follows-strip {origin} {d} {front} m n s placed some h =
    let strip : Strip = strip_from front m s in
    let strips : List Strip = front.strips in
    let at : d.column ≡ capped front.column = h.column in
    let down : d.row ≡ capped front.row = h.row in
    let many : d.live ≡ capped (live_count strips) = h.live in
    let count : live_count (strips ++ strip ∷ []) ≡ live_count strips + m = sum_by_push (λ (s : Strip). s.count) strips strip in
    let alike : lies_inside d.origin (strip_at d n s) ≡ lies_inside origin strip =
    ap (λ o. lies_inside o (strip_at d n s)) h.begun ∙ lies_inside-alike origin (strip_at d n s) strip placed (omega arith) (omega arith) (omega arith) in
    let inside : (d.is_inside && lies_inside d.origin (strip_at d n s)) ≡ list_all (lies_inside origin) (strips ++ strip ∷ []) =
    ap₂ (λ a b. a && b) h.inside alike ∙ sym (inside-push origin strips strip) in
    record {
      begun = h.begun;
      row = h.row;
      column = omega arith;
      live = omega arith;
      inside = inside;
      cells = λ whole few all.
          let parts = and_parts (list_all (lies_inside origin) strips) (lies_inside origin strip) (sym (inside-push origin strips strip) ∙ all) in
          let edges = and_parts _ _ parts.1 in
          let inner = and_parts _ (is_in_range (origin.y +ℤ pos front.row)) edges.1 in
          let c : d.column ≡ front.column = at ∙ capped-in_range origin.x front.column placed.x edges.0 in
          let r : d.row ≡ front.row = down ∙ capped-in_range origin.y front.row placed.y inner.1 in
          let k : n ≡ m = omega arith in
          let fits : nat_le (capped (d.live + n)) 16777216 ≡ true = grind (arith, tests) in
          cond-true _ _ _ (λ i. whole i && (fits i && (inside ∙ all) i))
          ∙ ap₂ (λ xs ys. xs ++ ys) (h.cells whole (omega arith) parts.0) (λ i. cells_of_strip (h.begun i) (record { row = r i; column = c i; count = k i; state = s }))
          ∙ flat_map_more (cells_of_strip origin) [] strips strip;
    }

-- one more run of cells
follows-cells : {origin : Origin} {d : Drawn} {front : Front} (m n s : ℕ) → IsPlaced origin → n ≡ capped m → Follows origin d front
    → Follows origin (after_cells d n s) (front_behind front m s)
follows-cells {origin} {d} {front} m n s placed some h =
    let at : d.column ≡ capped front.column = h.column in
    let strip = follows-strip {origin = origin} {d = d} {front = front} m n s placed some h in
    grind (arith, nat_tests, strip)

-- the same where a growth may have been refused
follows-like : {origin : Origin} {d e : Drawn} {front : Front} → IsLike d e → Follows origin d front → Follows origin e front
follows-like k h = grind (arith)

-- what the end of a drawing tells, where it may have been given up, against what it tells whole
pub record IsEnd (now all : Result World RleFault) : Type 0 where
  pub gives : (r : Result World RleFault) → Gives NoMemory r now → Gives NoMemory r all
  pub sound : WantsAlone now → IsOk all

wanted : (all r : Result World RleFault) → Gives NoMemory r (Err NoMemory) → Gives NoMemory r all
wanted all r h = grind (arith)

follows-end : {origin : Origin} {d : Drawn} {front : Front} → Follows origin d front → IsEnd (world_drawn d) (world_of origin front.strips)
follows-end h = grind (arith, nat_tests, tests, wanted)

-- what the symbols that are left draw from there on, where the digits before them write n
abbrev pub drawn_on : Origin → Front → ℕ → List Symbol → Result World RleFault
drawn_on origin front n left = runs_from n left >>= λ runs. world_of origin (front.strips ++ strips_from front.row front.column runs)

-- all symbols draw what those that are left draw behind the drawing so far
pub record IsBegun (origin : Origin) (all : List Symbol) (d : Drawn) (count : ℕ) (left : List Symbol) : Type 0 where
  pub digits : ℕ
  pub front : Front
  pub counted : count ≡ capped digits
  pub follows : Follows origin d front
  pub drawn : drawn_by origin all ≡ drawn_on origin front digits left

pub begun : (origin : Origin) (all : List Symbol) → IsBegun origin all (undrawn origin) 0 all
begun origin all = record {
  digits = 0;
  front = record { row = 0; column = 0; strips = [] };
  counted = refl;
  follows = record { begun = refl; row = refl; column = refl; live = refl; inside = refl; cells = λ whole few all. refl };
  drawn = refl;
}

-- one digit later
pub begun-digit : {origin : Origin} {all left : List Symbol} {d : Drawn} {count : ℕ} (next digit : ℕ) (rest : List Symbol)
    → next ≡ capped (count * 10 + digit) → left ≡ Digit digit ∷ rest → IsBegun origin all d count left → IsBegun origin all d next rest
begun-digit {origin} {all} {left} {d} {count} next digit rest step is h = grind (arith)

-- one more run that is read is one more run for what is made of the runs
first_run : (run : Run) (read : Result (List Run) RleFault) (made : List Run → Result World RleFault) → (onto run read >>= made) ≡ (read >>= λ runs. made (run ∷ runs))
first_run run read made = grind (arith)

-- one end of rows later
pub begun-rows : {origin : Origin} {all left : List Symbol} {d : Drawn} {count : ℕ} (e : Drawn) (m : ℕ) (rest : List Symbol)
    → m ≡ max count 1 → left ≡ RowEnd ∷ rest → e ≡ after_rows d m → IsBegun origin all d count left → IsBegun origin all e 0 rest
begun-rows {origin} {all} {left} {d} {count} e m rest some is ended h =
    let f = h.follows in
    let counted : count ≡ capped h.digits = h.counted in
    let down : d.row ≡ capped h.front.row = f.row in
    record {
      digits = 0;
      front = record h.front { row = h.front.row + max h.digits 1; column = 0 };
      counted = refl;
      follows = grind (arith, f, down, counted);
      drawn = h.drawn ∙ ap (drawn_on origin h.front h.digits) is ∙ first_run (RowEnds (max h.digits 1)) (runs_from 0 rest) _;
    }

-- the strips of a run of cells and those behind it
strips-behind : (front : Front) (n s : ℕ) (runs : List Run)
    → front.strips ++ strips_from front.row front.column (Cells n s ∷ runs) ≡ (front_behind front n s).strips ++ strips_from front.row (front.column + n) runs
strips-behind front n s runs = grind (arith, nat_tests, append_assoc)

-- one run of cells later
pub begun-cells : {origin : Origin} {all left : List Symbol} {d : Drawn} {count : ℕ} (e : Drawn) (m s : ℕ) (rest : List Symbol)
    → IsPlaced origin → m ≡ max count 1 → left ≡ Cell s ∷ rest → IsLike (after_cells d m s) e → IsBegun origin all d count left → IsBegun origin all e 0 rest
begun-cells {origin} {all} {left} {d} {count} e m s rest placed some is like h =
    let counted : count ≡ capped h.digits = h.counted in
    let n : ℕ = max h.digits 1 in
    record {
      digits = 0;
      front = front_behind h.front n s;
      counted = refl;
      follows = follows-like like (follows-cells n m s placed (omega arith) h.follows);
      drawn = h.drawn ∙ ap (drawn_on origin h.front h.digits) is ∙ first_run (Cells n s) (runs_from 0 rest) _
          ∙ (λ i. runs_from 0 rest >>= λ runs. world_of origin (strips-behind h.front n s runs i));
    }

-- where no runs are left, the drawing tells what the symbols draw
pub begun-end : {origin : Origin} {all left : List Symbol} {d : Drawn} {count : ℕ}
    → ((n : ℕ) → runs_from n left ≡ Ok []) → IsBegun origin all d count left → IsEnd (world_drawn d) (drawn_by origin all)
begun-end {origin} {all} {left} {d} {count} none h = grind (arith, append-nil, follows-end)
