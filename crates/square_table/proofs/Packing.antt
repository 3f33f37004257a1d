-- The squares of a table that are packed as the rows of a plane.
use Rattle.square_table.proofs.Names.{AreDistinct, AreNumbers, AreRows-none, Bool, EachHas-none, Grows-then, Has-again, Has-grown, IfSome, IsListed, IsNumber, IsPacking, IsPadded, IsSeen, IsSound, IsSquare, IsSquare-parts, List, None}
use Rattle.square_table.proofs.Names.{Numbered, Option, Packs, Quarters, Some, Square, SquareRow, Stamps, WalksFour, [], ap, arith, cases_eq, cases_lt, centred, completed, empty_square, false, first_number, found_at, found_within, four}
use Rattle.square_table.proofs.Names.{get_or, get_or_push, inl, inr, kid, kids_at, known_of, known_range, length, length-set, length_push, list_any, no_row, not_found, number_row, number_row-grows, number_row-is, number_square-grows}
use Rattle.square_table.proofs.Names.{number_square-levels, number_square-sound, numbered, one, position_or_len, refl, row_kept, same_kids, same_row, square_in, square_of, subst, suc, sym, true, walks-quadrants, with_known, zero, ℕ, ◌++◌}
use Rattle.square_table.proofs.Names.{◌+◌, ◌-◌, ◌<◌, ◌∙◌, ◌∷◌, ◌≡◌, ◌≤◌, ◌⊎◌}
use Rattle.plane_core.specs.Rows as listed
use Rattle.plane_core.specs.Rows.{number_square}
use Rattle.plane_core.specs.Walks.{Has, Walks}
use Rattle.plane_core.proofs.Shared.Numbering.{Grows}
use Rattle.plane_core.proofs.Shared.Sound as sound
use Rattle.plane_core.proofs.Shared.Tidy as tidy
use Rattle.plane_core.proofs.Shared.Tidy.{LevelsUpTo}
use Rattle.square_table.specs.Packing.{IsPackStep}
use Rattle.square_table.specs.declared.pack.PackStep.{PackStep}
use Rattle.square_table.specs.declared.pack.PackStep.TheVariants as found
use Rattle.square_table.specs.declared.pack.Packed.{Packed}
use Rattle.square_table.proofs.Shared.Numbers.{one_level, one_number, square_in-IsSquare, square_in-cell}
use Rattle.square_table.proofs.Shared.Tables.{above_zero}
use Rattle.square_table.proofs.Shared.Growth.{AreNumbers-quadrants, square_in-quadrants}
use Rattle.square_table.proofs.Listing.{row_square-kept}
use Rattle.square_table.proofs.Renumbered.{known_same, known_other}
use Rattle.square_table.proofs.Loading.{empty_square-zero, empty_square-suc}

-- the numbers of the quadrants of a square
pub quadrant_numbers : (rows : List (List ℕ)) (k n : ℕ) (kids : List ℕ) → 0 < k → IsNumber rows k n → kids ≡ kids_at rows n → AreNumbers rows (k - 1) kids
quadrant_numbers rows k n kids low is read = rw read (AreNumbers-quadrants rows (k - 1) n (subst (λ j. IsNumber rows j n) (omega (arith, low)) is))

pub level_suc : (k : ℕ) → 0 < k → k ≡ suc (k - 1)
level_suc k h = omega (arith, h)

state-walk : (rows : List SquareRow) (s : ℕ) → Walks 0 (one s) rows rows s
unfolding number_square
state-walk rows s = refl

-- a cell is packed as its state
packed_state : (rows : List (List ℕ)) (done : List SquareRow) (k n : ℕ) → k ≡ 0 → Walks k (square_in rows k n) done done n
packed_state q0 q1 q2 q3 q4 = grind (arith, square_in-cell, state-walk)

pub packed_states : (rows : List (List ℕ)) (done : List SquareRow) (k : ℕ) (kids : List ℕ) → k ≡ 0 → length kids ≡ 4 → WalksFour rows k kids done done kids
packed_states rows done k kids is count =
    let walk = λ (n : ℕ). packed_state rows done k n is in
    record { count = count; first = done; second = done; third = done; nw = walk _; ne = walk _; sw = walk _; se = walk _ }

-- a square that is remembered adds nothing
pub recalled : (rows : List (List ℕ)) (packed : Packed) (k n m : ℕ) → 0 < k → IsPacking rows packed → IsNumber rows k n → known_of packed.numbers n ≡ Some m → Walks k (square_in rows k n) packed.squares.items packed.squares.items m
recalled rows packed k n m low packing is e = subst (λ (o : Option ℕ). IfSome o (Has k (square_in rows k n) packed.squares.items)) e (packing.known k n low is)

-- its stamp has a place
pub packed_there : (rows : List (List ℕ)) (packed : Packed) (k n : ℕ) → 1 ≤ k → IsPacking rows packed → IsNumber rows k n → n < length packed.numbers.stamps
packed_there q0 q1 q2 q3 q4 q5 q6 = grind (arith, above_zero)

pub packs_none : (rows : List (List ℕ)) (k : ℕ) (packed : Packed) → IsPacking rows packed → Packs rows k packed packed
packs_none rows k packed packing = record { packing = packing; above = λ j n h is. refl }

pub packs_then : (rows : List (List ℕ)) (k : ℕ) (a b c : Packed) → Packs rows k a b → Packs rows k b c → Packs rows k a c
packs_then rows k a b c f g = record { packing = g.packing; above = λ j n h is. g.above j n h is ∙ f.above j n h is }

-- what was walked has its number
walked_has : (k : ℕ) (t : Square) (old new : List SquareRow) (m : ℕ) → Walks k t old new m → Has k t new m
walked_has k t old new m walk = subst (λ (z : Numbered). Has k t z.rows z.number) walk (Has-again k t old)

walked_grows : (k : ℕ) (t : Square) (old new : List SquareRow) (m : ℕ) → Walks k t old new m → Grows old new
walked_grows k t old new m walk = subst (λ (z : Numbered). Grows old z.rows) walk (number_square-grows k t old)

-- a square that has a number is the one that the number names
has_sound : (rows : List (List ℕ)) (packed : Packed) (k n m : ℕ) → IsPacking rows packed → k ≤ 62 → IsNumber rows k n → Has k (square_in rows k n) packed.squares.items m
    → listed.square_in packed.squares.items k m ≡ square_in rows k n
has_sound rows packed k n m packing high is has =
    let sounds : IsSound k (square_in rows k n) (record { rows = packed.squares.items; number = m }) =
    subst (IsSound k (square_in rows k n)) has (number_square-sound k (square_in rows k n) packed.squares.items packing.valid (record { has = packing.each }) (square_in-IsSquare rows k n is) high) in
    sounds.square

-- four squares that are walked are those that their numbers name
four_named : (rows : List (List ℕ)) (packed : Packed) (old : List SquareRow) (k : ℕ) (kids all : List ℕ) → IsPacking rows packed → k ≤ 62 → AreNumbers rows k kids → WalksFour rows k kids old packed.squares.items all
    → four (listed.square_in packed.squares.items k (get_or all 0 0)) (listed.square_in packed.squares.items k (get_or all 1 0))
    (listed.square_in packed.squares.items k (get_or all 2 0)) (listed.square_in packed.squares.items k (get_or all 3 0)) ≡ square_of rows k kids
four_named rows packed old k kids all packing high are w =
    let new = packed.squares.items in
    let g3 : Grows w.third new = walked_grows k _ w.third new _ w.se in
    let g2 : Grows w.second new = Grows-then w.second w.third new (walked_grows k _ w.second w.third _ w.sw) g3 in
    let g1 : Grows w.first new = Grows-then w.first w.second new (walked_grows k _ w.first w.second _ w.ne) g2 in
    let nw = has_sound rows packed k _ _ packing high are.nw (Has-grown k _ w.first new _ g1 (walked_has k _ old w.first _ w.nw)) in
    let ne = has_sound rows packed k _ _ packing high are.ne (Has-grown k _ w.second new _ g2 (walked_has k _ w.first w.second _ w.ne)) in
    let sw = has_sound rows packed k _ _ packing high are.sw (Has-grown k _ w.third new _ g3 (walked_has k _ w.second w.third _ w.sw)) in
    let se = has_sound rows packed k _ _ packing high are.se (walked_has k _ w.third new _ w.se) in
    λ i. four (nw i) (ne i) (sw i) (se i)

-- the row of four numbers
abbrev pub row_by : ℕ → List ℕ → SquareRow
row_by k all = record { level = k; kids = all }

none_some : (m : ℕ) (o : Option ℕ) → o ≡ None → o ≡ Some m → ⊥
none_some q0 q1 q2 q3 = grind (arith)

-- a square that isn't remembered has no row yet
unknown_suc : (rows : List (List ℕ)) (packed : Packed) (old : List SquareRow) (k n : ℕ) (kids all : List ℕ) (there : Bool) → IsPacking rows packed → k ≤ 62 → IsNumber rows (suc k) n → kids ≡ kids_at rows n
    → WalksFour rows k kids old packed.squares.items all → known_of packed.numbers n ≡ None → list_any (same_row (row_by (suc k) all)) packed.squares.items ≡ there → there ≡ false
unknown_suc rows packed old k n kids all false packing high is read w unknown e = refl
unknown_suc rows packed old k n kids all true packing high is read w unknown e =
    let done = packed.squares.items in
    let row = row_by (suc k) all in
    let i = position_or_len (same_row row) done in
    let at : get_or done i no_row ≡ row = found_at row done e in
    let seen = packing.seen i (found_within (same_row row) done e) in
    let level : (get_or done i no_row).level ≡ suc k = ap (λ (r : SquareRow). r.level) at in
    let numbered_is : IsNumber rows (suc k) seen.number = subst (λ j. IsNumber rows j seen.number) level seen.numbered in
    let named : listed.square_in done (suc k) (suc i) ≡ square_in rows (suc k) seen.number = subst (λ j. listed.square_in done j (suc i) ≡ square_in rows j seen.number) level seen.square in
    let are : AreNumbers rows k kids = subst (AreNumbers rows k) (sym read) (AreNumbers-quadrants rows k n is) in
    let here : listed.square_in done (suc k) (suc i) ≡ square_in rows (suc k) n =
    sound.square_in-row done k i
    ∙ ap (λ (r : SquareRow). four (listed.square_in done k (kid r 0)) (listed.square_in done k (kid r 1)) (listed.square_in done k (kid r 2)) (listed.square_in done k (kid r 3))) at
    ∙ four_named rows packed old k kids all packing high are w ∙ ap (square_of rows k) read ∙ sym (square_in-quadrants rows k n) in
    let same : seen.number ≡ n = one_number rows packing.distinct (suc k) seen.number n numbered_is is (sym named ∙ here) in
    absurd (none_some (suc i) (known_of packed.numbers n) unknown (ap (known_of packed.numbers) (sym same) ∙ seen.known))

pub unknown_new : (rows : List (List ℕ)) (packed : Packed) (old : List SquareRow) (level k n : ℕ) (kids all : List ℕ) → level ≡ suc k → IsPacking rows packed → level ≤ 62 → IsNumber rows level n → kids ≡ kids_at rows n
    → WalksFour rows k kids old packed.squares.items all → known_of packed.numbers n ≡ None → list_any (same_row (row_by level all)) packed.squares.items ≡ false
unknown_new rows packed old level k n kids all e packing high is read w unknown =
    rw e (unknown_suc rows packed old k n kids all _ packing (omega (arith, e, high)) (subst (λ j. IsNumber rows j n) e is) read w unknown refl)

four_of : (xs : List ℕ) → length xs ≡ 4 → xs ≡ get_or xs 0 0 ∷ get_or xs 1 0 ∷ get_or xs 2 0 ∷ get_or xs 3 0 ∷ []
four_of (a ∷ b ∷ c ∷ d ∷ []) e = refl
four_of [] e = absurd (omega (arith, e))
four_of (a ∷ []) e = absurd (omega (arith, e))
four_of (a ∷ b ∷ []) e = absurd (omega (arith, e))
four_of (a ∷ b ∷ c ∷ []) e = absurd (omega (arith, e))
four_of (a ∷ b ∷ c ∷ d ∷ x ∷ xs) e = absurd (omega (arith, e))

-- the walk of a square, by that of its quadrants
walk_of : (rows : List (List ℕ)) (k : ℕ) (kids all : List ℕ) (old mid new : List SquareRow) (m : ℕ) → WalksFour rows k kids old mid all → (number_row (row_by (suc k) all) mid).rows ≡ new → (number_row (row_by (suc k) all) mid).number ≡ m
    → Walks (suc k) (square_of rows k kids) old new m
walk_of rows k kids all old mid new m w er en =
    let is = four_of all w.count in
    walks-quadrants k _ _ _ _ old w.first w.second w.third mid new (get_or all 0 0) (get_or all 1 0) (get_or all 2 0) (get_or all 3 0) m w.nw w.ne w.sw w.se
    (ap (λ (xs : List ℕ). (number_row (row_by (suc k) xs) mid).rows) (sym is) ∙ er)
    (ap (λ (xs : List ℕ). (number_row (row_by (suc k) xs) mid).number) (sym is) ∙ en)

pub walk_whole : (rows : List (List ℕ)) (level k n : ℕ) (kids all : List ℕ) (old mid new : List SquareRow) (m : ℕ) → level ≡ suc k → kids ≡ kids_at rows n → WalksFour rows k kids old mid all
    → (number_row (row_by level all) mid).rows ≡ new → (number_row (row_by level all) mid).number ≡ m → Walks level (square_in rows level n) old new m
walk_whole rows level k n kids all old mid new m e read w er en = rw (e, square_in-quadrants rows k n, ← read) (walk_of rows k kids all old mid new m w (rw e at er) (rw e at en))

-- a row that isn't there is the last, or empty
row_by_tests : (b there : Bool) (row : SquareRow) (rows : List SquareRow) (n : ℕ) → there ≡ false → n ≡ length rows + 1
    → ((numbered b there row rows n).rows ≡ rows) ⊎ (((numbered b there row rows n).rows ≡ rows ++ row ∷ []) × ((numbered b there row rows n).number ≡ length rows + 1))
row_by_tests q0 q1 q2 q3 q4 q5 q6 = grind (arith)

row_more : (row : SquareRow) (rows : List SquareRow) → list_any (same_row row) rows ≡ false → ((number_row row rows).rows ≡ rows) ⊎ (((number_row row rows).rows ≡ rows ++ row ∷ []) × ((number_row row rows).number ≡ length rows + 1))
row_more row rows none = grind (arith, number_row-is, row_by_tests, not_found)

-- a new row that isn't empty
pub number_row-new : (row : SquareRow) (rows : List SquareRow) → list_any (same_row row) rows ≡ false → same_kids row.kids (0 ∷ 0 ∷ 0 ∷ 0 ∷ []) ≡ false
    → number_row row rows ≡ record { rows = rows ++ row ∷ []; number = length rows + 1 }
number_row-new row rows none some = grind (arith, number_row-is, not_found)

known_kept : (rows : List (List ℕ)) (old new : List SquareRow) (k n : ℕ) (o : Option ℕ) → Grows old new → IfSome o (Has k (square_in rows k n) old) → IfSome o (Has k (square_in rows k n) new)
known_kept rows old new k n None grows h = tt
known_kept rows old new k n (Some m) grows h = Has-grown k (square_in rows k n) old new m grows h

-- what is found of a square stays so while another is packed
pub found_still : (rows : List (List ℕ)) (k n j : ℕ) (t : Square) (old new : List SquareRow) (m : ℕ) (f : PackStep) → Walks j t old new m → IsPackStep rows k n old f → IsPackStep rows k n new f
found_still rows k n j t old new m (found.Number p) walk h = Has-grown k (square_in rows k n) old new p (walked_grows j t old new m walk) h
found_still rows k n j t old new m (found.Quadrants kids) walk h = h

-- one more square of the table is packed, after its quadrants
module _ (rows : List (List ℕ)) (mid new : Packed) (level n m : ℕ) (all : List ℕ)
    (packing : IsPacking rows mid) (is : IsNumber rows level n) (unknown : known_of mid.numbers n ≡ None)
    (er : (number_row (row_by level all) mid.squares.items).rows ≡ new.squares.items) (en : (number_row (row_by level all) mid.squares.items).number ≡ m)
    (there : n < length mid.numbers.stamps) (more : new.numbers ≡ with_known mid.numbers n m) where
  known_here : known_of new.numbers n ≡ Some m
  known_here = ap (λ (r : Stamps). known_of r n) more ∙ known_same mid.numbers n m there

  known_there : (q : ℕ) → (n ≡ q → ⊥) → known_of new.numbers q ≡ known_of mid.numbers q
  known_there q other = ap (λ (r : Stamps). known_of r q) more ∙ known_other mid.numbers n m q other

  grown : Grows mid.squares.items new.squares.items
  grown = subst (Grows mid.squares.items) er (number_row-grows (row_by level all) mid.squares.items)

  known_more : Has level (square_in rows level n) new.squares.items m → (j q : ℕ) → 0 < j → IsNumber rows j q → IfSome (known_of new.numbers q) (Has j (square_in rows j q) new.squares.items)
  known_more has j q low is_q =
      elim (cases_eq n q) [
        | inl same ↦
            let alike : level ≡ j = one_level rows level j n is (subst (IsNumber rows j) (sym same) is_q) in
            subst (λ p. IfSome (known_of new.numbers p) (Has j (square_in rows j p) new.squares.items)) same
            (subst (λ (o : Option ℕ). IfSome o (Has j (square_in rows j n) new.squares.items)) (sym known_here) (subst (λ l. Has l (square_in rows l n) new.squares.items m) alike has))
        | inr other ↦
            subst (λ (o : Option ℕ). IfSome o (Has j (square_in rows j q) new.squares.items)) (sym (known_there q other)) (known_kept rows mid.squares.items new.squares.items j q _ grown (packing.known j q low is_q))
      ]

  seen_before : (i : ℕ) → i < length mid.squares.items → IsSeen rows new i
  seen_before i before =
      let old = mid.squares.items in
      let last = new.squares.items in
      let s = packing.seen i before in
      let kept : get_or last i no_row ≡ get_or old i no_row = row_kept old last i grown before in
      let other : n ≡ s.number → ⊥ = λ same. none_some (suc i) (known_of mid.numbers n) unknown (ap (known_of mid.numbers) same ∙ s.known) in
      record {
        number = s.number;
        numbered = subst (λ (r : SquareRow). IsNumber rows r.level s.number) (sym kept) s.numbered;
        square = row_square-kept old last i grown packing.valid before ∙ s.square ∙ ap (λ (r : SquareRow). square_in rows r.level s.number) (sym kept);
        known = known_there s.number other ∙ s.known;
      }

  seen_last : listed.square_in new.squares.items level m ≡ square_in rows level n → (i : ℕ) → i ≡ length mid.squares.items
      → new.squares.items ≡ mid.squares.items ++ row_by level all ∷ [] → m ≡ length mid.squares.items + 1 → IsSeen rows new i
  seen_last named i place last count =
      let row : get_or new.squares.items i no_row ≡ row_by level all = grind (arith, get_or_push) in
      record {
        number = n;
        numbered = subst (λ (r : SquareRow). IsNumber rows r.level n) (sym row) is;
        square = subst (λ (r : SquareRow). listed.square_in new.squares.items r.level (suc i) ≡ square_in rows r.level n) (sym row)
            (subst (λ j. listed.square_in new.squares.items level j ≡ square_in rows level n) (omega (arith, place, count)) named);
        known = known_here ∙ ap Some (omega (arith, place, count));
      }

  seen_more : list_any (same_row (row_by level all)) mid.squares.items ≡ false → listed.square_in new.squares.items level m ≡ square_in rows level n → (i : ℕ) → i < length new.squares.items → IsSeen rows new i
  seen_more none named i within = grind (arith, cases_lt, seen_before, row_more, seen_last, length_push)

pub packed_more : (rows : List (List ℕ)) (old mid new : Packed) (level k n m : ℕ) (kids all : List ℕ) → level ≡ suc k → level ≤ 62 → IsPacking rows old → Packs rows k old mid → IsNumber rows level n → kids ≡ kids_at rows n
    → known_of old.numbers n ≡ None → WalksFour rows k kids old.squares.items mid.squares.items all
    → (number_row (row_by level all) mid.squares.items).rows ≡ new.squares.items → (number_row (row_by level all) mid.squares.items).number ≡ m → length new.squares.items < known_range
    → new.numbers ≡ with_known mid.numbers n m → Packs rows level old new
packed_more rows old mid new level k n m kids all e high packing packs is read none w er en few more =
    let last = new.squares.items in
    let unknown : known_of mid.numbers n ≡ None = packs.above level n (omega (arith, e)) is ∙ none in
    let there = packed_there rows mid level n (omega (arith, e)) packs.packing is in
    let walk = walk_whole rows level k n kids all old.squares.items mid.squares.items last m e read w er en in
    let sounds : IsSound level (square_in rows level n) (record { rows = last; number = m }) =
    subst (IsSound level (square_in rows level n)) walk (number_square-sound level (square_in rows level n) old.squares.items packing.valid (record { has = packing.each }) (square_in-IsSquare rows level n is) high) in
    let new_row = unknown_new rows mid old.squares.items level k n kids all e packs.packing high is read w unknown in
    record {
      packing = record {
        distinct = packing.distinct;
        valid = sounds.valid;
        each = sounds.each.has;
        few = few;
        room = rw (ap (λ (r : Stamps). r.stamps) more, length-set) packs.packing.room;
        known = known_more rows mid new level n m all packs.packing is unknown er en there more (walked_has level (square_in rows level n) old.squares.items last m walk);
        seen = seen_more rows mid new level n m all packs.packing is unknown er en there more new_row sounds.square;
      };
      above = λ j q h is_q.
          let other : n ≡ q → ⊥ = λ same. let alike : level ≡ j = one_level rows level j n is (subst (IsNumber rows j) (sym same) is_q) in absurd (omega (arith, h, alike)) in
          known_there rows mid new level n m all packs.packing is unknown er en there more q other ∙ packs.above j q (omega (arith, e, h)) is_q;
    }

-- with nothing packed
pub packing_none : (rows : List (List ℕ)) (packed : Packed) → AreDistinct rows → packed.squares.items ≡ [] → ((n : ℕ) → known_of packed.numbers n ≡ None) → first_number + length rows ≤ length packed.numbers.stamps → IsPacking rows packed
packing_none rows packed distinct none empty room = grind (arith, AreRows-none, EachHas-none)

-- the rows of quadrants are of lower levels
four_levels : (rows : List (List ℕ)) (k : ℕ) (kids all : List ℕ) (old new : List SquareRow) → old ≡ [] → WalksFour rows k kids old new all → LevelsUpTo k new
four_levels rows k kids all old new none w =
    let low : k ≤ k = omega arith in
    let up0 : LevelsUpTo k old = λ i h. let size = ap length none in absurd (omega (arith, h, size)) in
    let step : (t : Square) (a b : List SquareRow) (m : ℕ) → Walks k t a b m → LevelsUpTo k a → LevelsUpTo k b = λ t a b m walk up. subst (λ (z : Numbered). LevelsUpTo k z.rows) walk (number_square-levels k t a k low up) in
    let up1 = step _ old w.first _ w.nw up0 in
    let up2 = step _ w.first w.second _ w.ne up1 in
    let up3 = step _ w.second w.third _ w.sw up2 in
    step _ w.third new _ w.se up3

root_missing : (level k : ℕ) (all : List ℕ) (done : List SquareRow) (there : Bool) → level ≡ suc k → LevelsUpTo k done → list_any (same_row (row_by level all)) done ≡ there → there ≡ false
root_missing level k all done false e up is = refl
root_missing level k all done true e up is =
    let row = row_by level all in
    let i = position_or_len (same_row row) done in
    let low : (get_or done i no_row).level ≤ k = up i (found_within (same_row row) done is) in
    let at : (get_or done i no_row).level ≡ level = ap (λ (r : SquareRow). r.level) (found_at row done is) in
    absurd (omega (arith, e, low, at))

-- the row of the root is a new one
pub root_new : (rows : List (List ℕ)) (level k : ℕ) (kids all : List ℕ) (old done : List SquareRow) → level ≡ suc k → old ≡ [] → WalksFour rows k kids old done all → list_any (same_row (row_by level all)) done ≡ false
root_new rows level k kids all old done e none w = root_missing level k all done _ e (four_levels rows k kids all old done none w) refl

-- and the last of those that the walk completes
pub rows_packed : (rows : List (List ℕ)) (level k : ℕ) (kids all : List ℕ) (old mid new : List SquareRow) → level ≡ suc k → old ≡ []
    → WalksFour rows k kids old mid all → (number_row (row_by level all) mid).rows ≡ new → completed level (square_of rows k kids) ≡ new
rows_packed rows level k kids all old mid new e none w er =
    rw e (ap (λ (rs : List SquareRow). (number_square (suc k) (square_of rows k kids) rs).rows) (sym none) ∙ ap (λ (z : Numbered). z.rows) (walk_of rows k kids all old mid new _ w (rw e at er) refl))

four_IsSquare : (rows : List (List ℕ)) (k : ℕ) (kids : List ℕ) → AreNumbers rows k kids → IsSquare (suc k) (square_of rows k kids)
four_IsSquare rows k kids are = IsSquare-parts k _ _ _ _ (square_in-IsSquare rows k _ are.nw) (square_in-IsSquare rows k _ are.ne) (square_in-IsSquare rows k _ are.sw) (square_in-IsSquare rows k _ are.se)

pub root_IsSquare : (rows : List (List ℕ)) (level : ℕ) (kids : List ℕ) → 1 ≤ level → AreNumbers rows (level - 1) kids → IsSquare level (square_of rows (level - 1) kids)
root_IsSquare rows level kids low are = subst (λ j. IsSquare j (square_of rows (level - 1) kids)) (sym (level_suc level low)) (four_IsSquare rows (level - 1) kids are)

-- what a walk of the root completes
pub root_listed : (level : ℕ) (s : Square) (all : List SquareRow) → 1 ≤ level → level ≤ 62 → IsSquare level s → completed level s ≡ all → IsListed level s all
root_listed zero s all low high is e = absurd (omega (arith, low))
root_listed (suc k) s all low high is e = subst (IsListed (suc k) s) e (tidy.listed k s is high)

-- a square whose quadrants are one empty square
pub blank_state : (rows : List (List ℕ)) (level n : ℕ) → level ≡ 0 → n ≡ 0 → square_in rows level n ≡ empty_square level
blank_state q0 q1 q2 q3 q4 = grind (arith, square_in-cell, empty_square-zero)

pub blank_row : (rows : List (List ℕ)) (level n o : ℕ) (kids : List ℕ) → 0 < level → kids ≡ kids_at rows n → kids ≡ o ∷ o ∷ o ∷ o ∷ [] → square_in rows (level - 1) o ≡ empty_square (level - 1) → square_in rows level n ≡ empty_square level
blank_row rows level n o kids low read same is =
    rw (level_suc level low, square_in-quadrants, ← read, same, empty_square-suc) (λ i. four (is i) (is i) (is i) (is i))

-- a square round whose middle one empty square stands
padded_at : (rows : List (List ℕ)) (k : ℕ) (kids a b c d : List ℕ) → a ≡ kids_at rows (get_or kids 0 0) → b ≡ kids_at rows (get_or kids 1 0) → c ≡ kids_at rows (get_or kids 2 0) → d ≡ kids_at rows (get_or kids 3 0)
    → (o : ℕ) → o ≡ get_or a 0 0
    → get_or a 1 0 ∷ get_or a 2 0 ∷ get_or b 0 0 ∷ get_or b 1 0 ∷ get_or b 3 0 ∷ get_or c 0 0 ∷ get_or c 2 0 ∷ get_or c 3 0 ∷ get_or d 1 0 ∷ get_or d 2 0 ∷ get_or d 3 0 ∷ [] ≡ o ∷ o ∷ o ∷ o ∷ o ∷ o ∷ o ∷ o ∷ o ∷ o ∷ o ∷ []
    → square_in rows k o ≡ empty_square k
    → square_of rows (suc k) kids ≡ centred k (square_in rows k (get_or a 3 0)) (square_in rows k (get_or b 2 0)) (square_in rows k (get_or c 1 0)) (square_in rows k (get_or d 0 0))
padded_at rows k kids a b c d ea eb ec ed o first ring is =
    let at = λ (j : ℕ). ap (λ (xs : List ℕ). square_in rows k (get_or xs j 0)) ring in
    let quarter = λ (n : ℕ) (xs : List ℕ) (e : xs ≡ kids_at rows n). square_in-quadrants rows k n ∙ ap (square_of rows k) (sym e) in
    let a0 : square_in rows k (get_or a 0 0) ≡ empty_square k = ap (square_in rows k) (sym first) ∙ is in
    let a1 : square_in rows k (get_or a 1 0) ≡ empty_square k = at 0 ∙ is in
    let a2 : square_in rows k (get_or a 2 0) ≡ empty_square k = at 1 ∙ is in
    let b0 : square_in rows k (get_or b 0 0) ≡ empty_square k = at 2 ∙ is in
    let b1 : square_in rows k (get_or b 1 0) ≡ empty_square k = at 3 ∙ is in
    let b3 : square_in rows k (get_or b 3 0) ≡ empty_square k = at 4 ∙ is in
    let c0 : square_in rows k (get_or c 0 0) ≡ empty_square k = at 5 ∙ is in
    let c2 : square_in rows k (get_or c 2 0) ≡ empty_square k = at 6 ∙ is in
    let c3 : square_in rows k (get_or c 3 0) ≡ empty_square k = at 7 ∙ is in
    let d1 : square_in rows k (get_or d 1 0) ≡ empty_square k = at 8 ∙ is in
    let d2 : square_in rows k (get_or d 2 0) ≡ empty_square k = at 9 ∙ is in
    let d3 : square_in rows k (get_or d 3 0) ≡ empty_square k = at 10 ∙ is in
    let nw = quarter (get_or kids 0 0) a ea ∙ (λ i. four (a0 i) (a1 i) (a2 i) (square_in rows k (get_or a 3 0))) in
    let ne = quarter (get_or kids 1 0) b eb ∙ (λ i. four (b0 i) (b1 i) (square_in rows k (get_or b 2 0)) (b3 i)) in
    let sw = quarter (get_or kids 2 0) c ec ∙ (λ i. four (c0 i) (square_in rows k (get_or c 1 0)) (c2 i) (c3 i)) in
    let se = quarter (get_or kids 3 0) d ed ∙ (λ i. four (square_in rows k (get_or d 0 0)) (d1 i) (d2 i) (d3 i)) in
    λ i. four (nw i) (ne i) (sw i) (se i)

pub padded_by : (rows : List (List ℕ)) (whole : Quarters) (a b c d : List ℕ) → 2 ≤ whole.level
    → a ≡ kids_at rows (get_or whole.kids 0 0) → b ≡ kids_at rows (get_or whole.kids 1 0) → c ≡ kids_at rows (get_or whole.kids 2 0) → d ≡ kids_at rows (get_or whole.kids 3 0)
    → get_or a 1 0 ∷ get_or a 2 0 ∷ get_or b 0 0 ∷ get_or b 1 0 ∷ get_or b 3 0 ∷ get_or c 0 0 ∷ get_or c 2 0 ∷ get_or c 3 0 ∷ get_or d 1 0 ∷ get_or d 2 0 ∷ get_or d 3 0 ∷ []
    ≡ get_or a 0 0 ∷ get_or a 0 0 ∷ get_or a 0 0 ∷ get_or a 0 0 ∷ get_or a 0 0 ∷ get_or a 0 0 ∷ get_or a 0 0 ∷ get_or a 0 0 ∷ get_or a 0 0 ∷ get_or a 0 0 ∷ get_or a 0 0 ∷ []
    → square_in rows (whole.level - 2) (get_or a 0 0) ≡ empty_square (whole.level - 2) → IsPadded rows whole
padded_by rows whole a b c d low ea eb ec ed ring is =
    let k = whole.level - 2 in
    let one_less : suc k ≡ whole.level - 1 = omega (arith, low) in
    let two_less : k ≡ whole.level - 1 - 1 = omega (arith, low) in
    let kids = whole.kids in
    let nw = square_in rows k (get_or a 3 0) in
    let ne = square_in rows k (get_or b 2 0) in
    let sw = square_in rows k (get_or c 1 0) in
    let se = square_in rows k (get_or d 0 0) in
    record {
      nw = nw;
      ne = ne;
      sw = sw;
      se = se;
      is = subst (λ j. square_of rows j kids ≡ centred (whole.level - 1 - 1) nw ne sw se) one_less
          (subst (λ j. square_of rows (suc k) kids ≡ centred j nw ne sw se) two_less (padded_at rows k kids a b c d ea eb ec ed (get_or a 0 0) refl ring is));
    }
