-- The squares of a plane's rows, made in a table one by one.
use Rattle.square_table.proofs.Names.{AllStatesBelow, AreBlanks, AreLoaded, AreNumbers, AreRows, CellsBelow, Contains, Grows, GrowsBy, GrowsFrom, HasEmpty, HasRows, IsAmong, IsLoadedAt, IsNumber-level, IsSquareOf, LevelsUpTo, List, Square}
use Rattle.square_table.proofs.Names.{SquareRow, Table, [], ap, arith, cases_lt, cell_in, cell_in-one, first_number, four, get_or, get_or_append_left, get_or_push, inl, inr, kid, length, length_push, lit<, no_row, one, refl, square_in-none}
use Rattle.square_table.proofs.Names.{square_in-row, square_in-state, square_of, state-IsNumber, subst, suc, sym, zero, ℕ, ◌++◌, ◌+◌, ◌-◌, ◌<◌, ◌∙◌, ◌∷◌, ◌≡◌, ◌≤◌}
use Rattle.worlds.specs.Square.{empty_square}
use Rattle.plane_core.specs.Rows as listed
use Rattle.plane_core.proofs.Shared.Kids.{kid_is}
use Rattle.square_table.specs.Squares.{IsNumber, square_in}
use Rattle.square_table.specs.Loading.{number_in}
use Rattle.square_table.proofs.Shared.Tables.{kept_row, last_row}
use Rattle.square_table.proofs.Shared.Numbers.{IsNumber-state, square_in-cell}
use Rattle.square_table.proofs.Shared.Making.{notes_joined, AreAmong-joined, IsFor, IsAmong-for}
use Rattle.square_table.proofs.Shared.Growth.{Grows-same, Grows-then, IsNumber-grows, square_in-grows, AreNumbers-grows, square_of-grows, IsNumber-joined, square_in-joined}

pub empty_square-zero : empty_square 0 ≡ one 0
unfolding empty_square
empty_square-zero = refl

pub empty_square-suc : (k : ℕ) → empty_square (suc k) ≡ four (empty_square k) (empty_square k) (empty_square k) (empty_square k)
unfolding empty_square
empty_square-suc k = refl

-- a number above level 0 is no state
pub above_states : (rows : List (List ℕ)) (k n : ℕ) → IsNumber rows (suc k) n → first_number ≤ n
unfolding IsNumber
above_states rows k n h = h.0

-- growth
pub GrowsFrom-same : (level : ℕ) (squares : List SquareRow) (t : Table) → GrowsFrom level squares t t
GrowsFrom-same level squares t = record { grows = Grows-same t; notes = refl; states = λ c some below h. h; among = λ all empty listed h. h }

pub GrowsFrom-then : (level : ℕ) (squares : List SquareRow) (t u v : Table) → GrowsFrom level squares t u → GrowsFrom level squares u v → GrowsFrom level squares t v
GrowsFrom-then level squares t u v first second = grind (arith, Grows-then)

-- empty squares of more levels
pub GrowsFrom-higher : (low high : ℕ) (squares : List SquareRow) (t u : Table) → low ≤ high → GrowsFrom low squares t u → GrowsFrom high squares t u
GrowsFrom-higher low high squares t u le is = grind (arith)

-- squares of a plane, and before them empty ones alone
pub GrowsFrom-behind : (level : ℕ) (squares : List SquareRow) (t u v : Table) → GrowsFrom level [] t u → GrowsFrom level squares u v → GrowsFrom level squares t v
GrowsFrom-behind level squares t u v first second = grind (arith, Grows-then)

states-more : (c : ℕ) (rows : List (List ℕ)) (kids : List ℕ) → ((q : ℕ) → q < 4 → get_or kids q 0 < first_number → get_or kids q 0 < c) → AllStatesBelow c rows → AllStatesBelow c (rows ++ kids ∷ [])
states-more c rows kids new old = grind (arith, cases_lt, kept_row, last_row, length_push)

-- one row more, or none
pub GrowsFrom-joined : (level : ℕ) (squares : List SquareRow) (kids : List ℕ) (t u : Table) → Grows t u → GrowsBy kids t u
    → ((c q : ℕ) → 0 < c → CellsBelow c squares → q < 4 → get_or kids q 0 < first_number → get_or kids q 0 < c)
    → ((all : List Square) (n : ℕ) → HasEmpty all level → HasRows all squares → IsSquareOf u.rows kids n → IsAmong all u.rows n) → GrowsFrom level squares t u
GrowsFrom-joined level squares kids t u grows step new made = record {
  grows = grows;
  notes = notes_joined kids step;
  states = λ c some below h. elim step [
    | inl same ↦ subst (λ (v : Table). AllStatesBelow c v.rows) (sym same) h
    | inr more ↦ subst (λ (v : Table). AllStatesBelow c v.rows) (sym more) (states-more c t.rows kids (λ q hq. new c q some below hq) h)
  ];
  among = λ all empty listed are. AreAmong-joined all t u kids grows step (λ n is. made all n empty listed is) are;
}

-- blank squares
pub AreBlanks-grows : (t u : Table) (blanks : List ℕ) → Grows t u → AreBlanks t.rows blanks → AreBlanks u.rows blanks
AreBlanks-grows t u blanks grows are = record {
  numbers = λ k h. IsNumber-grows t u k _ grows (are.numbers k h);
  empty = λ k h. square_in-grows t u k _ grows (are.numbers k h) ∙ are.empty k h;
}

pub AreBlanks-first : (rows : List (List ℕ)) → AreBlanks rows (0 ∷ [])
AreBlanks-first rows = grind (arith, IsNumber-state, square_in-cell, empty_square-zero)

-- the quadrants of a blank square
abbrev pub four_of : ℕ → List ℕ
four_of n = n ∷ n ∷ n ∷ n ∷ []

four_of-each : (P : ℕ → Type 0) (n q : ℕ) → q < 4 → P n → P (get_or (four_of n) q 0)
four_of-each q0 q1 q2 q3 q4 = grind (arith)

blank_below : (rows : List (List ℕ)) (k n c : ℕ) → 0 < c → IsNumber rows k n → square_in rows k n ≡ empty_square k → n < first_number → n < c
blank_below rows zero n c some is same h =
    let e : n ≡ 0 = sym (cell_in-one 0 n 0 0) ∙ ap (λ (s : Square). cell_in 0 s 0 0) (sym (square_in-cell rows n) ∙ same ∙ empty_square-zero) ∙ cell_in-one 0 0 0 0 in
    omega (arith, e, some)
blank_below rows (suc k) n c some is same h = absurd (omega (arith, above_states rows k n is, h))

-- it is the empty square of one level more
pub blank_joined : (t u : Table) (k b n : ℕ) → IsNumber t.rows k b → square_in t.rows k b ≡ empty_square k → Grows t u → IsSquareOf u.rows (four_of b) n → IsFor u.rows k n (empty_square (suc k))
blank_joined t u k b n is same grows joined =
    let number = IsNumber-grows t u k b grows is in
    let empty : square_in u.rows k b ≡ empty_square k = square_in-grows t u k b grows is ∙ same in
    record {
      numbered = IsNumber-joined u.rows k (four_of b) n joined (record { nw = number; ne = number; sw = number; se = number });
      square = square_in-joined u.rows k (four_of b) n joined ∙ ap (λ (s : Square). four s s s s) empty ∙ sym (empty_square-suc k);
    }

pub blank_grows : (t u : Table) (k b : ℕ) → IsNumber t.rows k b → square_in t.rows k b ≡ empty_square k → Grows t u → GrowsBy (four_of b) t u → GrowsFrom (suc (suc k)) [] t u
blank_grows t u k b is same grows step =
    GrowsFrom-joined (suc (suc k)) [] (four_of b) t u grows step
    (λ c q live below hq. four_of-each (λ n. n < first_number → n < c) b q hq (blank_below t.rows k b c live is same))
    (λ all n empty listed joined. IsAmong-for all u.rows k n (empty_square (suc k)) (blank_joined t u k b n is same grows joined) (empty (suc k) (omega arith) (omega arith)))

-- the last of blank squares, and one more
pub blanks_grow : (t u : Table) (blanks : List ℕ) (b : ℕ) → b ≡ get_or blanks (length blanks - 1) 0 → 0 < length blanks → AreBlanks t.rows blanks → Grows t u → GrowsBy (four_of b) t u → GrowsFrom (length blanks + 1) [] t u
blanks_grow t u blanks b e some are grows step =
    let j = length blanks - 1 in
    let at : j < length blanks = omega (arith, some) in
    let level : suc (suc j) ≡ length blanks + 1 = omega (arith, some) in
    subst (λ k. GrowsFrom k [] t u) level (blank_grows t u j b (subst (IsNumber t.rows j) (sym e) (are.numbers j at)) (ap (square_in t.rows j) e ∙ are.empty j at) grows step)

pub AreBlanks-more : (t u : Table) (blanks : List ℕ) (b n : ℕ) → b ≡ get_or blanks (length blanks - 1) 0 → 0 < length blanks → AreBlanks t.rows blanks → Grows t u → IsSquareOf u.rows (four_of b) n → AreBlanks u.rows (blanks ++ n ∷ [])
AreBlanks-more t u blanks b n e some are grows is =
    let j = length blanks - 1 in
    let at : j < length blanks = omega (arith, some) in
    let next : suc j ≡ length blanks = omega (arith, some) in
    let all = AreBlanks-grows t u blanks grows are in
    let number : IsNumber t.rows j b = subst (IsNumber t.rows j) (sym e) (are.numbers j at) in
    let empty : square_in t.rows j b ≡ empty_square j = ap (square_in t.rows j) e ∙ are.empty j at in
    let joined = blank_joined t u j b n number empty grows is in
    let made : IsNumber u.rows (suc j) n = joined.numbered in
    let blank : square_in u.rows (suc j) n ≡ empty_square (suc j) = joined.square in
    record {
      numbers = λ k h. elim (cases_lt k (length blanks)) [
        | inl before ↦ subst (IsNumber u.rows k) (sym (get_or_append_left blanks (n ∷ []) 0 k before)) (all.numbers k before)
        | inr after ↦
            let last : length blanks ≡ k = omega (arith, after, h, length_push blanks n) in
            subst (IsNumber u.rows k) (sym (get_or_push blanks n 0 k last)) (subst (λ i. IsNumber u.rows i n) (next ∙ last) made)
      ];
      empty = λ k h. elim (cases_lt k (length blanks)) [
        | inl before ↦ ap (square_in u.rows k) (get_or_append_left blanks (n ∷ []) 0 k before) ∙ all.empty k before
        | inr after ↦
            let last : length blanks ≡ k = omega (arith, after, h, length_push blanks n) in
            ap (square_in u.rows k) (get_or_push blanks n 0 k last) ∙ subst (λ i. square_in u.rows i n ≡ empty_square i) (next ∙ last) blank
      ];
    }

IsLoadedAt-grows : (squares : List SquareRow) (t u : Table) (i n : ℕ) → Grows t u → IsLoadedAt squares t.rows i n → IsLoadedAt squares u.rows i n
IsLoadedAt-grows squares t u i n grows at = record {
  number = IsNumber-grows t u _ n grows at.number;
  square = square_in-grows t u _ n grows at.number ∙ at.square;
}

pub AreLoaded-more : (squares : List SquareRow) (t u : Table) (numbers : List ℕ) (n : ℕ) → Grows t u → length numbers < length squares
    → AreLoaded squares t.rows numbers → IsLoadedAt squares u.rows (length numbers) n → AreLoaded squares u.rows (numbers ++ n ∷ [])
AreLoaded-more squares t u numbers n grows more known at = record {
  few = omega (arith, more, length_push numbers n);
  each = λ i h. elim (cases_lt i (length numbers)) [
    | inl before ↦ subst (IsLoadedAt squares u.rows i) (sym (get_or_append_left numbers (n ∷ []) 0 i before)) (IsLoadedAt-grows squares t u i _ grows (known.each i before))
    | inr after ↦
        let last : length numbers ≡ i = omega (arith, after, h, length_push numbers n) in
        subst (IsLoadedAt squares u.rows i) (sym (get_or_push numbers n 0 i last)) (subst (λ j. IsLoadedAt squares u.rows j n) last at)
  ];
}

-- what the number of a kid of a plane's row stands for in the table
record IsSameSquare (squares : List SquareRow) (rows : List (List ℕ)) (k n m : ℕ) : Type 0 where
  number : IsNumber rows k m
  square : square_in rows k m ≡ listed.square_in squares k n

same_square : (squares : List SquareRow) (rows : List (List ℕ)) (blanks numbers : List ℕ) (k n : ℕ) → k < length blanks → AreBlanks rows blanks → AreLoaded squares rows numbers → listed.IsNumber squares k n → (1 ≤ k → n ≤ length numbers)
    → IsSameSquare squares rows k n (number_in blanks numbers k n)
unfolding number_in
same_square q0 q1 q2 q3 q4 q5 q6 q7 q8 q9 q10 = grind (arith, IsNumber-state, state-IsNumber, square_in-cell, square_in-state, square_in-none, IsNumber-level)

-- the next row, which is the i-th and has the level k + 1
pub record IsNext (squares : List SquareRow) (blanks numbers : List ℕ) (rows : List (List ℕ)) (i k : ℕ) : Type 0 where
  pub at : i ≡ length numbers
  pub valid : AreRows squares
  pub levels : LevelsUpTo (length blanks) squares
  pub more : i < length squares
  pub blank : AreBlanks rows blanks
  pub known : AreLoaded squares rows numbers
  pub level : k ≡ (get_or squares i no_row).level - 1

-- its q-th kid
abbrev pub next_kid : List SquareRow → ℕ → ℕ → ℕ
next_kid squares i q = kid (get_or squares i no_row) q

-- a kid may be looked up
pub record CanBeFound (blanks numbers : List ℕ) (k n : ℕ) : Type 0 where
  pub level : k < length blanks
  pub listed : 1 ≤ k → n ≤ length numbers

pub next_found : (squares : List SquareRow) (blanks numbers : List ℕ) (rows : List (List ℕ)) (i k q : ℕ) → IsNext squares blanks numbers rows i k → q < 4 → CanBeFound blanks numbers k (next_kid squares i q)
next_found squares blanks numbers rows i k q next hq =
    let is = kid_is squares i k q next.valid next.more next.level hq in
    record { level = omega (arith, is.level, next.levels i next.more); listed = λ h. omega (arith, next.at, is.listed h) }

next_same : (squares : List SquareRow) (blanks numbers : List ℕ) (rows : List (List ℕ)) (i k q : ℕ) → IsNext squares blanks numbers rows i k → q < 4
    → IsSameSquare squares rows k (next_kid squares i q) (number_in blanks numbers k (next_kid squares i q))
next_same squares blanks numbers rows i k q next hq =
    let found = next_found squares blanks numbers rows i k q next hq in
    same_square squares rows blanks numbers k _ found.level next.blank next.known (kid_is squares i k q next.valid next.more next.level hq).number found.listed

state_below : (squares : List SquareRow) (blanks numbers : List ℕ) (rows : List (List ℕ)) (i k q c : ℕ) → IsNext squares blanks numbers rows i k → q < 4 → CellsBelow c squares
    → number_in blanks numbers k (next_kid squares i q) < first_number → number_in blanks numbers k (next_kid squares i q) < c
unfolding number_in
state_below squares blanks numbers rows i zero q c next hq below h =
    let is = kid_is squares i zero q next.valid next.more next.level hq in
    below i q next.more hq (sym is.level)
state_below squares blanks numbers rows i (suc k) q c next hq below h = absurd (omega (arith, h, above_states rows k _ (next_same squares blanks numbers rows i (suc k) q next hq).number))

-- the numbers of its quadrants in the table
unfoldable pub next_kids : List SquareRow → List ℕ → List ℕ → ℕ → ℕ → List ℕ
next_kids squares blanks numbers i k =
    let n = λ (q : ℕ). number_in blanks numbers k (next_kid squares i q) in
    n 0 ∷ n 1 ∷ n 2 ∷ n 3 ∷ []

kids-each : (squares : List SquareRow) (blanks numbers : List ℕ) (i k c q : ℕ) → ((p : ℕ) → p < 4 → number_in blanks numbers k (next_kid squares i p) < first_number → number_in blanks numbers k (next_kid squares i p) < c) → q < 4
    → get_or (next_kids squares blanks numbers i k) q 0 < first_number → get_or (next_kids squares blanks numbers i k) q 0 < c
unfolding next_kids
kids-each q0 q1 q2 q3 q4 q5 q6 q7 q8 = grind (arith)

-- the square that they make is that of the row
next_joined : (squares : List SquareRow) (blanks numbers kids : List ℕ) (t u : Table) (i k n : ℕ) → IsNext squares blanks numbers t.rows i k → kids ≡ next_kids squares blanks numbers i k → Grows t u → IsSquareOf u.rows kids n
    → IsFor u.rows k n (listed.square_in squares (suc k) (suc i))
unfolding next_kids
next_joined squares blanks numbers kids t u i k n next e grows is =
    let kid_at = λ (q : ℕ) (hq : q < 4). next_same squares blanks numbers t.rows i k q next hq in
    let nw = kid_at 0 (lit< tt) in let ne = kid_at 1 (lit< tt) in let sw = kid_at 2 (lit< tt) in let se = kid_at 3 (lit< tt) in
    let all = next_kids squares blanks numbers i k in
    let are : AreNumbers t.rows k all = record { nw = nw.number; ne = ne.number; sw = sw.number; se = se.number } in
    let made : IsSquareOf u.rows all n = subst (λ (ks : List ℕ). IsSquareOf u.rows ks n) e is in
    let quadrants : square_of t.rows k all ≡ listed.square_in squares (suc k) (suc i) =
    (let a = nw.square in let b = ne.square in let c = sw.square in let d = se.square in λ j. four (a j) (b j) (c j) (d j)) ∙ sym (square_in-row squares k i) in
    record {
      numbered = IsNumber-joined u.rows k all n made (AreNumbers-grows t u k all grows are);
      square = square_in-joined u.rows k all n made ∙ square_of-grows t u k all grows are ∙ quadrants;
    }

next_level : (squares : List SquareRow) (blanks numbers : List ℕ) (rows : List (List ℕ)) (i k : ℕ) → IsNext squares blanks numbers rows i k → suc k ≡ (get_or squares i no_row).level
next_level squares blanks numbers rows i k next = (kid_is squares i k 0 next.valid next.more next.level (lit< tt)).level

pub next_grows : (squares : List SquareRow) (blanks numbers kids : List ℕ) (t u : Table) (i k : ℕ) → IsNext squares blanks numbers t.rows i k
    → kids ≡ next_kids squares blanks numbers i k → Grows t u → GrowsBy kids t u → GrowsFrom 0 squares t u
next_grows squares blanks numbers kids t u i k next e grows step =
    GrowsFrom-joined 0 squares kids t u grows step
    (λ c q some below hq.
    subst (λ (ks : List ℕ). get_or ks q 0 < first_number → get_or ks q 0 < c) (sym e)
    (kids-each squares blanks numbers i k c q (λ p hp. state_below squares blanks numbers t.rows i k p c next hp below) hq))
    (λ all n empty rows is. IsAmong-for all u.rows k n _ (next_joined squares blanks numbers kids t u i k n next e grows is)
    (subst (λ l. Contains all (listed.square_in squares l (suc i))) (sym (next_level squares blanks numbers t.rows i k next)) (rows i next.more)))

pub next_loaded : (squares : List SquareRow) (blanks numbers kids : List ℕ) (t u : Table) (i k n : ℕ) → IsNext squares blanks numbers t.rows i k
    → kids ≡ next_kids squares blanks numbers i k → Grows t u → IsSquareOf u.rows kids n → AreLoaded squares u.rows (numbers ++ n ∷ [])
next_loaded squares blanks numbers kids t u i k n next e grows is =
    let joined = next_joined squares blanks numbers kids t u i k n next e grows is in
    let level = next_level squares blanks numbers t.rows i k next in
    let more : length numbers < length squares = omega (arith, next.at, next.more) in
    AreLoaded-more squares t u numbers n grows more next.known (subst (λ j. IsLoadedAt squares u.rows j n) next.at (record {
      number = subst (λ j. IsNumber u.rows j n) level joined.numbered;
      square = subst (λ j. square_in u.rows j n ≡ listed.square_in squares j (suc i)) level joined.square;
    }))
