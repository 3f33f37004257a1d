-- Numbers that stand for squares in a table that grows, and squares that are added to it.
use Rattle.hash_engine.proofs.Names.{Adds, Adds-joined, AddsJoined, AddsOf, All-cons, All-contains, All-nil, All-tail, AreBlocks, AreNumbers, AreNumbers-grows, AreNumbers-quadrants, Block, Contains, Contains-get_or, Grows, Grows-same}
use Rattle.hash_engine.proofs.Names.{Grows-then, GrowsBy, IsBlock, IsNumber-grows, IsNumber-joined, IsSquareOf, List, MakeFour, Square, StandForAll, StandsFor, Table, [], ap, arith, drop, drop-cons, drop_all, first_number, four, fours_of}
use Rattle.hash_engine.proofs.Names.{get_or, inl, kids_at, length, lit<, map, nine_of, no_block, one, refl, result_of, square_in, square_in-grows, square_in-joined, square_in-quadrants, square_of, square_of-grows, subst, suc, sym, zero, ℕ}
use Rattle.hash_engine.proofs.Names.{◌+◌, ◌<◌, ◌∙◌, ◌∷◌, ◌≡◌, ◌≤◌}
use Rattle.square_table.specs.Squares.{IsNumber}
use Rattle.hash_life_laws.specs.Puts.{IsBelow}

infixr 20 ◌⟫◌
pub ◌⟫◌ : {t u v : Table} → Grows t u → Grows u v → Grows t v
◌⟫◌ {t} {u} {v} first then = Grows-then t u v first then

-- a number above level 0 has a row
pub above : (rows : List (List ℕ)) (k n : ℕ) → IsNumber rows (suc k) n → first_number ≤ n
unfolding IsNumber
above rows k n is = is.0

pub within : (rows : List (List ℕ)) (k n : ℕ) → IsNumber rows (suc k) n → n < first_number + length rows
unfolding IsNumber
within rows k n is = is.1

pub StandsFor-itself : (rows : List (List ℕ)) (k n : ℕ) → IsNumber rows k n → StandsFor rows k n (square_in rows k n)
StandsFor-itself rows k n is = record { numbered = is; square = refl }

pub StandsFor-grows : (t u : Table) (k n : ℕ) (s : Square) → Grows t u → StandsFor t.rows k n s → StandsFor u.rows k n s
StandsFor-grows t u k n s grows is = grind (arith, IsNumber-grows t u k n grows, square_in-grows t u k n grows)

-- the square that four of an older table make, where the table has grown since
pub StandsFor-joined : {t u v : Table} {k : ℕ} {kids : List ℕ} {n : ℕ} → AreNumbers t.rows k kids → Grows t u → IsSquareOf u.rows kids n →
    Grows u v → StandsFor v.rows (suc k) n (square_of t.rows k kids)
StandsFor-joined {t} {u} {v} {k} {kids} {n} are grows is then =
    let now = AreNumbers-grows t u k kids grows are in
    let number = IsNumber-joined u.rows k kids n is now in
    grind (arith, number, square_of-grows t u k kids grows are, square_in-joined u.rows k kids n is, StandsFor-grows u v (suc k) n)

-- a square by the list of its quadrants
pub kids_of : (rows : List (List ℕ)) (k n : ℕ) (kids : List ℕ) → IsNumber rows (suc k) n → kids ≡ kids_at rows n →
    AreNumbers rows k kids × (square_in rows (suc k) n ≡ square_of rows k kids)
kids_of rows k n kids is listed = grind (arith, AreNumbers-quadrants rows k n is, square_in-quadrants rows k n)

-- a square by its quadrants and by theirs, and the five that lie between those
pub record Sixteen (rows : List (List ℕ)) (k : ℕ) (ks ws xs ys zs : List ℕ) (s : Square) : Type 0 where
  pub a : StandsFor rows (suc k) (get_or ks 0 0) (square_of rows k ws)
  pub b : StandsFor rows (suc k) (get_or ks 1 0) (square_of rows k xs)
  pub c : StandsFor rows (suc k) (get_or ks 2 0) (square_of rows k ys)
  pub d : StandsFor rows (suc k) (get_or ks 3 0) (square_of rows k zs)
  pub first : AreNumbers rows k ws
  pub second : AreNumbers rows k xs
  pub third : AreNumbers rows k ys
  pub fourth : AreNumbers rows k zs
  pub north : AreNumbers rows k (get_or ws 1 0 ∷ get_or xs 0 0 ∷ get_or ws 3 0 ∷ get_or xs 2 0 ∷ [])
  pub west : AreNumbers rows k (get_or ws 2 0 ∷ get_or ws 3 0 ∷ get_or ys 0 0 ∷ get_or ys 1 0 ∷ [])
  pub centre : AreNumbers rows k (get_or ws 3 0 ∷ get_or xs 2 0 ∷ get_or ys 1 0 ∷ get_or zs 0 0 ∷ [])
  pub east : AreNumbers rows k (get_or xs 2 0 ∷ get_or xs 3 0 ∷ get_or zs 0 0 ∷ get_or zs 1 0 ∷ [])
  pub south : AreNumbers rows k (get_or ys 1 0 ∷ get_or zs 0 0 ∷ get_or ys 3 0 ∷ get_or zs 2 0 ∷ [])
  pub is : s ≡ four (square_of rows k ws) (square_of rows k xs) (square_of rows k ys) (square_of rows k zs)

pub sixteen_of : {rows : List (List ℕ)} {k : ℕ} {ks ws xs ys zs : List ℕ} → AreNumbers rows (suc k) ks → ws ≡ kids_at rows (get_or ks 0 0) →
    xs ≡ kids_at rows (get_or ks 1 0) → ys ≡ kids_at rows (get_or ks 2 0) → zs ≡ kids_at rows (get_or ks 3 0) →
    Sixteen rows k ks ws xs ys zs (square_of rows (suc k) ks)
sixteen_of {rows} {k} {ks} {ws} {xs} {ys} {zs} are is_w is_x is_y is_z =
    let a = kids_of rows k _ ws are.nw is_w in
    let b = kids_of rows k _ xs are.ne is_x in
    let c = kids_of rows k _ ys are.sw is_y in
    let d = kids_of rows k _ zs are.se is_z in
    grind (arith, are, a, b, c, d)

pub sixteen : {rows : List (List ℕ)} {k n : ℕ} {ks ws xs ys zs : List ℕ} {s : Square} → StandsFor rows (suc (suc k)) n s →
    ks ≡ kids_at rows n → ws ≡ kids_at rows (get_or ks 0 0) → xs ≡ kids_at rows (get_or ks 1 0) →
    ys ≡ kids_at rows (get_or ks 2 0) → zs ≡ kids_at rows (get_or ks 3 0) → Sixteen rows k ks ws xs ys zs s
sixteen {rows} {k} {n} {ks} {ws} {xs} {ys} {zs} {s} is is_k is_w is_x is_y is_z =
    let all = kids_of rows (suc k) n ks is.numbered is_k in
    subst (Sixteen rows k ks ws xs ys zs) (sym all.1 ∙ is.square) (sixteen_of all.0 is_w is_x is_y is_z)

-- each of several
pub StandForAll-nil : {rows : List (List ℕ)} {k : ℕ} → StandForAll rows k [] []
StandForAll-nil = grind arith

cons_each : {A : Type 0} (P : A → Square → Type 0) (n : A) (s : Square) (ns : List A) (ss : List Square) → P n s →
    ((j : ℕ) (d : A) (e : Square) → j < length ns → P (get_or ns j d) (get_or ss j e)) →
    (j : ℕ) (d : A) (e : Square) → j < length (n ∷ ns) → P (get_or (n ∷ ns) j d) (get_or (s ∷ ss) j e)
cons_each P n s ns ss is are zero d e below = is
cons_each P n s ns ss is are (suc j) d e below = are j d e (omega (arith, below))

pub StandForAll-cons : {rows : List (List ℕ)} {k n : ℕ} {s : Square} {ns : List ℕ} {ss : List Square} → StandsFor rows k n s →
    StandForAll rows k ns ss → StandForAll rows k (n ∷ ns) (s ∷ ss)
StandForAll-cons {rows} {k} {n} {s} {ns} {ss} is are =
    record { count = ap suc are.count; each = cons_each (StandsFor rows k) n s ns ss is are.each }

-- a block by its quadrants, and each of several
pub IsBlock-of : {rows : List (List ℕ)} {quadrants : List ℕ} {b : Block} → b.quadrants ≡ quadrants → AreNumbers rows 1 quadrants →
    IsBlock rows (square_of rows 1 quadrants) b
IsBlock-of {rows} {quadrants} {b} is are = record { numbered = subst (AreNumbers rows 1) (sym is) are; cells = ap (square_of rows 1) is }

pub AreBlocks-nil : {rows : List (List ℕ)} → AreBlocks rows [] []
AreBlocks-nil = grind arith

pub AreBlocks-cons : {rows : List (List ℕ)} {b : Block} {s : Square} {bs : List Block} {ss : List Square} → IsBlock rows s b →
    AreBlocks rows bs ss → AreBlocks rows (b ∷ bs) (s ∷ ss)
AreBlocks-cons {rows} {b} {s} {bs} {ss} is are = record { count = ap suc are.count; each = cons_each (λ q r. IsBlock rows r q) b s bs ss is are.each }

-- four of nine, by their places
abbrev pub corner : List ℕ → ℕ → ℕ → ℕ → ℕ → List ℕ
corner ns p q r o = get_or ns p 0 ∷ get_or ns q 0 ∷ get_or ns r 0 ∷ get_or ns o 0 ∷ []

-- the results of four blocks, by their places
result_at : (blocks : List Block) (j : ℕ) → (get_or blocks j no_block).result ≡ get_or (map result_of blocks) j 0
result_at [] j = refl
result_at (b ∷ blocks) zero = refl
result_at (b ∷ blocks) (suc j) = result_at blocks j

pub corner_at : (blocks : List Block) (p q r o : ℕ) → (get_or blocks p no_block).result ∷ (get_or blocks q no_block).result
    ∷ (get_or blocks r no_block).result ∷ (get_or blocks o no_block).result ∷ [] ≡ corner (map result_of blocks) p q r o
corner_at blocks p q r o = cc (result_at blocks p, result_at blocks q, result_at blocks r, result_at blocks o)

-- a list of nine by its elements
pub nine_at : (ss : List Square) (e : Square) → length ss ≡ 9 →
    ss ≡ get_or ss 0 e ∷ get_or ss 1 e ∷ get_or ss 2 e ∷ get_or ss 3 e ∷ get_or ss 4 e ∷ get_or ss 5 e ∷ get_or ss 6 e ∷ get_or ss 7 e ∷ get_or ss 8 e ∷ []
nine_at ss e count =
    let at : (i : ℕ) → i < 9 → drop i ss ≡ get_or ss i e ∷ drop (suc i) ss = λ i low. drop-cons ss i e (omega (arith, low, count)) in
    let end = drop_all 9 ss (omega (arith, count)) in
    cc (end, at 0 (lit< tt), at 1 (lit< tt), at 2 (lit< tt), at 3 (lit< tt), at 4 (lit< tt), at 5 (lit< tt), at 6 (lit< tt), at 7 (lit< tt), at 8 (lit< tt))

-- four that overlap in what nine stand for
pub overlap : {rows : List (List ℕ)} {k : ℕ} {nine : List ℕ} {ss : List Square} → StandForAll rows k nine ss → length nine ≡ 9 →
    MakeFour rows k (corner nine 0 1 3 4 ∷ corner nine 1 2 4 5 ∷ corner nine 3 4 6 7 ∷ corner nine 4 5 7 8 ∷ []) (fours_of ss)
overlap {rows} {k} {nine} {ss} are count =
    let at : (j : ℕ) → j < 9 → StandsFor rows k (get_or nine j 0) (get_or ss j (one 0)) = λ j low. are.each j 0 (one 0) (omega (arith, low, count)) in
    grind (arith, nine_at ss (one 0), are.count, at 0, at 1, at 2, at 3, at 4, at 5, at 6, at 7, at 8)

-- a square with states has some
pub below_some : (c : ℕ) (s : Square) → IsBelow c s → 0 < c
unfolding IsBelow
below_some c (one s) is = grind arith
below_some c (four nw ne sw se) is = below_some c nw is.0

Adds-none : (all : List Square) (t : Table) → Adds all t t
Adds-none all t = record { grows = Grows-same t; notes = refl; among = λ those has are. are }

-- one square more of those that are listed, whose quadrants stand in a table on the way
pub more_of : {all : List Square} {t m u v : Table} {k : ℕ} {kids : List ℕ} → Adds all t u → Grows m u → AreNumbers m.rows k kids →
    Contains all (square_of m.rows k kids) → Grows u v → GrowsBy kids u v → Adds all t v
more_of {all} {t} {m} {u} {v} {k} {kids} before then are has grows step =
    let joined = Adds-joined u v kids k (square_of m.rows k kids) grows step
    (λ n is. let made = StandsFor-joined are (then ⟫ grows) is (Grows-same v) in record { numbered = made.numbered; square = made.square }) in
    record {
      grows = before.grows ⟫ grows;
      notes = joined.notes ∙ before.notes;
      among = λ those each rows.
          let one = All-cons (Contains those) _ [] (All-contains (Contains those) all _ each has) (All-nil (Contains those)) in
          joined.among those one (before.among those each rows);
    }

more : {all : List Square} {t u v : Table} {k : ℕ} {kids : List ℕ} → Adds all t u → AreNumbers t.rows k kids →
    Contains all (square_of t.rows k kids) → Grows u v → GrowsBy kids u v → Adds all t v
more before = more_of before before.grows

-- one square more is listed
pub first_listed : (s : Square) (all : List Square) → Contains (s ∷ all) s
first_listed s all = Contains-get_or (s ∷ all) 0 s (omega arith)

pub Adds-behind : {s : Square} {all : List Square} {t u : Table} → Adds all t u → Adds (s ∷ all) t u
Adds-behind {s} {all} adds = record { grows = adds.grows; notes = adds.notes; among = λ those each. adds.among those (All-tail (Contains those) s all each) }

-- the square that is joined, and no other
pub Adds-made : {t u : Table} {k : ℕ} {kids : List ℕ} → AreNumbers t.rows k kids → Grows t u → GrowsBy kids t u → Adds (square_of t.rows k kids ∷ []) t u
Adds-made {t} {u} {k} {kids} are grows step = more (Adds-none _ t) are (first_listed (square_of t.rows k kids) []) grows step

-- one of those that are listed
listed : {all made : List Square} → all ≡ made → (j : ℕ) → j < length made → Contains all (get_or made j (one 0))
listed {all} {made} is j low = subst (λ ss. Contains ss (get_or made j (one 0))) (sym is) (Contains-get_or made j (one 0) low)

-- where a join adds no row
pub unchanged : {t : Table} → Grows t t
unchanged {t} = Grows-same t

pub unchanged_by : {t : Table} (kids : List ℕ) → GrowsBy kids t t
unchanged_by kids = inl refl

-- the nine squares that overlap in one, of which five are joined of quadrants of its quadrants
pub adds_nine : {t u1 u2 u3 u4 u5 : Table} {n : ℕ} {ks ws xs ys zs : List ℕ} → ks ≡ kids_at t.rows n
    → ws ≡ kids_at t.rows (get_or ks 0 0) → xs ≡ kids_at t.rows (get_or ks 1 0) → ys ≡ kids_at t.rows (get_or ks 2 0) → zs ≡ kids_at t.rows (get_or ks 3 0)
    → Grows t u1 → GrowsBy (get_or ws 1 0 ∷ get_or xs 0 0 ∷ get_or ws 3 0 ∷ get_or xs 2 0 ∷ []) t u1
    → Grows u1 u2 → GrowsBy (get_or ws 2 0 ∷ get_or ws 3 0 ∷ get_or ys 0 0 ∷ get_or ys 1 0 ∷ []) u1 u2
    → Grows u2 u3 → GrowsBy (get_or ws 3 0 ∷ get_or xs 2 0 ∷ get_or ys 1 0 ∷ get_or zs 0 0 ∷ []) u2 u3
    → Grows u3 u4 → GrowsBy (get_or xs 2 0 ∷ get_or xs 3 0 ∷ get_or zs 0 0 ∷ get_or zs 1 0 ∷ []) u3 u4
    → Grows u4 u5 → GrowsBy (get_or ys 1 0 ∷ get_or zs 0 0 ∷ get_or ys 3 0 ∷ get_or zs 2 0 ∷ []) u4 u5 → AddsOf nine_of t n u5
adds_nine {t} is_k is_w is_x is_y is_z g1 s1 g2 s2 g3 s3 g4 s4 g5 s5 k s whole =
    let q = sixteen whole is_k is_w is_x is_y is_z in
    let has = listed (ap nine_of q.is) in
    more (more (more (more (more (Adds-none (nine_of s) t) q.north (has 1 (omega arith)) g1 s1) q.west (has 3 (omega arith)) g2 s2)
    q.centre (has 4 (omega arith)) g3 s3) q.east (has 5 (omega arith)) g4 s4) q.south (has 7 (omega arith)) g5 s5

-- four that are joined
pub adds_four : {t u1 u2 u3 u4 : Table} {all : List (List ℕ)} → Grows t u1 → GrowsBy (get_or all 0 []) t u1 → Grows u1 u2 → GrowsBy (get_or all 1 []) u1 u2
    → Grows u2 u3 → GrowsBy (get_or all 2 []) u2 u3 → Grows u3 u4 → GrowsBy (get_or all 3 []) u3 u4 → AddsJoined t all u4
adds_four {t} g1 s1 g2 s2 g3 s3 g4 s4 k ss q =
    let has = listed q.are in
    more (more (more (more (Adds-none ss t) q.nw (has 0 (omega arith)) g1 s1) q.ne (has 1 (omega arith)) g2 s2)
    q.sw (has 2 (omega arith)) g3 s3) q.se (has 3 (omega arith)) g4 s4

-- the square that four make
pub four_stand : {rows : List (List ℕ)} {k : ℕ} {ns : List ℕ} {a b c d : Square} → StandForAll rows k ns (a ∷ b ∷ c ∷ d ∷ []) →
    AreNumbers rows k ns × (square_of rows k ns ≡ four a b c d)
four_stand are = grind (arith, are.count, are.each 0 0 (one 0), are.each 1 0 (one 0), are.each 2 0 (one 0), are.each 3 0 (one 0))

-- one of several squares by its quadrants
pub kids_in : {rows : List (List ℕ)} {k : ℕ} {ns kids : List ℕ} {ss : List Square} → StandForAll rows (suc k) ns ss → (j : ℕ) → j < length ns →
    kids ≡ kids_at rows (get_or ns j 0) → AreNumbers rows k kids × (get_or ss j (one 0) ≡ square_of rows k kids)
kids_in {rows} {k} {ns} {kids} are j low listed =
    let at = are.each j 0 (one 0) low in
    let q = kids_of rows k (get_or ns j 0) kids at.numbered listed in
    (q.0, sym at.square ∙ q.1)
