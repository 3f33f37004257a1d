-- Which squares were put to the rule in a search by nothing that was remembered.
use Rattle.counted_engine.proofs.Names.{All, All-append, All-cons, All-contains, All-head, All-nil, All-tail, All-weaker, AreDistinct, Asks, AsksOnce, CanBeAsked, Contains, Contains-append_left, Contains-append_right, Contains-get_or}
use Rattle.counted_engine.proofs.Names.{HasNoFull, IsCounted, IsPut, IsRightMemo, List, Memo, Puts-weaker, PutsBlocks, Square, Stands, Table, [], ap, arith, first_number, fours_of, get_or, length, length-map, map, min, nine_of, one_number}
use Rattle.counted_engine.proofs.Names.{refl, result, sought, square_at, square_in, subst, suc, sym, without_notes, zero, ℕ, ℤ, ◌++◌, ◌+◌, ◌-◌, ◌^◌, ◌∙◌, ◌∷◌, ◌≡◌}
use Rattle.counted_engine.proofs.Names.{AreAmong, Makes, and_parts, is_four, is_four-more, level_of, lit<, ltb-true, number_of, true, ◌<◌}
use Rattle.worlds.specs.World.{World}
use Rattle.worlds.specs.Step.{nine_zeros}
use Rattle.square_table.specs.declared.square.Square as handles
use Rattle.hash_life_laws.specs.Puts.{Puts}
use Rattle.hash_life_laws.proofs.Shared.Places.{what_is_put}
use Rattle.hash_engine.specs.Adding.{GrowsOnWay}
use Rattle.hash_engine.specs.Asked.{is_put, picked, places_put}
use Rattle.square_table.specs.Squares.{IsNumber}
use Rattle.square_table.proofs.Shared.Tables.{above_zero}
use Rattle.hash_engine.proofs.Shared.Picked.{picked-none}
use Rattle.counted_engine.proofs.Picked.{All-picked, Contains-picked, different-picked}
use Rattle.hash_engine.proofs.Shared.Memos.{no_full, is_put-none, is_put-two}

-- a table where nothing is noted has the squares that it had
pub asked_without : {c : ℕ} {t u : Table} {root : handles.Square} → u ≡ without_notes t → CanBeAsked c t root → CanBeAsked c u root
asked_without {c} {t} {u} {root} is asked = subst (λ v. CanBeAsked c v root) (sym is) (record {
  held = record { numbered = asked.held.numbered; quadrants = asked.held.quadrants };
  level = asked.level;
  below = asked.below;
})

-- and what it grows by afterwards, it grows by from the start
pub Grows-unnoted : {next : List ℕ → ℕ} {generations : ℕ} {t v u : Table} {root : handles.Square} → v ≡ without_notes t → GrowsOnWay next generations v root u →
    GrowsOnWay next generations t root u
Grows-unnoted {next} {generations} {t} {v} {u} {root} is on =
    let rows : v.rows ≡ t.rows = ap (λ (w : Table). w.rows) is in
    let limit : v.limit ≡ t.limit = ap (λ (w : Table). w.limit) is in
    record {
      grows = record { limit = on.grows.limit ∙ limit; more = on.grows.more; rows = on.grows.rows ∙ ap (λ rs. rs ++ on.grows.more) rows };
      among = λ all way are.
          let here = subst (λ rs. Makes next (level_of root - 2) generations (square_in rs (level_of root) (number_of root)) (Contains all)) (sym rows) way in
          on.among all here (subst (AreAmong all) (sym rows) are);
    }

-- where P holds of each square that is put to the rule, there is a list of them
record Listed (P : Square → Type 0) (Way : (Square → Type 0) → Type 0) : Type 0 where
  those : List Square
  way : Way (Contains those)
  holds : All P those

-- what follows of each of two lists holds of both
both : {P : Square → Type 0} {Way More : (Square → Type 0) → Type 0} →
    ((Q R : Square → Type 0) → ((s : Square) → Q s → R s) → Way Q → Way R) →
    ((Q R : Square → Type 0) → ((s : Square) → Q s → R s) → More Q → More R) →
    Listed P Way → Listed P More → Listed P (λ Q. Way Q × More Q)
both {P} {Way} {More} way_weaker more_weaker one more = record {
  those = one.those ++ more.those;
  way = (
    way_weaker (Contains one.those) _ (λ s is. Contains-append_left one.those more.those s is) one.way,
    more_weaker (Contains more.those) _ (λ s is. Contains-append_right one.those more.those s is) more.way,
  );
  holds = All-append P one.those more.those one.holds more.holds;
}

all_weaker : (next : List ℕ → ℕ) (k n : ℕ) (ss : List Square) (P Q : Square → Type 0) → ((s : Square) → P s → Q s) →
    All (λ s. Puts next k n s P) ss → All (λ s. Puts next k n s Q) ss
all_weaker next k n ss P Q so puts = All-weaker _ _ (λ s. Puts-weaker next k n s P Q so) ss puts

list_all : (next : List ℕ → ℕ) (k n : ℕ) (P : Square → Type 0) → ((s : Square) → Puts next k n s P → Listed P (Puts next k n s)) →
    (ss : List Square) → All (λ s. Puts next k n s P) ss → Listed P (λ Q. All (λ s. Puts next k n s Q) ss)
list_all next k n P each [] puts = record { those = []; way = All-nil (λ s. Puts next k n s (Contains [])); holds = All-nil P }
list_all next k n P each (s ∷ ss) puts =
    let one = each s (All-head (λ q. Puts next k n q P) s ss puts) in
    let rest = list_all next k n P each ss (All-tail (λ q. Puts next k n q P) s ss puts) in
    let two = both (Puts-weaker next k n s) (all_weaker next k n ss) one rest in
    record { those = two.those; way = All-cons (λ q. Puts next k n q (Contains two.those)) s ss two.way.0 two.way.1; holds = two.holds }

listed : (next : List ℕ → ℕ) (k n : ℕ) (s : Square) (P : Square → Type 0) → Puts next k n s P → Listed P (Puts next k n s)
unfolding Puts
listed next k zero s P puts = record { those = []; way = tt; holds = All-nil P }
listed next zero (suc n) s P puts =
    record { those = s ∷ []; way = Contains-get_or (s ∷ []) 0 s (omega arith); holds = All-cons P s [] puts (All-nil P) }
listed next (suc k) (suc n) s P puts =
    let m = min (suc n) (2 ^ k) in
    both (all_weaker next k m (nine_of s)) (all_weaker next k (suc n - m) (fours_of (map (result next k m) (nine_of s))))
    (list_all next k m P (λ q. listed next k m q P) (nine_of s) puts.0)
    (list_all next k (suc n - m) P (λ q. listed next k (suc n - m) q P) (fours_of (map (result next k m) (nine_of s))) puts.1)

two_of : (rows : List (List ℕ)) (k n : ℕ) → IsNumber rows (suc (suc k)) n → is_four rows n ≡ true → IsNumber rows 2 n
two_of rows zero n number four = number
two_of rows (suc k) n number four = let other = is_four-more rows k n number in absurd cc

-- what is put to the rule is a square of level 2
pub IsNumber-put : (next : List ℕ → ℕ) (t : Table) (memo : Memo) (i : ℕ) → IsRightMemo next t memo → is_put t.rows t.notes i ≡ true → IsNumber t.rows 2 (first_number + i)
unfolding is_put
IsNumber-put next t memo i right is =
    let h = right.full.right i in
    grind (arith, h, and_parts, ltb-true, two_of)

pub known-put : (rows : List (List ℕ)) (full : List ℕ) (i : ℕ) → is_put rows full i ≡ true → 0 < get_or full i 0
unfolding is_put
known-put rows full i is = grind (arith, and_parts, ltb-true)

-- the squares that were put to the rule are those that are counted
abbrev block : List (List ℕ) → ℕ → Square
block rows i = square_in rows 2 (first_number + i)

module _ (number : ℕ) {next : List ℕ → ℕ} {k generations base a b : ℕ} {t u : Table} {old new : Memo} (none : HasNoFull t)
    (counted : IsCounted next k generations t old) (right : IsRightMemo next u new) (distinct : AreDistinct u.rows)
    (count : base ≡ length (places_put u)) (asks : Asks next (Puts next k generations (sought t k number)) t a u new b) where
  pub put_blocks : Puts next k generations (sought t k number) (IsPut u.rows u.notes) →
      PutsBlocks next k generations (sought t k number) base
  unfolding places_put
  put_blocks puts =
      let blocks = map (block u.rows) (places_put u) in
      let there : (s : Square) → IsPut u.rows u.notes s → Contains blocks s = λ s is.
      let inside = (above_zero u.rows 2 (first_number + is.place) (lit< tt) is.numbered).1 in
      subst (Contains blocks) is.square (Contains-picked (block u.rows) (is_put u.rows u.notes) (length u.rows) is.place
      (omega (arith, inside)) (is_put-two u.rows u.notes is.place is.numbered is.known)) in
      record {
        blocks = blocks;
        count = length-map (places_put u) (block u.rows) ∙ sym count;
        different = different-picked (block u.rows) (is_put u.rows u.notes) (length u.rows) (λ i j below inside put_i put_j same.
            let number_i = IsNumber-put next u new i right put_i in
            let number_j = IsNumber-put next u new j right put_j in
            let equal = one_number u.rows distinct 2 (first_number + i) (first_number + j) number_i number_j same in
            absurd (omega (arith, equal, below)));
        all = Puts-weaker next k generations _ (IsPut u.rows u.notes) (Contains blocks) there puts;
        only = λ those way.
            All-picked (Contains those) (block u.rows) (is_put u.rows u.notes) (length u.rows) (λ i below is.
            asks.among those way (λ s was. absurd (omega (arith, no_full t was.place none, was.known))) (block u.rows i)
            (record { place = i; numbered = IsNumber-put next u new i right is; known = known-put u.rows u.notes i is; square = refl }));
      }

  no_places : length (places_put t) ≡ 0
  unfolding places_put picked
  no_places = ap length (picked-none (is_put t.rows t.notes) 0 (length t.rows) (omega arith)
      (λ i above below. is_put-none t.rows t.notes i (no_full t i none)))

  -- each was put once, and in a world where the square stands they do
  pub asked_once : (w : World) (x y : ℤ) → next nine_zeros ≡ 0 → sought t k number ≡ square_at w (suc (suc k)) x y →
      PutsBlocks next k generations (sought t k number) base → AsksOnce next w generations base a b
  asked_once w x y quiet at blocks =
      let stands = subst (λ s. Puts next k generations s (Stands next w generations)) (sym at)
      (what_is_put next quiet w k generations x y counted.few) in
      let those = listed next k generations (sought t k number) (Stands next w generations) stands in
      record {
        blocks = blocks.blocks;
        count = blocks.count;
        different = blocks.different;
        stand = All-weaker (Contains those.those) (Stands next w generations)
            (λ s is. All-contains (Stands next w generations) those.those s those.holds is) blocks.blocks (blocks.only those.those those.way);
        four = (let all = asks.four in omega (arith, all, no_places, count));
      }
