-- Layers of rows: one grows row by row, and then comes before the others.
use Rattle.tree_translation.proofs.Names.{All, All-cons, All-nil, AreLayersOf, Bool, Expanded, IsGrownBy, IsLayer, IsLayerOf, Layer, List, None, Option, Some, StandsFor, Tail, [], ap, arith, asked_at, below_more, bytes_eq-Decides}
use Rattle.tree_translation.proofs.Names.{common_steps, count_of, elements, get_or, get_or_default, get_or_from_slice_get, length, nat_tests, refl, rest_at, same_asked, slice_get, suc, tail_at, true, ℕ, ◌&&◌, ◌++◌, ◌+◌, ◌<◌, ◌==◌, ◌∷◌, ◌≡◌}
use Rattle.tree_translation.proofs.Names.{◌≤◌}
use Rattle.indexmap.specs.IndexSet.{insert_key}

-- tails are equal where their fields are
abbrev pub same_tail : Tail → Tail → Bool
same_tail a b = (a.set == b.set) && (a.rest == b.rest)

pub same_from_tail : (a b : Tail) → same_tail a b ≡ true → b ≡ a
same_from_tail a b h = grind (arith, nat_tests)

-- what is asked is the same where the test says so
pub asked-same : (set other : Option (List ℕ)) → same_asked set other ≡ true → other ≡ set
asked-same set other h = grind (arith, bytes_eq-Decides)

-- a key that is inserted comes behind those that are there, or is there
pub grown-insert_key : {X : Type 0} (eq : X → X → Bool) (old new : List X) (x : X) → new ≡ insert_key eq old x → IsGrownBy old x new
grown-insert_key eq old new x same = grind arith

abbrev none_left : Tail
none_left = record { set = 0; rest = 0 }

-- the tails of the first n of these rows, by what is left of each behind the input, and the number of the tail of each
pub record AreTails (place : Option ℕ) (rows : List Expanded) (lasts : List ℕ) (sets : List (Option (List ℕ))) (tails : List Tail) (numbers : List ℕ) (n : ℕ) : Type 0 where
  pub few_sets : length sets ≤ n
  pub few_tails : length tails ≤ n
  pub count : length numbers ≡ n
  pub asking : All (λ (tail : Tail). tail.set < length sets) tails
  pub leaving : (count : ℕ) → All (λ last. last < count) lasts → All (λ (tail : Tail). tail.rest < count) tails
  pub inside : All (λ number. number < length tails) numbers
  pub asks : (k : ℕ) (d : Expanded) → k < n → get_or sets (get_or tails (get_or numbers k 0) none_left).set None ≡ asked_at place (get_or rows k d).inputs
  pub leaves : (k : ℕ) → k < n → (get_or tails (get_or numbers k 0) none_left).rest ≡ get_or lasts k 0

-- a row more, whose tail asks for a set and leaves what is left of the row
pub record IsNextTail (place : Option ℕ) (rows : List Expanded) (lasts : List ℕ) (sets more_sets : List (Option (List ℕ))) (tails more_tails : List Tail) (n number : ℕ) (set : Option (List ℕ)) (tail : Tail) : Type 0 where
  pub set_grown : IsGrownBy sets set more_sets
  pub set_inside : tail.set < length more_sets
  pub set_there : get_or more_sets tail.set None ≡ set
  pub tail_grown : IsGrownBy tails tail more_tails
  pub tail_inside : number < length more_tails
  pub tail_there : slice_get more_tails number ≡ Some tail
  pub row_inside : n < length lasts
  pub asks : (d : Expanded) → set ≡ asked_at place (get_or rows n d).inputs
  pub leaves : tail.rest ≡ get_or lasts n 0

module _ {place : Option ℕ} {rows : List Expanded} {lasts : List ℕ} {sets more_sets : List (Option (List ℕ))} {tails more_tails : List Tail} {numbers : List ℕ} {n number : ℕ} {set : Option (List ℕ)} {tail : Tail}
    (old : AreTails place rows lasts sets tails numbers n) (next : IsNextTail place rows lasts sets more_sets tails more_tails n number set tail) where
  -- the tail of a row before
  tail-before : (k : ℕ) → k < n → get_or more_tails (get_or (numbers ++ number ∷ []) k 0) none_left ≡ get_or tails (get_or numbers k 0) none_left
  tail-before k h = grind (arith, common_steps, next.tail_grown, old.inside k 0, old.count)

  -- the tail of this row
  tail-here : get_or more_tails (get_or (numbers ++ number ∷ []) n 0) none_left ≡ tail
  tail-here = grind (arith, common_steps, get_or_from_slice_get more_tails number tail none_left next.tail_there, old.count)

  -- the tails with that of one more row
  pub AreTails-more : AreTails place rows lasts more_sets more_tails (numbers ++ number ∷ []) (n + 1)
  AreTails-more = record {
    few_sets = grind (arith, common_steps, old.few_sets, next.set_grown);
    few_tails = grind (arith, common_steps, old.few_tails, next.tail_grown);
    count = grind (arith, common_steps, old.count);
    asking = grind (arith, elements, old.asking, next.tail_grown, next.set_grown, next.set_inside);
    leaving = λ count h. grind (arith, elements, old.leaving count h, next.leaves, h n 0 next.row_inside, next.tail_grown);
    inside = grind (arith, elements, old.inside, next.tail_inside, next.tail_grown);
    asks = λ k d h. below_more (λ j. get_or more_sets (get_or more_tails (get_or (numbers ++ number ∷ []) j 0) none_left).set None ≡ asked_at place (get_or rows j d).inputs) n
        (λ j l. grind (arith, common_steps, tail-before j l, next.set_grown, old.asks j d l, old.inside j 0, old.asking, old.count))
        (grind (arith, tail-here, next.set_there, next.asks d)) k h;
    leaves = λ k h. grind (arith, tail-before k, tail-here, old.leaves k, next.leaves);
  }

-- once all rows are there, it is the layer of the rows, and fits each count that is above what is left of them
pub record AreAll (place : Option ℕ) (rows : List Expanded) (lasts : List ℕ) (layer : Layer) (numbers : List ℕ) : Type 0 where
  pub fits : (count : ℕ) → All (λ last. last < count) lasts → IsLayer layer count
  pub of : IsLayerOf place rows lasts layer numbers

pub all-rows : {place : Option ℕ} {rows : List Expanded} {lasts : List ℕ} {sets : List (Option (List ℕ))} {tails : List Tail} {numbers : List ℕ} {n : ℕ}
    (layer : Layer) → AreTails place rows lasts sets tails numbers n → layer.sets.items ≡ sets → layer.tails.items ≡ tails → n ≡ length rows
    → AreAll place rows lasts layer numbers
all-rows {place = place} {rows = rows} {lasts = lasts} {numbers = numbers} layer h same_sets same all =
    let whole : AreTails place rows lasts layer.sets.items layer.tails.items numbers (length rows) = rw (same_sets, same, ← all) h in
    record {
      fits = λ count below. record { sets = whole.asking; rests = whole.leaving count below };
      of = record { count = whole.count; inside = whole.inside; few = whole.few_tails; asks = whole.asks; leaves = whole.leaves };
    }

abbrev none_row : Expanded
none_row = record { inputs = []; result = 0 }

-- no layers, where the numbers are the results
pub AreLayersOf-none : (states : ℕ) (rows : List Expanded) (numbers : List ℕ) → length numbers ≡ length rows
    → ((k : ℕ) (d : Expanded) → k < length rows → get_or numbers k 0 ≡ (get_or rows k d).result) → All (λ (row : Expanded). row.result < states) rows
    → AreLayersOf states [] rows [] numbers
AreLayersOf-none states rows numbers count each below = record {
  depth = refl;
  fit = tt;
  count = count;
  few = All-nil (λ (layer : Layer). length layer.tails.items ≤ length rows);
  inside = λ k d l. grind (arith, each k none_row, below k none_row, get_or_default numbers k d 0 l);
  stand = λ k d h inputs long. grind (arith, each k d h);
}

-- a tail asks of the inputs what a row asks, if it asks the same of the first and what it leaves the same of the others
stands-more : (place : Option ℕ) (order : List (Option ℕ)) (row : Expanded) (layer : Layer) (layers : List Layer) (number last : ℕ)
    → get_or layer.sets.items (tail_at layer number).set None ≡ asked_at place row.inputs → rest_at layer number ≡ last → StandsFor layers order row last → StandsFor (layer ∷ layers) (place ∷ order) row number
stands-more place order row layer layers number last asks leaves stands [] long = absurd cc
stands-more place order row layer layers number last asks leaves stands (s ∷ inputs) long = grind (arith, asks, leaves, stands inputs)

-- one more layer before others
pub AreLayersOf-more : (states : ℕ) (place : Option ℕ) (order : List (Option ℕ)) (rows : List Expanded) (layer : Layer) (layers : List Layer) (lasts numbers : List ℕ)
    → AreLayersOf states order rows layers lasts → ((count : ℕ) → All (λ last. last < count) lasts → IsLayer layer count) → IsLayerOf place rows lasts layer numbers → AreLayersOf states (place ∷ order) rows (layer ∷ layers) numbers
AreLayersOf-more states place order rows layer layers lasts numbers old fits of = record {
  depth = ap suc old.depth;
  fit = (fits (count_of states layers) old.inside, old.fit);
  count = of.count;
  inside = of.inside;
  few = All-cons (λ (l : Layer). length l.tails.items ≤ length rows) layer layers of.few old.few;
  stand = λ k d h. stands-more place order (get_or rows k d) layer layers (get_or numbers k 0) (get_or lasts k 0) (of.asks k d h) (of.leaves k h) (old.stand k d h);
}
