-- The arrangements of a list: they put places, whatever stands there, and are as long as the list.
use Rattle.table_symmetry.proofs.Names.{All, All-map, Bool, List, Symmetry, [], ap, arith, arrangements, drop, drop-map, eq-eqb, filter, flat_map, get_or, insertions, length, length-append, length-drop, length-map, length-reverse}
use Rattle.table_symmetry.proofs.Names.{length-take, list_all, list_all-append, list_all-from_AllPass, map, map-append, mirrored, nat_tests, permutations, range_with_len, refl, suc, sym, take, take-map, true, turned, turns, ℕ, ◌&&◌, ◌*◌}
use Rattle.table_symmetry.proofs.Names.{◌++◌, ◌+◌, ◌/◌, ◌==◌, ◌∙◌, ◌∷◌, ◌≡◌}
use Rattle.indexmap.proofs.ReorderLemmas.{map-reverse}
use Rattle.std.proofs.lemmas.Simd.{map-map}

map_both : {A B C : Type 0} (g : A → C) (f : B → C) (h : A → B) → ((x : A) → g x ≡ f (h x)) → (xs : List A) → map g xs ≡ map f (map h xs)
map_both g f h e xs = (λ i. map (λ x. e x i) xs) ∙ sym (map-map f h xs)

flat_map_both : {A B C D : Type 0} (g : B → List D) (f : A → B) (h : C → D) (k : A → List C) → ((x : A) → g (f x) ≡ map h (k x)) → (xs : List A) → flat_map g (map f xs) ≡ map h (flat_map k xs)
flat_map_both g f h k e [] = refl
flat_map_both g f h k e (x ∷ xs) = (λ i. e x i ++ flat_map_both g f h k e xs i) ∙ sym (map-append h (k x) (flat_map k xs))

module _ {X Y : Type 0} (f : X → Y) where
  turns-map : (n : ℕ) (xs : List X) → turns n (map f xs) ≡ map (map f) (turns n xs)
  turns-map n xs = map_both (λ i. turned (i * (length (map f xs) / n)) (map f xs)) (map f) (λ i. turned (i * (length xs / n)) xs)
      (λ i. let k = i * (length xs / n) in rw (length-map, drop-map, take-map) (sym (map-append f (drop k xs) (take k xs))))
      (range_with_len 0 n)

  mirrored-map : (xs : List X) → mirrored (map f xs) ≡ map f (mirrored xs)
  mirrored-map [] = refl
  mirrored-map (x ∷ xs) = ap (λ ys. f x ∷ ys) (sym (map-reverse f xs))

  insertions-map : (x : X) (xs : List X) → insertions (f x) (map f xs) ≡ map (map f) (insertions x xs)
  insertions-map x xs =
      ap (λ l. map (λ i. take i (map f xs) ++ f x ∷ drop i (map f xs)) (range_with_len 0 (l + 1))) (length-map xs f)
      ∙ map_both (λ i. take i (map f xs) ++ f x ∷ drop i (map f xs)) (map f) (λ i. take i xs ++ x ∷ drop i xs)
      (λ i. rw (take-map, drop-map) (sym (map-append f (take i xs) (x ∷ drop i xs)))) (range_with_len 0 (length xs + 1))

  permutations-map : (xs : List X) → permutations (map f xs) ≡ map (map f) (permutations xs)
  permutations-map [] = refl
  permutations-map (x ∷ xs) =
      ap (flat_map (insertions (f x))) (permutations-map xs)
      ∙ flat_map_both (insertions (f x)) (map f) (map f) (insertions x) (insertions-map x) (permutations xs)

  -- arrangements of what stands for each
  pub arrangements-map : (symmetry : Symmetry) (xs : List X) → arrangements symmetry (map f xs) ≡ map (map f) (arrangements symmetry xs)
  arrangements-map symmetry xs =
      let one = λ (n : ℕ). turns-map n xs in
      let both = λ (n : ℕ). ap (turns n) (mirrored-map xs) ∙ turns-map n (mirrored xs) in
      grind (arith, one 1, one 2, one 3, one 4, one 6, one 8, both 1, both 4, both 6, both 8, permutations-map xs, map-append {A = List X} {B = List Y} (map f))

-- what holds of all of a list holds of all that is made of it

pub list_all-flat_map : {X Y : Type 0} (p : X → Bool) (q : Y → Bool) (f : X → List Y) (xs : List X) → ((x : X) → p x ≡ true → list_all q (f x) ≡ true) → list_all p xs ≡ true
    → list_all q (flat_map f xs) ≡ true
list_all-flat_map p q f [] each h = refl
list_all-flat_map p q f (x ∷ xs) each h = rw list_all-append (grind (arith, each x, list_all-flat_map p q f xs each))

pub list_all-filter : {X : Type 0} (p keep : X → Bool) (xs : List X) → list_all p xs ≡ true → list_all p (filter keep xs) ≡ true
list_all-filter p keep [] h = refl
list_all-filter p keep (x ∷ xs) h = grind (arith, list_all-filter p keep xs)

pub list_all-made : {X Y : Type 0} (q : Y → Bool) (f : X → Y) (xs : List X) → All (λ x. q (f x) ≡ true) xs → list_all q (map f xs) ≡ true
list_all-made q f xs each = list_all-from_AllPass q (map f xs) (All-map (λ y. q y ≡ true) f xs each)

-- what holds of a list and its orders, as each element comes in
pub each_permutation : {X : Type 0} (p : List X → List X → Bool) → p [] [] ≡ true → ((x : X) (xs ys : List X) (i : ℕ) → p xs ys ≡ true → p (x ∷ xs) (take i ys ++ x ∷ drop i ys) ≡ true)
    → (xs : List X) → list_all (p xs) (permutations xs) ≡ true
each_permutation p none more [] = ap (λ b. b && true) none
each_permutation p none more (x ∷ xs) =
    list_all-flat_map (p xs) (p (x ∷ xs)) (insertions x) (permutations xs)
    (λ ys h. list_all-made (p (x ∷ xs)) (λ i. take i ys ++ x ∷ drop i ys) (range_with_len 0 (length ys + 1)) (λ k d l. more x xs ys _ h))
    (each_permutation p none more xs)

module _ {X : Type 0} where
  pub length-inserted : (x : X) (i : ℕ) (xs : List X) → length (take i xs ++ x ∷ drop i xs) ≡ suc (length xs)
  length-inserted x i xs = length-append (take i xs) (x ∷ drop i xs) ∙ omega (arith, length-take i xs, length-drop i xs)

  turns-length : (n m : ℕ) (xs : List X) → length xs ≡ m → list_all (λ ys. length ys == m) (turns n xs) ≡ true
  turns-length n m xs h = list_all-made (λ ys. length ys == m) (λ i. turned (i * (length xs / n)) xs) (range_with_len 0 n)
      (λ j d l. let k = get_or (range_with_len 0 n) j d * (length xs / n) in eq-eqb _ m (length-append (drop k xs) (take k xs) ∙ omega (arith, length-take k xs, length-drop k xs, h)))

  mirrored-length : (xs : List X) → length (mirrored xs) ≡ length xs
  mirrored-length [] = refl
  mirrored-length (x ∷ xs) = ap suc (length-reverse xs)

  -- arrangements are as long as the list
  pub arrangements-length : (symmetry : Symmetry) (xs : List X) → list_all (λ ys. length ys == length xs) (arrangements symmetry xs) ≡ true
  arrangements-length symmetry xs =
      let one = λ (n : ℕ). turns-length n (length xs) xs refl in
      let other = λ (n : ℕ). turns-length n (length xs) (mirrored xs) (mirrored-length xs) in
      let orders = each_permutation (λ us vs. length vs == length us) refl (λ x us vs i h. grind (arith, nat_tests, length-inserted x i vs)) xs in
      grind (arith, one 1, one 2, one 3, one 4, one 6, one 8, other 1, other 4, other 6, other 8, orders, list_all-append {X = List X} (λ ys. length ys == length xs))
