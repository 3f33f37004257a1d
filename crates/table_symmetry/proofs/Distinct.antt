-- Lists in which each element stands once.
use Rattle.table_symmetry.proofs.Names.{Bool, List, [], ap, append-nil, append_assoc, arith, cond, distinct, false, filter, filter-append, flat_map, flat_map-append, list_any, list_any-append, map, map-range_with_len_more, not, or-true}
use Rattle.table_symmetry.proofs.Names.{range_with_len, refl, subst, sym, true, with_all, with_one, ℕ, ◌++◌, ◌+◌, ◌||◌, ◌∙◌, ◌∷◌, ◌≡◌}

module _ {X : Type 0} (E : X → X → Bool) (decides : (x y : X) → (E x y ≡ true → x ≡ y) × (x ≡ y → E x y ≡ true)) where
  -- a test is passed by one of the others, or by one of all, where it isn't by this one
  any_other : (f : X → Bool) (x : X) (ys : List X) → f x ≡ false → list_any f (filter (λ y. not (E x y)) ys) ≡ list_any f ys
  any_other f x [] h = refl
  any_other f x (y ∷ ys) h = grind (arith, (decides x y).0, any_other f x ys h)

  -- some element passes a test
  pub any-distinct : (f : X → Bool) (xs : List X) → list_any f (distinct E xs) ≡ list_any f xs
  any-distinct f [] = refl
  any-distinct f (x ∷ xs) = grind (arith, any_other f x (distinct E xs), any-distinct f xs)

  distinct_last : (xs : List X) (x : X) → distinct E (xs ++ x ∷ []) ≡ distinct E xs ++ cond (list_any (λ y. E y x) xs) [] (x ∷ [])
  distinct_last [] x = refl
  distinct_last (y ∷ xs) x = rw (distinct_last xs x, filter-append) (grind (arith, append-nil {A = X}))

  -- one element more
  pub with_one-distinct : (xs : List X) (x : X) → with_one E (distinct E xs) x ≡ distinct E (xs ++ x ∷ [])
  with_one-distinct xs x = rw (distinct_last xs x, any-distinct (λ y. E y x) xs) (grind (arith, append-nil {A = X}))

  -- some more
  pub with_all-distinct : (xs ys : List X) → with_all E (distinct E xs) ys ≡ distinct E (xs ++ ys)
  with_all-distinct xs [] = ap (distinct E) (sym (append-nil xs))
  with_all-distinct xs (y ∷ ys) = rw (with_one-distinct xs y, with_all-distinct (xs ++ y ∷ []) ys, append_assoc)

  -- adding in two parts
  pub with_all-append : (xs ys zs : List X) → with_all E xs (ys ++ zs) ≡ with_all E (with_all E xs ys) zs
  with_all-append xs [] zs = refl
  with_all-append xs (y ∷ ys) zs = with_all-append (with_one E xs y) ys zs

  -- the next of those that are made in turn
  pub with_all-next : (xs : List X) (at : ℕ → X) (n : ℕ) → with_all E xs (map at (range_with_len 0 (n + 1))) ≡ with_one E (with_all E xs (map at (range_with_len 0 n))) (at n)
  with_all-next xs at n = rw (map-range_with_len_more at 0 n n (omega arith)) (with_all-append xs (map at (range_with_len 0 n)) (at n ∷ []))

  -- what is there isn't added
  pub with_all-among : (xs ys : List X) → ((y : X) → list_any (λ z. E z y) ys ≡ true → list_any (λ z. E z y) xs ≡ true) → with_all E xs ys ≡ xs
  with_all-among xs [] h = refl
  with_all-among xs (y ∷ ys) h =
      let there : list_any (λ z. E z y) xs ≡ true = h y (ap (λ b. b || list_any (λ z. E z y) ys) ((decides y y).1 refl)) in
      rw there (with_all-among xs ys (λ z k. h z (ap (λ b. E y z || b) k ∙ or-true (E y z))))

-- what comes of one of these comes of all
pub any_flat_map : {X Y : Type 0} (is : Y → Bool) (y : Y) → ((z : Y) → is z ≡ true → y ≡ z) → (p : X → Bool) (f : Y → List X) (ys : List Y) → list_any is ys ≡ true → list_any p (f y) ≡ true
    → list_any p (flat_map f ys) ≡ true
any_flat_map is y same p f [] h k = absurd cc
any_flat_map is y same p f (z ∷ ys) h k = rw list_any-append (grind (arith, same z, any_flat_map is y same p f ys))

module _ {Y X : Type 0} (F : Y → Y → Bool) (known : (x y : Y) → (F x y ≡ true → x ≡ y) × (x ≡ y → F x y ≡ true)) (E : X → X → Bool) (decides : (x y : X) → (E x y ≡ true → x ≡ y) × (x ≡ y → E x y ≡ true)) (f : Y → List X) where
  -- what comes of each element, where it comes of each once
  abbrev comes_once : List Y → Type 0
  comes_once ys = distinct E (flat_map f (distinct F ys)) ≡ distinct E (flat_map f ys)

  -- what comes of an element that was there isn't wanted again
  one_more : (ys : List Y) (y : Y) → comes_once ys → comes_once (ys ++ y ∷ [])
  one_more ys y h =
      let there = λ (e : list_any (λ z. F z y) ys ≡ true). with_all-among E decides (distinct E (flat_map f ys)) (f y)
      (λ x k. any-distinct E decides (λ z. E z x) (flat_map f ys) ∙ any_flat_map (λ z. F z y) y (λ z s. sym ((known z y).0 s)) (λ z. E z x) f ys e k) in
      let last : (zs : List Y) → flat_map f (zs ++ y ∷ []) ≡ flat_map f zs ++ f y = λ zs. flat_map-append f zs (y ∷ []) ∙ ap (λ xs. flat_map f zs ++ xs) (append-nil (f y)) in
      let added = λ (zs : List Y). with_all-distinct E decides (flat_map f zs) (f y) in
      rw (← with_one-distinct F known ys y, any-distinct F known (λ z. F z y) ys, last ys, ← added ys) (grind (arith, there, h, last (distinct F ys), added (distinct F ys)))

  all_more : (front ys : List Y) → comes_once front → comes_once (front ++ ys)
  all_more front [] h = rw (append-nil front) h
  all_more front (y ∷ ys) h = subst comes_once (append_assoc front (y ∷ []) ys) (all_more (front ++ y ∷ []) ys (one_more front y h))

  -- what comes of each element once
  pub distinct-flat_map : (ys : List Y) → distinct E (flat_map f (distinct F ys)) ≡ distinct E (flat_map f ys)
  distinct-flat_map ys = all_more [] ys refl
