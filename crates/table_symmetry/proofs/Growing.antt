-- Lists of expanded transitions that grow by those of one more transition, or of one more value.
use Rattle.table_symmetry.proofs.Names.{Expanded, IsTooLong, List, Symmetry, Transition, Variable, [], ap, append-nil, append_assoc, arith, assigned, drop, expanded_one, flat_map, flat_map-append, get_or, inl, inr, length, length-append}
use Rattle.table_symmetry.proofs.Names.{length-flat_map-take, min, refl, sym, take, take_more, valued, ℕ, ◌++◌, ◌+◌, ◌<◌, ◌∙◌, ◌∷◌, ◌≡◌}
use Rattle.rule_file.specs.declared.fault.RuleFault.{RuleFault}

-- of a list of lists, those of the inner lists
flat_map-flat_map : {A B C : Type 0} (g : B → List C) (f : A → List B) (xs : List A) → flat_map g (flat_map f xs) ≡ flat_map (λ x. flat_map g (f x)) xs
flat_map-flat_map g f [] = refl
flat_map-flat_map g f (x ∷ xs) = flat_map-append g (f x) (flat_map f xs) ∙ ap (λ ys. flat_map g (f x) ++ ys) (flat_map-flat_map g f xs)

module _ {X : Type 0} (g : X → List Expanded) where
  -- one more
  pub more : (front : List Expanded) (xs : List X) (k : ℕ) (d : X) → k < length xs → (front ++ flat_map g (take k xs)) ++ g (get_or xs k d) ≡ front ++ flat_map g (take (k + 1) xs)
  more front xs k d h = rw (take_more xs k d h, flat_map-append, append-nil, append_assoc)

  -- too many in a part are too many in all
  pub too_long : (fault : RuleFault) (front rows : List Expanded) (xs : List X) (k : ℕ) (d : X) → k < length xs
      → rows ≡ front ++ flat_map g (take k xs) → IsTooLong fault (length rows + length (g (get_or xs k d)))
      → IsTooLong fault (length front + length (flat_map g xs))
  too_long fault front rows xs k d h e (inl wanted) = inl wanted
  too_long fault front rows xs k d h e (inr (many, beyond)) = inr (many, omega (arith, length-flat_map-take g xs k d h, ap length e ∙ length-append front (flat_map g (take k xs)), beyond))

-- the rows of a transition under one value of the first variable, and under all its values
abbrev pub rows_under : Symmetry → List Variable → Variable → Transition → ℕ → List Expanded
rows_under symmetry others v t state = flat_map (expanded_one symmetry) (assigned others (valued v state t))

pub all_under : (symmetry : Symmetry) (others : List Variable) (v : Variable) (t : Transition) (bound : List Variable) → bound ≡ v ∷ others
    → flat_map (rows_under symmetry others v t) v.states ≡ flat_map (expanded_one symmetry) (assigned bound t)
all_under symmetry others v t bound e = rw e (sym (flat_map-flat_map (expanded_one symmetry) (λ state. assigned others (valued v state t)) v.states))

-- the first of a list, and the rest, however the list is split there
pub split_one : {X : Type 0} (xs : List X) (m : ℕ) → m ≡ min (length xs) 1 → (take m xs ≡ take 1 xs) × (drop m xs ≡ drop 1 xs)
split_one [] m h = let none : m ≡ 0 = omega (arith, h) in rw none (refl, refl)
split_one (x ∷ xs) m h = let one : m ≡ 1 = omega (arith, h) in rw one (refl, refl)
