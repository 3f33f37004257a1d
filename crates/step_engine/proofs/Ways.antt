-- All that is made on a way, as a list.
use Rattle.step_engine.proofs.Names.{Contains, HasWay, List, Square, World, [], arith, cases_eq, edge, empty_square, four, min, one, square_at, subst, suc, sym, zero, ℕ, ◌-◌, ◌^◌, ◌∷◌, ◌≡◌, ◌≤◌}
use Rattle.std.proofs.Common.{⊎_elim}
use Rattle.std.specs.Prelude.{◌++◌, flat_map, map}
use Rattle.std.specs.List.{AllByRecursion as Each}
use Rattle.std.proofs.lemmas.List.Elements.{All-contains_itself, All-from_recursion, recursion_from_All}
use Rattle.hash_life_laws.specs.Makes.{Makes}
use Rattle.hash_life_laws.specs.Puts.{nine_of, fours_of}
use Rattle.hash_life_laws.specs.Result.{result}
use Rattle.square_table.specs.Made.{HasEmpty, HoldsWithin}
use Rattle.step_engine.specs.Evolved.{EachWayIsThere}

-- the square and all that it is made of, cells left out
unfoldable parts_of : Square → List Square
parts_of (one s) = []
parts_of (four nw ne sw se) = four nw ne sw se ∷ (parts_of nw ++ (parts_of ne ++ (parts_of sw ++ parts_of se)))

-- the empty squares of the levels from 1 on, below this one
unfoldable empty_below : ℕ → List Square
empty_below zero = []
empty_below (suc zero) = []
empty_below (suc (suc k)) = empty_square (suc k) ∷ empty_below (suc k)

-- the world's square of a level, round the origin
abbrev centre : World → ℕ → Square
centre w k = square_at w k (edge k) (edge k)

-- what the world starts with up to a level
unfoldable rounds : World → ℕ → List Square
rounds w zero = []
rounds w (suc k) = parts_of (centre w (suc k)) ++ rounds w k

-- what is made from a square of level k + 2 to its result, with both
unfoldable made_from : (List ℕ → ℕ) → ℕ → ℕ → Square → List Square
made_from next k zero s = s ∷ result next k zero s ∷ []
made_from next zero (suc n) s = s ∷ result next zero (suc n) s ∷ []
made_from next (suc k) (suc n) s =
    let first = min (suc n) (2 ^ k) in
    s ∷ result next (suc k) (suc n) s
    ∷ (flat_map (made_from next k first) (nine_of s) ++ flat_map (made_from next k (suc n - first)) (fours_of (map (result next k first) (nine_of s))))

-- all that is made on a way
abbrev way_of : (List ℕ → ℕ) → World → ℕ → ℕ → List Square
way_of next w k n =
    empty_below (suc (suc k)) ++ (rounds w (suc (suc k)) ++ made_from next k n (centre w (suc (suc k))))

module _ (P : Square → Type 0) where
  -- what holds of each of two lists together
  front : (ss ts : List Square) → Each P (ss ++ ts) → Each P ss
  front [] ts all = tt
  front (s ∷ ss) ts all = (all.0, front ss ts all.1)

  back : (ss ts : List Square) → Each P (ss ++ ts) → Each P ts
  back [] ts all = all
  back (s ∷ ss) ts all = back ss ts all.1

  both : (ss ts : List Square) → Each P ss → Each P ts → Each P (ss ++ ts)
  both [] ts these those = those
  both (s ∷ ss) ts these those = (these.0, both ss ts these.1 those)

  holds_within : (s : Square) → Each P (parts_of s) → HoldsWithin P s
  unfolding parts_of HoldsWithin
  holds_within (one s) all = tt
  holds_within (four nw ne sw se) all =
      let below = back (parts_of nw) (parts_of ne ++ (parts_of sw ++ parts_of se)) all.1 in
      let last = back (parts_of ne) (parts_of sw ++ parts_of se) below in (
        all.0,
        holds_within nw (front (parts_of nw) (parts_of ne ++ (parts_of sw ++ parts_of se)) all.1),
        holds_within ne (front (parts_of ne) (parts_of sw ++ parts_of se) below),
        holds_within sw (front (parts_of sw) (parts_of se) last),
        holds_within se (back (parts_of sw) (parts_of se) last),
      )

  each_part : (s : Square) → HoldsWithin P s → Each P (parts_of s)
  unfolding parts_of HoldsWithin
  each_part (one s) within = tt
  each_part (four nw ne sw se) within = (
    within.0,
    both (parts_of nw) (parts_of ne ++ (parts_of sw ++ parts_of se)) (each_part nw within.1)
        (both (parts_of ne) (parts_of sw ++ parts_of se) (each_part ne within.2) (both (parts_of sw) (parts_of se) (each_part sw within.3) (each_part se within.4))),
  )

  -- what holds of all that each square gives
  all_given : (f : Square → List Square) (Q : Square → Type 0) → ((s : Square) → Each P (f s) → Q s) → (ss : List Square) → Each P (flat_map f ss) → Each Q ss
  all_given f Q so [] all = tt
  all_given f Q so (s ∷ ss) all = (so s (front (f s) (flat_map f ss) all), all_given f Q so ss (back (f s) (flat_map f ss) all))

  each_given : (f : Square → List Square) (Q : Square → Type 0) → ((s : Square) → Q s → Each P (f s)) → (ss : List Square) → Each Q ss → Each P (flat_map f ss)
  each_given f Q so [] all = tt
  each_given f Q so (s ∷ ss) all = both (f s) (flat_map f ss) (so s all.0) (each_given f Q so ss all.1)

  makes : (next : List ℕ → ℕ) (k n : ℕ) (s : Square) → Each P (made_from next k n s) → Makes next k n s P
  unfolding made_from Makes
  makes next k zero s all = (all.0, all.1.0)
  makes next zero (suc n) s all = (all.0, all.1.0)
  makes next (suc k) (suc n) s all =
      let first = min (suc n) (2 ^ k) in
      let fours = fours_of (map (result next k first) (nine_of s)) in
      let nine_made = flat_map (made_from next k first) (nine_of s) in
      let four_made = flat_map (made_from next k (suc n - first)) fours in
      let Nine : Square → Type 0 = λ q. Makes next k first q P in
      let Four : Square → Type 0 = λ q. Makes next k (suc n - first) q P in (
        all.0,
        all.1.0,
        All-from_recursion Nine (nine_of s) (all_given (made_from next k first) Nine (makes next k first) (nine_of s) (front nine_made four_made all.1.1)),
        All-from_recursion Four fours (all_given (made_from next k (suc n - first)) Four (makes next k (suc n - first)) fours (back nine_made four_made all.1.1)),
      )

  each_made : (next : List ℕ → ℕ) (k n : ℕ) (s : Square) → Makes next k n s P → Each P (made_from next k n s)
  unfolding made_from Makes
  each_made next k zero s is = (is.0, (is.1, tt))
  each_made next zero (suc n) s is = (is.0, (is.1, tt))
  each_made next (suc k) (suc n) s is =
      let first = min (suc n) (2 ^ k) in
      let fours = fours_of (map (result next k first) (nine_of s)) in
      let Nine : Square → Type 0 = λ q. Makes next k first q P in
      let Four : Square → Type 0 = λ q. Makes next k (suc n - first) q P in (
        is.0,
        (
          is.1,
          both (flat_map (made_from next k first) (nine_of s)) (flat_map (made_from next k (suc n - first)) fours)
              (each_given (made_from next k first) Nine (each_made next k first) (nine_of s) (recursion_from_All Nine (nine_of s) is.2))
              (each_given (made_from next k (suc n - first)) Four (each_made next k (suc n - first)) fours (recursion_from_All Four fours is.3)),
        ),
      )

module _ (all : List Square) where
  has_empty : (k : ℕ) → Each (Contains all) (empty_below k) → HasEmpty all k
  unfolding empty_below
  has_empty zero is j low high = absurd (omega (arith, high))
  has_empty (suc zero) is j low high = absurd (omega (arith, low, high))
  has_empty (suc (suc k)) is j low high =
      ⊎_elim
      (λ (e : j ≡ suc k). subst (λ n. Contains all (empty_square n)) (sym e) is.0)
      (λ (other : j ≡ suc k → ⊥). has_empty (suc k) is.1 j low (omega (arith, high, other)))
      (cases_eq j (suc k))

  each_empty : (k : ℕ) → HasEmpty all k → Each (Contains all) (empty_below k)
  unfolding empty_below
  each_empty zero has = tt
  each_empty (suc zero) has = tt
  each_empty (suc (suc k)) has = (has (suc k) (omega arith) (omega arith), each_empty (suc k) (λ j low high. has j low (omega (arith, high))))

  -- what a world starts with up to a level is among them
  HasRounds : World → ℕ → Type 0
  HasRounds w k = (j : ℕ) → 1 ≤ j → j ≤ k → HoldsWithin (Contains all) (centre w j)

  has_rounds : (w : World) (k : ℕ) → Each (Contains all) (rounds w k) → HasRounds w k
  unfolding rounds HasRounds
  has_rounds w zero is j low high = absurd (omega (arith, low, high))
  has_rounds w (suc k) is j low high =
      ⊎_elim
      (λ (e : j ≡ suc k). subst (λ n. HoldsWithin (Contains all) (centre w n)) (sym e)
      (holds_within (Contains all) (centre w (suc k)) (front (Contains all) (parts_of (centre w (suc k))) (rounds w k) is)))
      (λ (other : j ≡ suc k → ⊥). has_rounds w k (back (Contains all) (parts_of (centre w (suc k))) (rounds w k) is) j low (omega (arith, high, other)))
      (cases_eq j (suc k))

  each_round : (w : World) (k : ℕ) → HasRounds w k → Each (Contains all) (rounds w k)
  unfolding rounds HasRounds
  each_round w zero has = tt
  each_round w (suc k) has =
      both (Contains all) (parts_of (centre w (suc k))) (rounds w k) (each_part (Contains all) (centre w (suc k)) (has (suc k) (omega arith) (omega arith)))
      (each_round w k (λ j low high. has j low (omega (arith, high))))

  module _ (next : List ℕ → ℕ) (w : World) (k n : ℕ) where
    has_way : Each (Contains all) (way_of next w k n) → HasWay all next w k n
    unfolding HasRounds
    has_way is =
        let made = made_from next k n (centre w (suc (suc k))) in
        let after = back (Contains all) (empty_below (suc (suc k))) (rounds w (suc (suc k)) ++ made) is in
        record {
          start = record {
            empty = has_empty (suc (suc k)) (front (Contains all) (empty_below (suc (suc k))) (rounds w (suc (suc k)) ++ made) is);
            squares = has_rounds w (suc (suc k)) (front (Contains all) (rounds w (suc (suc k))) made after);
          };
          way = makes (Contains all) next k n (centre w (suc (suc k))) (back (Contains all) (rounds w (suc (suc k))) made after);
        }

    each_of_way : HasWay all next w k n → Each (Contains all) (way_of next w k n)
    unfolding HasRounds
    each_of_way has =
        let made = made_from next k n (centre w (suc (suc k))) in
        both (Contains all) (empty_below (suc (suc k))) (rounds w (suc (suc k)) ++ made) (each_empty (suc (suc k)) has.start.empty)
        (both (Contains all) (rounds w (suc (suc k))) made (each_round w (suc (suc k)) has.start.squares)
        (each_made (Contains all) next k n (centre w (suc (suc k))) has.way))

pub each_way_is_there : EachWayIsThere
each_way_is_there next w k n =
    let all = way_of next w k n in (
      all,
      record {
        has = has_way all next w k n (recursion_from_All (Contains all) all (All-contains_itself all));
        only = λ those has. All-from_recursion (Contains those) all (each_of_way those next w k n has);
      },
    )
