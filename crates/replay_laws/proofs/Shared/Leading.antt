-- Edits that lead from one document to another, and those that add the elements of a list.
use Rattle.replay_laws.proofs.Names.{AllByRecursion, Asked, IdsRise, Lead, List, Plan, [], add_all, all_append, all_so, ap, append-nil, append_assoc, ap₂, arith, changed, flat_map, ids_between, last_id, length, length-append}
use Rattle.replay_laws.proofs.Names.{range_with_len, refl, subst, suc, sym, zero, ℕ, ◌*◌, ◌++◌, ◌+◌, ◌-◌, ◌<◌, ◌^◌, ◌∙◌, ◌∷◌, ◌≡◌, ◌≤◌}

-- to an equal document
pub lead_to : (edits : List Asked) (p q r : Plan) → Lead edits p q → q ≡ r → Lead edits p r
lead_to [] p q r h e = sym e ∙ h
lead_to (asked ∷ edits) p q r h e = (h.0, lead_to edits (changed p asked).plan q r h.1 e)

-- some edits, and others after them
pub lead_on : (edits others : List Asked) (p q r : Plan) → Lead edits p q → Lead others q r
    → Lead (edits ++ others) p r
lead_on [] others p q r h k = subst (λ s. Lead others s r) h k
lead_on (asked ∷ edits) others p q r h k = (h.0, lead_on edits others (changed p asked).plan q r h.1 k)

-- edits that add the elements of a list or skip their ids, where `at` has the document of a revision with the elements
-- that are there and the last id
pub record Adds {X : Type 0} (id : X → ℕ) (skip : ℕ → List Asked) (add : X → Asked) (at : ℕ → List X → ℕ → Plan)
    (xs : List X) : Type 0 where
  pub adds : (done : List X) (x : X) (rest : List X) (k last : ℕ) → done ++ x ∷ rest ≡ xs → last + 1 ≡ id x
      → k + 1 < 2 ^ 64 → Lead (add x ∷ []) (at k done last) (at (k + 1) (done ++ x ∷ []) (id x))
  pub skips : (done : List X) (x : X) (rest : List X) (k last : ℕ) → done ++ x ∷ rest ≡ xs → last + 1 < id x
      → AllByRecursion (λ y. id y ≤ last) done → k + 2 < 2 ^ 64
      → Lead (skip (last + 1)) (at k done last) (at (k + 2) done (last + 1))
  pub two : (n : ℕ) → length (skip n) ≡ 2

length-skips : (skip : ℕ → List Asked) → ((n : ℕ) → length (skip n) ≡ 2) → (a n : ℕ)
    → length (flat_map skip (range_with_len a n)) ≡ 2 * n
length-skips skip two a zero = refl
length-skips skip two a (suc n) =
    let long = length-append (skip a) (flat_map skip (range_with_len (a + 1) n)) in
    let rest = length-skips skip two (a + 1) n in
    omega (arith, two a, long, rest)

skip_all : {X : Type 0} (id : X → ℕ) (skip : ℕ → List Asked) (add : X → Asked) (at : ℕ → List X → ℕ → Plan)
    (xs : List X) (all : Adds id skip add at xs) (done : List X) (x : X) (rest : List X) → done ++ x ∷ rest ≡ xs
    → (n k last : ℕ) → last + n < id x → AllByRecursion (λ y. id y ≤ last) done → k + 2 * n < 2 ^ 64
    → Lead (flat_map skip (range_with_len (last + 1) n)) (at k done last) (at (k + 2 * n) done (last + n))
skip_all id skip add at xs all done x rest is zero k last low given left =
    ap₂ (λ a b. at a done b) (omega arith) (omega arith)
skip_all id skip add at xs all done x rest is (suc n) k last low given left =
    let others : List Asked = flat_map skip (range_with_len (last + 1 + 1) n) in
    let end : Plan = at (k + 2 * suc n) done (last + suc n) in
    lead_on (skip (last + 1)) others (at k done last) (at (k + 2) done (last + 1)) end
    (all.skips done x rest k last is (omega (arith, low)) given (omega (arith, left)))
    (lead_to others (at (k + 2) done (last + 1)) (at (k + 2 + 2 * n) done (last + 1 + n)) end
    (skip_all id skip add at xs all done x rest is n (k + 2) (last + 1) (omega (arith, low))
    (all_so (λ y. id y ≤ last) (λ y. id y ≤ last + 1) done (λ y h. omega (arith, h)) given) (omega (arith, left)))
    (ap₂ (λ a b. at a done b) (omega arith) (omega arith)))

-- how many edits there are
pub length-add_all : {X : Type 0} (id : X → ℕ) (skip : ℕ → List Asked) (add : X → Asked)
    → ((n : ℕ) → length (skip n) ≡ 2) → (last : ℕ) (xs : List X) → AllByRecursion (λ y. last < id y) xs
    → IdsRise id xs → length (add_all id skip add last xs) + 2 * last + length xs ≡ 2 * last_id id last xs
length-add_all id skip add two last [] above rise = omega arith
length-add_all id skip add two last (x ∷ xs) above rise =
    let more = above.0 in
    let rest = add_all id skip add (id x) xs in
    omega (
      arith,
      length-append (flat_map skip (ids_between last (id x))) (add x ∷ rest),
      length-skips skip two (last + 1) (id x - (last + 1)),
      more,
      length-add_all id skip add two (id x) xs rise.0 rise.1,
    )

-- all of them lead from the document that has those before to the one that has them all
pub add_all_lead : {X : Type 0} (id : X → ℕ) (skip : ℕ → List Asked) (add : X → Asked) (at : ℕ → List X → ℕ → Plan)
    (xs : List X) → Adds id skip add at xs → (done rest : List X) (k last : ℕ) → done ++ rest ≡ xs
    → AllByRecursion (λ y. id y ≤ last) done → AllByRecursion (λ y. last < id y) rest → IdsRise id rest
    → k + length (add_all id skip add last rest) < 2 ^ 64
    → Lead (add_all id skip add last rest) (at k done last)
    (at (k + length (add_all id skip add last rest)) xs (last_id id last rest))
add_all_lead id skip add at xs all done [] k last is given above rise left =
    ap₂ (λ a b. at a b last) (omega arith) (sym is ∙ append-nil done)
add_all_lead id skip add at xs all done (x ∷ rest) k last is given above rise left =
    let more = above.0 in
    let n : ℕ = id x - (last + 1) in
    let gap : List Asked = flat_map skip (ids_between last (id x)) in
    let later : List Asked = add_all id skip add (id x) rest in
    let twice : length gap ≡ 2 * n = length-skips skip all.two (last + 1) n in
    let long : length (gap ++ add x ∷ later) ≡ length gap + (1 + length later) =
    (let l = length-append gap (add x ∷ later) in omega (arith, l)) in
    let before : Plan = at (k + 2 * n) done (last + n) in
    let after : Plan = at (k + 2 * n + 1) (done ++ x ∷ []) (id x) in
    let end : Plan = at (k + length (gap ++ add x ∷ later)) xs (last_id id (id x) rest) in
    let here = all.adds done x rest (k + 2 * n) (last + n) is (omega (arith, more))
    (omega (arith, left, long, twice)) in
    let behind = add_all_lead id skip add at xs all (done ++ x ∷ []) rest (k + 2 * n + 1) (id x)
    (append_assoc done (x ∷ []) rest ∙ is)
    (all_append (λ y. id y ≤ id x) done (x ∷ [])
    (all_so (λ y. id y ≤ last) (λ y. id y ≤ id x) done (λ y h. omega (arith, h, more)) given) (omega arith, tt))
    rise.0 rise.1 (omega (arith, left, long, twice)) in
    lead_on gap (add x ∷ later) (at k done last) before end
    (skip_all id skip add at xs all done x rest is n k last (omega (arith, more)) given
    (omega (arith, left, long, twice)))
    (lead_on (add x ∷ []) later before after end here
    (lead_to later after (at (k + 2 * n + 1 + length later) xs (last_id id (id x) rest)) end behind
    (ap (λ a. at a xs (last_id id (id x) rest)) (omega (arith, long, twice)))))
