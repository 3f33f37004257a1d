-- Lines or parts of a reply, one after the other.
use Rattle.desk_server.proofs.Names.{Appends, AppendsFront, IsUnderWay, List, Option, Result, Wrote, [], append_assoc, arith, drop, flat_map, front_first, front_then, get_or, length, refl, subst, suc, sym, zero, ℕ, ◌++◌, ◌+◌, ◌<◌, ◌∙◌, ◌∷◌}
use Rattle.desk_server.proofs.Names.{◌≡◌}
use Rattle.std.proofs.KnownBytes.{Appends-trans}

-- what was written, and then what a call wrote
pub wrote_then : {T E : Type 0} (a b c : Option (List ℕ)) (r : Result T E) (xs ys : List ℕ) → Appends a b xs
    → Wrote b c r ys → Wrote a c r (xs ++ ys)
wrote_then a b c r xs ys w h = grind (arith, Appends-trans, front_then)

module _ {A : Type 0} (text : A → List ℕ) where
  -- one more was written of those that are left
  pub more : (a b c : Option (List ℕ)) (all : List ℕ) (x : A) (rest : List A)
      → IsUnderWay a b all (flat_map text (x ∷ rest)) → Appends b c (text x) → IsUnderWay a c all (flat_map text rest)
  more a b c all x rest h w = record {
    written = h.written ++ text x;
    split = h.split ∙ sym (append_assoc h.written (text x) (flat_map text rest));
    grew = Appends-trans a b c h.written (text x) h.grew w;
  }

  -- a beginning of it was written
  pub broken : (a b c : Option (List ℕ)) (all : List ℕ) (x : A) (rest : List A)
      → IsUnderWay a b all (flat_map text (x ∷ rest)) → AppendsFront b c (text x) → AppendsFront a c all
  broken a b c all x rest h w = grind (arith, front_first, front_then)

  -- those that are left begin with the next one
  next_suc : (xs : List A) (k : ℕ) (d : A) → k < length xs
      → flat_map text (drop k xs) ≡ flat_map text (get_or xs k d ∷ drop (suc k) xs)
  next_suc [] k d h = absurd (omega (arith, h))
  next_suc (x ∷ xs) zero d h = refl
  next_suc (x ∷ xs) (suc k) d h = next_suc xs k d (omega (arith, h))

  pub next : (xs : List A) (k : ℕ) (d : A) → k < length xs
      → flat_map text (drop k xs) ≡ flat_map text (get_or xs k d ∷ drop (k + 1) xs)
  next xs k d h = grind (arith, next_suc)

  pub parts_more : (a b c : Option (List ℕ)) (xs : List A) (k : ℕ) (d : A) → k < length xs
      → IsUnderWay a b (flat_map text xs) (flat_map text (drop k xs)) → Appends b c (text (get_or xs k d))
      → IsUnderWay a c (flat_map text xs) (flat_map text (drop (k + 1) xs))
  parts_more a b c xs k d low h w = more a b c (flat_map text xs) (get_or xs k d) (drop (k + 1) xs)
      (subst (IsUnderWay a b (flat_map text xs)) (next xs k d low) h) w

  pub parts_broken : (a b c : Option (List ℕ)) (xs : List A) (k : ℕ) (d : A) → k < length xs
      → IsUnderWay a b (flat_map text xs) (flat_map text (drop k xs)) → AppendsFront b c (text (get_or xs k d))
      → AppendsFront a c (flat_map text xs)
  parts_broken a b c xs k d low h w = broken a b c (flat_map text xs) (get_or xs k d) (drop (k + 1) xs)
      (subst (IsUnderWay a b (flat_map text xs)) (next xs k d low) h) w
