-- Lists of sets, compared.
use Rattle.table_symmetry.proofs.Names.{Global, List, Vec, [], arith, bytes_decides, false, get_or, length, list_any, lists_in, map-append, pointwise_decides, refl, same_sets, sym, take, take_more, true, with_one, ℕ, ◌++◌, ◌+◌, ◌<◌, ◌||◌}
use Rattle.table_symmetry.proofs.Names.{◌∙◌, ◌∷◌, ◌≡◌}
use Rattle.indexmap.specs.IndexSet.{insert_key}

pub same_sets_decides : (x y : List (List ℕ)) → (same_sets x y ≡ true → x ≡ y) × (x ≡ y → same_sets x y ≡ true)
same_sets_decides = pointwise_decides bytes_decides

-- of lists that stand in others, one more
pub lists-more : (keys : List (Vec (List ℕ) Global)) (i : ℕ) (key : Vec (List ℕ) Global) → i < length keys → key ≡ get_or keys i key → lists_in (take (i + 1) keys) ≡ lists_in (take i keys) ++ key.items ∷ []
lists-more keys i key h is = rw (take_more keys i key h, ← is) (map-append (λ v. v.items) (take i keys) (key ∷ []))

-- one more list, where it is there and where it isn't

any-of_lists : (lists : List (Vec (List ℕ) Global)) (list : List (List ℕ)) → list_any (λ other. same_sets other.items list) lists ≡ list_any (λ other. same_sets other list) (lists_in lists)
any-of_lists [] list = refl
any-of_lists (other ∷ lists) list = λ i. same_sets other.items list || any-of_lists lists list i

pub list-known : (lists : List (Vec (List ℕ) Global)) (list : Vec (List ℕ) Global) → list_any (λ other. same_sets other.items list.items) lists ≡ true → lists_in lists ≡ with_one same_sets (lists_in lists) list.items
list-known lists list there = rw (sym (any-of_lists lists list.items) ∙ there) refl

pub list-more : (lists : List (Vec (List ℕ) Global)) (list : Vec (List ℕ) Global) → list_any (λ other. same_sets other.items list.items) lists ≡ false
    → lists_in (lists ++ list ∷ []) ≡ with_one same_sets (lists_in lists) list.items
list-more lists list new = rw (sym (any-of_lists lists list.items) ∙ new, map-append (λ (v : Vec (List ℕ) Global). v.items) lists (list ∷ [])) refl

-- one more list, unless it is there

same_sets-sym : (x y : List (List ℕ)) → same_sets x y ≡ same_sets y x
same_sets-sym x y =
    let there = λ (h : same_sets x y ≡ true). (same_sets_decides y x).1 (sym ((same_sets_decides x y).0 h)) in
    let back = λ (h : same_sets y x ≡ true). (same_sets_decides x y).1 (sym ((same_sets_decides y x).0 h)) in
    grind (arith, there, back)

any-list : (keys : List (Vec (List ℕ) Global)) (list : List (List ℕ)) → list_any (λ key. same_sets list key.items) keys ≡ list_any (λ other. same_sets other list) (lists_in keys)
any-list [] list = refl
any-list (key ∷ keys) list = λ i. same_sets-sym list key.items i || any-list keys list i

pub key-inserted : (keys : List (Vec (List ℕ) Global)) (key : Vec (List ℕ) Global) → lists_in (insert_key (λ a b. same_sets a.items b.items) keys key) ≡ with_one same_sets (lists_in keys) key.items
key-inserted keys key = rw (← any-list keys key.items) (grind (arith, map-append (λ (v : Vec (List ℕ) Global). v.items) keys (key ∷ [])))
