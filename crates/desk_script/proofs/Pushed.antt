-- A text that grows by the texts of the elements of a list, one after the other.
use Rattle.desk_script.proofs.Names.{Asked, Intervention, List, Option, [], add_all, add_bookmark, add_branch, add_intervention, ap, append-nil, append_assoc, arith, bookmark_id, branch_id, codes, decimal, drop, edit_line, edit_lines}
use Rattle.desk_script.proofs.Names.{flat_map, get_or, ids_between, intervention_id, length, range_with_len, refl, rule_lines, script_text, skip_bookmark, skip_branch, skip_intervention, skip_lines, start_lines, suc, sym, zero, ℕ, ◌++◌}
use Rattle.desk_script.proofs.Names.{◌+◌, ◌-◌, ◌<◌, ◌∙◌, ◌∷◌, ◌≡◌}
use Rattle.std.proofs.lemmas.List.Concat.{flat_map-append}
use Rattle.std.proofs.lemmas.Fmt.{decimal_digit}
use Rattle.schedule.specs.declared.branch.Branch.{Branch}
use Rattle.schedule.specs.declared.document.Bookmark.{Bookmark}
use Rattle.schedule.specs.Plan.{Plan}

module _ {A : Type 0} (text : A → List ℕ) where
  -- what is there and the texts of those that are left are what it is to become
  abbrev pub IsGrowing : List ℕ → List ℕ → List A → List A → Type 0
  IsGrowing old now left xs = now ++ flat_map text left ≡ old ++ flat_map text xs

-- the ids from one on, below another
pub range-more : (a b : ℕ) → a < b → range_with_len a (b - a) ≡ a ∷ range_with_len (a + 1) (b - (a + 1))
range-more a b low = grind (arith)

-- the text of one more of them was added
pub pushed-more : (text : ℕ → List ℕ) (old now new : List ℕ) (a b : ℕ) (ids : List ℕ) → a < b
    → new ≡ now ++ text a → IsGrowing text old now (range_with_len a (b - a)) ids
    → IsGrowing text old new (range_with_len (a + 1) (b - (a + 1))) ids
pushed-more text old now new a b ids low is grows = grind (arith, append_assoc, range-more)

-- those that are left are those from the next one on, also where there is no number behind the last
module _ {X : Type 0} (id : X → ℕ) (skip : ℕ → List Asked) (add : X → Asked) where
  -- the edits that add those from the k-th on
  left-suc : (last : ℕ) (xs : List X) (k : ℕ) (d : X) → k < length xs
      → add_all id skip add last (drop k xs)
      ≡ flat_map skip (ids_between last (id (get_or xs k d)))
      ++ add (get_or xs k d) ∷ add_all id skip add (id (get_or xs k d)) (drop (suc k) xs)
  left-suc last [] k d low = absurd (omega (arith, low))
  left-suc last (x ∷ xs) zero d low = refl
  left-suc last (x ∷ xs) (suc k) d low = left-suc last xs k d (omega (arith, low))

  left-from : (last : ℕ) (xs : List X) (k : ℕ) (d : X) → k < length xs
      → add_all id skip add last (drop k xs)
      ≡ flat_map skip (ids_between last (id (get_or xs k d)))
      ++ add (get_or xs k d) ∷ add_all id skip add (id (get_or xs k d)) (drop (k + 1) xs)
  left-from last xs k d low = grind (arith, left-suc)

  -- what is there and the lines of those that are left are what it is to become
  abbrev pub IsAdding : List ℕ → List ℕ → ℕ → List X → List X → Type 0
  IsAdding old now last left xs =
      now ++ edit_lines (add_all id skip add last left) ≡ old ++ edit_lines (add_all id skip add 0 xs)

  pub added-more : (old now between new : List ℕ) (last : ℕ) (xs : List X) (k : ℕ) (d x : X) → k < length xs
      → get_or xs k d ≡ x → between ≡ now ++ edit_lines (flat_map skip (ids_between last (id x)))
      → new ≡ between ++ edit_line (add x) → IsAdding old now last (drop k xs) xs
      → IsAdding old new (id x) (drop (k + 1) xs) xs
  added-more old now between new last xs k d x low at skipped is adds =
      let later = add_all id skip add (id x) (drop (k + 1) xs) in
      let rest = edit_lines later in
      let gap = flat_map skip (ids_between last (id x)) in
      ap (λ v. v ++ rest) is ∙ append_assoc between (edit_line (add x)) rest
      ∙ ap (λ v. v ++ (edit_line (add x) ++ rest)) skipped
      ∙ append_assoc now (edit_lines gap) (edit_line (add x) ++ rest)
      ∙ ap (λ v. now ++ v) (sym (flat_map-append edit_line gap (add x ∷ later))
      ∙ ap edit_lines (sym (left-from last xs k d low
      ∙ ap (λ y. flat_map skip (ids_between last (id y)) ++ add y ∷ add_all id skip add (id y) (drop (k + 1) xs)) at)))
      ∙ adds

-- the two lines for each id
pub skipped : (skip : ℕ → List Asked) (adds removes : List ℕ) (ids : List ℕ)
    → ((id : ℕ) → edit_lines (skip id) ≡ skip_lines adds removes id)
    → flat_map (skip_lines adds removes) ids ≡ edit_lines (flat_map skip ids)
skipped skip adds removes [] is = refl
skipped skip adds removes (id ∷ ids) is =
    ap (λ v. v ++ flat_map (skip_lines adds removes) ids) (sym (is id))
    ∙ ap (λ v. edit_lines (skip id) ++ v) (skipped skip adds removes ids is)
    ∙ sym (flat_map-append edit_line (skip id) (flat_map skip ids))

-- what the two lines of a gap in the ids say
zero-is : decimal 0 ≡ codes "0"
zero-is = decimal_digit 0 (omega arith)

pub branch-skipped : (id : ℕ) → edit_lines (skip_branch id) ≡ skip_lines (codes "branch 0 0\n") (codes "unbranch ") id
branch-skipped id = grind (arith, zero-is, append-nil)

pub bookmark-skipped : (id : ℕ)
    → edit_lines (skip_bookmark id) ≡ skip_lines (codes "on 0 mark 0 counts\n") (codes "unmark ") id
bookmark-skipped id = grind (arith, zero-is, append-nil)

pub intervention-skipped : (id : ℕ)
    → edit_lines (skip_intervention id) ≡ skip_lines (codes "on 0 at 0 set 0 0 0\n") (codes "drop ") id
intervention-skipped id = grind (arith, zero-is, append-nil)

-- all lines of a document
pub whole : (rule : Option (List ℕ)) (p : Plan) (new a b c d e : List ℕ) (branches : List Branch)
    (bookmarks : List Bookmark) (interventions : List Intervention) → new ≡ [] → a ≡ new ++ rule_lines rule
    → b ≡ a ++ start_lines p → c ≡ b ++ edit_lines (add_all branch_id skip_branch add_branch 0 branches)
    → d ≡ c ++ edit_lines (add_all bookmark_id skip_bookmark add_bookmark 0 bookmarks)
    → e ≡ d ++ edit_lines (add_all intervention_id skip_intervention add_intervention 0 interventions)
    → branches ≡ p.branches → bookmarks ≡ p.bookmarks → interventions ≡ p.interventions → e ≡ script_text rule p
whole rule p new a b c d e branches bookmarks interventions first ruled started branched marked inserted x y z = grind (arith, append_assoc, flat_map-append)
