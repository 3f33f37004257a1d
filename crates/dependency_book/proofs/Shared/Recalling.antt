-- What entering what was computed before leaves.
use Rattle.dependency_book.proofs.Names.{BookState, Empty, Entered, Enters, EntersSteps, Fact, Known, List, Mark, Need, RowState, SameBook, SameButFacts, Value}
use Rattle.dependency_book.proofs.Names.{[], ap, arith, either_way, empty_rows_of, inl, inr, is_need, missing, need_is, pattern, refl}
use Rattle.dependency_book.proofs.Names.{row_of, step_to, subst, sym, with_facts, world_after, ℕ, ◌∙◌, ◌∷◌, ◌≡◌, ◌≤◌, ◌⊎◌}
use Rattle.revision_jobs.specs.declared.entry.Step.{Step as Stepping}

pub recalls_one : (mark : Mark) (s : Stepping) (d e : BookState) → Enters mark s d e → EntersSteps d e
recalls_one mark s d e h = ((mark, s) ∷ [], (e, h, refl))

-- what each entering carries on, all of them do
pub recalls_all : (P : BookState → BookState → Type 0) → ((d e : BookState) → SameButFacts d e → P d e)
    → ((mark : Mark) (s : Stepping) (d e f : BookState) → Enters mark s d e → P e f → P d f)
    → (d e : BookState) → EntersSteps d e → P d e
recalls_all P none more d e h = entered h.0 d h.1
  where
    entered : (xs : List (Mark × Stepping)) (d : BookState) → Entered xs d e → P d e
    entered [] d h = none d e h
    entered (x ∷ xs) d h = more x.0 x.1 d h.0 e h.1 (entered xs h.0 h.2)

-- a book that remembers other steps begins as well
recalls_beside : (d : BookState) (facts : List Fact) (missed : ℕ) (f : BookState)
    → EntersSteps (with_facts d facts missed) f → EntersSteps d f
recalls_beside d facts missed f h = (h.0, by_list h.0 h.1)
  where
    by_list : (xs : List (Mark × Stepping)) → Entered xs (with_facts d facts missed) f → Entered xs d f
    by_list [] h = h
    by_list (x ∷ xs) h = (h.0, assumption h.1, h.2)

pub recalls_then : (d e f : BookState) → EntersSteps d e → EntersSteps e f → EntersSteps d f
recalls_then d e f h =
    recalls_all (λ a b. EntersSteps b f → EntersSteps a f)
    (λ a b same k. recalls_beside a b.facts b.missed f (subst (λ x. EntersSteps x f) same k))
    (λ mark s a b c first rest k. let r = rest k in ((mark, s) ∷ r.0, (b, first, r.1))) d e h

-- the book is the same

pub same_book : (d : BookState) → SameBook d d
same_book d = assumption

pub book_then : (d e f : BookState) → SameBook d e → SameBook e f → SameBook d f
book_then d e f h k = record {
  document = record {
    table = k.document.table ∙ h.document.table;
    plan = k.document.plan ∙ h.document.plan;
    marks = k.document.marks ∙ h.document.marks;
    bookmarks = k.document.bookmarks ∙ h.document.bookmarks;
  };
  entries = k.entries ∙ h.entries;
  indices = k.indices ∙ h.indices;
  refused = k.refused ∙ h.refused;
}

pub recalls_book : (d e : BookState) → EntersSteps d e → SameBook d e
recalls_book = recalls_all SameBook (λ d e same. subst (SameBook d) (sym same) assumption)
    (λ mark s d e f h k. book_then d e f (assumption h.puts.book) k)

-- no row loses what stands in it

-- what stands in a row stands there still, or nothing did and a value does
abbrev pub Stays : RowState Value → RowState Value → Type 0
Stays old new = (new ≡ old) ⊎ ((old ≡ Empty) × ((v : Value) × (new ≡ Known v)))

stays_then : (a b c : RowState Value) → Stays a b → Stays b c → Stays a c
stays_then a b c (inl same) k = subst (λ x. Stays x c) same k
stays_then a b c (inr h) (inl same) = inr (h.0, (h.1.0, same ∙ h.1.1))
stays_then a b c (inr h) (inr k) = absurd (let is = h.1.1 in let none = k.0 in cc)

enters_row : (mark : Mark) (s : Stepping) (d e : BookState) (need : Need) → Enters mark s d e
    → Stays (row_of d need) (row_of e need)
enters_row mark s d e need h =
    either_way (is_need (step_to mark) need)
    (λ hit. inr (
      ap (row_of d) (sym (need_is (step_to mark) need hit)) ∙ h.empty,
      (pattern (world_after s), h.puts.rows need ∙ rw hit refl),
    ))
    (λ miss. inl (h.puts.rows need ∙ rw miss refl))

pub recalls_row : (d e : BookState) (need : Need) → EntersSteps d e → Stays (row_of d need) (row_of e need)
recalls_row d e need =
    recalls_all (λ a b. Stays (row_of a need) (row_of b need)) (λ a b same. inl (ap (λ x. row_of x need) same))
    (λ mark s a b c h k.
    stays_then (row_of a need) (row_of b need) (row_of c need) (enters_row mark s a b need h) k) d e

-- no more rows are empty

pub recalls_wanting : (d e : BookState) → EntersSteps d e → empty_rows_of e ≤ empty_rows_of d
recalls_wanting =
    recalls_all (λ d e. empty_rows_of e ≤ empty_rows_of d) (λ d e same. let less = ap empty_rows_of same in omega (arith, less))
    (λ mark s d e f h k.
    let was : missing (row_of d (step_to mark)) ≡ 1 = ap missing h.empty in
    let count = h.puts.wanting in
    omega (arith, was, count, k))
