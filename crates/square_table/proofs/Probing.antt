-- Rows that slots lead to.
use Rattle.square_table.proofs.Names.{FindsRows, IsFreeFor, IsUsed, Lacks, LeadsTo, List, Row, Slot, [], add-one, ap, arith, cases_eq, cases_lt, first_of, get_or, get_or-set_other, get_or-set_same, get_or_append_left, get_or_push, inl, inr}
use Rattle.square_table.proofs.Names.{kids_in, kids_of, length, length-map, length-set, length_push, map_push, mark_of, next_of, refl, row_in, slice_index_or, slice_set, subst, suc, sym, tag_in, tag_of, zero, ℕ, ◌++◌, ◌+◌, ◌-◌, ◌<◌, ◌∙◌}
use Rattle.square_table.proofs.Names.{◌∷◌, ◌≡◌, ◌⊎◌}
use Rattle.std.proofs.lemmas.Nat.{and_le_r}
use Rattle.square_table.specs.Slots.{way}

-- a way stays among the slots
pub way_inside : (mark count steps : ℕ) → 0 < count → way mark count steps < count
unfolding way
way_inside mark count zero some = omega (arith, some, and_le_r mark (count - 1))
way_inside mark count (suc steps) some = omega (arith, some, and_le_r (way mark count steps + 1) (count - 1))

-- where a way begins, and how it goes on
pub way_first : (mark count : ℕ) → way mark count 0 ≡ first_of mark count
unfolding way
way_first mark count = refl

pub way_next : (mark count steps : ℕ) → way mark count (steps + 1) ≡ next_of (way mark count steps) count
unfolding way
way_next mark count steps = rw add-one refl

-- what is read where one element is set
reads_set : {A : Type 0} (xs : List A) (p : ℕ) (x : A) → p < length xs → (i : ℕ) (d : A)
    → ((i ≡ p) × (slice_index_or (slice_set xs p x) i d ≡ x)) ⊎ ((i ≡ p → ⊥) × (slice_index_or (slice_set xs p x) i d ≡ slice_index_or xs i d))
reads_set xs p x there i d = elim (cases_eq i p) [
  | inl e ↦ inl (e, ap (λ k. slice_index_or (slice_set xs p x) k d) e ∙ get_or-set_same xs p x d there)
  | inr f ↦ inr (f, get_or-set_other xs p i x d f)
]

-- the same of more rows
pub finds_more : (rows : List (List ℕ)) (kids : List ℕ) (slots : List Slot) → FindsRows rows (length rows) slots → FindsRows (rows ++ kids ∷ []) (length rows) slots
finds_more rows kids slots is =
    let same : (i : ℕ) → i < length rows → get_or (rows ++ kids ∷ []) i [] ≡ get_or rows i [] = λ i h. get_or_append_left rows (kids ∷ []) [] i h in
    record {
      some = is.some;
      within = is.within;
      tagged = λ s i d h at. is.tagged s i d h at ∙ ap (λ k. tag_of (mark_of k)) (sym (same i (omega (arith, at, is.within s d h))));
      led = λ i h. subst (λ k. LeadsTo slots (mark_of k) i) (sym (same i h)) (is.led i h);
    }

-- one slot more of a way is in use
pub used_next : (slots : List Slot) (mark steps : ℕ) → IsUsed slots mark steps → ((d : Slot) → 0 < row_in (slice_index_or slots (way mark (length slots) steps) d)) → IsUsed slots mark (steps + 1)
used_next slots mark steps used more j d h = elim (cases_lt j steps) [
  | inl g ↦ used j d g
  | inr g ↦ let same : j ≡ steps = omega (arith, h, g) in rw same (more d)
]

module _ (slots : List Slot) (free : ℕ) (slot : Slot) (inside : free < length slots) where
  wide : length (slice_set slots free slot) ≡ length slots
  wide = length-set slots free slot

  -- a way over slots in use stays one where a free slot is taken
  used_set : (mark steps : ℕ) → 0 < row_in slot → IsUsed slots mark steps → IsUsed (slice_set slots free slot) mark steps
  used_set mark steps some used j d h = rw wide (elim (reads_set slots free slot inside (way mark (length slots) j) d) [
    | inl e ↦ rw e.1 some
    | inr e ↦ rw e.1 (used j d h)
  ])

  -- a way that leads to a row doesn't meet the free slot
  led_set : (mark place : ℕ) → ((d : Slot) → row_in (slice_index_or slots free d) ≡ 0) → 0 < row_in slot → LeadsTo slots mark place → LeadsTo (slice_set slots free slot) mark place
  led_set mark place empty some is = record {
    steps = is.steps;
    within = omega (arith, wide, is.within);
    used = used_set mark is.steps some is.used;
    there = λ d. rw wide (elim (reads_set slots free slot inside (way mark (length slots) is.steps) d) [
      | inl e ↦ absurd (omega (arith, is.there d, ap (λ s. row_in (slice_index_or slots s d)) e.0, empty d))
      | inr e ↦ rw e.1 (is.there d)
    ]);
  }

-- a free slot that is taken for a row leads to it
led_taken : (slots : List Slot) (mark place free : ℕ) (slot : Slot) → IsFreeFor slots mark free → row_in slot ≡ place + 1 → LeadsTo (slice_set slots free slot) mark place
led_taken slots mark place free slot found is = record {
  steps = found.steps;
  within = omega (arith, wide slots free slot found.inside, found.within);
  used = used_set slots free slot found.inside mark found.steps (omega (arith, is)) found.used;
  there = λ d. rw (wide slots free slot found.inside, found.there) (ap (λ (x : Slot). row_in x) (get_or-set_same slots free slot d found.inside) ∙ is);
}

-- one row more, where a free slot of its mark is taken for it
pub finds_next : (rows : List (List ℕ)) (n : ℕ) (slots : List Slot) (mark free : ℕ) (slot : Slot) → FindsRows rows n slots → IsFreeFor slots mark free → mark ≡ mark_of (get_or rows n [])
    → row_in slot ≡ n + 1 → tag_in slot ≡ tag_of mark → FindsRows rows (n + 1) (slice_set slots free slot)
finds_next rows n slots mark free slot finds found own row tag =
    let there = found.inside in
    let long = wide slots free slot there in
    let some : 0 < row_in slot = omega (arith, row) in
    record {
      some = omega (arith, there, long);
      within = λ s d h. elim (reads_set slots free slot there s d) [
        | inl e ↦ omega (arith, ap (λ (x : Slot). row_in x) e.1, row)
        | inr e ↦ omega (arith, ap (λ (x : Slot). row_in x) e.1, finds.within s d (omega (arith, h, long)))
      ];
      tagged = λ s i d h at. elim (reads_set slots free slot there s d) [
        | inl e ↦
            let same : n ≡ i = omega (arith, ap (λ (x : Slot). row_in x) e.1, row, at) in
            ap (λ (x : Slot). tag_in x) e.1 ∙ tag ∙ ap tag_of (own ∙ ap (λ k. mark_of (get_or rows k [])) same)
        | inr e ↦ ap (λ (x : Slot). tag_in x) e.1 ∙ finds.tagged s i d (omega (arith, h, long)) (ap (λ (x : Slot). row_in x) (sym e.1) ∙ at)
      ];
      led = λ i h. elim (cases_lt i n) [
        | inl g ↦ led_set slots free slot there (mark_of (get_or rows i [])) i found.free some (finds.led i g)
        | inr g ↦
            let same : i ≡ n = omega (arith, h, g) in
            rw (same, sym own) (led_taken slots mark n free slot found row)
      ];
    }

-- a new row, to which a free slot of its mark leads
pub finds_added : (rows new : List (List ℕ)) (kids : List ℕ) (slots : List Slot) (mark free : ℕ) (slot : Slot) → FindsRows rows (length rows) slots → IsFreeFor slots mark free → mark ≡ mark_of kids
    → new ≡ rows ++ kids ∷ [] → row_in slot ≡ length new → tag_in slot ≡ tag_of mark → FindsRows new (length new) (slice_set slots free slot)
finds_added rows new kids slots mark free slot finds found own added row tag =
    let all = rows ++ kids ∷ [] in
    let long : length new ≡ length rows + 1 = ap length added ∙ length_push rows kids in
    let mine : mark ≡ mark_of (get_or all (length rows) []) = own ∙ ap mark_of (sym (get_or_push rows kids [] (length rows) refl)) in
    rw (long, added) (finds_next all (length rows) slots mark free slot (finds_more rows kids slots finds) found mine (row ∙ long) tag)

-- the count of rows is that of their quadrants
pub finds_kids : (rows : List Row) (slots : List Slot) → FindsRows (kids_of rows) (length rows) slots → FindsRows (kids_of rows) (length (kids_of rows)) slots
finds_kids rows slots is = subst (λ n. FindsRows (kids_of rows) n slots) (sym (length-map rows kids_in)) is

pub finds_row : (rows new : List Row) (row : Row) (slots : List Slot) (mark free : ℕ) (slot : Slot) → FindsRows (kids_of rows) (length rows) slots → IsFreeFor slots mark free → mark ≡ mark_of (kids_in row)
    → new ≡ rows ++ row ∷ [] → row_in slot ≡ length new → tag_in slot ≡ tag_of mark → FindsRows (kids_of new) (length new) (slice_set slots free slot)
finds_row rows new row slots mark free slot finds found own added place tag =
    subst (λ n. FindsRows (kids_of new) n (slice_set slots free slot)) (length-map new kids_in)
    (finds_added (kids_of rows) (kids_of new) (kids_in row) slots mark free slot (finds_kids rows slots finds) found own
    (ap kids_of added ∙ map_push kids_in rows row) (place ∙ sym (length-map new kids_in)) tag)

-- so many slots of a way are in use, and lead to no row of these quadrants
pub record HasPassed (rows : List (List ℕ)) (slots : List Slot) (kids : List ℕ) (mark steps : ℕ) : Type 0 where
  pub used : IsUsed slots mark steps
  pub other : (j i : ℕ) (d : Slot) → j < steps → row_in (slice_index_or slots (way mark (length slots) j) d) ≡ i + 1 → get_or rows i [] ≡ kids → ⊥

-- none is passed at first
pub passed_none : (rows : List (List ℕ)) (slots : List Slot) (kids : List ℕ) (mark : ℕ) → HasPassed rows slots kids mark 0
passed_none rows slots kids mark = record {
  used = λ j d h. absurd (omega (arith, h));
  other = λ j i d h at is. omega (arith, h);
}

-- one slot more
pub passes : (rows : List (List ℕ)) (slots : List Slot) (kids : List ℕ) (mark steps : ℕ) (e : Slot) → FindsRows rows (length rows) slots → mark ≡ mark_of kids → HasPassed rows slots kids mark steps
    → ((d : Slot) → slice_index_or slots (way mark (length slots) steps) d ≡ e) → 0 < row_in e → (tag_in e ≡ tag_of mark → get_or rows (row_in e - 1) [] ≡ kids → ⊥)
    → HasPassed rows slots kids mark (steps + 1)
passes rows slots kids mark steps e finds own before read used other = record {
  used = used_next slots mark steps before.used (λ d. rw (read d) used);
  other = λ j i d h at is. elim (cases_lt j steps) [
    | inl g ↦ before.other j i d g at is
    | inr g ↦
        let same : j ≡ steps = omega (arith, h, g) in
        let row : row_in e ≡ i + 1 = ap (λ (x : Slot). row_in x) (sym (read d)) ∙ ap (λ k. row_in (slice_index_or slots (way mark (length slots) k) d)) (sym same) ∙ at in
        let its : tag_in e ≡ tag_of mark = ap (λ (x : Slot). tag_in x) (sym (read d))
        ∙ finds.tagged (way mark (length slots) steps) i d (way_inside mark (length slots) steps finds.some) (ap (λ (x : Slot). row_in x) (read d) ∙ row) ∙ ap tag_of (ap mark_of is ∙ sym own) in
        other its (ap (λ k. get_or rows k []) (omega (arith, row)) ∙ is)
  ];
}

-- at the end of a way, which is a free slot or as long as there are slots, no row has these quadrants
pub lacks_passed : (rows : List (List ℕ)) (slots : List Slot) (kids : List ℕ) (mark steps : ℕ) (d : Slot) → FindsRows rows (length rows) slots → mark ≡ mark_of kids → HasPassed rows slots kids mark steps
    → (steps ≡ length slots) ⊎ (row_in (slice_index_or slots (way mark (length slots) steps) d) ≡ 0) → Lacks rows kids
lacks_passed rows slots kids mark steps d finds own passed ends i h is =
    let led : LeadsTo slots mark i = subst (λ m. LeadsTo slots m i) (ap mark_of is ∙ sym own) (finds.led i h) in
    elim (cases_lt led.steps steps) [
      | inl g ↦ passed.other led.steps i d g (led.there d) is
      | inr g ↦ elim ends [
        | inl all ↦ omega (arith, led.within, all, g)
        | inr free ↦ elim (cases_eq led.steps steps) [
          | inl e ↦ omega (arith, led.there d, ap (λ k. row_in (slice_index_or slots (way mark (length slots) k) d)) e, free)
          | inr f ↦ omega (arith, led.used steps d (omega (arith, g, f)), free)
        ]
      ]
    ]
