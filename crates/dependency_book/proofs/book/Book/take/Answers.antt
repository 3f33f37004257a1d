use Rattle.dependency_book.proofs.Names.{MatchOption, None, Option, Some, TakesAnswer, false, refl, result_in, subst, sym, true, ◌≡◌}
use Rattle.dependency_book.proofs.Working.{IsAwaited, answer_takes, elsewhere, may_stand, none_numbered, none_takes}
use Rattle.dependency_book.proofs.book.Book.take.Goals as goal
use Rattle.dependency_book.proofs.book.Book.take.Goals.{in_default-2, in_default}

match_none : {T : Type 0} (A : Type 0) (P : T → Type 0) (o : Option T) → MatchOption o A P → o ≡ None → A
match_none A P None h is = h
match_none A P (Some x) h is = absurd cc

not_true : false ≡ true → ⊥
not_true h = cc

pub fill_row-requires : goal.fill_row-requires
fill_row-requires c =
    let h : IsAwaited c.args.self.now c.in-Some.need c.in-Some.place.now (result_in c.args.parts) =
    assumption (
      c.expecting.ensures.right,
      c.in-Some.ensures.row,
      c.if-same.ensures.index.0 refl,
      c.if-same.ensures.entry refl,
      c.requires.right,
    ) in
    may_stand h

pub returns-in-Some-clause-takes : goal.returns-in-Some-clause-takes
returns-in-Some-clause-takes c =
    let e = c.fill_row.new.self in
    let h : IsAwaited c.args.self.now c.in-Some.need c.in-Some.place.now (result_in c.args.parts) =
    assumption (
      c.expecting.ensures.right,
      c.in-Some.ensures.row,
      c.if-same.ensures.index.0 refl,
      c.if-same.ensures.entry refl,
      c.requires.right,
    ) in
    subst (TakesAnswer (result_in c.args.parts) c.args.self.now e) (sym c.fill_row.ensures.filled)
    (answer_takes h e c.fill_row.ensures.row)

-- no row expects the job
pub returns-clause-takes : goal.returns-clause-takes
returns-clause-takes c =
    let d = c.args.self.now in
    let job = c.args.parts.job in
    let takes = TakesAnswer (result_in c.args.parts) d d in
    elim c.match-expecting.branch [
      | in_default-2 w ↦
          subst takes (sym w.result-is)
          (none_takes d (elsewhere w.in-Some.need job c.expecting.ensures.right w.in-Some.ensures.row
          (λ is. not_true (w.if-same.ensures.index.1 is))))
      | in_default w ↦
          subst takes (sym w.result-is)
          (none_takes d (none_numbered d job
          (match_none _ _ c.expecting.result c.expecting.ensures.row w.in_default.is)))
    ]
