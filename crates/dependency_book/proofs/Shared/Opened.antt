-- A book of the opening document.
use Rattle.dependency_book.proofs.Names.{Entries, IsHeldBook, IsKeptBook, Mark, Need, None, Step, View, [], arith, core_of, expected, false, is_mark, is_start, opened, opening, plain_row, refl, row_of, start, subst, sym, ℕ, ◌≡◌}
use Rattle.desk_events.specs.Core as core
use Rattle.desk_events.specs.Right.{IsRight as IsRightCore}
use Rattle.desk_events.proofs.Shared.Opened.{opened_right}
use Rattle.dependency_book.proofs.Passed.{passed_none}
use Rattle.dependency_book.proofs.Shared.Cores.{same_core}

-- no mark but the start is one of it
unmarked : (revision : ℕ) (m : Mark) → is_start m ≡ false → is_mark (opening revision) m ≡ false
unmarked revision m other = grind (arith, other)

pub opened_core : (table : Entries) (revision : ℕ) → core_of (opened table revision) ≡ core.opened revision
opened_core table revision =
    same_core (opening revision) (opening revision) [] []
    (λ need. plain_row (row_of (opened table revision) need))
    (core.opened_row revision) refl refl same
  where
    same : (need : Need) → plain_row (row_of (opened table revision) need) ≡ core.opened_row revision need
    same (Step branch mark) = grind arith
    same (View id) = refl

none_out : (table : Entries) (revision : ℕ) (need : Need) → expected (opened table revision) need ≡ None
none_out table revision (Step branch mark) = grind arith
none_out table revision (View id) = refl

pub opened_held : (table : Entries) (revision : ℕ) → IsHeldBook (opened table revision) []
opened_held table revision = record {
  places = refl;
  right = record {
    core = subst IsRightCore (sym (opened_core table revision)) (opened_right revision);
    marks = record {
      rise = tt;
      near = tt;
      above = tt;
      are = λ m other. sym (unmarked revision m other);
      few = omega arith;
    };
    bookmarks = refl;
    out = λ need job out. absurd (let none = none_out table revision need in cc);
  };
  marks_rise = tt;
  ids_rise = tt;
}

pub opened_kept : (table : Entries) (revision : ℕ) → IsKeptBook (opened table revision) [] start [] []
opened_kept table revision = record {
  held = opened_held table revision;
  passed = passed_none (opened table revision) [];
  own = tt;
  facts = λ s there. absurd cc;
}
