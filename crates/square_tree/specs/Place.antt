-- Places of the plane.
use Rattle.std.specs.Prelude.{Bool, ℤ}
use Rattle.std.specs.declared.cmp.Ordering.{Ordering}
use Rattle.std.specs.Ordering.{int_cmp, ordering_then, eq_by_cmp}

-- the place of a cell: y, and then x
abbrev pub Place : Type 0
Place = ℤ × ℤ

-- row by row, and in a row by x
abbrev pub place_cmp : Place → Place → Ordering
place_cmp p q = ordering_then (int_cmp p.0 q.0) (int_cmp p.1 q.1)

-- whether two places are one
abbrev pub same_place : Place → Place → Bool
same_place = eq_by_cmp place_cmp
