-- A desk that was just opened is right.
use Rattle.desk_events.proofs.Names.{IsRight, IsSound-opening, Need, Stands, Step, View, [], arith, awaits, blank, nat_tests, opened, opened_row, opening, refl, still, ℕ, ◌≡◌}
use Rattle.desk_events.proofs.Shared.Start.{start_wanted}

opened_stands : (revision : ℕ) (need : Need) → Stands [] (opening revision) need (opened_row revision need)
opened_stands revision (Step branch mark) = let start = start_wanted (opening revision) in grind (arith, nat_tests)
opened_stands revision (View id) = tt

pub opened_none : (revision : ℕ) (need : Need) (n : ℕ) → opened_row revision need ≡ awaits n → ⊥
opened_none revision (Step branch mark) n out = grind arith
opened_none revision (View id) n out = cc

pub opened_right : (revision : ℕ) → IsRight (opened revision)
opened_right revision = record {
  sound = IsSound-opening still blank [] [] [] revision refl refl refl refl refl;
  stands = opened_stands revision;
  once = λ a b n here there. absurd (opened_none revision a n here);
  few = omega arith;
}
