-- Needs that are one.
use Rattle.desk_events.proofs.Names.{Need, Step, View, and_parts, ap, ap₂, is_need, refl, true, ◌==◌, ◌≡◌}
use Rattle.desk_events.proofs.Shared.Tests.{true_eq, eq_true}

pub need_is : (a b : Need) → is_need a b ≡ true → a ≡ b
need_is (Step b m) (Step c n) h = let parts = and_parts (b == c) (m == n) h in
    ap₂ (λ x y. Step x y) (true_eq b c parts.0) (true_eq m n parts.1)
need_is (Step b m) (View id) h = absurd cc
need_is (View id) (Step b m) h = absurd cc
need_is (View id) (View other) h = ap (λ k. View k) (true_eq id other h)

pub need_same : (a : Need) → is_need a a ≡ true
need_same (Step b m) = rw (eq_true b b refl, eq_true m m refl) refl
need_same (View id) = eq_true id id refl
