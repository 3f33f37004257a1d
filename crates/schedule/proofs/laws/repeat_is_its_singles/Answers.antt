use Rattle.schedule.proofs.Names.{Intervention, List, ap, cells_at, ℕ, ◌++◌, ◌∙◌, ◌≡◌}
use Rattle.schedule.proofs.Shared.Lines.{cells-singles, arrival-singles}
use Rattle.schedule.proofs.laws.repeat_is_its_singles.Goals as goal

pub returns : goal.returns
returns c p lesser i greater singles is timely are b g =
    let others = lesser ++ (singles ++ greater) in
    let same : (m n : ℕ) → cells_at p.interventions m n ≡ cells_at others m n =
    λ m n. ap (λ (js : List Intervention). cells_at js m n) is
    ∙ cells-singles lesser i greater singles timely are m n in
    (same b g, arrival-singles p others same b g)
