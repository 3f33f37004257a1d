-- A tally counts what is counted with the reach of each branch anew.
use Rattle.schedule.proofs.Names.{Acts, Intervention, List, [], ap, arith, capped_sum, fold, nat_tests, refl, ℕ, ◌∙◌, ◌∷◌, ◌≡◌}
use Rattle.schedule.specs.declared.repeats.Tally.{Tally}
use Rattle.schedule.specs.Tally.{tallied, tally_of}

-- after one intervention more the sum is right, and the reach is that of the branch at hand
tally-step : (reaches : ℕ → ℕ) (t : Tally) (b : ℕ) (acts : Acts) → t.reach ≡ reaches t.branch
    → ((tallied reaches t b acts).marks ≡ capped_sum t.marks (reaches b) acts)
    × ((tallied reaches t b acts).reach ≡ reaches (tallied reaches t b acts).branch)
tally-step reaches t b acts known = grind (arith, nat_tests)

tally-from : (reaches : ℕ → ℕ) (acts : Intervention → Acts) (t : Tally) (is : List Intervention)
    → t.reach ≡ reaches t.branch
    → (fold (λ u (i : Intervention). tallied reaches u i.branch (acts i)) t is).marks
    ≡ fold (λ sum (i : Intervention). capped_sum sum (reaches i.branch) (acts i)) t.marks is
tally-from reaches acts t [] known = refl
tally-from reaches acts t (i ∷ is) known =
    let step = tally-step reaches t i.branch (acts i) known in
    tally-from reaches acts (tallied reaches t i.branch (acts i)) is step.1
    ∙ ap (λ sum. fold (λ m (j : Intervention). capped_sum m (reaches j.branch) (acts j)) sum is) step.0

pub tally-marks : (reaches : ℕ → ℕ) (b : ℕ) (acts : Intervention → Acts) (is : List Intervention)
    → (tally_of reaches b acts is).marks
    ≡ fold (λ sum (i : Intervention). capped_sum sum (reaches i.branch) (acts i)) 0 is
tally-marks reaches b acts is =
    tally-from reaches acts (record { marks = 0; branch = b; reach = reaches b }) is refl
