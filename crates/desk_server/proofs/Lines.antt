-- The lines of `list`.
use Rattle.desk_server.proofs.Names.{BookState, Bookmark, List, Option, [], ap, append_assoc, arith, bookmark_line, branch_line, codes, decimal}
use Rattle.desk_server.proofs.Names.{flat_map, has_text, intervention_line, is_some, length, lines_of, listed_text, map, refl, row_line, shown_row}
use Rattle.desk_server.proofs.Names.{shown_rows, ℕ, ◌++◌, ◌∷◌, ◌≡◌}
use Rattle.std.specs.Option.{option_map}
use Rattle.schedule.specs.declared.acts.Acts.TheVariants.{Every, Once}
use Rattle.schedule.specs.declared.document.Intervention.{Intervention}
use Rattle.schedule.specs.declared.branch.Branch.{Branch}

-- a bookmark with its text, if it has one
pub row-line : {T : Type 0} (b : Bookmark) (text : T → List ℕ) (o : Option T)
    → row_line (b, option_map text o) ≡ bookmark_line b (is_some o)
row-line b text o = grind (arith)

-- all bookmarks
pub rows-lines : (d : BookState) (bs : List Bookmark)
    → flat_map row_line (map (shown_row d) bs) ≡ flat_map (λ (b : Bookmark). bookmark_line b (has_text d b.id)) bs
rows-lines d [] = refl
rows-lines d (b ∷ bs) = ap (λ rest. bookmark_line b (has_text d b.id) ++ rest) (rows-lines d bs)

-- all lines of a desk, and how many there are
abbrev pub lines_text : BookState → List Branch → List Intervention → ℕ → List ℕ
lines_text d branches interventions lines =
    flat_map branch_line branches
    ++ (flat_map intervention_line interventions
    ++ (flat_map row_line (shown_rows d) ++ (codes "listed " ++ (decimal lines ++ codes "\n"))))

pub all-lines : (d : BookState) (branches : List Branch) (interventions : List Intervention) (lines : ℕ)
    → branches ≡ d.plan.branches → interventions ≡ d.plan.interventions → lines ≡ lines_of d.plan
    → lines_text d branches interventions lines ≡ listed_text d.plan (has_text d)
all-lines d branches interventions lines e f h = grind (arith, rows-lines)

-- an intervention that acts once
pub once-line : (i : Intervention) (generation n : ℕ) → i.acts ≡ Once generation → n ≡ length i.cells
    → codes "intervention "
    ++ (decimal i.id
    ++ (codes " on "
    ++ (decimal i.branch
    ++ (codes " at " ++ (decimal generation ++ (codes " cells " ++ (decimal n ++ codes "\n")))))))
    ≡ intervention_line i
once-line i generation n acts count = grind (arith)

-- one that repeats
pub every-line : (i : Intervention) (first every last n : ℕ) → i.acts ≡ Every first every last → n ≡ length i.cells
    → codes "intervention "
    ++ (decimal i.id
    ++ (codes " on "
    ++ (decimal i.branch
    ++ (codes " every "
    ++ (decimal every
    ++ (codes " "
    ++ (decimal first ++ (codes " " ++ (decimal last ++ (codes " cells " ++ (decimal n ++ codes "\n")))))))))))
    ≡ intervention_line i
every-line i first every last n acts count = grind (arith, append_assoc)
