-- The arrivals of documents along the lines of their branches.
use Rattle.schedule.proofs.Names.{Acts, AllByRecursion, ArePlaced, AreSinglesOf, Branch, CellSet, IfSome, Intervention, IsAllowed, IsForked, IsOneLine, IsPlaced, IsSound, IsTimely, List, None, Once, Plan, SameElsewhere, Some, [], acts_on}
use Rattle.schedule.proofs.Names.{after, after_alone, ap, append_assoc, ap₂, arith, arrival, arrival_alone, arrive, arrive-past, arrive-zero, branch_id, cells_at, element_at, false, first_of, flat_map, fork_of, generations_of, has_branch}
use Rattle.schedule.proofs.Names.{history_of, if◌then◌else◌, is_felt, is_in_use, lay, map, name_of, nat_tests, next_branch, next_of, option_map_or, own_cells, parent_of, refl, setting, states_of, step, subst, suc, sym, told, true}
use Rattle.schedule.proofs.Names.{with_branch, without_branch, ℕ, ◌&&◌, ◌++◌, ◌+◌, ◌<◌, ◌==◌, ◌∙◌, ◌∷◌, ◌≡◌, ◌≤◌}
use Rattle.worlds.specs.Iterate.{iterate}
use Rattle.worlds.specs.Arrival as line
use Rattle.bookmarks.specs.Text.{text_of}
use Rattle.schedule.proofs.Shared.Acts.{generations-at}
use Rattle.std.proofs.lemmas.List.Concat.{flat_map-cons}
use Rattle.std.proofs.lemmas.Grind.{flat_map-append}
use Rattle.schedule.proofs.Shared.Branches.{fork_of-zero, forks_rise, unused, parents_before, parents_there, element_at-is, element_at-added, element_at-without}
use Rattle.schedule.proofs.Shared.Arrivals.{ParentsComeBefore, arrive-root, arrive-fork, arrive-undisturbed, arrive-alike, arrive-elsewhere, felt-above, felt-earlier, unfelt_cells}
use Rattle.schedule.proofs.Shared.Felt.{felt-back}
use Rattle.schedule.proofs.Shared.Ids.{all_unnamed}

before : (p : Plan) → IsSound p → ParentsComeBefore p.branches
before p sound = parents_before p.branches sound.branches_sound.forked

-- the start arrives at generation 0 of branch 0
pub arrival-start : (p : Plan) → arrival p 0 0 ≡ p.start
arrival-start p = arrive-root (history_of p) 0 0 ∙ arrive-zero (next_of p.rule) (cells_at p.interventions 0) p.start

-- at its fork a branch has what leaves its parent there
pub arrival-fork : (p : Plan) → IsSound p → (b : ℕ) → 0 < b
    → arrival p b (fork_of p.branches b) ≡ after p (parent_of p.branches b) (fork_of p.branches b)
arrival-fork p sound b above = arrive-fork (history_of p) (before p sound) b above

-- a generation more of a branch is a step
pub arrival-next : (p : Plan) (b g : ℕ) → fork_of p.branches b ≤ g
    → arrival p b (g + 1) ≡ step (next_of p.rule) (after p b g)
unfolding iterate
arrival-next p b g late =
    arrive-undisturbed (history_of p) b g 0 late (λ k low high. absurd (omega (arith, low, high)))

-- where nothing acts within a gap of a branch, its end is that many steps from its beginning
pub arrival-undisturbed : (p : Plan) (b g n : ℕ) → fork_of p.branches b ≤ g
    → ((k : ℕ) → g < k → k < g + suc n → cells_at p.interventions b k ≡ [])
    → arrival p b (g + suc n) ≡ iterate (suc n) (step (next_of p.rule)) (after p b g)
arrival-undisturbed p b g n late quiet = arrive-undisturbed (history_of p) b g n late quiet

-- what isn't felt changes no arrival
pub arrival-unfelt : (p : Plan) → IsSound p → (others : List Intervention) (c k : ℕ)
    → SameElsewhere p.interventions others c k → (b g : ℕ) → is_felt p.branches b b g c k ≡ false
    → arrival p b g ≡ arrival (record p { interventions = others }) b g
arrival-unfelt p sound others c k same b g unfelt =
    let forked = sound.branches_sound.forked in
    let parents = before p sound in
    let back : (m j : ℕ) → 0 < m → is_felt p.branches m m j c k ≡ false
    → is_felt p.branches (parent_of p.branches m) (parent_of p.branches m) (fork_of p.branches m + 1) c k ≡ false =
    λ m j some no.
    (let lesser = parents m some in
    let same = felt-back p.branches parents m j c k in
    let above = felt-above p.branches parents (parent_of p.branches m) (parent_of p.branches m) in
    grind (arith, nat_tests, same, above)) in
    arrive-alike (history_of p) (cells_at others) (λ m j. is_felt p.branches m m j c k ≡ false)
    (λ m j. is_felt p.branches m m (j + 1) c k ≡ false) parents
    (record {
      earlier = λ m j l low no. felt-earlier p.branches m m (l + 1) j c k (omega (arith, low)) no;
      fork = back;
      arrives = λ m j no. felt-earlier p.branches m m j (j + 1) c k (omega arith) no;
    })
    (fork_of-zero p.branches forked) (forks_rise p.branches forked)
    (λ m j _ no. ap (λ cs. lay cs (arrival p m j)) (same m j (unfelt_cells p.branches m m j c k no))) b b g (omega arith)
    unfelt

-- nor what leaves a generation, if it isn't felt at the next
pub after-unfelt : (p : Plan) → IsSound p → (others : List Intervention) (c k : ℕ)
    → SameElsewhere p.interventions others c k → (b g : ℕ) → is_felt p.branches b b (g + 1) c k ≡ false
    → after p b g ≡ after (record p { interventions = others }) b g
after-unfelt p sound others c k same b g unfelt =
    ap (λ cs. lay cs (arrival p b g)) (same b g (unfelt_cells p.branches b b g c k unfelt))
    ∙ ap (lay (cells_at others b g)) (arrival-unfelt p sound others c k same b g
    (felt-earlier p.branches b b g (g + 1) c k (omega arith) unfelt))

-- one branch more leaves what arrives in the others
pub arrival-added : (p : Plan) → IsSound p → (parent generation b g : ℕ) → has_branch p.branches b ≡ true
    → arrival p b g ≡ arrival (with_branch p parent generation).plan b g
arrival-added p sound parent generation b g there =
    let x = next_branch p parent generation in
    let branches = sound.branches_sound in
    arrive-elsewhere (history_of p) (p.branches ++ x ∷ []) (λ n. has_branch p.branches n ≡ true)
    (λ n _. parents_there p.branches branches.forked n)
    (λ n k. element_at-added p.branches x p.last_branch n branches.given (omega arith) k) b b g there

-- so does one that isn't in use, removed
pub arrival-removed : (p : Plan) → IsSound p → (n : ℕ) → is_in_use p n ≡ false → (b g : ℕ) → (b == n) ≡ false
    → arrival p b g ≡ arrival (without_branch p n).plan b g
arrival-removed p sound n free b g other =
    let none = unused p n free in
    let back : (m : ℕ) → (parent_of p.branches m == n) ≡ false = λ m.
    elim (element_at branch_id p.branches m)
    as (λ o. IfSome o (λ (x : Branch). (x.id ≡ m) × ((x.parent == n) ≡ false))
    → (option_map_or (λ (x : Branch). x.parent) o 0 == n) ≡ false)
    [ None ↦ λ _. (let k = none.beside in grind (arith, nat_tests)) | Some x ↦ λ k. k.1 ]
    (element_at-is branch_id (λ (x : Branch). (x.parent == n) ≡ false) p.branches m
    (all_unnamed (λ (x : Branch). x.parent) (IsForked p.branches) _ p.branches n (λ x apart _. apart) none.children
    sound.branches_sound.forked)) in
    arrive-elsewhere (history_of p) (without_branch p n).plan.branches (λ m. (m == n) ≡ false) (λ m _. back m)
    (λ m k. element_at-without p.branches n m k) b b g other

line-append : (es fs : List (ℕ × List CellSet)) (g : ℕ)
    → line.cells_at (es ++ fs) g ≡ line.cells_at es g ++ line.cells_at fs g
line-append [] fs g = refl
line-append (e ∷ es) fs g = grind (arith, append_assoc, line-append es fs g)

-- where there are no branches each intervention is one of branch 0
own-alone : (i : Intervention) (g : ℕ) → IsTimely i.acts → IsPlaced [] i.branch (first_of i.acts)
    → own_cells i 0 g ≡ line.cells_at (told i) g
own-alone i g timely placed = let own = generations-at i.acts i.cells g timely in grind (arith, own)

cells_alone : (n : ℕ) (is : List Intervention) (g : ℕ) → AllByRecursion (IsAllowed n) is → ArePlaced [] is
    → cells_at is 0 g ≡ line.cells_at (flat_map told is) g
cells_alone n [] g allowed placed = refl
cells_alone n (i ∷ is) g allowed placed =
    flat_map-cons (λ j. own_cells j 0 g) i is
    ∙ ap₂ (λ cs ds. cs ++ ds) (own-alone i g allowed.0.timely placed.0) (cells_alone n is g allowed.1 placed.1)
    ∙ sym (line-append (told i) (flat_map told is) g)
    ∙ ap (λ es. line.cells_at es g) (sym (flat_map-cons told i is))

arrival-alone : (p : Plan) → IsSound p → ArePlaced [] p.interventions → (g : ℕ) → arrival p 0 g ≡ arrival_alone p g
arrival-alone p sound placed g =
    arrive-root (history_of p) 0 g ∙ arrive-past (next_of p.rule) (cells_at p.interventions 0)
    (line.cells_at (flat_map told p.interventions)) p.start g
    (λ k _. cells_alone (states_of p.rule) p.interventions k sound.interventions_allowed placed)

after-alone : (p : Plan) → IsSound p → ArePlaced [] p.interventions → (g : ℕ) → after p 0 g ≡ after_alone p g
after-alone p sound placed g =
    ap (λ w. lay (cells_at p.interventions 0 g) w) (arrival-alone p sound placed g)
    ∙ ap (λ cs. lay cs (arrival_alone p g))
    (cells_alone (states_of p.rule) p.interventions g sound.interventions_allowed placed)

-- without branches there is one line of history alone
pub one_line : (p : Plan) → IsSound p → p.branches ≡ [] → IsOneLine p
one_line p sound none =
    let placed : ArePlaced [] p.interventions =
    subst (λ (bs : List Branch). ArePlaced bs p.interventions) none sound.branches_sound.interventions_placed in
    record {
      arrivals = arrival-alone p sound placed;
      patterns = after-alone p sound placed;
      texts = λ b zero.
          ap (λ w. text_of b.view w (name_of p.rule) (states_of p.rule) b.generation)
          (ap (λ n. after p n b.generation) zero ∙ after-alone p sound placed b.generation);
    }

-- an intervention's cells at a generation of a branch, by what it is said to set
abbrev laid : Acts × ℕ × List CellSet → ℕ → ℕ → List CellSet
laid s b g = if s.1 == b && acts_on s.0 g then s.2 else []

cells-laid : (is : List Intervention) (b g : ℕ) → cells_at is b g ≡ flat_map (λ s. laid s b g) (map setting is)
cells-laid [] b g = refl
cells-laid (i ∷ is) b g =
    flat_map-cons (λ j. own_cells j b g) i is ∙ ap (λ cs. own_cells i b g ++ cs) (cells-laid is b g)
    ∙ sym (flat_map-cons (λ s. laid s b g) (setting i) (map setting is))

-- of the generations of a list in turn
singles-laid : (n : ℕ) (cells : List CellSet) (gs : List ℕ) (b g : ℕ)
    → flat_map (λ s. laid s b g) (map (λ k. (Once k, n, cells)) gs)
    ≡ (if n == b then line.cells_at (map (λ k. (k, cells)) gs) g else [])
singles-laid n cells [] b g = grind arith
singles-laid n cells (k ∷ gs) b g =
    let first = flat_map-cons (λ s. laid s b g) (Once k, n, cells) (map (λ k. (Once k, n, cells)) gs) in
    grind (arith, first, singles-laid n cells gs b g)

own-singles : (i : Intervention) (singles : List Intervention) (b g : ℕ) → IsTimely i.acts → AreSinglesOf i singles
    → own_cells i b g ≡ cells_at singles b g
own-singles i singles b g timely are =
    let all = cells-laid singles b g ∙ ap (λ ss. flat_map (λ s. laid s b g) ss) are
    ∙ singles-laid i.branch i.cells (generations_of i.acts) b g in
    let own = generations-at i.acts i.cells g timely in
    grind (arith, all, own)

-- one that repeats lays what single ones in its place lay
pub cells-singles : (lesser : List Intervention) (i : Intervention) (greater singles : List Intervention)
    → IsTimely i.acts → AreSinglesOf i singles → (b g : ℕ)
    → cells_at (lesser ++ i ∷ greater) b g ≡ cells_at (lesser ++ (singles ++ greater)) b g
cells-singles lesser i greater singles timely are b g =
    let own = λ (j : Intervention). own_cells j b g in
    flat_map-append own lesser (i ∷ greater)
    ∙ ap (λ cs. cells_at lesser b g ++ cs) (flat_map-cons own i greater
    ∙ ap (λ cs. cs ++ cells_at greater b g) (own-singles i singles b g timely are)
    ∙ sym (flat_map-append own singles greater))
    ∙ sym (flat_map-append own lesser (singles ++ greater))

-- and the same arrives
pub arrival-singles : (p : Plan) (others : List Intervention)
    → ((b g : ℕ) → cells_at p.interventions b g ≡ cells_at others b g) → (b g : ℕ)
    → arrival p b g ≡ arrival (record p { interventions = others }) b g
arrival-singles p others same b g =
    ap (λ (cells : ℕ → ℕ → List CellSet). arrive (record (history_of p) { cells = cells }) b b g)
    (λ i m n. same m n i)
