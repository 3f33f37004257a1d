-- The generations at which repeating interventions act.
use Rattle.schedule.proofs.Names.{Acts, CellSet, Every, IsProgression, IsTimely, List, Once, [], acts_on, add-div_right, add-mod_right, and_parts, ap, append-nil, arith, cond, count_between, div-eq_of_lt, div-zero, false, filter, first_of}
use Rattle.schedule.proofs.Names.{generations_of, generations_to, if◌then◌else◌, length, list_any, map, marks_to, min, mod-add-div', mod-eq_of_lt, mod-zero, mul-mod_left, nat_le, nat_tests, refl, suc, sym, true, zero, zero-mod, ℕ, ◌%◌}
use Rattle.schedule.proofs.Names.{◌&&◌, ◌*◌, ◌+◌, ◌-◌, ◌/◌, ◌<◌, ◌==◌, ◌∙◌, ◌∷◌, ◌≡◌, ◌≤◌}
use Rattle.std.proofs.Math.Bool.{and_comm}
use Rattle.std.proofs.lemmas.Map.Views.{any-filter_same}
use Rattle.worlds.specs.Arrival as line
use Rattle.schedule.specs.Acts.{progression}

-- past the last there is none, and up to it one more than after the first
count-none : (first every most : ℕ) → most < first → count_between first every most ≡ 0
count-none first every most h = grind (arith, nat_tests)

count-next : (first every most : ℕ) → 0 < every → first ≤ most
    → count_between first every most ≡ suc (count_between (first + every) every most)
count-next first every most some h =
    let short : most < first + every → (most - first) / every ≡ 0 = λ k. div-eq_of_lt (omega (arith, k, h, some)) in
    let long : first + every ≤ most → (most - first) / every ≡ (most - (first + every)) / every + 1 =
    λ k. (let same : most - first ≡ (most - (first + every)) + every = omega (arith, k) in
    ap (λ n. n / every) same ∙ add-div_right (most - (first + every)) some) in
    grind (arith, nat_tests, short, long)

-- whether a generation is among those from the next on, where it isn't the first
acts-next : (first every last g : ℕ) → 0 < every → (first == g) ≡ false
    → acts_on (Every (first + every) every last) g ≡ acts_on (Every first every last) g
acts-next first every last g some apart =
    let far : first + every ≤ g → (g - (first + every)) % every ≡ (g - first) % every =
    λ k. (let same : g - first ≡ (g - (first + every)) + every = omega (arith, k) in
    sym (add-mod_right (g - (first + every)) every) ∙ ap (λ n. n % every) (sym same)) in
    let near : g < first + every → (g - first) % every ≡ g - first = λ k. mod-eq_of_lt (omega (arith, k, some)) in
    grind (arith, nat_tests, far, near)

acts-own : (first every last : ℕ) → first ≤ last → acts_on (Every first every last) first ≡ true
acts-own first every last h = grind (arith, nat_tests, zero-mod)

-- what holds of no generation past the last, and of one more before those that follow it, holds of a progression
walk : (every last : ℕ) (P : ℕ → List ℕ → Type 0) → 0 < every → ((first : ℕ) → last < first → P first [])
    → ((first : ℕ) (gs : List ℕ) → first ≤ last → P (first + every) gs → P first (first ∷ gs))
    → (n first : ℕ) → count_between first every last ≡ n → P first (progression first every n)
unfolding progression
walk every last P some none more zero first count = none first (grind (arith, nat_tests))
walk every last P some none more (suc n) first count =
    let low : first ≤ last = grind (arith, nat_tests) in
    let next = count-next first every last some low in
    more first (progression (first + every) every n) low
    (walk every last P some none more n (first + every) (omega (arith, next, count)))

-- the cells of a list of generations
abbrev told_at : List CellSet → ℕ → List ℕ → List CellSet
told_at cells g gs = line.cells_at (map (λ k. (k, cells)) gs) g

-- a repeating intervention's cells are told at a generation once, or not at all
pub generations-at : (acts : Acts) (cells : List CellSet) (g : ℕ) → IsTimely acts
    → told_at cells g (generations_of acts) ≡ (if acts_on acts g then cells else [])
generations-at (Once k) cells g timely = grind (arith, append-nil)
generations-at (Every first every last) cells g timely =
    walk every last (λ k gs. told_at cells g gs ≡ (if acts_on (Every k every last) g then cells else [])) timely.0
    (λ k past. grind (arith, nat_tests))
    (λ k gs low rest. grind (arith, nat_tests, acts-next, acts-own, append-nil)) _ first refl

-- it acts at each multiple above the first, and nowhere else
pub is_progression : (first every last : ℕ) → 0 < every → IsProgression first every last
is_progression first every last some = record {
  acts = λ i high.
      let back : (first + i * every) - first ≡ i * every = omega arith in
      let rest : ((first + i * every) - first) % every ≡ 0 = ap (λ n. n % every) back ∙ mul-mod_left i every in
      grind (arith, nat_tests);
  alone = λ g acts.
      let whole : (g - first) % every + (g - first) / every * every ≡ g - first = mod-add-div' (g - first) every in
      let parts : (first ≤ g) × (g ≤ last) × ((g - first) % every ≡ 0) = grind (arith, nat_tests, and_parts) in
      (parts.1, ((g - first) / every, omega (arith, parts.0, parts.2, whole)));
}

-- the generations of a progression up to a last one
abbrev pub between : ℕ → ℕ → ℕ → List ℕ
between first every last = progression first every (count_between first every last)

pub between-none : (first every last : ℕ) → last < first → between first every last ≡ []
unfolding progression
between-none first every last h = ap (progression first every) (count-none first every last h)

pub between-alone : (first last : ℕ) → first ≤ last → between first 0 last ≡ first ∷ []
unfolding progression
between-alone first last h =
    let one : count_between first 0 last ≡ 1 = grind (arith, nat_tests, div-zero) in ap (progression first 0) one

pub between-next : (first every last : ℕ) → 0 < every → first ≤ last
    → between first every last ≡ first ∷ between (first + every) every last
unfolding progression
between-next first every last some h = ap (progression first every) (count-next first every last some h)

length-progression : (n first every : ℕ) → length (progression first every n) ≡ n
unfolding progression
length-progression zero first every = refl
length-progression (suc n) first every = ap suc (length-progression n (first + every) every)

-- those up to another one are those up to the lesser of the two
pub between-up_to : (first every last far : ℕ)
    → filter (λ g. nat_le g far) (between first every last) ≡ between first every (min far last)
between-up_to first zero last far =
    grind (arith, nat_tests, between-none first 0, between-alone first)
between-up_to first (suc n) last far =
    walk (suc n) last (λ k gs. filter (λ g. nat_le g far) gs ≡ between k (suc n) (min far last)) (omega arith)
    (λ k past. sym (between-none k (suc n) (min far last) (omega (arith, past))))
    (λ k gs low rest.
    let next = between-next k (suc n) (min far last) (omega arith) in
    let none = between-none k (suc n) (min far last) in
    let past = between-none (k + suc n) (suc n) (min far last) in
    grind (arith, nat_tests, next, none, past)) _ first refl

-- marks are counted by a division
pub marks-counted : (first every last far : ℕ) → marks_to far (Every first every last)
    ≡ length (filter (λ g. nat_le g far) (generations_of (Every first every last)))
marks-counted first every last far =
    sym (ap (length {A = ℕ}) (between-up_to first every last far)
    ∙ length-progression (count_between first every (min far last)) first every)

-- the generations at which it acts are those of the list
any-generation : (acts : Acts) (g : ℕ) → list_any (λ k. k == g) (generations_of acts) ≡ acts_on acts g
any-generation (Once k) g = grind arith
any-generation (Every first zero last) g =
    grind (arith, nat_tests, between-none first 0 last, between-alone first last, mod-zero)
any-generation (Every first (suc n) last) g =
    walk (suc n) last (λ k gs. list_any (λ m. m == g) gs ≡ acts_on (Every k (suc n) last) g) (omega arith)
    (λ k past. grind (arith, nat_tests)) (λ k gs low rest. grind (arith, nat_tests, acts-next, acts-own)) _ first refl

-- and those of the list up to another one are those up to there
pub any-generations : (far : ℕ) (acts : Acts) (g : ℕ)
    → list_any (λ k. k == g) (generations_to far acts) ≡ (acts_on acts g && nat_le g far)
any-generations far acts g =
    any-filter_same (λ k. k == g) (λ k. nat_le k far) (nat_le g far)
    (λ k e. let same : k ≡ g = grind (arith, nat_tests) in ap (λ m. nat_le m far) same) (generations_of acts)
    ∙ ap (λ t. nat_le g far && t) (any-generation acts g) ∙ and_comm (nat_le g far) (acts_on acts g)

-- there are at most as many as the marks, and one where it acts once
pub few-generations : (far : ℕ) (acts : Acts) → length (generations_to far acts) ≤ 1 + marks_to far acts
few-generations far (Once k) =
    elim (nat_le k far) as (λ t. length (cond t (k ∷ []) []) ≤ 1 + 0) [ true ↦ omega arith | false ↦ omega arith ]
few-generations far (Every first every last) =
    let same = marks-counted first every last far in omega (arith, same)

-- it doesn't act before the first one
pub acts-from : (acts : Acts) (g : ℕ) → acts_on acts g ≡ true → first_of acts ≤ g
acts-from (Once k) g acts = let same : k ≡ g = grind (arith, nat_tests) in omega (arith, same)
acts-from (Every first every last) g acts =
    let low : nat_le first g ≡ true = (and_parts (nat_le first g) (nat_le g last && (g - first) % every == 0) acts).0 in
    grind (arith, nat_tests)
