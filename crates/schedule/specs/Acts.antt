-- When interventions act.
use Rattle.std.specs.Prelude.{ℕ, zero, suc, ◌+◌, ◌-◌, ◌/◌, ◌%◌, ◌^◌, ◌<◌, ◌≤◌, nat_le, nat_lt, min, Bool, true, false, ◌&&◌, ◌==◌, List, [], ◌∷◌, filter, if◌then◌else◌}
use Rattle.schedule.specs.declared.acts.Acts.{Acts}
use Rattle.schedule.specs.declared.acts.Acts.TheVariants.{Once, Every}

-- whether it repeats
abbrev pub repeats : Acts → Bool
repeats (Once generation) = false
repeats (Every first every last) = true

-- the first generation at which it acts
abbrev pub first_of : Acts → ℕ
first_of (Once generation) = generation
first_of (Every first every last) = first

-- a generation beyond which it doesn't act
abbrev pub last_of : Acts → ℕ
last_of (Once generation) = generation
last_of (Every first every last) = last

-- whether it acts at a generation: the one that is named, or a multiple of `every` above the first,
-- up to the last
abbrev pub acts_on : Acts → ℕ → Bool
acts_on (Once generation) g = generation == g
acts_on (Every first every last) g =
    nat_le first g && (nat_le g last && (g - first) % every == 0)

-- how many numbers from `first` up to `most` are a multiple of `every` above `first`
abbrev pub count_between : ℕ → ℕ → ℕ → ℕ
count_between first every most =
    if nat_lt most first then 0 else (most - first) / every + 1

-- how many marks it makes in a branch that reaches as far as `far`: as many as there are
-- generations up to there at which it acts, if it repeats; one that acts once counts nothing
abbrev pub marks_to : ℕ → Acts → ℕ
marks_to far (Once generation) = 0
marks_to far (Every first every last) = count_between first every (min far last)

-- n generations, the first one and each `every` after the one before
unfoldable pub progression : ℕ → ℕ → ℕ → List ℕ
progression first every zero = []
progression first every (suc n) = first ∷ progression (first + every) every n

-- all generations at which it acts, rising
abbrev pub generations_of : Acts → List ℕ
generations_of (Once generation) = generation ∷ []
generations_of (Every first every last) = progression first every (count_between first every last)

-- those up to `far`
abbrev pub generations_to : ℕ → Acts → List ℕ
generations_to far acts = filter (λ g. nat_le g far) (generations_of acts)

-- when an intervention may act: not beyond 2^60, and if it repeats, by a distance of 1 at least
-- from a first generation to a last one that isn't below it
abbrev pub IsTimely : Acts → Type 0
IsTimely (Once generation) = generation ≤ 2 ^ 60
IsTimely (Every first every last) = (0 < every) × (first ≤ last) × (last ≤ 2 ^ 60)
