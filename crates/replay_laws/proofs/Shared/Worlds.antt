-- The rule and the start of a document aren't refused.
use Rattle.replay_laws.proofs.Names.{IsSound, Lead, None, Place, Plan, ReplaceRule, ReplaceStart, World, [], all_pass, ap, arith, bare, blank, cell, entries-blank, is_named, lies_below, lies_near, list_all, map, nat_lt, nat_tests}
use Rattle.replay_laws.proofs.Names.{neg_ℤ, opening, pos, refl, refusal, states_of, true, ℕ, ℤ, ◌&&◌, ◌+ℤ◌, ◌+◌, ◌-ℤ◌, ◌<ℤ◌, ◌<◌, ◌^◌, ◌∙◌, ◌∷◌, ◌≡◌, ◌≤ℤ◌}
use Rattle.std.proofs.lemmas.Int.{ints}
use Rattle.worlds.specs.Live.{as_live, live, live-entries, live-states}
use Rattle.worlds.specs.Range.{AllBelow, HasMargin, IsInside}

pub named : (x y : ℤ) → IsInside (2 ^ 60) x y → (is_named x && is_named y) ≡ true
named x y h = grind (arith, named_one x h.left h.right, named_one y h.top h.bottom)
  where
    named_one : (z : ℤ) → neg_ℤ (pos (2 ^ 61)) ≤ℤ (z -ℤ pos (2 ^ 60)) → (z +ℤ pos (2 ^ 60)) <ℤ pos (2 ^ 61)
        → is_named z ≡ true
    named_one z h k = grind (arith, ints)

-- the rule has states
pub some_states : (p : Plan) → IsSound p → 0 < states_of p.rule
some_states p sound = let h = sound.start_below (pos 0) (pos 0) in omega (arith, h)

lies_near-margin : (w : World) → HasMargin (2 ^ 60) w → lies_near w ≡ true
lies_near-margin w inside =
    all_pass (λ (e : Place × ℕ). is_named e.0.1 && is_named e.0.0)
    (λ (e : Place × ℕ). (cell w e.0.1 e.0.0 ≡ e.1) × (0 < e.1)) (live w)
    (λ e h. named e.0.1 e.0.0 (inside e.0.1 e.0.0 (rw h.0 h.1))) (live-states w)

lies_below-all : (n : ℕ) (w : World) → AllBelow n w → lies_below n w ≡ true
lies_below-all n w below =
    all_pass (λ (e : Place × ℕ). nat_lt e.1 n) _ (live w)
    (λ e h. let low = below e.0.1 e.0.0 in grind (arith, nat_tests, h.0, low)) (live-states w)

-- nothing is live in the blank world, so every rule fits it
none_live : live blank ≡ []
none_live = live-entries blank ∙ ap (map as_live) entries-blank

blank_below : (n : ℕ) → lies_below n blank ≡ true
blank_below n = ap (list_all (λ (e : Place × ℕ). nat_lt e.1 n)) none_live

-- from an opening document to one with this rule
pub rule_leads : (p : Plan) (k : ℕ) → k + 1 < 2 ^ 64
    → Lead (ReplaceRule p.rule ∷ []) (opening k) (record (opening (k + 1)) { rule = p.rule })
rule_leads p k left =
    let fits = blank_below (states_of p.rule) in
    let free : refusal (opening k) (ReplaceRule p.rule) ≡ None = grind (arith, nat_tests, fits) in (free, refl)

-- and from there to the one with the start too
pub start_leads : (p : Plan) → IsSound p → (k : ℕ) → k + 1 < 2 ^ 64
    → Lead (ReplaceStart p.start ∷ []) (record (opening k) { rule = p.rule }) (bare (k + 1) p)
start_leads p sound k left =
    let near = lies_near-margin p.start sound.start_inside in
    let below = lies_below-all (states_of p.rule) p.start sound.start_below in
    let ruled : Plan = record (opening k) { rule = p.rule } in
    let free : refusal ruled (ReplaceStart p.start) ≡ None = grind (arith, nat_tests, near, below) in (free, refl)
