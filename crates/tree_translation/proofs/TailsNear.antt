-- Words of bits tell which states a tail lets be the input, and alike bits which it treats alike.
use Rattle.tree_translation.proofs.Names.{All, All-push, All-tail, AreNear, Layer, LeftOf, List, None, Option, Tail, TreatsAlike, [], allows, arith, asked_behind, bit_at, bit_at-zero, false, first_some, get_or, get_or_default, length, lets}
use Rattle.tree_translation.proofs.Names.{refl, sym, ℕ, ◌%◌, ◌*◌, ◌++◌, ◌+◌, ◌-◌, ◌/◌, ◌<◌, ◌==◌, ◌∙◌, ◌∷◌, ◌≡◌, ◌≤◌}
use Rattle.tree_translation.proofs.TailsLeft.{first_some-push}

-- what a tail lets the input be, by the tail and the set that are read
pub lets-read : (layer : Layer) (number : ℕ) (tail : Tail) (set : Option (List ℕ))
    → All (λ (t : Tail). t.set < length layer.sets.items) layer.tails.items → number < length layer.tails.items
    → tail ≡ get_or layer.tails.items number tail → set ≡ get_or layer.sets.items tail.set set
    → (state : ℕ) → allows set state ≡ lets layer number state
lets-read layer number tail set sets inside is there state =
    grind (
      arith,
      sets number tail inside,
      get_or_default layer.tails.items number tail (record { set = 0; rest = 0 }) inside,
      get_or_default layer.sets.items tail.set set None,
    )

-- a tail with no bit of a block lets none of its states be the input
pub lets-none : (layer : Layer) (number block state : ℕ) → ((bit : ℕ) → bit < 64 → (bit_at 0 bit == 1) ≡ lets layer number (64 * block + bit)) → state / 64 ≡ block → lets layer number state ≡ false
lets-none layer number block state bits same =
    let place : 64 * block + state % 64 ≡ state = omega (arith, same) in
    grind (arith, bits (state % 64), bit_at-zero (state % 64), place)

-- a tail with alike bits treats their states alike
pub alike-bits : (layer : Layer) (number state count word : ℕ) → ((bit : ℕ) → bit < 64 → (bit_at word bit == 1) ≡ lets layer number (64 * (state / 64) + bit)) → state % 64 + count ≤ 64
    → ((i : ℕ) → i < count → bit_at word (state % 64 + i) ≡ bit_at word (state % 64)) → TreatsAlike layer state count number
alike-bits layer number state count word bits room alike s low high =
    let place : 64 * (state / 64) + state % 64 ≡ state = omega arith in
    let there : 64 * (state / 64) + (state % 64 + (s - state)) ≡ s = omega (arith, low) in
    grind (arith, bits (state % 64 + (s - state)), bits (state % 64), alike (s - state), place, there)

-- what leaves a block of states alone may be left out
pub near-more : (layer : Layer) (block : ℕ) (list near : List ℕ) (number : ℕ) → number < length layer.tails.items → AreNear layer block list near → AreNear layer block (list ++ number ∷ []) (near ++ number ∷ [])
near-more layer block list near number inside are = record {
  inside = All-push (λ n. n < length layer.tails.items) near number are.inside inside;
  same = λ state f h. grind (arith, are.same state f h, first_some-push (asked_behind layer state f) list number, first_some-push (asked_behind layer state f) near number);
}

pub near-passed : (layer : Layer) (block : ℕ) (list near : List ℕ) (number : ℕ) → ((state : ℕ) → state / 64 ≡ block → lets layer number state ≡ false) → AreNear layer block list near → AreNear layer block (list ++ number ∷ []) near
near-passed layer block list near number none are = record {
  inside = are.inside;
  same = λ state f h. grind (arith, are.same state f h, none state h, first_some-push (asked_behind layer state f) list number);
}

-- tails that treat two states alike leave the same behind them
first_some-alike : (layer : Layer) (s state : ℕ) (f : ℕ → Option ℕ) (list : List ℕ) → All (λ n. lets layer n s ≡ lets layer n state) list → first_some (asked_behind layer s f) list ≡ first_some (asked_behind layer state f) list
first_some-alike layer s state f [] alike = refl
first_some-alike layer s state f (n ∷ list) alike =
    grind (arith, alike 0 0 (omega arith), first_some-alike layer s state f list (All-tail (λ n. lets layer n s ≡ lets layer n state) n list alike))

-- what the tails near a state leave behind it is left of the whole list, behind each state that they treat alike
pub LeftOf-alike : (layer : Layer) (state count s : ℕ) (list near left : List ℕ) → AreNear layer (state / 64) list near → All (TreatsAlike layer state count) near → state % 64 + count ≤ 64 → LeftOf layer state near left
    → state ≤ s → s < state + count → LeftOf layer s list left
LeftOf-alike layer state count s list near left are alike room is low high f =
    let block : s / 64 ≡ state / 64 = omega (arith, low, high, room) in
    is f ∙ sym (first_some-alike layer s state f near (λ k d l. alike k d l s low high)) ∙ are.same s f block
