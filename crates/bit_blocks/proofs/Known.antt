-- What is kept of a rule's answers: that it stays right, and how much of it isn't known.
use Rattle.std.proofs.Common.{◌≡◌, ◌≢◌, ℕ, ◌+◌, ◌<◌, ◌≤◌, ◌==◌, cond, List, Option, None, Some, get_or, set, length, replicate, sym, ap, ap₂, ◌∙◌, subst, inl, inr, arith}
use Rattle.std.specs.Prelude.{IfNone}
use Rattle.std.proofs.lemmas.Bool.{cases_lt, cases_eq}
use Rattle.std.proofs.lemmas.List.{get_or-set_same, get_or-set_other, get_or-replicate, get_or_default, get_or_past, length-replicate}
use Rattle.std.proofs.lemmas.List.Sums.{sum_by-set}
use Rattle.std.proofs.lemmas.List.Folds.{sum_by-replicate}
use Rattle.worlds.specs.Step.{AreNineBelow}
use Rattle.hash_life_laws.specs.Result.{later, result}
use Rattle.hash_life_laws.specs.Puts.{IsBelow}
use Rattle.hash_life_laws.proofs.Shared.Below.{IsBelow-result}
use Rattle.bit_blocks.specs.Numbers.{block_of}
use Rattle.bit_blocks.specs.Answers.{answer_at, IsAnswer, AreRight, IsUnknown, KeepsRule, Keeps, unknown_count}
use Rattle.bit_blocks.specs.declared.answers.TheConstants.{UNKNOWN}
use Rattle.bit_blocks.proofs.Bits.{block_below}

-- one more answer is kept
pub right_with : (next : List ℕ → ℕ) (known : List ℕ) (block answer : ℕ) → block < length known → AreRight next known → IsAnswer answer (later next (block_of block)) → AreRight next (set known block answer)
right_with next known block answer there right is = record {
  each = λ other.
      elim (cases_eq other block) [
        | inl same ↦
            let P : ℕ → Type 0 = λ b. IsAnswer (answer_at (set known block answer) b) (later next (block_of b)) in
            let Q : ℕ → Type 0 = λ a. IsAnswer a (later next (block_of block)) in
            subst P (sym same) (subst Q (sym (get_or-set_same known block answer UNKNOWN there)) is)
        | inr apart ↦
            let Q : ℕ → Type 0 = λ a. IsAnswer a (later next (block_of other)) in
            subst Q (sym (get_or-set_other known block other answer UNKNOWN apart)) (right.each other)
      ];
}

-- and one less isn't known
pub one_less : (known : List ℕ) (block answer : ℕ) → block < length known → answer_at known block ≡ UNKNOWN → answer ≢ UNKNOWN → unknown_count (set known block answer) + 1 ≡ unknown_count known
unfolding unknown_count
one_less known block answer there was is =
    let counted = sum_by-set (λ a. cond (a == UNKNOWN) 1 0) known block answer UNKNOWN there in
    grind (arith, counted, was, is)

-- a list of what isn't known
all_unknown : (n block : ℕ) → answer_at (replicate n UNKNOWN) block ≡ UNKNOWN
all_unknown n block =
    elim (cases_lt block n) [
      | inl there ↦ get_or-replicate n block UNKNOWN UNKNOWN there
      | inr past ↦ get_or_past (replicate n UNKNOWN) block UNKNOWN (omega (arith, length-replicate n UNKNOWN))
    ]

unknown_count-replicate : (n : ℕ) → unknown_count (replicate n UNKNOWN) ≡ n
unfolding unknown_count
unknown_count-replicate n = sum_by-replicate (λ a. cond (a == UNKNOWN) 1 0) n UNKNOWN ∙ omega arith

pub is_unknown : (n : ℕ) (known : List ℕ) → known ≡ replicate n UNKNOWN → IsUnknown n known
is_unknown n known is =
    subst (IsUnknown n) (sym is) (record { count = length-replicate n UNKNOWN; each = all_unknown n; unknown = unknown_count-replicate n })

-- what was read of the list
pub read : (known list : List ℕ) (block place kept : ℕ) → list ≡ known → place ≡ block → length list ≡ 65536 → block < 65536 → kept ≡ get_or list place kept → kept ≡ answer_at known block
read known list block place kept same here long below is =
    is ∙ get_or_default list place kept UNKNOWN (omega arith) ∙ ap₂ answer_at same here

-- a rule that has an answer beyond the state 1 has more than two states
pub more_states : (count : ℕ) (next : List ℕ → ℕ) → ((states : List ℕ) → AreNineBelow count states → next states < count) → 2 ≤ count →
    (block answer : ℕ) → IsAnswer answer (later next (block_of block)) → 16 ≤ answer → answer ≢ UNKNOWN → 2 < count
unfolding result
more_states count next keeps two block answer is high known =
    elim (cases_lt 2 count) [
      | inl more ↦ more
      | inr few ↦
          let same : count ≡ 2 = omega arith in
          let below = IsBelow-result count next keeps (omega arith) 0 1 (block_of block) (block_below count block two) in
          absurd (is.beyond high known (subst (λ c. IsBelow c (later next (block_of block))) same below))
    ]

module _ {R : Type 0} (meaning : R → List ℕ → ℕ) (state_count asked : R → ℕ) where
  -- once more
  pub keeps_then : (r s t : R) (k l m : List ℕ) → Keeps meaning state_count asked r s k l → Keeps meaning state_count asked s t l m → Keeps meaning state_count asked r t k m
  keeps_then r s t k l m first then = record {
    rule = record { meaning = then.rule.meaning ∙ first.rule.meaning; states = then.rule.states ∙ first.rule.states };
    right = subst (λ (next : List ℕ → ℕ). AreRight next m) first.rule.meaning then.right;
    asks = then.asks ∙ first.asks;
  }

  -- a block is put to the rule, and its answer is kept
  pub keeps_one : (old new : R) (known list : List ℕ) (block place answer : ℕ) → list ≡ known → place ≡ block → length list ≡ 65536 → block < 65536 →
      AreRight (meaning old) known → answer_at known block ≡ UNKNOWN → IsAnswer answer (later (meaning old) (block_of block)) → answer ≢ UNKNOWN →
      KeepsRule meaning state_count old new → asked new ≡ asked old + 4 → Keeps meaning state_count asked old new known (set list place answer)
  keeps_one old new known list block place answer same here long below right was is known_now rule asks =
      let there : block < length known = omega (arith, ap length same) in
      let less = one_less known block answer there was known_now in
      let written : set known block answer ≡ set list place answer = ap₂ (λ l p. set l p answer) (sym same) (sym here) in
      subst (λ l. Keeps meaning state_count asked old new known l) written (record {
        rule = rule;
        right = right_with (meaning old) known block answer there right is;
        asks = omega (arith, less, asks);
      })

-- where there is none, more follows
pub none_weaker : (o : Option ℕ) (P Q : Type 0) → (P → Q) → IfNone o P → IfNone o Q
none_weaker None P Q so p = so p
none_weaker (Some n) P Q so p = p
