use Rattle.std.proofs.Common.{◌≡◌, ℕ, ◌-◌, List, get_or, arith}
use Rattle.square_table.specs.Loading.{number_in}
use Rattle.square_table.proofs.load.number_in.Goals as goal

state : (blanks numbers : List ℕ) (k n : ℕ) → k ≡ 0 → n ≡ number_in blanks numbers k n
unfolding number_in
state q0 q1 q2 q3 q4 = grind (arith)

empty : (blanks numbers : List ℕ) (k n : ℕ) → (k ≡ 0 → ⊥) → n ≡ 0 → get_or blanks k 0 ≡ number_in blanks numbers k n
unfolding number_in
empty q0 q1 q2 q3 q4 q5 = grind (arith)

known : (blanks numbers : List ℕ) (k n : ℕ) → (k ≡ 0 → ⊥) → (n ≡ 0 → ⊥) → get_or numbers (n - 1) 0 ≡ number_in blanks numbers k n
unfolding number_in
known q0 q1 q2 q3 q4 q5 = grind (arith)

pub returns-then-level-eq0 : goal.returns-then-level-eq0
returns-then-level-eq0 c = state c.args.blanks.now c.args.numbers.now c.args.level c.args.kid c.if-level-eq0.true

pub returns-then-kid-eq0 : goal.returns-then-kid-eq0
returns-then-kid-eq0 c = empty c.args.blanks.now c.args.numbers.now c.args.level c.args.kid c.if-level-eq0.false c.if-kid-eq0.true

pub returns : goal.returns
returns c = known c.args.blanks.now c.args.numbers.now c.args.level c.args.kid c.if-level-eq0.false c.if-kid-eq0.false
