use Rattle.hash_engine.proofs.Names.{Adds, AreNumbers, Grows-same, IfOk-weaker, IsBelow, List, StandsFor, [], ap, four, get_or, kids_at, later, of_four, rules, square_of, subst, sym, ℕ, ◌<◌, ◌∙◌, ◌∷◌, ◌≡◌}
use Rattle.square_table.specs.Squares.{IsNumber, square_in}
use Rattle.hash_engine.proofs.Standing.{StandsFor-joined, Adds-made}
use Rattle.hash_engine.proofs.parts.later_of.Goals as goal

-- four by four cells by their numbers
square_of_sixteen : (rows : List (List ℕ)) (ks : List ℕ) {a b c d : List ℕ} →
    a ≡ kids_at rows (get_or ks 0 0) → b ≡ kids_at rows (get_or ks 1 0) → c ≡ kids_at rows (get_or ks 2 0) → d ≡ kids_at rows (get_or ks 3 0) →
    square_of rows 1 ks ≡ four (of_four a) (of_four b) (of_four c) (of_four d)
unfolding square_in
square_of_sixteen rows ks is_a is_b is_c is_d = cc

-- four cells
AreNumbers-cells : (rows : List (List ℕ)) (states : List ℕ) {a b c d : ℕ} →
    a ≡ get_or states 0 0 → b ≡ get_or states 1 0 → c ≡ get_or states 2 0 → d ≡ get_or states 3 0 → a < 256 → b < 256 → c < 256 → d < 256 →
    AreNumbers rows 0 (a ∷ b ∷ c ∷ d ∷ []) × (square_of rows 0 (a ∷ b ∷ c ∷ d ∷ []) ≡ of_four states)
unfolding IsNumber square_in
AreNumbers-cells rows states ea eb ec ed la lb lc ld = (record { nw = la; ne = lb; sw = lc; se = ld }, cc)

pub ask_four-requires : goal.ask_four-requires
ask_four-requires g c =
    let sixteen = square_of_sixteen c.args.table.now.rows c.args.quadrants c.states.ensures c.states-2.ensures c.states-3.ensures c.states-4.ensures in
    subst (IsBelow (g.Q.Ask.state_count c.args.rule.now)) sixteen c.requires.below

pub returns : goal.returns
returns g c =
    let t = c.args.table.now in
    let u = c.join_numbers.new.self in
    let sixteen = square_of_sixteen t.rows c.args.quadrants c.states.ensures c.states-2.ensures c.states-3.ensures c.states-4.ensures in
    let cells = AreNumbers-cells t.rows c.ask_four.result c.from.ensures c.from-2.ensures c.from-3.ensures c.from-4.ensures
    (search rules) (search rules) (search rules) (search rules) in
    let made = cells.1 ∙ c.ask_four.ensures.next ∙ sym (ap (later (g.Q.Ask.meaning c.args.rule.now)) sixteen) in
    let join = c.join_numbers.ensures in
    record {
      adds = subst (λ s. Adds (s ∷ []) t u) made (Adds-made cells.0 join.grows join.one);
      square = IfOk-weaker c.join_numbers.result _ _
          (λ n is. subst (StandsFor u.rows 1 n) made (StandsFor-joined cells.0 join.grows is (Grows-same u))) join.square;
      rule = search rules;
      asks = search rules;
      full = search rules;
    }
