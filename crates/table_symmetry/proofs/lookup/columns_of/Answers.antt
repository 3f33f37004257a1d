use Rattle.table_symmetry.proofs.Names.{HaveBitsOf, List, TellsRows, [], ap, arith, length, refl, word_of_each, ℕ, ◌+◌, ◌/◌, ◌∙◌, ◌≡◌}
use Rattle.table_symmetry.proofs.Columns.{AreRight-more, column_tells}
use Rattle.table_symmetry.proofs.lookup.columns_of.Goals as goal
use Rattle.table_symmetry.proofs.lookup.columns_of.Goals.{After-from-in-loop-state, then-state-eq0+in_ok-words+in_ok-unions, else-state-eq0}

pub loop-state-init : goal.loop-state-init
loop-state-init c = record { columns = record { long = ap length c.new-columns.ensures.items; each = λ k l. absurd (omega arith) }; words = λ ne. absurd (ne refl); unions = λ ne. absurd (ne refl) }

-- the unions are those of the words
unions : (c : After-from-in-loop-state) → HaveBitsOf c.if-state-eq0.unions.items c.if-state-eq0.words.items
unions c = elim c.if-state-eq0.branch [
  | then-state-eq0+in_ok-words+in_ok-unions w ↦ rw (w.unions-is, w.words-is) (rw w.deref.ensures.value at w.in_ok-unions.ensures)
  | else-state-eq0 w ↦ rw (w.unions-is, w.words-is) (c.loop-state.invariant.unions w.if-state-eq0.false)
]

pub column-requires-clause-unions : goal.column-requires-clause-unions
column-requires-clause-unions c = rw (c.deref-in-loop-state-2.ensures.value, c.deref-in-loop-state.ensures.value) (unions c)

pub loop-state-preserved : goal.loop-state-preserved
loop-state-preserved c =
    let state = c.loop-state.state in
    let words : List ℕ = c.if-state-eq0.words.items in
    let ready : words ≡ word_of_each c.args.place (state / 64) c.args.rows.now = elim c.if-state-eq0.branch [
      | then-state-eq0+in_ok-words+in_ok-unions w ↦ ap (λ v. v.items) w.words-is ∙ w.in_ok-words.ensures ∙ ap (λ (q : ℕ). word_of_each c.args.place q c.args.rows.now) w.from.ensures
      | else-state-eq0 w ↦ ap (λ v. v.items) w.words-is ∙ c.loop-state.invariant.words w.if-state-eq0.false
    ] in
    let column = column_tells c.args.rows.now c.args.place state words c.in_ok-column.column.items ready (rw (c.deref-in-loop-state.ensures.value, c.from-in-loop-state.ensures) at c.in_ok-column.ensures) in record {
      columns = AreRight-more (TellsRows c.args.rows.now c.args.place) [] c.in_ok-column.column.items c.loop-state.columns.items c.push.new.self.items
          state column (rw c.from_vec.ensures at c.in_ok-push.ensures.items) c.loop-state.invariant.columns;
      words = λ ne. let quarter : (state + 1) / 64 ≡ state / 64 = omega arith in rw quarter ready;
      unions = λ ne. unions (goal.at.loop-state-preserved c).After-from-in-loop-state;
    }

pub returns : goal.returns
returns c = λ state l row d m. rw c.from_vec-2.ensures (c.loop-state.invariant.columns.each state (omega arith) row d m)
