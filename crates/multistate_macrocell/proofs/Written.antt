-- Texts of rows, piece by piece.
use Rattle.multistate_macrocell.proofs.Names.{Bool, Cells, List, OnOk, Result, SquareRow, [], ap, append_assoc, arith, codes, cond, decimal, eqb-true, heading_text, is_ok, kid, map, node_line, node_of, nodes_of, numbers_line, refl}
use Rattle.multistate_macrocell.proofs.Names.{row_lines, sym, text_of_lines, true, written_text, ℕ, ◌++◌, ◌==◌, ◌∙◌, ◌∷◌, ◌≡◌}
use Rattle.macrocell_lines.specs.declared.node.Node.TheVariants.{Square as Quartered}
use Rattle.multistate_macrocell.specs.Lines.{row_line}

-- the lines before the rows
apart : (a name b number c rest : List ℕ) → (a ++ name ++ b ++ number ++ c) ++ rest ≡ a ++ (name ++ (b ++ (number ++ (c ++ rest))))
apart a name b number c rest = simp append_assoc

together : (first name word mark number end rest : List ℕ) → first ++ (((name ++ word) ++ end) ++ (((mark ++ number) ++ end) ++ rest)) ≡ first ++ (name ++ (word ++ (end ++ (mark ++ (number ++ (end ++ rest))))))
together first name word mark number end rest = simp append_assoc

heading-lines : (name : List ℕ) (generation : ℕ) (rest : List ℕ)
    → heading_text name generation ++ rest ≡ (codes "[M2] (experiment desk)" ++ 10 ∷ []) ++ (((codes "#R " ++ name) ++ 10 ∷ []) ++ (((codes "#G " ++ decimal generation) ++ 10 ∷ []) ++ rest))
heading-lines name generation rest =
    apart (codes "[M2] (experiment desk)\n#R ") name (codes "\n#G ") (decimal generation) (codes "\n") rest
    ∙ sym (together (codes "[M2] (experiment desk)" ++ 10 ∷ []) (codes "#R ") name (codes "#G ") (decimal generation) (10 ∷ []) rest)

line_by : (v : Bool) (level a b c d : ℕ) → (v ≡ true → level ≡ 1) → node_line (cond v (Cells a b c d) (Quartered level a b c d)) ≡ numbers_line (level ∷ a ∷ b ∷ c ∷ d ∷ [])
line_by v level a b c d h = grind arith

node-row : (row : SquareRow) → node_line (node_of row) ≡ row_line row
unfolding row_line
node-row row = line_by (row.level == 1) row.level (kid row 0) (kid row 1) (kid row 2) (kid row 3) (eqb-true row.level 1)

-- the line of a row, number by number
apart_five : (old level a b c d end : List ℕ) → (old ++ level ++ a ++ b ++ c ++ d) ++ end ≡ old ++ (level ++ (a ++ (b ++ (c ++ (d ++ end)))))
apart_five old level a b c d end = simp append_assoc

together_five : (level a b c d end : List ℕ) → (level ++ (a ++ (b ++ (c ++ d)))) ++ end ≡ level ++ (a ++ (b ++ (c ++ (d ++ end))))
together_five level a b c d end = simp append_assoc

joined : (old level a b c d : List ℕ) → (old ++ level ++ 32 ∷ a ++ 32 ∷ b ++ 32 ∷ c ++ 32 ∷ d) ++ 10 ∷ [] ≡ old ++ ((level ++ 32 ∷ (a ++ 32 ∷ (b ++ 32 ∷ (c ++ 32 ∷ d)))) ++ 10 ∷ [])
joined old level a b c d =
    apart_five old level (32 ∷ a) (32 ∷ b) (32 ∷ c) (32 ∷ d) (10 ∷ [])
    ∙ ap (λ line. old ++ line) (sym (together_five level (32 ∷ a) (32 ∷ b) (32 ∷ c) (32 ∷ d) (10 ∷ [])))

pub row_line-joined : (old : List ℕ) (row : SquareRow) → (old ++ decimal row.level ++ 32 ∷ decimal (kid row 0) ++ 32 ∷ decimal (kid row 1) ++ 32
    ∷ decimal (kid row 2) ++ 32 ∷ decimal (kid row 3)) ++ 10 ∷ [] ≡ old ++ (row_line row ++ 10 ∷ [])
unfolding row_line
row_line-joined old row = joined old (decimal row.level) (decimal (kid row 0)) (decimal (kid row 1)) (decimal (kid row 2)) (decimal (kid row 3))

nodes-rows : (rows : List SquareRow) → map node_line (map node_of rows) ≡ map row_line rows
nodes-rows [] = refl
nodes-rows (row ∷ rows) = grind (arith, node-row, nodes-rows rows)

-- the text of rows, by their lines
pub text-rows : (name : List ℕ) (generation : ℕ) (rows : List SquareRow) → heading_text name generation ++ row_lines rows ≡ written_text name generation (nodes_of rows)
text-rows name generation rows =
    heading-lines name generation (row_lines rows)
    ∙ ap (λ lines. (codes "[M2] (experiment desk)" ++ 10 ∷ []) ++ (((codes "#R " ++ name) ++ 10 ∷ []) ++ (((codes "#G " ++ decimal generation) ++ 10 ∷ []) ++ text_of_lines lines))) (sym (nodes-rows rows))

-- what a last call adds, where it gives Ok
pub added-on_ok : {T E : Type 0} (r : Result T E) (new more old : List ℕ) → new ≡ cond (is_ok r) more old → OnOk r (new ≡ more)
added-on_ok r new more old e = grind arith
