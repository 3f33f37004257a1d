-- Rule files of tables that are written.
use Rattle.table_lines.proofs.Names.{AllByRecursion, Head, IsDigit, IsPlain, IsPlainLine, IsPrinted, IsSet, IsSolid, IsTransitionOf, IsVisible, IsWide, List, Neighborhood, Symmetry, Transition, WrittenIsItsFile, [], all_append, all_so}
use Rattle.table_lines.proofs.Names.{arith, codes, decimal, definition_line, definition_lines, digit-plain, digit-solid, digit-visible, ends-append, ends-visible, file-written, length, line-between, line-visible, map, name_of_neighborhood}
use Rattle.table_lines.proofs.Names.{name_of_symmetry, printed-tested, refl, set_text, solid-line, solid-tested, transition_line, variable_name, visible-printed, visible-tested, written_lines, ℕ, ◌++◌, ◌+◌, ◌^◌, ◌∷◌, ◌≤◌}
use Rattle.rule_file.specs.declared.text.SectionKind.TheVariants as section_kind
use Rattle.table_lines.proofs.WrittenEntries.{all-map, decimal-each}
use Rattle.table_lines.proofs.Shared.WrittenTables.{line-each, line-some, listed, set-wide, set_text-each}

states-plain : (n : ℕ) → IsWide n → IsPlainLine (codes "n_states:" ++ decimal n)
states-plain n wide =
    solid-line (codes "n_states:" ++ decimal n) (omega arith)
    (all_append IsSolid (codes "n_states:") (decimal n) (solid-tested (codes "n_states:") refl) (decimal-each IsSolid digit-solid n wide))

neighborhood-plain : (m : Neighborhood) → IsPlainLine (codes "neighborhood:" ++ name_of_neighborhood m)
neighborhood-plain m = solid-line (codes "neighborhood:" ++ name_of_neighborhood m) (omega arith) (solid-tested (codes "neighborhood:" ++ name_of_neighborhood m) (grind arith))

symmetry-plain : (s : Symmetry) → IsPlainLine (codes "symmetries:" ++ name_of_symmetry s)
symmetry-plain s = solid-line (codes "symmetries:" ++ name_of_symmetry s) (omega arith) (solid-tested (codes "symmetries:" ++ name_of_symmetry s) (grind arith))

definition-plain : (n number : ℕ) (set : List ℕ) → n ≤ 256 → IsWide number → IsSet n set → IsPlainLine (definition_line number set)
definition-plain n number set few wide is =
    let name = variable_name number in
    let low = set-wide n set few is.below in
    let visible = set_text-each IsVisible (visible-tested (codes ",={}") refl) digit-visible set low in
    let plain = set_text-each IsPlain (refl, (refl, (refl, (refl, tt)))) digit-plain set low in
    let printed : (b : ℕ) → IsDigit b → IsPrinted b = λ b h. visible-printed b (digit-visible b h) in
    record {
      is_line = line-between 118 (codes "ar v" ++ decimal number ++ set_text set) (omega arith, omega arith)
          (all_append IsPrinted (codes "ar v" ++ decimal number) (set_text set)
          (all_append IsPrinted (codes "ar v") (decimal number) (printed-tested (codes "ar v") refl) (decimal-each IsPrinted printed number wide))
          (all_so IsVisible IsPrinted (set_text set) visible-printed visible))
          (ends-append (codes "var " ++ name) (set_text set) (ends-append (codes "={" ++ listed set) (codes "}") (ends-visible (codes "}") (omega arith) (visible-tested (codes "}") refl))));
      plain = all_append IsPlain (codes "var " ++ name) (set_text set) (refl, (refl, (refl, (refl, (refl, decimal-each IsPlain digit-plain number wide))))) plain;
      some = omega arith;
      closed = refl;
    }

transition-plain : (head : Head) (sets : List (List ℕ)) → head.states ≤ 256 → length sets ≤ 2 ^ 64 → (t : Transition) → IsTransitionOf head.states head.neighborhood sets t → IsPlainLine (transition_line t)
transition-plain head sets low few t is =
    let comma : IsSolid 44 = record { visible = (omega arith, omega arith); plain = refl; closed = refl } in
    let v : IsSolid 118 = record { visible = (omega arith, omega arith); plain = refl; closed = refl } in
    solid-line (transition_line t) (line-some head sets low few t is) (line-each head sets low few t is IsSolid comma v digit-solid)

definitions-plain : (n count : ℕ) (sets : List (List ℕ)) → n ≤ 256 → count + length sets ≤ 2 ^ 64 → AllByRecursion (IsSet n) sets → AllByRecursion IsPlainLine (definition_lines count sets)
definitions-plain n count [] low few h = tt
definitions-plain n count (set ∷ sets) low few h = (definition-plain n count set low (omega arith) h.0, definitions-plain n (count + 1) sets low (omega arith) h.1)

-- the file of a text that is written
pub written-file : WrittenIsItsFile
written-file name sets table h is =
    file-written name section_kind.Table (codes "@TABLE") (written_lines sets table) h (line-visible (codes "@TABLE") (omega arith) (visible-tested (codes "@TABLE") refl)) refl (
      states-plain table.states (omega (arith, is.at_most)),
      (
        neighborhood-plain table.neighborhood,
        (
          symmetry-plain table.symmetry,
          all_append IsPlainLine (definition_lines 0 sets) (map transition_line table.transitions)
              (definitions-plain table.states 0 sets is.at_most (omega (arith, is.few)) is.defined)
              (all-map (IsTransitionOf table.states table.neighborhood sets) IsPlainLine transition_line
              (transition-plain (record { states = table.states; neighborhood = table.neighborhood; symmetry = table.symmetry }) sets is.at_most is.few) table.transitions is.transitions),
        ),
      ),
    )
