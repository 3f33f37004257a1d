-- The names that the proofs of this crate cite most, passed on from one place. It declares nothing.
pub use Rattle.macrocell_lines.specs.Bitmaps.{is_live}
pub use Rattle.macrocell_lines.specs.Nodes.{AreNodes, AreQuadrants, AreStates, EachFollows, Follows, is_child, level_of}
pub use Rattle.macrocell_lines.specs.WrittenText.{node_line, numbers_line, text_of_lines, written_text}
pub use Rattle.macrocell_lines.specs.declared.bitmap.Bitmap.{Bitmap}
pub use Rattle.macrocell_lines.specs.declared.node.Node.{Node}
pub use Rattle.macrocell_lines.specs.declared.node.Node.TheVariants.{Cells}
pub use Rattle.multistate_macrocell.specs.Laws.{NodesShowTheirRoot, ShowsRoot, WrittenMeansTheSame}
pub use Rattle.multistate_macrocell.specs.Lines.{heading_text, row_lines}
pub use Rattle.multistate_macrocell.specs.PatternText.{node_of, nodes_of}
pub use Rattle.multistate_macrocell.specs.Quadtree.{drawn, square_named, world_of_nodes, world_of_root}
pub use Rattle.multistate_macrocell.specs.Tables.{Adds, AreKnown, CanFollow, IsKnown, row_number, square_by, square_of_row}
pub use Rattle.plane_core.proofs.Shared.Roots.{root_level-some, rooted, world-none, world-root}
pub use Rattle.plane_core.proofs.Shared.Sound.{AreRows-none, AreRows-push, IsNumber-from, IsNumber-grown, IsNumber-level, IsNumber-state, kid_number, row_of, square_in-grown, square_in-none, square_in-row, square_in-state, state-IsNumber}
pub use Rattle.plane_core.proofs.Shared.WorldRows.{rows_of-squares, squares-rows_of}
pub use Rattle.plane_core.specs.Rows.{AreRows, IsNumber, IsRow, edge_of, kid, no_row, root_level, row_at, square_in, world_of_rows}
pub use Rattle.plane_core.specs.WorldRows.{rows_of}
pub use Rattle.plane_core.specs.declared.row.SquareRow.{SquareRow}
pub use Rattle.std.proofs.Common.{Bool, IsTrue, List, None, Ok, OnOk, Option, Result, Some, [], add-one, ap, append-nil, append_assoc, arith, codes, cond, decimal, false, get_or, inl, inr, is_ok, length, length-append, length-take, lit<}
pub use Rattle.std.proofs.Common.{map, pos, pow-suc, refl, rules, slice_get, subst, suc, sym, take, true, zero, ℕ, ◌*◌, ◌++◌, ◌+ℤ◌, ◌+◌, ◌-◌, ◌<◌, ◌==◌, ◌^◌, ◌∙◌, ◌∷◌, ◌≡◌, ◌≤◌}
pub use Rattle.std.proofs.lemmas.Bool.{cases_lt, eq-eqb, eqb-true, ne_eqb}
pub use Rattle.std.proofs.lemmas.Bool.Decides.{eqb_tells, nat_tests}
pub use Rattle.std.proofs.lemmas.List.{get_or-take, get_or_append_left, get_or_push, length-map, length_push, map-append, nil_from_length}
pub use Rattle.std.proofs.lemmas.Option.{get_or_from_slice_get, slice_get-get_or, slice_get-map, slice_get_within}
pub use Rattle.std.proofs.lemmas.Result.{IfOk-weaker, on_ok_weaker}
pub use Rattle.std.specs.Option.{option_map, option_map_or}
pub use Rattle.worlds.specs.Square.{IsSquare, Square, empty_square, four, one, put_square}
pub use Rattle.worlds.specs.World.{World, blank, cell-blank}
