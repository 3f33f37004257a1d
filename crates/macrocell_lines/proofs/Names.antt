-- The names that the proofs of this crate cite most, passed on from one place. It declares nothing.
pub use Rattle.basics.proofs.Shared.Lists.{all_append, all_so}
pub use Rattle.basics.specs.Results.{◌>>=◌}
pub use Rattle.macrocell_lines.specs.Bitmaps.{bitmap_of, is_cell, row_bits, row_of, rows_of}
pub use Rattle.macrocell_lines.specs.Kept.{said_of}
pub use Rattle.macrocell_lines.specs.Laws.{BitmapsShowTheirLines, WrittenSaysTheSame}
pub use Rattle.macrocell_lines.specs.MacrocellText.{BeginsWithNodes, MacrocellText, after_line, after_lines, nothing_said, said_by}
pub use Rattle.macrocell_lines.specs.NodeLines.{check_room, node_of, quartered}
pub use Rattle.macrocell_lines.specs.Nodes.{AreNodes, AreQuadrants, AreStates, EachFollows, Follows, IsBitmap, is_child, level_of}
pub use Rattle.macrocell_lines.specs.Pieces.{five_in, five_numbers, is_word, number_in, pieces}
pub use Rattle.macrocell_lines.specs.WrittenText.{node_line, numbers_line, rows_text, written_lines}
pub use Rattle.macrocell_lines.specs.declared.fault.McFault.TheVariants.{BadRow, NoMemory}
pub use Rattle.macrocell_lines.specs.declared.node.Node.{Node}
pub use Rattle.macrocell_lines.specs.declared.node.Node.TheVariants.{Bitmap, Cells, Square}
pub use Rattle.std.proofs.Common.{Bool, Err, IsTrue, List, None, Ok, Option, Result, Some, [], ap, append-nil, append_assoc, ap₂, arith, codes, cond, decimal, drop, false, filter, inl, inr, length, length-append, map, min, nat_eq, nat_le}
pub use Rattle.std.proofs.Common.{nat_lt, not, ok_or, position, refl, replicate, rules, set, slice_get, slice_index, slice_index_or, subst, suc, sym, take, true, zero, ℕ, ◌%◌, ◌&&◌, ◌*◌, ◌++◌, ◌+◌, ◌-◌, ◌/◌, ◌<◌, ◌==◌, ◌^◌, ◌∙◌, ◌∷◌, ◌≡◌}
pub use Rattle.std.proofs.Common.{◌≤◌, ◌⊎◌}
pub use Rattle.std.proofs.Math.Nat.{div-div-eq-div-mul, pow-suc, pow-succ', zero-div}
pub use Rattle.std.proofs.lemmas.Bool.Decides.{nat_tests}
pub use Rattle.std.proofs.lemmas.Grind.{common_steps}
pub use Rattle.std.specs.List.{All, AllByRecursion, list_all, position_or_len, starts_with}
pub use Rattle.std.specs.Option.{option_map, option_map_or}
pub use Rattle.text_lines.proofs.Shared.ByteRanges.{IsDigit, IsPrinted, IsVisible, differs, digit-test, digit-visible, printed-tested, visible-printed}
pub use Rattle.text_lines.proofs.Shared.Decimals.{IsWide, decimal-numeral, number_of-decimal}
pub use Rattle.text_lines.proofs.Shared.NumberLines.{IsNumberLine, Parts, numbers-line, numbers-start, words-numbers}
pub use Rattle.text_lines.proofs.Shared.PrintedLines.{IsLine, ends-append, ends-visible, line-between, line-visible, name-visible, says-lines, trim-blank}
