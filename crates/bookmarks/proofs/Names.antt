-- The names that the proofs of this crate cite most, passed on from one place. It declares nothing.
pub use Rattle.bookmarks.specs.Counts.{count_line, count_lines, count_lines-more, count_lines-none, or_empty}
pub use Rattle.bookmarks.specs.Window.{IsIn, ShowsWindow, last_state, line_of, next_state, row_line, state_at, window_text}
pub use Rattle.bookmarks.specs.Within.{has_window_size, spans_plane}
pub use Rattle.plane_core.specs.Within.{AreLiveWithin, IsLiveWithin, count_at}
pub use Rattle.std.proofs.Common.{All, Fits, IsTrue, List, SFits, [], ap, append-nil, append_assoc, ap₂, arith, codes, cond, decimal, drop, false, get_or, get_or-drop, get_or-set_other, get_or-set_same, get_or-take, inl, inr, int_le}
pub use Rattle.std.proofs.Common.{length, length-drop, length-set, length-take, map, nat_le, nat_lt, neg_ℤ, of_z, pos, refl, rules, set, subst, suc, sym, take, take_at, to_z, true, unsigned_abs, w64, zero, ℕ, ℤ, ◌&&◌, ◌*◌, ◌++◌, ◌+ℤ◌, ◌+◌}
pub use Rattle.std.proofs.Common.{◌-ℤ◌, ◌-◌, ◌<◌, ◌^◌, ◌∙◌, ◌∷◌, ◌≡◌, ◌≢◌, ◌≤ℤ◌, ◌≤◌}
pub use Rattle.std.proofs.Math.Nat.{mul-le-mul_left}
pub use Rattle.std.proofs.lemmas.Int.{fits_signed_from_abs, ints, to_z-of_z}
pub use Rattle.std.proofs.lemmas.List.{take_more}
pub use Rattle.std.proofs.lemmas.List.Elements.{All-head, All-tail, All-weaker}
pub use Rattle.std.specs.List.{concat, join_with_byte, range_with_len}
pub use Rattle.worlds.specs.World.{Place, World, cell, same_place}
pub use Rattle.worlds.specs.declared.cell.Cell.{Cell}
