-- The names that the proofs of this crate cite most, passed on from one place. It declares nothing.
pub use Rattle.counted_engine.specs.Evolved.{AreReported, HasPut, is_block}
pub use Rattle.counted_engine.specs.declared.evolved.Report.{Report}
pub use Rattle.hash_engine.proofs.Shared.Memos.{is_four-more, is_four-two}
pub use Rattle.hash_engine.specs.Asked.{is_four, is_put, picked}
pub use Rattle.hash_engine.specs.Found.{CanBeAsked}
pub use Rattle.hash_engine.specs.Memo.{HasNoFull, IsPut, IsRightMemo}
pub use Rattle.hash_engine.specs.Search.{Asks, IsCounted, sought}
pub use Rattle.hash_engine.specs.declared.memo.Memo.{Memo}
pub use Rattle.hash_life_laws.proofs.Shared.Made.{Makes-weaker}
pub use Rattle.hash_life_laws.proofs.Shared.Put.{Puts-weaker}
pub use Rattle.hash_life_laws.specs.Makes.{Makes}
pub use Rattle.hash_life_laws.specs.Puts.{AsksOnce, PutsBlocks, Stands, fours_of, nine_of}
pub use Rattle.hash_life_laws.specs.Result.{result}
pub use Rattle.square_table.proofs.Shared.Centring.{one_world}
pub use Rattle.square_table.proofs.Shared.Growth.{IsNumber-grows, square_in-grows}
pub use Rattle.square_table.proofs.Shared.Making.{within-made}
pub use Rattle.square_table.proofs.Shared.Numbers.{one_number}
pub use Rattle.square_table.specs.Centred.{edge}
pub use Rattle.square_table.specs.Made.{AreAmong, HoldsWithin, IsMade}
pub use Rattle.square_table.specs.Squares.{AreDistinct, Grows, Table, cells_of, first_number, level_of, number_of, square_in, without_notes}
pub use Rattle.std.proofs.Common.{All, Bool, Contains, Err, List, [], add-one, ap, ap₂, arith, cond, false, get_or, length, lit<, map, min, refl, rules, subst, suc, sym, true, zero, ℕ, ℤ, ◌++◌, ◌+◌, ◌-◌, ◌<◌, ◌^◌, ◌∙◌, ◌∷◌, ◌≡◌, ◌≢◌, ◌≤◌}
pub use Rattle.std.proofs.lemmas.Bool.{and_parts, cases_eq, ltb-true}
pub use Rattle.std.proofs.lemmas.List.{length-map}
pub use Rattle.std.proofs.lemmas.List.Elements.{All-append, All-cons, All-contains, All-head, All-nil, All-tail, All-weaker, Contains-append_left, Contains-append_right, Contains-get_or}
pub use Rattle.step_engine.specs.Evolved.{AreDifferent}
pub use Rattle.step_engine.specs.Padded.{AddsStart, IsRooted}
pub use Rattle.worlds.specs.Square.{Square, square_at}
pub use Rattle.worlds.specs.World.{World}
