-- The names that the proofs of this crate cite most, passed on from one place. It declares nothing.
pub use Rattle.hash_engine.specs.Adding.{AddsFours, AddsJoined, AddsMiddles, AddsOf, GiveAllOf, GiveFours, GivesMiddles, GivesOf, MakeFour, square_of_four}
pub use Rattle.hash_engine.specs.Asked.{PutsOnly, is_put, picked}
pub use Rattle.hash_engine.specs.Blocks.{AreBlocks, AreKnownBlocks, GiveFourBlocks, IsBlock, IsKnownBlock, IsReadyBlock, later_of, no_block, result_of}
pub use Rattle.hash_engine.specs.Found.{CanBeAsked, IsSameRule}
pub use Rattle.hash_engine.specs.Memo.{AreKnown, AreWays, HasMade, HasPut, HasWays, IsPut, IsRemembered, IsResult, IsRightMemo, KeepsRows, StaysRight, WasMade, WasPut}
pub use Rattle.hash_engine.specs.Search.{Asks, AsksForAll, CanCompute, CanSeek, CanSeekAll, CanSeekBlock, CanSeekBlocks, FindsBlock, FindsForAll, FirstAreFound, FirstHaveResults, IsCounted, IsFound, KeepsForAll, KeepsOnWay, MakesAll}
pub use Rattle.hash_engine.specs.Search.{MakesFor, MakesForAll, PutsAll, sought}
pub use Rattle.hash_engine.specs.Standing.{StandForAll, StandsFor, of_four}
pub use Rattle.hash_engine.specs.declared.block.Block.{Block}
pub use Rattle.hash_engine.specs.declared.memo.Memo.{Memo}
pub use Rattle.hash_life_laws.proofs.Shared.InTwo.{OfParts, Puts-itself, Puts-parts, result-in_two, result-later, result-none}
pub use Rattle.hash_life_laws.proofs.Shared.Made.{Makes-itself, Makes-last, Makes-none, Makes-parts, Makes-result, Makes-weaker, Makes-whole}
pub use Rattle.hash_life_laws.proofs.Shared.Put.{Puts-last, Puts-none, Puts-weaker, Puts-whole}
pub use Rattle.hash_life_laws.specs.Makes.{Makes}
pub use Rattle.hash_life_laws.specs.Puts.{IsBelow, Puts, fours_of, nine_of}
pub use Rattle.hash_life_laws.specs.Result.{in_two, later, middle, result}
pub use Rattle.square_table.proofs.Shared.Growth.{AreNumbers-grows, AreNumbers-quadrants, Grows-same, Grows-then, IsNumber-grows, IsNumber-joined, square_in-grows, square_in-joined, square_in-quadrants, square_of-grows}
pub use Rattle.square_table.proofs.Shared.Making.{Adds-joined, IsMade-grows, notes_joined}
pub use Rattle.square_table.proofs.Shared.Numbers.{one_level}
pub use Rattle.square_table.specs.Made.{Adds, AreAmong, IsMade}
pub use Rattle.square_table.specs.Squares.{AreNumbers, Grows, GrowsBy, IsNumber, IsSquareOf, Table, cells_of, first_number, kids_at, level_of, number_of, square_in, square_of}
pub use Rattle.std.proofs.Common.{All, Bool, Contains, List, [], ap, ap₂, arith, drop, drop-cons, false, get_or, if◌then◌else◌, inl, inr, length, lit<, map, min, refl, replicate, rules, subst, suc, sym, take, true, zero, ℕ}
pub use Rattle.std.proofs.Common.{◌*◌, ◌++◌, ◌+◌, ◌-◌, ◌<◌, ◌^◌, ◌∙◌, ◌∷◌, ◌≡◌, ◌≢◌, ◌≤◌}
pub use Rattle.std.proofs.Math.ListN.{set}
pub use Rattle.std.proofs.lemmas.Bool.{cases_eq}
pub use Rattle.std.proofs.lemmas.List.{append-nil, drop_all, get_or-map, get_or-set_other, get_or-set_same, get_or_default, length-map, length-set}
pub use Rattle.std.proofs.lemmas.List.Elements.{All-cons, All-contains, All-nil, All-tail, All-weaker, Contains-get_or}
pub use Rattle.std.proofs.lemmas.Result.{IfOk-weaker}
pub use Rattle.worlds.specs.Square.{Square, four, one}
