-- The names that the proofs of this crate cite most, passed on from one place. It declares nothing.
pub use Rattle.hash_engine.proofs.Shared.Memos.{IsRight-grows}
pub use Rattle.hash_engine.specs.Standing.{StandsFor}
pub use Rattle.square_table.proofs.Shared.Centring.{one_world}
pub use Rattle.square_table.proofs.Shared.Growth.{AreNumbers-quadrants, Grows-same, Grows-then, IsNumber-grows, IsNumber-joined, Keeps-grows, square_in-grows, square_in-joined, square_in-quadrants}
pub use Rattle.square_table.proofs.Shared.Making.{Adds-joined}
pub use Rattle.square_table.specs.Centred.{IsCentred, edge}
pub use Rattle.square_table.specs.Loading.{GrowsFor, GrowsFrom, IsRootLevel}
pub use Rattle.square_table.specs.Made.{AreAmong, IsFull, IsMade}
pub use Rattle.square_table.specs.Squares.{AreDistinct, Grows, GrowsBy, IsNumber, IsSquareOf, Table, Tells, cells_of, first_number, kid_at, kids_at, level_of, number_of, square_in, square_of}
pub use Rattle.std.proofs.Common.{All, Bool, Contains, Err, List, [], ap, arith, cond, filter, get_or, inl, inr, length, min, neg_ℤ, pos, refl, rules, subst, suc, sym}
pub use Rattle.std.proofs.Common.{zero, ℕ, ℤ, ◌*◌, ◌+ℤ◌, ◌+◌, ◌-◌, ◌<◌, ◌^◌, ◌↔◌, ◌∙◌, ◌∷◌, ◌≡◌, ◌≢◌, ◌≤ℤ◌, ◌≤◌}
pub use Rattle.std.proofs.lemmas.Bool.{cases_eq}
pub use Rattle.std.proofs.lemmas.Int.{ints}
pub use Rattle.std.proofs.lemmas.List.Elements.{All-cons, All-nil, All-weaker, Contains-append_right, Contains-get_or}
pub use Rattle.std.proofs.lemmas.Result.{IfOk-weaker}
pub use Rattle.step_engine.specs.Evolved.{AreDifferent, CanEvolve, HasWay}
pub use Rattle.step_engine.specs.Padded.{AddsPadded, AddsRound, AddsStart, IsPaddedNumber, IsRooted, IsWidened, padded}
pub use Rattle.step_engine.specs.Reach.{BoxLiesWithin, HasRoomFor, IsRoomLevel, LiesWithin}
pub use Rattle.worlds.proofs.Shared.Stepped.{AllBelow-step, HasMargin-less, HasMargin-step}
pub use Rattle.worlds.proofs.Shared.Steps.{iterate-add}
pub use Rattle.worlds.specs.Iterate.{iterate, iterate-zero}
pub use Rattle.worlds.specs.Range.{AllBelow, HasMargin, IsBoundingBox}
pub use Rattle.worlds.specs.Square.{IsIn, Square, empty_square, four, one, square_at}
pub use Rattle.worlds.specs.Step.{AreNineBelow, nine_zeros, step}
pub use Rattle.worlds.specs.World.{World, blank, cell, cell-blank}
pub use Rattle.worlds.specs.declared.cell.Bounds.{Bounds}
