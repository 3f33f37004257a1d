-- Strips of cells: where they lie, also by numbers that stand at 2^64 - 1 where they are greater, and their cells one after another.
use Rattle.multistate_rle.proofs.Names.{CellSet, IsInside, List, Origin, SFits, Strip, [], and_parts, and_right, arith, both_ways, capped, cases_lt, cells_of_strip, cells_of_span, cells_of_spans, false, flat_map-append, int_le, int_lt, ints}
use Rattle.multistate_rle.proofs.Names.{is_in_range, lies_inside, min, nat_tests, neg_ℤ, pos, refl, true, w64, ℕ, ℤ, ◌++◌, ◌+ℤ◌, ◌+◌, ◌-◌, ◌<ℤ◌, ◌^◌, ◌∷◌, ◌≡◌, ◌≤ℤ◌, ◌≤◌}
use Rattle.std.proofs.lemmas.List.{append-nil}
use Rattle.plane_core.specs.declared.span.Span.{Span}

-- the place of an origin has 64 bits
pub record IsPlaced (origin : Origin) : Type 0 where
  pub x : SFits w64 origin.x
  pub y : SFits w64 origin.y

-- a number, or 2^64 - 2 if it is greater: from there on no coordinate is in range
abbrev pub near : ℕ → ℕ
near n = min n (2 ^ 64 - 2)

far : (z : ℤ) (n : ℕ) → SFits w64 z → 2 ^ 64 - 2 ≤ n → is_in_range (z +ℤ pos n) ≡ false
far z n fits past = and_right _ _ (let out : int_lt (z +ℤ pos n) (pos (2 ^ 61)) ≡ false = grind (arith, ints) in out)

-- numbers that are alike as far as it matters
same_range : (z : ℤ) (m n : ℕ) → SFits w64 z → near m ≡ near n → is_in_range (z +ℤ pos m) ≡ is_in_range (z +ℤ pos n)
same_range z m n fits alike = grind (arith, ints, far, cases_lt)

-- strips that are alike as far as it matters
pub lies_inside-alike : (origin : Origin) (p q : Strip) → IsPlaced origin
    → near p.column ≡ near q.column → near (p.column + p.count - 1) ≡ near (q.column + q.count - 1) → near p.row ≡ near q.row → lies_inside origin p ≡ lies_inside origin q
lies_inside-alike origin p q placed first last row = grind (arith, nat_tests, same_range)

-- a number at which a coordinate is in range isn't beyond
pub capped-in_range : (z : ℤ) (n : ℕ) → SFits w64 z → is_in_range (z +ℤ pos n) ≡ true → capped n ≡ n
capped-in_range z n fits inside = grind (arith, ints, both_ways, far, cases_lt)

-- cells of the same place and state
pub same_cell : (a b : CellSet) → a.x ≡ b.x → a.y ≡ b.y → a.state ≡ b.state → a ≡ b
same_cell a b x y state = λ i. record { x = x i; y = y i; state = state i }

bounds : (z : ℤ) → is_in_range z ≡ true → (neg_ℤ (pos (2 ^ 61)) ≤ℤ z) × (z <ℤ pos (2 ^ 61))
bounds z h = let both = and_parts (int_le (neg_ℤ (pos (2 ^ 61))) z) (int_lt z (pos (2 ^ 61))) h in (record { le = rw both.0 tt }, record { lt = rw both.1 tt })

-- where a strip lies
pub record IsWithin (origin : Origin) (strip : Strip) : Type 0 where
  pub first : IsInside 0 (origin.x +ℤ pos strip.column) (origin.y +ℤ pos strip.row)
  pub last : (origin.x +ℤ pos (strip.column + strip.count)) ≤ℤ pos (2 ^ 61)

-- a strip that lies in the plane
pub lies_within : (origin : Origin) (strip : Strip) → lies_inside origin strip ≡ true → IsWithin origin strip
lies_within origin strip inside = grind (arith, ints, nat_tests, and_parts, bounds)

-- a strip's cells, as a span
pub span-strip : (origin : Origin) (strip : Strip) (s : Span) → s.x ≡ origin.x +ℤ pos strip.column → s.y ≡ origin.y +ℤ pos strip.row → s.count ≡ strip.count → s.state ≡ strip.state → cells_of_span s ≡ cells_of_strip origin strip
span-strip origin strip s x y count state = grind (arith, ints, same_cell)

-- one span more
pub spans-push : (spans : List Span) (s : Span) → cells_of_spans (spans ++ s ∷ []) ≡ cells_of_spans spans ++ cells_of_span s
spans-push spans s = rw (flat_map-append, append-nil) refl
