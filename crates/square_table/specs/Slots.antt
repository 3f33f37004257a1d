-- Slots of a hash table, and the ways that lead to its rows.
use Rattle.std.specs.Prelude.{◌≡◌, ℕ, zero, suc, ◌+◌, ◌-◌, ◌*◌, ◌/◌, ◌%◌, ◌^◌, ◌<◌, ◌≤◌, List, [], length, get_or, slice_index, slice_index_or, bit_and}
use Rattle.square_table.specs.declared.slots.Slot.{Slot}

-- the numbers of two quadrants side by side
abbrev pub side_by_side : ℕ → ℕ → ℕ
side_by_side left right = left + right * 2 ^ 32

-- a mix of the four numbers
unfoldable pub mark_of : List ℕ → ℕ
mark_of k =
    (((side_by_side (slice_index k 0) (slice_index k 1) * 0x9e37_79b9_7f4a_7c15) % 2 ^ 64
    + (side_by_side (slice_index k 2) (slice_index k 3) * 0xd1b5_4a32_d192_ed03) % 2 ^ 64) % 2 ^ 64)
    / 2 ^ 32 % 2 ^ 32

-- slots can lead to fewer rows than this: the place of one, and one more, takes 25 bits
abbrev pub row_range : ℕ
row_range = 33554432

-- a mark's tag, which is its upper 7 bits
abbrev pub tag_of : ℕ → ℕ
tag_of mark = mark / row_range

-- the tag in a slot
abbrev pub tag_in : Slot → ℕ
tag_in slot = slot.word / row_range

-- the place of the row to which a slot leads, and one more; 0 where it is free
abbrev pub row_in : Slot → ℕ
row_in slot = slot.word % row_range

-- a mark's first slot, of so many, which are a power of two
abbrev pub first_of : ℕ → ℕ → ℕ
first_of mark count = bit_and mark (count - 1)

-- the slot behind one; behind the last it is the first of all
abbrev pub next_of : ℕ → ℕ → ℕ
next_of slot count = bit_and (slot + 1) (count - 1)

-- where so many steps from a mark's first slot lead
unfoldable pub way : ℕ → ℕ → ℕ → ℕ
way mark count zero = first_of mark count
way mark count (suc steps) = next_of (way mark count steps) count

-- the slots on the way are in use for so many steps
abbrev pub IsUsed : List Slot → ℕ → ℕ → Type 0
IsUsed slots mark steps = (j : ℕ) (d : Slot) → j < steps →
    0 < row_in (slice_index_or slots (way mark (length slots) j) d)

-- a mark's way leads to the slot, which is the first on it that is free
pub record IsFreeFor (slots : List Slot) (mark slot : ℕ) : Type 0 where
  pub inside : slot < length slots
  pub steps : ℕ
  pub within : steps < length slots
  pub there : way mark (length slots) steps ≡ slot
  pub used : IsUsed slots mark steps
  pub free : (d : Slot) → row_in (slice_index_or slots slot d) ≡ 0

-- a mark's way leads to the slot of the row at this place
pub record LeadsTo (slots : List Slot) (mark place : ℕ) : Type 0 where
  pub steps : ℕ
  pub within : steps < length slots
  pub used : IsUsed slots mark steps
  pub there : (d : Slot) →
      row_in (slice_index_or slots (way mark (length slots) steps) d) ≡ place + 1

-- no slot leads beyond the first so many rows
abbrev pub AreWithin : List Slot → ℕ → Type 0
AreWithin slots n = (s : ℕ) (d : Slot) → s < length slots → row_in (slice_index_or slots s d) ≤ n

-- the ways lead to the first so many rows, and slots to no other
pub record FindsRows (rows : List (List ℕ)) (n : ℕ) (slots : List Slot) : Type 0 where
  pub some : 0 < length slots
  pub within : AreWithin slots n
  pub tagged : (s i : ℕ) (d : Slot) → s < length slots → row_in (slice_index_or slots s d) ≡ i + 1
      → tag_in (slice_index_or slots s d) ≡ tag_of (mark_of (get_or rows i []))
  pub led : (i : ℕ) → i < n → LeadsTo slots (mark_of (get_or rows i [])) i

-- all slots are free
abbrev pub AreEmpty : List Slot → Type 0
AreEmpty slots = (s : ℕ) (d : Slot) → s < length slots → row_in (slice_index_or slots s d) ≡ 0

-- the row at this place has these quadrants
pub record IsRowOf (rows : List (List ℕ)) (kids : List ℕ) (place : ℕ) : Type 0 where
  pub there : place < length rows
  pub kids_are : get_or rows place [] ≡ kids
