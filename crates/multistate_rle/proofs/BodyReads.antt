-- A written body reads back: its bytes give the runs of its tokens.
use Rattle.multistate_rle.proofs.Names.{AllByRecursion, Cells, IsDigit, IsVisible, List, Ok, Result, RleFault, RowEnds, Run, Symbol, Token, [], ap, append_assoc, arith, codes, cond, count_text, decimal, decimal-bytes, decimal-value, false}
use Rattle.multistate_rle.proofs.Names.{is_passed, is_prefix, length, map, max, multi_state_text, nat_le, nat_tests, onto, packed, plain_symbol, prefix_text, prefixed_state, prefixed_symbol, refl, runs_from, solid_from, state_text, subst}
use Rattle.multistate_rle.proofs.Names.{suc, sym, symbols, token_text, true, two_state_text, zero, ℕ, ◌%◌, ◌*◌, ◌++◌, ◌+◌, ◌-◌, ◌/◌, ◌<◌, ◌==◌, ◌^◌, ◌∙◌, ◌∷◌, ◌≡◌, ◌≤◌}
use Rattle.std.specs.Char.{digit_value}
use Rattle.std.specs.Str.Parse.{digits_value_after}
use Rattle.std.proofs.lemmas.Str.{digit_value_digit}
use Rattle.multistate_rle.specs.declared.solid.ByteAt.{ByteAt}
use Rattle.multistate_rle.specs.declared.symbol.Symbol.TheVariants as symbol
use Rattle.multistate_rle.specs.declared.token.Token.TheVariants as token

-- bytes behind digits that write n give these runs, wherever they stand
abbrev pub ReadsAs : ℕ → List ℕ → Result (List Run) RleFault → Type 0
ReadsAs n bytes r = (offset : ℕ) → runs_from n (symbols (solid_from offset bytes)) ≡ r

-- a visible byte is no blank and no part of a line end
visible-kept : (b : ℕ) (bs : List ℕ) → IsVisible b → is_passed b bs ≡ false
visible-kept b bs h = let low : 33 ≤ b = h.0 in grind (arith, nat_tests)

-- one byte that is no prefix
plain-one : (offset b : ℕ) (bs : List ℕ) → IsVisible b → is_prefix b ≡ false
    → symbols (solid_from offset (b ∷ bs)) ≡ plain_symbol (record { offset = offset; byte = b }) ∷ symbols (solid_from (offset + 1) bs)
plain-one offset b bs h plain = rw (visible-kept b bs h) (by (solid_from (offset + 1) bs))
  where
    by : (cs : List ByteAt) → symbols (record { offset = offset; byte = b } ∷ cs) ≡ plain_symbol (record { offset = offset; byte = b }) ∷ symbols cs
    by [] = rw plain refl
    by (c ∷ cs) = rw plain refl

-- a prefix and a byte behind it
prefix-one : (offset b c : ℕ) (cs : List ℕ) → IsVisible b → IsVisible c → is_prefix b ≡ true
    → symbols (solid_from offset (b ∷ c ∷ cs)) ≡ prefixed_symbol (record { offset = offset; byte = b }) (record { offset = offset + 1; byte = c }) ∷ symbols (solid_from (offset + 1 + 1) cs)
prefix-one offset b c cs h k prefix = rw (visible-kept b (c ∷ cs) h) (rw (visible-kept c cs k) (rw prefix refl))

-- a byte that says this symbol, wherever it stands
record Says (b : ℕ) (s : Symbol) : Type 0 where
  visible : IsVisible b
  plain : is_prefix b ≡ false
  symbol : (offset : ℕ) → plain_symbol (record { offset = offset; byte = b }) ≡ s

digit-says : (b : ℕ) → IsDigit b → Says b (symbol.Digit (b - 48))
digit-says b h = grind (arith, nat_tests)

letter-says : (b s : ℕ) → 65 ≤ b → b ≤ 88 → b ≡ 64 + s → Says b (symbol.Cell s)
letter-says b s low high is = grind (arith, nat_tests)

one-read : (n b : ℕ) (s : Symbol) (rest : List ℕ) (r : Result (List Run) RleFault) → Says b s
    → ((offset : ℕ) → runs_from n (s ∷ symbols (solid_from offset rest)) ≡ r) → ReadsAs n (b ∷ rest) r
one-read n b s rest r h read offset = grind (arith, plain-one)

-- digits make the number behind them
digits-read : (ds : List ℕ) (n : ℕ) (rest : List ℕ) (r : Result (List Run) RleFault) → AllByRecursion IsDigit ds → ReadsAs (digits_value_after 10 n ds) rest r → ReadsAs n (ds ++ rest) r
digits-read [] n rest r h k = k
digits-read (d ∷ ds) n rest r h k =
    let value : n * 10 + digit_value d ≡ n * 10 + (d - 48) = omega (arith, digit_value_digit d h.0) in
    one-read n d (symbol.Digit (d - 48)) (ds ++ rest) r (digit-says d h.0)
    (digits-read ds (n * 10 + (d - 48)) rest r h.1 (subst (λ m. ReadsAs (digits_value_after 10 m ds) rest r) value k))

-- a count that isn't written where it is 1
count-read : (n : ℕ) (rest : List ℕ) (r : Result (List Run) RleFault) → 0 < n → n < 2 ^ 64 → ((k : ℕ) → max k 1 ≡ n → ReadsAs k rest r) → ReadsAs 0 (count_text n ++ rest) r
count-read n rest r some small read =
    elim (n == 1) as (λ v. (n == 1) ≡ v → ReadsAs 0 (cond v [] (decimal n) ++ rest) r) [
      | true ↦ λ is. read 0 (let e : n ≡ 1 = grind (arith, nat_tests) in omega (arith, e))
      | false ↦ λ is. digits-read (decimal n) 0 rest r (decimal-bytes n small) (subst (λ m. ReadsAs m rest r) (sym (decimal-value n small)) (read n (omega arith)))
    ] refl

-- one cell symbol
cell-read : (n b s : ℕ) (rest : List ℕ) (runs : List Run) → Says b (symbol.Cell s) → ReadsAs 0 rest (Ok runs) → ReadsAs n (b ∷ rest) (Ok (Cells (max n 1) s ∷ runs))
cell-read n b s rest runs h read = one-read n b (symbol.Cell s) rest _ h (λ offset. ap (onto (Cells (max n 1) s)) (read offset))

prefixed-cell : (o p a c s : ℕ) → c < 24 → (a + 1) * 24 + c + 1 ≡ s → s < 256
    → prefixed_symbol (record { offset = o; byte = 112 + a }) (record { offset = p; byte = 65 + c }) ≡ symbol.Cell s
prefixed-cell o p a c s letter is small = let state : prefixed_state (112 + a) (65 + c) ≡ s = omega arith in grind (arith, nat_tests)

-- a letter with its prefix
letter-read : (n q c s : ℕ) (rest : List ℕ) (runs : List Run) → c < 24 → q * 24 + c + 1 ≡ s → s < 256 → ReadsAs 0 rest (Ok runs)
    → ReadsAs n ((prefix_text q ++ (65 + c) ∷ []) ++ rest) (Ok (Cells (max n 1) s ∷ runs))
letter-read n zero c s rest runs letter is small read = cell-read n (65 + c) s rest runs (letter-says (65 + c) s (omega arith) (omega arith) (omega arith)) read
letter-read n (suc a) c s rest runs letter is small read = λ offset.
    let prefix : is_prefix (112 + a) ≡ true = grind (arith, nat_tests) in
    let symbol = prefixed-cell offset (offset + 1) a c s letter (omega arith) small in
    grind (arith, prefix-one, prefix, symbol, read (offset + 1 + 1))

-- the text of a state
state-read : (states n s : ℕ) (rest : List ℕ) (runs : List Run) → s < states → states ≤ 256 → ReadsAs 0 rest (Ok runs) → ReadsAs n (state_text states s ++ rest) (Ok (Cells (max n 1) s ∷ runs))
state-read states n zero rest runs below most read =
    elim (states == 2) as (λ v. ReadsAs n (cond v (two_state_text 0) (multi_state_text 0) ++ rest) (Ok (Cells (max n 1) 0 ∷ runs))) [
      | true ↦ cell-read n 98 0 rest runs (record { visible = (omega arith, omega arith); plain = refl; symbol = λ offset. refl }) read
      | false ↦ cell-read n 46 0 rest runs (record { visible = (omega arith, omega arith); plain = refl; symbol = λ offset. refl }) read
    ]
state-read states n (suc s) rest runs below most read =
    elim (states == 2) as (λ v. (states == 2) ≡ v → ReadsAs n (cond v (two_state_text (suc s)) (multi_state_text (suc s)) ++ rest) (Ok (Cells (max n 1) (suc s) ∷ runs))) [
      | true ↦ λ is.
          let one : 1 ≡ suc s = grind (arith, nat_tests) in
          cell-read n 111 (suc s) rest runs (record { visible = (omega arith, omega arith); plain = refl; symbol = λ offset. ap (λ s. symbol.Cell s) one }) read
      | false ↦ λ is. letter-read n (s / 24) (s % 24) (suc s) rest runs (omega arith) (omega arith) (omega arith) read
    ] refl

-- the runs that tokens say, up to the end
abbrev pub runs_of : List Token → List Run
runs_of [] = []
runs_of (token.Run n s ∷ ts) = Cells n s ∷ runs_of ts
runs_of (token.RowEnds n ∷ ts) = RowEnds n ∷ runs_of ts
runs_of (token.End ∷ ts) = []

-- a token of which at least one is counted and fewer than `most`, in a state below `states`
abbrev pub IsWritable : ℕ → ℕ → Token → Type 0
IsWritable most states (token.Run n s) = (0 < n) × (n < most) × (s < states)
IsWritable most states (token.RowEnds n) = (0 < n) × (n < most) × Unit {0}
IsWritable most states token.End = Unit {0}

token-read : (most states : ℕ) (t : Token) (ts : List Token) (rest : List ℕ) → most ≤ 2 ^ 64 → states ≤ 256 → IsWritable most states t → ReadsAs 0 rest (Ok (runs_of ts)) → ReadsAs 0 (token_text states t ++ rest) (Ok (runs_of (t ∷ ts)))
token-read most states (token.Run n s) ts rest fits few h read =
    subst (λ bs. ReadsAs 0 bs (Ok (Cells n s ∷ runs_of ts))) (sym (append_assoc (count_text n) (state_text states s) rest))
    (count-read n (state_text states s ++ rest) (Ok (Cells n s ∷ runs_of ts)) h.0 (let k : n < most = h.1 in omega arith)
    (λ k is. subst (λ m. ReadsAs k (state_text states s ++ rest) (Ok (Cells m s ∷ runs_of ts))) is (state-read states k s rest (runs_of ts) h.2 few read)))
token-read most states (token.RowEnds n) ts rest fits few h read =
    subst (λ bs. ReadsAs 0 bs (Ok (RowEnds n ∷ runs_of ts))) (sym (append_assoc (count_text n) (36 ∷ []) rest))
    (count-read n (36 ∷ rest) (Ok (RowEnds n ∷ runs_of ts)) h.0 (let k : n < most = h.1 in omega arith)
    (λ k is. one-read k 36 symbol.RowEnd rest _ (record { visible = (omega arith, omega arith); plain = refl; symbol = λ offset. refl })
    (λ offset. ap (onto (RowEnds (max k 1))) (read offset) ∙ ap (λ m. Ok (RowEnds m ∷ runs_of ts)) is)))
token-read most states token.End ts rest fits few h read =
    one-read 0 33 symbol.End rest _ (record { visible = (omega arith, omega arith); plain = refl; symbol = λ offset. refl }) (λ offset. refl)

-- a packed body gives the runs of its tokens
pub packed-reads : (most states : ℕ) (ts : List Token) (room : ℕ) → most ≤ 2 ^ 64 → states ≤ 256 → AllByRecursion (IsWritable most states) ts → ReadsAs 0 (packed room (map (token_text states) ts)) (Ok (runs_of ts))
packed-reads most states [] room fits few h = λ offset. refl
packed-reads most states (t ∷ ts) room fits few h =
    let p : List ℕ = token_text states t in
    let ps : List (List ℕ) = map (token_text states) ts in
    elim (nat_le (length p) room) as (λ v. ReadsAs 0 (cond v (p ++ packed (room - length p) ps) (codes "\n" ++ p ++ packed (70 - length p) ps)) (Ok (runs_of (t ∷ ts)))) [
      | true ↦ token-read most states t ts (packed (room - length p) ps) fits few h.0 (packed-reads most states ts (room - length p) fits few h.1)
      | false ↦ λ offset. token-read most states t ts (packed (70 - length p) ps) fits few h.0 (packed-reads most states ts (70 - length p) fits few h.1) (offset + 1)
    ]
