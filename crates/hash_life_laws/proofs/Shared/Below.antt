-- Squares whose states are below a number, and what HashLife makes of them.
use Rattle.std.proofs.Common.{ℕ, zero, suc, ◌-◌, ◌<◌, ◌^◌, min, List, [], ◌∷◌, get_or, refl, lit<}
use Rattle.std.specs.Prelude.{All}
use Rattle.std.proofs.lemmas.List.Elements.{All-nil, All-map, All-weaker}
use Rattle.worlds.specs.Square.{Square, one, four, empty_square}
use Rattle.worlds.specs.Step.{AreNineBelow}
use Rattle.hash_life_laws.specs.Result.{between, amid, middle, later, state_of, next_of, in_two, result}
use Rattle.hash_life_laws.specs.Puts.{nine_of, fours_of, Puts, IsBelow}
use Rattle.hash_life_laws.proofs.Shared.Nine.{All-four, All-nine}

-- the rule's answers are states again
abbrev pub Keeps : ℕ → (List ℕ → ℕ) → Type 0
Keeps c next = (states : List ℕ) → AreNineBelow c states → next states < c

state : (c : ℕ) (s : Square) → 0 < c → IsBelow c s → state_of s < c
unfolding IsBelow
state c (one s) some h = h
state c (four nw ne sw se) some h = some

-- the cell that nine make
next_cell : (c : ℕ) (next : List ℕ → ℕ) → Keeps c next → 0 < c → (s1 s2 s3 s4 s5 s6 s7 s8 s9 : Square) →
    IsBelow c s1 → IsBelow c s2 → IsBelow c s3 → IsBelow c s4 → IsBelow c s5 → IsBelow c s6 → IsBelow c s7 → IsBelow c s8 → IsBelow c s9 →
    IsBelow c (next_of next s1 s2 s3 s4 s5 s6 s7 s8 s9)
unfolding IsBelow
next_cell c next keeps some s1 s2 s3 s4 s5 s6 s7 s8 s9 h1 h2 h3 h4 h5 h6 h7 h8 h9 =
    keeps _ (record {
      nine = refl;
      below = All-nine (λ s. s < c) _ _ _ _ _ _ _ _ _ (state c s1 some h1) (state c s2 some h2) (state c s3 some h3) (state c s4 some h4)
          (state c s5 some h5) (state c s6 some h6) (state c s7 some h7) (state c s8 some h8) (state c s9 some h9);
    })

IsBelow-middle : (u : ℕ) (s : Square) → IsBelow u s → IsBelow u (middle s)
unfolding IsBelow
IsBelow-middle u (four (four a b c d) (four e f g h) (four i j k l) (four m n o p)) is = (is.0.3, is.1.2, is.2.1, is.3.0)
IsBelow-middle u (one s) is = is
IsBelow-middle u (four (one s) ne sw se) is = is
IsBelow-middle u (four (four a b c d) (one s) sw se) is = is
IsBelow-middle u (four (four a b c d) (four e f g h) (one s) se) is = is
IsBelow-middle u (four (four a b c d) (four e f g h) (four i j k l) (one s)) is = is

IsBelow-between : (u : ℕ) (s t : Square) → IsBelow u s → IsBelow u t → IsBelow u (between s t)
unfolding IsBelow
IsBelow-between u (four a b c d) (four e f g h) is too = (is.1, too.0, is.3, too.2)
IsBelow-between u (one s) t is too = is
IsBelow-between u (four a b c d) (one t) is too = is

IsBelow-amid : (u : ℕ) (s t : Square) → IsBelow u s → IsBelow u t → IsBelow u (amid s t)
unfolding IsBelow
IsBelow-amid u (four a b c d) (four e f g h) is too = (is.2, is.3, too.0, too.1)
IsBelow-amid u (one s) t is too = is
IsBelow-amid u (four a b c d) (one t) is too = is

IsBelow-nine_of : (u : ℕ) (s : Square) → IsBelow u s → All (IsBelow u) (nine_of s)
unfolding IsBelow
IsBelow-nine_of u (one s) is = All-nil (IsBelow u)
IsBelow-nine_of u (four nw ne sw se) is =
    All-nine (IsBelow u) _ _ _ _ _ _ _ _ _ is.0 (IsBelow-between u nw ne is.0 is.1) is.1 (IsBelow-amid u nw sw is.0 is.2)
    (IsBelow-middle u (four nw ne sw se) is) (IsBelow-amid u ne se is.1 is.3) is.2 (IsBelow-between u sw se is.2 is.3) is.3

IsBelow-fours_of : (u : ℕ) (ss : List Square) → All (IsBelow u) ss → All (IsBelow u) (fours_of ss)
unfolding IsBelow
IsBelow-fours_of u (a ∷ b ∷ c ∷ d ∷ e ∷ f ∷ g ∷ h ∷ i ∷ []) is =
    let at : (j : ℕ) → j < 9 → IsBelow u (get_or (a ∷ b ∷ c ∷ d ∷ e ∷ f ∷ g ∷ h ∷ i ∷ []) j a) = λ j below. is j a below in
    let p0 = at 0 (lit< tt) in
    let p1 = at 1 (lit< tt) in
    let p2 = at 2 (lit< tt) in
    let p3 = at 3 (lit< tt) in
    let p4 = at 4 (lit< tt) in
    let p5 = at 5 (lit< tt) in
    let p6 = at 6 (lit< tt) in
    let p7 = at 7 (lit< tt) in
    let p8 = at 8 (lit< tt) in
    All-four (IsBelow u) (four a b d e) (four b c e f) (four d e g h) (four e f h i) (p0, p1, p3, p4) (p1, p2, p4, p5) (p3, p4, p6, p7) (p4, p5, p7, p8)
IsBelow-fours_of u [] is = All-nil (IsBelow u)
IsBelow-fours_of u (a ∷ []) is = All-nil (IsBelow u)
IsBelow-fours_of u (a ∷ b ∷ []) is = All-nil (IsBelow u)
IsBelow-fours_of u (a ∷ b ∷ c ∷ []) is = All-nil (IsBelow u)
IsBelow-fours_of u (a ∷ b ∷ c ∷ d ∷ []) is = All-nil (IsBelow u)
IsBelow-fours_of u (a ∷ b ∷ c ∷ d ∷ e ∷ []) is = All-nil (IsBelow u)
IsBelow-fours_of u (a ∷ b ∷ c ∷ d ∷ e ∷ f ∷ []) is = All-nil (IsBelow u)
IsBelow-fours_of u (a ∷ b ∷ c ∷ d ∷ e ∷ f ∷ g ∷ []) is = All-nil (IsBelow u)
IsBelow-fours_of u (a ∷ b ∷ c ∷ d ∷ e ∷ f ∷ g ∷ h ∷ []) is = All-nil (IsBelow u)
IsBelow-fours_of u (a ∷ b ∷ c ∷ d ∷ e ∷ f ∷ g ∷ h ∷ i ∷ j ∷ ss) is = All-nil (IsBelow u)

IsBelow-later : (u : ℕ) (next : List ℕ → ℕ) → Keeps u next → 0 < u → (s : Square) → IsBelow u s → IsBelow u (later next s)
unfolding IsBelow
IsBelow-later u next keeps some (four (four a b c d) (four e f g h) (four i j k l) (four m n o p)) is = (
  next_cell u next keeps some d b e g m j i c a is.0.3 is.0.1 is.1.0 is.1.2 is.3.0 is.2.1 is.2.0 is.0.2 is.0.0,
  next_cell u next keeps some g e f h n m j d b is.1.2 is.1.0 is.1.1 is.1.3 is.3.1 is.3.0 is.2.1 is.0.3 is.0.1,
  next_cell u next keeps some j d g m o l k i c is.2.1 is.0.3 is.1.2 is.3.0 is.3.2 is.2.3 is.2.2 is.2.0 is.0.2,
  next_cell u next keeps some m g h n p o l j d is.3.0 is.1.2 is.1.3 is.3.1 is.3.3 is.3.2 is.2.3 is.2.1 is.0.3,
)
IsBelow-later u next keeps some (one s) is = is
IsBelow-later u next keeps some (four (one s) ne sw se) is = is
IsBelow-later u next keeps some (four (four a b c d) (one s) sw se) is = is
IsBelow-later u next keeps some (four (four a b c d) (four e f g h) (one s) se) is = is
IsBelow-later u next keeps some (four (four a b c d) (four e f g h) (four i j k l) (one s)) is = is

IsBelow-in_two : (u : ℕ) (f g : Square → Square) → ((s : Square) → IsBelow u s → IsBelow u (f s)) → ((s : Square) → IsBelow u s → IsBelow u (g s)) → (s : Square) → IsBelow u s → IsBelow u (in_two f g s)
unfolding IsBelow
IsBelow-in_two u f g first second (one s) is = is
IsBelow-in_two u f g first second (four nw ne sw se) is =
    let a = first nw is.0 in
    let b = first _ (IsBelow-between u nw ne is.0 is.1) in
    let c = first ne is.1 in
    let d = first _ (IsBelow-amid u nw sw is.0 is.2) in
    let e = first _ (IsBelow-middle u (four nw ne sw se) is) in
    let h = first _ (IsBelow-amid u ne se is.1 is.3) in
    let i = first sw is.2 in
    let j = first _ (IsBelow-between u sw se is.2 is.3) in
    let l = first se is.3 in
    (second _ (a, b, d, e), second _ (b, c, e, h), second _ (d, e, i, j), second _ (e, h, j, l))

pub IsBelow-result : (u : ℕ) (next : List ℕ → ℕ) → Keeps u next → 0 < u → (k n : ℕ) (s : Square) → IsBelow u s → IsBelow u (result next k n s)
unfolding result
IsBelow-result u next keeps some k zero s is = IsBelow-middle u s is
IsBelow-result u next keeps some zero (suc n) s is = IsBelow-later u next keeps some s is
IsBelow-result u next keeps some (suc k) (suc i) s is =
    let n = suc i in
    IsBelow-in_two u (result next k (min n (2 ^ k))) (result next k (n - min n (2 ^ k))) (IsBelow-result u next keeps some k (min n (2 ^ k))) (IsBelow-result u next keeps some k (n - min n (2 ^ k))) s is

-- where each state of a square is below a number, so is each of those that are put to the rule
pub Puts-below : (u : ℕ) (next : List ℕ → ℕ) → Keeps u next → 0 < u → (k n : ℕ) (s : Square) → IsBelow u s → Puts next k n s (IsBelow u)
unfolding Puts
Puts-below u next keeps some k zero s is = tt
Puts-below u next keeps some zero (suc n) s is = is
Puts-below u next keeps some (suc k) (suc i) s is =
    let n = suc i in
    let m = min n (2 ^ k) in
    let nine = IsBelow-nine_of u s is in
    let made = All-map (IsBelow u) (result next k m) (nine_of s) (All-weaker (IsBelow u) (λ q. IsBelow u (result next k m q)) (IsBelow-result u next keeps some k m) (nine_of s) nine) in (
      All-weaker (IsBelow u) (λ q. Puts next k m q (IsBelow u)) (Puts-below u next keeps some k m) (nine_of s) nine,
      All-weaker (IsBelow u) (λ q. Puts next k (n - m) q (IsBelow u)) (Puts-below u next keeps some k (n - m)) _ (IsBelow-fours_of u _ made),
    )

-- a square with no live cell
pub IsBelow-empty : (u k : ℕ) → 0 < u → IsBelow u (empty_square k)
unfolding IsBelow empty_square
IsBelow-empty u zero some = some
IsBelow-empty u (suc k) some = let is = IsBelow-empty u k some in (is, is, is, is)
