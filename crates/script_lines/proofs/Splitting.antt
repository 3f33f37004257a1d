-- Words, a byte at a time.
use Rattle.script_lines.proofs.Names.{Bool, List, [], add-zero, ap, append-nil, append_assoc, arith, cond, drop, ends_in_space, eqb-true, false, filter, get_or, get_or-drop, is_word, join_with_byte, length, length-drop, length-take}
use Rattle.script_lines.proofs.Names.{onto_first, push_not_nil, refl, slice_split, squash, starts_in_word, suc, sym, take, take-append-drop, true, words, zero, ℕ, ◌++◌, ◌<◌, ◌==◌, ◌∙◌, ◌∷◌, ◌≡◌, ◌≢◌, ◌≤◌}

-- a word, unless it is empty
abbrev pub word : List ℕ → List (List ℕ)
word [] = []
word (b ∷ bs) = (b ∷ bs) ∷ []

-- the words of some bytes, where the first word began with `begun`
abbrev pub words_from : List ℕ → List ℕ → List (List ℕ)
words_from begun [] = word begun
words_from begun (b ∷ bs) = cond (b == 32) (word begun ++ words_from [] bs) (words_from (begun ++ b ∷ []) bs)

-- no space is among them
abbrev pub NoSpace : List ℕ → Type 0
NoSpace [] = Unit {0}
NoSpace (b ∷ bs) = ((b == 32) ≡ false) × NoSpace bs

pub no_space-push : (bs : List ℕ) (b : ℕ) → NoSpace bs → (b == 32) ≡ false → NoSpace (bs ++ b ∷ [])
no_space-push [] b h k = (k, tt)
no_space-push (c ∷ cs) b h k = (h.0, no_space-push cs b h.1 k)

-- the bytes before the first part
abbrev onto_front : List ℕ → List (List ℕ) → List (List ℕ)
onto_front begun [] = begun ∷ []
onto_front begun (part ∷ parts) = (begun ++ part) ∷ parts

onto_first-front : (b : ℕ) (begun : List ℕ) (parts : List (List ℕ)) → onto_first b (onto_front begun parts) ≡ onto_front (b ∷ begun) parts
onto_first-front b begun [] = refl
onto_first-front b begun (part ∷ parts) = refl

slice_split-no_space : (begun bs : List ℕ) → NoSpace begun → slice_split (λ b. b == 32) (begun ++ bs) ≡ onto_front begun (slice_split (λ b. b == 32) bs)
slice_split-no_space [] bs h = same (slice_split (λ b. b == 32) bs) (some bs)
  where
    some : (bs : List ℕ) → slice_split (λ b. b == 32) bs ≢ []
    some [] e = cc
    some (b ∷ bs) e = by_space (b == 32) (slice_split (λ b. b == 32) bs) e
      where
        by_space : (v : Bool) (parts : List (List ℕ)) → cond v ([] ∷ parts) (onto_first b parts) ≡ [] → ⊥
        by_space true parts e = cc
        by_space false [] e = cc
        by_space false (p ∷ parts) e = cc

    same : (parts : List (List ℕ)) → parts ≢ [] → parts ≡ onto_front [] parts
    same [] n = absurd (n refl)
    same (part ∷ parts) n = refl
slice_split-no_space (b ∷ begun) bs h = rw h.0 (ap (onto_first b) (slice_split-no_space begun bs h.1) ∙ onto_first-front b begun (slice_split (λ b. b == 32) bs))

filter-word : (begun : List ℕ) (parts : List (List ℕ)) → filter is_word (begun ∷ parts) ≡ word begun ++ filter is_word parts
filter-word [] parts = refl
filter-word (b ∷ bs) parts = refl

-- the words are found byte by byte
pub words-from : (begun bs : List ℕ) → NoSpace begun → words (begun ++ bs) ≡ words_from begun bs
words-from begun [] h = ap (filter is_word) (slice_split-no_space begun [] h) ∙ filter-word (begun ++ []) [] ∙ append-nil (word (begun ++ [])) ∙ ap word (append-nil begun)
words-from begun (b ∷ bs) h = by_space (b == 32) refl (words-from [] bs tt) (λ k. words-from (begun ++ b ∷ []) bs (no_space-push begun b h k))
  where
    by_space : (v : Bool) → (b == 32) ≡ v → words bs ≡ words_from [] bs → ((b == 32) ≡ false → words ((begun ++ b ∷ []) ++ bs) ≡ words_from (begun ++ b ∷ []) bs) → words (begun ++ b ∷ bs) ≡ words_from begun (b ∷ bs)
    by_space true k rest more = ap (filter is_word) (slice_split-no_space begun (b ∷ bs) h)
        ∙ rw k (filter-word (begun ++ []) (slice_split (λ b. b == 32) bs) ∙ ap (λ w. word w ++ words bs) (append-nil begun)
        ∙ ap (λ ws. word begun ++ ws) rest)
    by_space false k rest more = ap words (sym (append_assoc begun (b ∷ []) bs)) ∙ more k ∙ rw k refl

-- ---- runs of spaces cut to one

-- nothing is begun behind a space
abbrev IsBegun : Bool → List ℕ → Type 0
IsBegun true begun = begun ≡ []
IsBegun false begun = Unit {0}

words_from-squash : (after : Bool) (begun bs : List ℕ) → IsBegun after begun → words_from begun (squash after bs) ≡ words_from begun bs
words_from-squash after begun [] h = refl
words_from-squash after begun (b ∷ bs) h = by_space (b == 32) refl (λ v w i. words_from-squash v w bs i)
  where
    at_space : (v : Bool) → IsBegun v begun → (b == 32) ≡ true → ((v : Bool) (w : List ℕ) → IsBegun v w
        → words_from w (squash v bs) ≡ words_from w bs) → words_from begun (cond v (squash true bs) (b ∷ squash true bs)) ≡ word begun
        ++ words_from [] bs
    at_space true e k rest = rest true begun e ∙ ap (λ w. words_from w bs) e ∙ ap (λ w. word w ++ words_from [] bs) (sym e)
    at_space false e k rest = rw k (ap (λ ws. word begun ++ ws) (rest true [] refl))

    by_space : (v : Bool) → (b == 32) ≡ v → ((v : Bool) (w : List ℕ) → IsBegun v w → words_from w (squash v bs) ≡ words_from w bs)
        → words_from begun (cond (b == 32) (cond after (squash true bs) (b ∷ squash true bs)) (b ∷ squash false bs)) ≡ cond (b == 32)
        (word begun ++ words_from [] bs) (words_from (begun ++ b ∷ []) bs)
    by_space true k rest = rw k (at_space after h k rest)
    by_space false k rest = rw k (rw k (rest false (begun ++ b ∷ []) tt))

-- the words stay
pub words-squash : (bs : List ℕ) → words (squash false bs) ≡ words bs
words-squash bs = words-from [] (squash false bs) tt ∙ words_from-squash false [] bs tt ∙ sym (words-from [] bs tt)

words_from-some : (begun bs : List ℕ) → begun ≢ [] → words_from begun bs ≢ []
words_from-some [] [] n = absurd (n refl)
words_from-some (x ∷ xs) [] n = λ e. cc
words_from-some begun (b ∷ bs) n = by_space (b == 32) begun n (λ w m. words_from-some w bs m)
  where
    by_space : (v : Bool) (w : List ℕ) → w ≢ [] → ((w : List ℕ) → w ≢ [] → words_from w bs ≢ []) → cond v (word w ++ words_from [] bs) (words_from (w ++ b ∷ []) bs) ≢ []
    by_space true [] n rest = absurd (n refl)
    by_space true (x ∷ xs) n rest = λ e. cc
    by_space false w n rest = rest (w ++ b ∷ []) (push_not_nil w b)

words_from-solid : (bs : List ℕ) → ends_in_space true bs ≡ false → words_from [] bs ≢ []
words_from-solid [] h = absurd (cc)
words_from-solid (b ∷ bs) h = by_space (b == 32) h (λ e. words_from-solid bs e)
  where
    by_space : (v : Bool) → ends_in_space v bs ≡ false → (ends_in_space true bs ≡ false → words_from [] bs ≢ []) → cond v (words_from [] bs) (words_from (b ∷ []) bs) ≢ []
    by_space true e rest = rest e
    by_space false e rest = words_from-some (b ∷ []) bs (λ e. cc)

join-more : (w : List ℕ) (ws : List (List ℕ)) → ws ≢ [] → join_with_byte 32 (w ∷ ws) ≡ w ++ 32 ∷ join_with_byte 32 ws
join-more w [] n = absurd (n refl)
join-more w (x ∷ ws) n = refl

word-some : (w : List ℕ) → w ≢ [] → word w ≡ w ∷ []
word-some [] n = absurd (n refl)
word-some (b ∷ bs) n = refl

-- a word is begun exactly where no space came last
abbrev pub IsInWord : Bool → List ℕ → Type 0
IsInWord true begun = begun ≡ []
IsInWord false begun = begun ≢ []

pub join-words_from : (after : Bool) (begun bs : List ℕ) → IsInWord after begun → ends_in_space after bs ≡ false → join_with_byte 32 (words_from begun bs) ≡ begun ++ squash after bs
join-words_from true begun [] h e = absurd (cc)
join-words_from false begun [] h e = ap (join_with_byte 32) (word-some begun h) ∙ sym (append-nil begun)
join-words_from after begun (b ∷ bs) h e = by_space (b == 32) refl (λ v w i f. join-words_from v w bs i f)
  where
    at_space : (v : Bool) → IsInWord v begun → ends_in_space true bs ≡ false → b ≡ 32
        → ((v : Bool) (w : List ℕ) → IsInWord v w → ends_in_space v bs ≡ false → join_with_byte 32 (words_from w bs) ≡ w ++ squash v bs)
        → join_with_byte 32 (word begun ++ words_from [] bs) ≡ begun ++ cond v (squash true bs) (b ∷ squash true bs)
    at_space true n f k rest = ap (λ w. join_with_byte 32 (word w ++ words_from [] bs)) n ∙ rest true [] refl f ∙ ap (λ w. w ++ squash true bs) (sym n)
    at_space false n f k rest = ap (λ ws. join_with_byte 32 (ws ++ words_from [] bs)) (word-some begun n)
        ∙ join-more begun (words_from [] bs) (words_from-solid bs f) ∙ ap (λ t. begun ++ 32 ∷ t) (rest true [] refl f)
        ∙ ap (λ c. begun ++ c ∷ squash true bs) (sym k)

    by_space : (v : Bool) → (b == 32) ≡ v → ((v : Bool) (w : List ℕ) → IsInWord v w → ends_in_space v bs ≡ false
        → join_with_byte 32 (words_from w bs) ≡ w ++ squash v bs) → join_with_byte 32
        (cond (b == 32) (word begun ++ words_from [] bs) (words_from (begun ++ b ∷ []) bs)) ≡ begun
        ++ cond (b == 32) (cond after (squash true bs) (b ∷ squash true bs)) (b ∷ squash false bs)
    by_space true k rest = rw k (at_space after h (ap (λ v. ends_in_space v bs) (sym k) ∙ e) (eqb-true b 32 k) rest)
    by_space false k rest = rw k (rest false (begun ++ b ∷ []) (push_not_nil begun b) (ap (λ v. ends_in_space v bs) (sym k) ∙ e) ∙ append_assoc begun (b ∷ []) (squash false bs))

-- ---- the first word

pub words-at : (bytes : List ℕ) (n : ℕ) → 0 < n → n ≤ length bytes → NoSpace (take n bytes) → (n < length bytes → get_or bytes n 0 ≡ 32) → words bytes ≡ take n bytes ∷ words (drop n bytes)
words-at bytes n some within inside behind =
    ap words (sym (take-append-drop n bytes)) ∙ words-from (take n bytes) (drop n bytes) inside
    ∙ by_rest (drop n bytes) (λ k. get_or-drop n bytes 0 0 ∙ ap (λ i. get_or bytes i 0) (add-zero n) ∙ behind (omega (arith, length-drop n bytes, k)))
    ∙ ap (λ ws. ws ++ words (drop n bytes)) (word-some (take n bytes) (λ e. absurd (omega (arith, length-take n bytes, ap length e))))
  where
    by_rest : (rest : List ℕ) → (0 < length rest → get_or rest 0 0 ≡ 32) → words_from (take n bytes) rest ≡ word (take n bytes) ++ words rest
    by_rest [] h = sym (append-nil (word (take n bytes)))
    by_rest (b ∷ bs) h = let space : b ≡ 32 = h (omega arith) in rw space (ap (λ ws. word (take n bytes) ++ ws) (sym (words-from [] bs tt)))

-- no space stands first
pub starts-some : (bytes : List ℕ) → starts_in_word bytes ≡ true → 0 < length bytes
starts-some [] h = absurd (cc)
starts-some (b ∷ bs) h = omega arith

pub starts-apart : (bytes : List ℕ) (i : ℕ) → starts_in_word bytes ≡ true → get_or bytes i 0 ≡ 32 → 0 < i
starts-apart [] i h e = absurd (cc)
starts-apart (b ∷ bs) zero h e = absurd (let f : false ≡ true = rw e at h in cc)
starts-apart (b ∷ bs) (suc i) h e = omega arith
