-- Runs of spaces cut to one, and trimming.
use Rattle.script_lines.proofs.Names.{Bool, IsTrimmed, List, [], ap, before_end, before_end-more, cond, ends_in_space, false, is_blank, join_with_byte, refl, squash, squashed, sym, trim_end, true, words, ℕ, ◌++◌, ◌==◌, ◌||◌, ◌∙◌, ◌∷◌, ◌≡◌}
use Rattle.script_lines.proofs.Names.{◌≢◌}
use Rattle.script_lines.proofs.Trims.{trim_end-trim_end}
use Rattle.script_lines.proofs.Splitting.{join-words_from, words-from, words-squash}

-- ---- one more byte

squash-push_from : (after : Bool) (bs : List ℕ) (b : ℕ) → squash after (bs ++ b ∷ []) ≡ squash after bs ++ squash (ends_in_space after bs) (b ∷ [])
squash-push_from after [] b = refl
squash-push_from after (c ∷ cs) b = by_space (c == 32) after (λ v. squash-push_from v cs b)
  where
    by_space : (v after : Bool) → ((v : Bool) → squash v (cs ++ b ∷ []) ≡ squash v cs ++ squash (ends_in_space v cs) (b ∷ []))
        → cond v (cond after (squash true (cs ++ b ∷ [])) (c ∷ squash true (cs ++ b ∷ []))) (c ∷ squash false (cs ++ b ∷ [])) ≡ cond v
        (cond after (squash true cs) (c ∷ squash true cs)) (c ∷ squash false cs) ++ squash (ends_in_space v cs) (b ∷ [])
    by_space true true rest = rest true
    by_space true false rest = ap (λ t. c ∷ t) (rest true)
    by_space false after rest = ap (λ t. c ∷ t) (rest false)

pub squash-push_kept : (bs : List ℕ) (b : ℕ) (gap : Bool) → ends_in_space false bs ≡ gap → (gap ≡ true → (b == 32) ≡ false) → squash false (bs ++ b ∷ []) ≡ squash false bs ++ b ∷ []
squash-push_kept bs b gap e h = squash-push_from false bs b ∙ ap (λ v. squash false bs ++ squash v (b ∷ [])) e ∙ ap (λ t. squash false bs ++ t) (by_space gap (b == 32) h)
  where
    by_space : (gap v : Bool) → (gap ≡ true → v ≡ false) → cond v (cond gap [] (b ∷ [])) (b ∷ []) ≡ b ∷ []
    by_space true true h = absurd (let f = h refl in cc)
    by_space true false h = refl
    by_space false true h = refl
    by_space false false h = refl

pub squash-push_gap : (bs : List ℕ) (b : ℕ) → ends_in_space false bs ≡ true → (b == 32) ≡ true → squash false (bs ++ b ∷ []) ≡ squash false bs
squash-push_gap bs b e h = squash-push_from false bs b ∙ ap (λ v. squash false bs ++ squash v (b ∷ [])) e ∙ rw h (append_nil (squash false bs))
  where
    append_nil : (xs : List ℕ) → xs ++ [] ≡ xs
    append_nil [] = refl
    append_nil (x ∷ xs) = ap (λ t. x ∷ t) (append_nil xs)

pub ends_in_space-push : (after : Bool) (bs : List ℕ) (b : ℕ) → ends_in_space after (bs ++ b ∷ []) ≡ (b == 32)
ends_in_space-push after [] b = refl
ends_in_space-push after (c ∷ cs) b = ends_in_space-push (c == 32) cs b

-- ---- trimmed at the end

pub squash-nil : (bs : List ℕ) → squash false bs ≡ [] → bs ≡ []
squash-nil [] e = refl
squash-nil (b ∷ bs) e = by_space (b == 32) e
  where
    by_space : (v : Bool) → cond v (b ∷ squash true bs) (b ∷ squash false bs) ≡ [] → b ∷ bs ≡ []
    by_space true e = cc
    by_space false e = cc

-- only spaces go
squash-nothing : (after : Bool) (bs : List ℕ) → squash after bs ≡ [] → trim_end bs ≡ []
squash-nothing after [] e = refl
squash-nothing after (b ∷ bs) e = by_space (b == 32) refl (λ f. squash-nothing true bs f)
  where
    dropped : (after : Bool) → cond after (squash true bs) (b ∷ squash true bs) ≡ [] → squash true bs ≡ []
    dropped true e = e
    dropped false e = cc

    by_space : (v : Bool) → (b == 32) ≡ v → (squash true bs ≡ [] → trim_end bs ≡ []) → trim_end (b ∷ bs) ≡ []
    by_space true k rest = ap (before_end b) (rest (dropped after (ap (λ v. cond v (cond after (squash true bs) (b ∷ squash true bs)) (b ∷ squash false bs)) (sym k) ∙ e))) ∙ rw k refl
    by_space false k rest = absurd (let f : b ∷ squash false bs ≡ [] = ap (λ v. cond v (cond after (squash true bs) (b ∷ squash true bs)) (b ∷ squash false bs)) (sym k) ∙ e in cc)

squash-some : (after : Bool) (bs : List ℕ) → trim_end bs ≢ [] → squash after (trim_end bs) ≢ []
squash-some after bs n e = n (sym (trim_end-trim_end bs) ∙ squash-nothing after (trim_end bs) e)

pub squash-trim_end : (after : Bool) (bs : List ℕ) → squash after (trim_end bs) ≡ trim_end (squash after bs)
squash-trim_end after [] = refl
squash-trim_end after (b ∷ bs) = by_space (b == 32) refl (λ v. squash-trim_end v bs)
  where
    -- a space that is kept
    kept_space : (ys : List ℕ) → trim_end bs ≡ ys → (b == 32) ≡ true → squash false (before_end b ys) ≡ before_end b (squash true ys)
    kept_space [] e k = rw k refl
    kept_space (c ∷ cs) e k = rw k (sym (before_end-more b (squash true (c ∷ cs)) (λ f. squash-some true bs (λ g. some (sym e ∙ g)) (ap (squash true) e ∙ f))))
      where
        some : c ∷ cs ≡ [] → ⊥
        some f = cc

    -- a space behind a space
    gone_space : (ys : List ℕ) → (b == 32) ≡ true → squash true (before_end b ys) ≡ squash true ys
    gone_space [] k = rw k refl
    gone_space (c ∷ cs) k = rw k refl

    other : (after : Bool) (ys : List ℕ) → trim_end bs ≡ ys → (b == 32) ≡ false → squash after (before_end b ys) ≡ before_end b (squash false ys)
    other after [] e k = alone (is_blank b)
      where
        alone : (v : Bool) → squash after (cond v [] (b ∷ [])) ≡ cond v [] (b ∷ [])
        alone true = refl
        alone false = rw k refl
    other after (c ∷ cs) e k = rw k (sym (before_end-more b (squash false (c ∷ cs)) (λ f. squash-some false bs (λ g. some (sym e ∙ g)) (ap (squash false) e ∙ f))))
      where
        some : c ∷ cs ≡ [] → ⊥
        some f = cc

    at_space : (after : Bool) → (b == 32) ≡ true → ((v : Bool) → squash v (trim_end bs) ≡ trim_end (squash v bs)) → squash after (before_end b (trim_end bs)) ≡ trim_end (cond after (squash true bs) (b ∷ squash true bs))
    at_space true k rest = gone_space (trim_end bs) k ∙ rest true
    at_space false k rest = kept_space (trim_end bs) refl k ∙ ap (before_end b) (rest true)

    by_space : (v : Bool) → (b == 32) ≡ v → ((v : Bool) → squash v (trim_end bs) ≡ trim_end (squash v bs))
        → squash after (before_end b (trim_end bs)) ≡ trim_end (cond (b == 32) (cond after (squash true bs) (b ∷ squash true bs))
        (b ∷ squash false bs))
    by_space true k rest = at_space after k rest ∙ ap (λ v. trim_end (cond v (cond after (squash true bs) (b ∷ squash true bs)) (b ∷ squash false bs))) (sym k)
    by_space false k rest = other after (trim_end bs) refl k ∙ ap (before_end b) (rest false) ∙ ap (λ v. trim_end (cond v (cond after (squash true bs) (b ∷ squash true bs)) (b ∷ squash false bs))) (sym k)

-- ---- trimmed bytes

pub solid-no_space : (b : ℕ) → is_blank b ≡ false → (b == 32) ≡ false
solid-no_space b h = by_space (b == 32) h
  where
    by_space : (v : Bool) → (v || (b == 9)) ≡ false → v ≡ false
    by_space true e = cc
    by_space false e = refl

trimmed-solid_end : (after : Bool) (b : ℕ) (bs : List ℕ) → trim_end (b ∷ bs) ≡ b ∷ bs → ends_in_space after (b ∷ bs) ≡ false
trimmed-solid_end after b [] e = alone (is_blank b) refl e
  where
    alone : (v : Bool) → is_blank b ≡ v → cond v [] (b ∷ []) ≡ b ∷ [] → (b == 32) ≡ false
    alone true k f = cc
    alone false k f = solid-no_space b k
trimmed-solid_end after b (c ∷ cs) e = trimmed-solid_end (b == 32) c cs (by_end (trim_end (c ∷ cs)) e)
  where
    alone : (v : Bool) → cond v [] (b ∷ []) ≡ b ∷ c ∷ cs → [] ≡ c ∷ cs
    alone true f = cc
    alone false f = cc

    by_end : (ys : List ℕ) → before_end b ys ≡ b ∷ c ∷ cs → ys ≡ c ∷ cs
    by_end [] f = alone (is_blank b) f
    by_end (d ∷ ds) f = cc

-- of trimmed bytes what is left is the words with one space between each two
pub squash-trimmed : (bs : List ℕ) → IsTrimmed bs → squash false bs ≡ squashed bs
squash-trimmed [] t = refl
squash-trimmed (b ∷ bs) t =
    let other : (b == 32) ≡ false = solid-no_space b t.0 in
    let end : ends_in_space false bs ≡ false = ap (λ v. ends_in_space v bs) (sym other) ∙ trimmed-solid_end false b bs t.1 in
    rw other refl ∙ sym (join-words_from false (b ∷ []) bs (λ e. cc) end) ∙ ap (join_with_byte 32) (sym (words-from (b ∷ []) bs (other, tt)))

-- the words with one space between each two have the same words
pub words-squashed : (bs : List ℕ) → IsTrimmed bs → words (squashed bs) ≡ words bs
words-squashed bs t = ap words (sym (squash-trimmed bs t)) ∙ words-squash bs
