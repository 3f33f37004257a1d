-- Trimming, a byte at a time.
use Rattle.script_lines.proofs.Names.{Bool, IsTrimmed, List, StartsSolid, [], ap, before_end, before_end-more, cond, false, is_blank, length, push_not_nil, refl, sym, take, trim, trim_end, trim_end-push, trim_end-push_blank, trim_start}
use Rattle.script_lines.proofs.Names.{true, ℕ, ◌++◌, ◌∙◌, ◌∷◌, ◌≡◌, ◌≢◌}

pub nil_front : (xs ys : List ℕ) → xs ++ ys ≡ [] → xs ≡ []
nil_front [] ys e = refl
nil_front (x ∷ xs) ys e = cc

nil_back : (xs ys : List ℕ) → xs ++ ys ≡ [] → ys ≡ []
nil_back [] ys e = e
nil_back (x ∷ xs) ys e = cc

pub trim_start-push : (bs : List ℕ) (b : ℕ) → (trim_start bs ≡ [] → is_blank b ≡ false) → trim_start (bs ++ b ∷ []) ≡ trim_start bs ++ b ∷ []
trim_start-push [] b h = rw (h refl) refl
trim_start-push (c ∷ cs) b h = elim (is_blank c) as (λ v. (cond v (trim_start cs) (c ∷ cs) ≡ [] → is_blank b ≡ false) → cond v (trim_start (cs ++ b ∷ [])) (c ∷ (cs ++ b ∷ [])) ≡ cond v (trim_start cs) (c ∷ cs) ++ b ∷ []) [
  | true ↦ λ k. trim_start-push cs b k
  | false ↦ λ k. refl
] h

pub trim_start-push_blank : (bs : List ℕ) (b : ℕ) → trim_start bs ≡ [] → is_blank b ≡ true → trim_start (bs ++ b ∷ []) ≡ []
trim_start-push_blank [] b e h = rw h refl
trim_start-push_blank (c ∷ cs) b e h = elim (is_blank c) as (λ v. cond v (trim_start cs) (c ∷ cs) ≡ [] → cond v (trim_start (cs ++ b ∷ [])) (c ∷ (cs ++ b ∷ [])) ≡ []) [
  | true ↦ λ k. trim_start-push_blank cs b k h
  | false ↦ λ k. absurd (cc)
] e

pub trim_end-push_some : (xs : List ℕ) (b : ℕ) → trim_end xs ≢ [] → trim_end (xs ++ b ∷ []) ≢ []
trim_end-push_some xs b h e = by_blank (is_blank b) refl
  where
    by_blank : (v : Bool) → is_blank b ≡ v → ⊥
    by_blank true k = h (sym (trim_end-push_blank xs b k) ∙ e)
    by_blank false k = push_not_nil xs b (sym (trim_end-push xs b k) ∙ e)

pub trim_end-append_blank : (xs ys : List ℕ) → trim_end ys ≡ [] → trim_end (xs ++ ys) ≡ trim_end xs
trim_end-append_blank [] ys h = h
trim_end-append_blank (x ∷ xs) ys h = ap (before_end x) (trim_end-append_blank xs ys h)

pub trim_end-append : (xs ys : List ℕ) → trim_end ys ≢ [] → trim_end (xs ++ ys) ≡ xs ++ trim_end ys
trim_end-append [] ys h = refl
trim_end-append (x ∷ xs) ys h = ap (before_end x) (trim_end-append xs ys h) ∙ before_end-more x (xs ++ trim_end ys) (λ e. h (nil_back xs (trim_end ys) e))

-- what is trimmed at the end is a front
pub take_trim_end : (xs : List ℕ) → take (length (trim_end xs)) xs ≡ trim_end xs
take_trim_end [] = refl
take_trim_end (x ∷ xs) = by_end (trim_end xs) refl (take_trim_end xs)
  where
    alone : (v : Bool) → take (length (cond v [] (x ∷ []))) (x ∷ xs) ≡ cond v [] (x ∷ [])
    alone true = refl
    alone false = refl

    by_end : (ys : List ℕ) → trim_end xs ≡ ys → take (length (trim_end xs)) xs ≡ trim_end xs → take (length (before_end x ys)) (x ∷ xs) ≡ before_end x ys
    by_end [] e rest = alone (is_blank x)
    by_end (c ∷ cs) e rest = ap (λ t. x ∷ t) (ap (λ t. take (length t) xs) (sym e) ∙ rest ∙ e)

trim_end-before_end : (b : ℕ) (bs : List ℕ) → trim_end bs ≡ bs → trim_end (before_end b bs) ≡ before_end b bs
trim_end-before_end b [] h = elim (is_blank b) as (λ v. is_blank b ≡ v → trim_end (cond v [] (b ∷ [])) ≡ cond v [] (b ∷ [])) [ true ↦ λ e. refl | false ↦ λ e. rw e refl ] refl
trim_end-before_end b (c ∷ cs) h = ap (before_end b) h

pub trim_end-trim_end : (bs : List ℕ) → trim_end (trim_end bs) ≡ trim_end bs
trim_end-trim_end [] = refl
trim_end-trim_end (b ∷ bs) = trim_end-before_end b (trim_end bs) (trim_end-trim_end bs)

starts_solid : (bs : List ℕ) → StartsSolid (trim_start bs)
starts_solid [] = tt
starts_solid (b ∷ bs) = elim (is_blank b) as (λ v. is_blank b ≡ v → StartsSolid (cond v (trim_start bs) (b ∷ bs))) [ true ↦ λ e. starts_solid bs | false ↦ λ e. e ] refl

solid_before_end : (b : ℕ) (bs : List ℕ) → is_blank b ≡ false → StartsSolid (before_end b bs)
solid_before_end b [] h = elim (is_blank b) as (λ v. is_blank b ≡ v → StartsSolid (cond v [] (b ∷ []))) [ true ↦ λ e. tt | false ↦ λ e. e ] refl
solid_before_end b (c ∷ cs) h = h

solid_trim_end : (bs : List ℕ) → StartsSolid bs → StartsSolid (trim_end bs)
solid_trim_end [] h = tt
solid_trim_end (b ∷ bs) h = solid_before_end b (trim_end bs) h

pub trim-is_trimmed : (bs : List ℕ) → IsTrimmed (trim bs)
trim-is_trimmed bs = (solid_trim_end (trim_start bs) (starts_solid bs), trim_end-trim_end (trim_start bs))
