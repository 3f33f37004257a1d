-- A line that is being kept, a byte at a time.
use Rattle.script_lines.proofs.Names.{Blank, Bool, Cut, Holds, IsRest, KeepsBy, KeptLine, List, None, Says, Some, Took, Whole, [], ap, append-nil, append_assoc, arith, cond, ends_in_space, false, is_blank, is_passed_over, length}
use Rattle.script_lines.proofs.Names.{push_not_nil, refl, slice_get, squash, squashed, subst, sym, trim, trim_end, trim_end-push, trim_end-push_blank, trim_start, true, words, ℕ, ◌++◌, ◌==◌, ◌∙◌, ◌∷◌, ◌≡◌, ◌≢◌}
use Rattle.script_lines.specs.declared.kept_line.Tail.{Tail}
use Rattle.script_lines.proofs.Trims.{nil_front, trim_start-push, trim_start-push_blank, trim_end-push_some, trim_end-append, trim_end-append_blank, trim-is_trimmed}
use Rattle.script_lines.proofs.Squash.{squash-push_kept, squash-push_gap, squash-nil, squash-trim_end, squash-trimmed, words-squashed, ends_in_space-push}

-- ---- one more byte that is to be kept

holds_lost : (tail after : Tail) (kept new bs : List ℕ) (b : ℕ) → (h : Holds tail kept bs) → new ≡ kept → IsRest after kept (h.more ++ b ∷ []) → Holds after new (bs ++ b ∷ [])
holds_lost tail after kept new bs b h n rest = subst (λ k. Holds after k (bs ++ b ∷ [])) (sym n) (record {
  more = h.more ++ b ∷ [];
  split = ap (λ s. s ++ b ∷ []) h.split ∙ append_assoc kept h.more (b ∷ []);
  rest = rest;
})

pub holds_blank : (tail : Tail) (kept bs : List ℕ) (b : ℕ) → tail ≡ Blank → is_blank b ≡ true → Holds tail kept bs → Holds tail kept (bs ++ b ∷ [])
holds_blank tail kept bs b e k h =
    let rest : IsRest Blank kept h.more = subst (λ v. IsRest v kept h.more) e h.rest in
    holds_lost tail tail kept kept bs b h refl (subst (λ v. IsRest v kept (h.more ++ b ∷ [])) (sym e) (trim_end-push_blank h.more b k ∙ rest.0, rest.1))

pub holds_more : (tail : Tail) (kept bs : List ℕ) (b : ℕ) → tail ≡ Blank → is_blank b ≡ false → Holds tail kept bs → Holds Cut kept (bs ++ b ∷ [])
holds_more tail kept bs b e k h =
    let rest : IsRest Blank kept h.more = subst (λ v. IsRest v kept h.more) e h.rest in
    holds_lost tail Cut kept kept bs b h refl ((λ f. push_not_nil h.more b (sym (trim_end-push h.more b k) ∙ f)), rest.1)

pub holds_cut : (tail : Tail) (kept bs : List ℕ) (b : ℕ) → tail ≡ Cut → Holds tail kept bs → Holds tail kept (bs ++ b ∷ [])
holds_cut tail kept bs b e h =
    let rest : IsRest Cut kept h.more = subst (λ v. IsRest v kept h.more) e h.rest in
    holds_lost tail tail kept kept bs b h refl (subst (λ v. IsRest v kept (h.more ++ b ∷ [])) (sym e) (trim_end-push_some h.more b rest.0, rest.1))

-- ---- one more byte of the line

-- nothing was taken where nothing is kept
took_nothing : (tail : Tail) (kept bs : List ℕ) → kept ≡ [] → Holds tail kept (squash false bs) → bs ≡ []
took_nothing tail kept bs e h = squash-nil bs (h.split ∙ ap (λ k. k ++ h.more) e ∙ by_tail tail h.rest)
  where
    by_tail : (tail : Tail) → IsRest tail kept h.more → h.more ≡ []
    by_tail Whole r = r
    by_tail Blank r = absurd (omega (arith, r.1, ap length e))
    by_tail Cut r = absurd (omega (arith, r.1, ap length e))

-- a blank at the front is passed over
pub took_none : (line : KeptLine) (bytes : List ℕ) (b : ℕ) → line.kept.items ≡ [] → is_blank b ≡ true → Took line bytes → Took line (bytes ++ b ∷ [])
took_none line bytes b e k t =
    let none : trim_start bytes ≡ [] = took_nothing line.tail line.kept.items (trim_start bytes) e t.holds in
    let still : trim_start (bytes ++ b ∷ []) ≡ trim_start bytes = trim_start-push_blank bytes b none k ∙ sym none in
    record {
      holds = subst (λ s. Holds line.tail line.kept.items (squash false s)) (sym still) t.holds;
      in_gap = ap (ends_in_space false) still ∙ t.in_gap;
    }

-- a space behind a space is passed over
pub took_gap : (line : KeptLine) (bytes : List ℕ) (b : ℕ) → line.gap ≡ true → (b == 32) ≡ true → Took line bytes → Took line (bytes ++ b ∷ [])
took_gap line bytes b g k t =
    let ended : ends_in_space false (trim_start bytes) ≡ true = t.in_gap ∙ g in
    let more : trim_start (bytes ++ b ∷ []) ≡ trim_start bytes ++ b ∷ [] = trim_start-push bytes b (λ e. absurd (let f : false ≡ true = ap (ends_in_space false) (sym e) ∙ ended in cc)) in
    record {
      holds = subst (Holds line.tail line.kept.items) (sym (ap (squash false) more ∙ squash-push_gap (trim_start bytes) b ended k)) t.holds;
      in_gap = ap (ends_in_space false) more ∙ ends_in_space-push false (trim_start bytes) b ∙ k ∙ sym g;
    }

-- another byte is kept, where there is memory
pub took_more : (line next : KeptLine) (bytes : List ℕ) (b : ℕ) → (line.kept.items ≡ [] → is_blank b ≡ false) → (line.gap ≡ true → (b == 32) ≡ false) → next.gap ≡ (b == 32)
    → ((s : List ℕ) → Holds line.tail line.kept.items s → Holds next.tail next.kept.items (s ++ b ∷ [])) → Took line bytes → Took next (bytes ++ b ∷ [])
took_more line next bytes b solid apart g add t =
    let more : trim_start (bytes ++ b ∷ []) ≡ trim_start bytes ++ b ∷ [] = trim_start-push bytes b (λ e. solid (nil_front line.kept.items t.holds.more (sym t.holds.split ∙ ap (squash false) e))) in
    record {
      holds = subst (Holds next.tail next.kept.items) (sym (ap (squash false) more ∙ squash-push_kept (trim_start bytes) b line.gap t.in_gap apart)) (add (squash false (trim_start bytes)) t.holds);
      in_gap = ap (ends_in_space false) more ∙ ends_in_space-push false (trim_start bytes) b ∙ sym g;
    }

-- ---- the line's end

squashed-trim : (bytes : List ℕ) → squashed (trim bytes) ≡ trim_end (squash false (trim_start bytes))
squashed-trim bytes = sym (squash-trimmed (trim bytes) (trim-is_trimmed bytes)) ∙ squash-trim_end false (trim_start bytes)

pub says_cut : (line : KeptLine) (bytes : List ℕ) → line.tail ≡ Cut → Took line bytes → Says line (trim bytes)
says_cut line bytes e t =
    let kept = line.kept.items in
    let rest : IsRest Cut kept t.holds.more = subst (λ v. IsRest v kept t.holds.more) e t.holds.rest in
    record {
      trimmed = trim-is_trimmed bytes;
      keeps = subst (λ v. KeepsBy v kept (squashed (trim bytes))) (sym e) (record {
        more = trim_end t.holds.more;
        split = squashed-trim bytes ∙ ap trim_end t.holds.split ∙ trim_end-append kept t.holds.more rest.0;
        some = rest.0;
        long = rest.1;
      });
    }

pub says_kept : (line next : KeptLine) (bytes : List ℕ) → line.tail ≢ Cut → next.tail ≡ line.tail → next.kept.items ≡ trim_end line.kept.items → Took line bytes → Says next (trim bytes)
says_kept line next bytes n e k t = record {
  trimmed = trim-is_trimmed bytes;
  keeps = subst (λ v. KeepsBy v next.kept.items (squashed (trim bytes))) (sym e) (by_tail line.tail n t.holds.rest);
}
  where
    by_tail : (tail : Tail) → tail ≢ Cut → IsRest tail line.kept.items t.holds.more → KeepsBy tail next.kept.items (squashed (trim bytes))
    by_tail Whole n r = k ∙ sym (squashed-trim bytes ∙ ap trim_end (t.holds.split ∙ ap (λ m. line.kept.items ++ m) r ∙ append-nil line.kept.items))
    by_tail Blank n r = k ∙ sym (squashed-trim bytes ∙ ap trim_end t.holds.split ∙ trim_end-append_blank line.kept.items t.holds.more r.0)
    by_tail Cut n r = absurd (n refl)

-- ---- what a line says

pub kept_words : (line : KeptLine) (says : List ℕ) → line.tail ≢ Cut → Says line says → words line.kept.items ≡ words says
kept_words line says n s = ap words (by_tail line.tail n s.keeps) ∙ words-squashed says s.trimmed
  where
    by_tail : (tail : Tail) → tail ≢ Cut → KeepsBy tail line.kept.items (squashed says) → line.kept.items ≡ squashed says
    by_tail Whole n k = k
    by_tail Blank n k = k
    by_tail Cut n k = absurd (n refl)

-- what is kept is a front of the words
kept_front : (line : KeptLine) (says : List ℕ) → Says line says → (more : List ℕ) × (squash false says ≡ line.kept.items ++ more)
kept_front line says s = by_tail line.tail s.keeps
  where
    by_tail : (tail : Tail) → KeepsBy tail line.kept.items (squashed says) → (more : List ℕ) × (squash false says ≡ line.kept.items ++ more)
    by_tail Whole k = ([], squash-trimmed says s.trimmed ∙ sym k ∙ sym (append-nil line.kept.items))
    by_tail Blank k = ([], squash-trimmed says s.trimmed ∙ sym k ∙ sym (append-nil line.kept.items))
    by_tail Cut k = (k.more, squash-trimmed says s.trimmed ∙ k.split)

kept_none : (line : KeptLine) (says : List ℕ) → line.kept.items ≡ [] → Says line says → squash false says ≡ []
kept_none line says e s = squash-trimmed says s.trimmed ∙ by_tail line.tail s.keeps
  where
    by_tail : (tail : Tail) → KeepsBy tail line.kept.items (squashed says) → squashed says ≡ []
    by_tail Whole k = sym k ∙ e
    by_tail Blank k = sym k ∙ e
    by_tail Cut k = absurd (omega (arith, k.long, ap length e))

pub get-none : (xs : List ℕ) → slice_get xs 0 ≡ None → xs ≡ []
get-none [] e = refl
get-none (x ∷ xs) e = cc

-- a line of which nothing is kept is blank
pub passed_blank : (line : KeptLine) (says : List ℕ) → line.kept.items ≡ [] → Says line says → true ≡ is_passed_over says
passed_blank line says e s = sym (ap is_passed_over (squash-nil says (kept_none line says e s)))

squash-first : (says : List ℕ) (x : ℕ) (xs : List ℕ) → squash false says ≡ x ∷ xs → is_passed_over says ≡ (x == 35)
squash-first [] x xs e = absurd (cc)
squash-first (b ∷ bs) x xs e = ap (λ v. v == 35) (by_space (b == 32) e)
  where
    by_space : (v : Bool) → cond v (b ∷ squash true bs) (b ∷ squash false bs) ≡ x ∷ xs → b ≡ x
    by_space true f = cc
    by_space false f = cc

-- the first byte that is kept is the line's
pub passed_first : (line : KeptLine) (says : List ℕ) (first : ℕ) → Some first ≡ slice_get line.kept.items 0 → Says line says → (first == 35) ≡ is_passed_over says
passed_first line says first e s = let front = kept_front line says s in sym (by_kept line.kept.items front.0 e front.1)
  where
    by_kept : (kept more : List ℕ) → Some first ≡ slice_get kept 0 → squash false says ≡ kept ++ more → is_passed_over says ≡ (first == 35)
    by_kept [] more f g = absurd (cc)
    by_kept (x ∷ xs) more f g = squash-first says x (xs ++ more) g ∙ ap (λ v. v == 35) (let same : x ≡ first = cc in same)
