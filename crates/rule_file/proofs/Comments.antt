-- Lines with and without their comments.
use Rattle.std.proofs.Common.{◌≡◌, ℕ, ◌+◌, ◌==◌, Bool, true, false, not, cond, List, [], ◌∷◌, ◌++◌, take, None, refl, arith, one-add}
use Rattle.std.specs.List.{before_first, position_or_len}
use Rattle.std.proofs.lemmas.Bool.Decides.{nat_tests}
use Rattle.text_lines.specs.Blanks.{before_end, is_blank, trim, trim_end}
use Rattle.text_lines.specs.Lines.{strip_carriage_return}
use Rattle.text_lines.proofs.Shared.LineEnds.{strip-behind}
use Rattle.rule_file.specs.Laws.{is_remark}
use Rattle.rule_file.specs.RuleFile.{opens_section, section_kind, without_comment}

-- a byte more, at which the bytes before the first that passes end or go on
before_first-cons : (p : ℕ → Bool) (b : ℕ) (bs : List ℕ) → before_first p (b ∷ bs) ≡ cond (p b) [] (b ∷ before_first p bs)
before_first-cons p b bs = elim (p b) as (λ v. take (cond (not v) (1 + position_or_len p bs) 0) (b ∷ bs) ≡ cond v [] (b ∷ before_first p bs)) [ true ↦ refl | false ↦ rw one-add refl ]

comment-cons : (b : ℕ) (bs : List ℕ) → without_comment (b ∷ bs) ≡ cond (b == 35) [] (b ∷ without_comment bs)
comment-cons b bs = before_first-cons (λ b. b == 35) b bs

-- a comment goes with its sign
without_comment-append : (line comment : List ℕ) → without_comment (line ++ 35 ∷ comment) ≡ without_comment line
without_comment-append [] comment = refl
without_comment-append (b ∷ bs) comment = rw (comment-cons b (bs ++ 35 ∷ comment), comment-cons b bs, without_comment-append bs comment) refl

before_end-solid : (b : ℕ) (end : List ℕ) → is_blank b ≡ false → before_end b end ≡ b ∷ end
before_end-solid b [] h = rw h refl
before_end-solid b (c ∷ cs) h = refl

-- blanks at the end of a line, behind its comment or before it
comment-trim_end : (bs : List ℕ) → trim_end (without_comment (trim_end bs)) ≡ trim_end (without_comment bs)
comment-trim_end [] = refl
comment-trim_end (b ∷ bs) = by (trim_end bs) (comment-trim_end bs)
  where
    by : (end : List ℕ) → trim_end (without_comment end) ≡ trim_end (without_comment bs) → trim_end (without_comment (before_end b end)) ≡ trim_end (without_comment (b ∷ bs))
    by [] same = grind (arith, nat_tests, same, comment-cons b bs, comment-cons b [])
    by (c ∷ cs) same = grind (arith, same, comment-cons b bs, comment-cons b (c ∷ cs))

-- a line says the same without its comment, trimmed before that or not
comment-trim : (bs : List ℕ) → trim (without_comment (trim bs)) ≡ trim (without_comment bs)
comment-trim [] = refl
comment-trim (b ∷ bs) = grind (arith, nat_tests, comment-trim bs, comment-trim_end bs, comment-cons b bs, comment-cons b (trim_end bs), before_end-solid b (trim_end bs))

-- a sign of a comment stands before the end of its line
strip-comment : (line comment : List ℕ) → strip_carriage_return (line ++ 35 ∷ comment) ≡ line ++ 35 ∷ strip_carriage_return comment
strip-comment line [] = strip-behind line 35 []
strip-comment line (c ∷ cs) = strip-behind line 35 (c ∷ cs)

-- a line says the same with a comment and without it
pub said-comment : (line comment : List ℕ) → strip_carriage_return line ≡ line → trim (without_comment (trim (strip_carriage_return (line ++ 35 ∷ comment)))) ≡ trim (without_comment (trim (strip_carriage_return line)))
said-comment line comment unended =
    rw (comment-trim (strip_carriage_return (line ++ 35 ∷ comment)), comment-trim (strip_carriage_return line), strip-comment line comment, unended, without_comment-append line (strip_carriage_return comment))
    refl

opens-behind : (bs comment : List ℕ) → opens_section (trim bs) ≡ false → opens_section (trim (bs ++ 35 ∷ comment)) ≡ false
opens-behind [] comment h = rw (before_end-solid 35 (trim_end comment) refl) refl
opens-behind (b ∷ bs) comment h = grind (arith, opens-behind bs comment, before_end-solid b (trim_end bs), before_end-solid b (trim_end (bs ++ 35 ∷ comment)))

-- a comment opens no section
pub opens-comment : (line comment : List ℕ) → opens_section (trim line) ≡ false → opens_section (trim (strip_carriage_return (line ++ 35 ∷ comment))) ≡ false
opens-comment line comment h = rw (strip-comment line comment) (opens-behind line (strip_carriage_return comment) h)

-- a line that opens no section opens no table and no tree
pub section_kind-none : (text : List ℕ) → opens_section text ≡ false → section_kind text ≡ None
section_kind-none [] h = refl
section_kind-none (b ∷ bs) h = grind (arith, before_first-cons is_blank b bs)

-- a line that is blank or a comment opens no section and says nothing
pub remark-silent : (line : List ℕ) → is_remark line ≡ true → (opens_section line ≡ false) × (trim (without_comment line) ≡ [])
remark-silent [] h = (refl, refl)
remark-silent (b ∷ bs) h = (grind (arith, nat_tests), rw (comment-cons b bs, h) refl)
