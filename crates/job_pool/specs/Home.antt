-- The rule of the channel of answers.
use Rattle.std.specs.Prelude.{◌≡◌, ℕ, List, [], ◌∷◌, length, Option, None, Some, ⊤}
use mathlib.Core.Option.{some}
use lib.ListN.{get_elem?}
use Rattle.revision_jobs.specs.declared.entries.Entries.{Entries}
use Rattle.revision_jobs.specs.Answer.{JobResult}
use Rattle.revision_jobs.specs.Posted.{IsOwnAnswer}
use Rattle.job_queue.specs.Tables.{no_table}
use Rattle.job_pool.specs.declared.answer_rule.Terms.{Terms}

-- the terms of this table and this limit
abbrev pub terms_of : Entries → ℕ → Terms
terms_of table limit = record { table = table; limit = limit }

-- terms that stand for none
abbrev pub no_terms : Terms
no_terms = terms_of no_table 0

-- the terms that an end knows
abbrev pub terms_in : Option Terms → Terms
terms_in None = no_terms
terms_in (Some terms) = terms

-- the answer is of the table that is known, and at the limit; of none while no table is
abbrev pub IsAnswerOf : Option Terms → JobResult → Type 0
IsAnswerOf None answer = ⊥
IsAnswerOf (Some terms) answer = IsOwnAnswer terms.table terms.limit answer

-- each answer is so
abbrev pub AreAnswersOf : Option Terms → List JobResult → Type 0
AreAnswersOf known [] = ⊤
AreAnswersOf known (answer ∷ answers) = IsAnswerOf known answer × AreAnswersOf known answers

-- all ends know the same, and all answers are so; it gets its name before there is a second end
pub record IsHome (answers : List JobResult) (views : List (Option Terms)) : Type 0 where
  pub terms : Option Terms
  pub known : (port : ℕ) (v : Option Terms) → get_elem? views port ≡ some v → v ≡ terms
  pub owned : AreAnswersOf terms answers
  pub alone : terms ≡ None → length views ≡ 1
