-- What is found of the words, and what it makes of the options.
use Rattle.clap.proofs.WalkLemmas.{first_value-rows}
use Rattle.clap.specs.Walk.{Text, first_of}
use Rattle.clap.specs.Words.{fault_of, first_value, matches_of, rows_of}
use Rattle.clap.specs.declared.error.Error.{Error}
use Rattle.clap.specs.declared.parser.matches.Found.{Found}
use Rattle.desk_words.specs.Command.{IsNoNumber, IsNumberFor, IsRefusedBy, desk, text_of}
use Rattle.desk_words.specs.Setting.{name_of, number_of}
use Rattle.desk_words.specs.declared.settings.Setting.{Setting}
use Rattle.std.proofs.Common.{List, [], ap, inl, inr, subst, sym, ℕ, ◌∙◌, ◌≡◌}

text_found : (s : Setting) (words : List Text) (f : Found) → rows_of f ≡ matches_of desk words → first_value f (name_of s) ≡ text_of s words
text_found s words f rows = first_value-rows f (name_of s) ∙ ap (first_of (name_of s)) rows

-- a number that is found is the one that the words choose
pub number_found : (s : Setting) (words : List Text) (f : Found) (n : ℕ) → rows_of f ≡ matches_of desk words
    → IsNumberFor s (first_value f (name_of s)) n → IsNumberFor s (text_of s words) n
number_found s words f n rows is = subst (λ t. IsNumberFor s t n) (text_found s words f rows) is

-- where none is found the words choose no options
pub none_found : (s : Setting) (words : List Text) (f : Found) (e : Error) → rows_of f ≡ matches_of desk words → fault_of desk words ≡ []
    → IsNoNumber s (first_value f (name_of s)) e → IsRefusedBy words e
none_found s words f e rows taken (inl memory) = inl (inl memory)
none_found s words f e rows taken (inr wrong) = inr (record {
  kind = wrong.0;
  taken = taken;
  none = λ some. wrong.1 (number_of s some.0) (subst (λ t. IsNumberFor s t (number_of s some.0)) (sym (text_found s words f rows)) (some.1.numbers s));
})
