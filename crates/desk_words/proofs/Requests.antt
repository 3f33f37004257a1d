-- What is told where the first word is no option, or is one word for help or the version.
use Rattle.clap.proofs.OnLiterals.{clap_on_literals}
use Rattle.clap.specs.Lexer.{strip_byte}
use Rattle.clap.specs.Walk.{Text}
use Rattle.clap.specs.Words.{IsAmong, fault_of, kind_of}
use Rattle.clap.specs.declared.error.Error.{Error}
use Rattle.clap.specs.declared.error.kind.ErrorKind.{ErrorKind}
use Rattle.clap.specs.declared.error.kind.ErrorKind.TheVariants.{DisplayHelp, DisplayVersion, OutOfMemory, UnknownArgument}
use Rattle.desk_words.proofs.Asked.{asked_chooses, asked_only}
use Rattle.desk_words.specs.Command.{Chooses, ChoosesSome, IsRefusedBy, desk}
use Rattle.desk_words.specs.Fault.{IsHelp, IsRefusal, IsVersion}
use Rattle.desk_words.specs.Told.{IsToldAs}
use Rattle.desk_words.specs.Words.{AsksForHelp, AsksForVersion, BeginsPlain, ReadsWords, chosen_by}
use Rattle.desk_words.specs.declared.settings.Options.{Options}
use Rattle.desk_words.specs.declared.words.OptionFault.{OptionFault}
use Rattle.desk_words.specs.declared.words.OptionFault.TheVariants.{NoMemory}
use Rattle.std.proofs.Common.{List, None, [], arith, false, inl, inr, refl, subst, sym, ◌==◌, ◌∙◌, ◌∷◌, ◌≡◌, ◌⊎◌}
use Rattle.std.proofs.lemmas.Bool.Decides.{nat_tests}
use Rattle.std.specs.Prelude.{Err, Ok}

fault_help : (words : List Text) → AsksForHelp words → fault_of desk words ≡ DisplayHelp ∷ []
unfolding clap_on_literals
fault_help words asks = elim asks [ inl short ↦ rw short refl | inr long ↦ rw long refl ]

fault_version : (words : List Text) → AsksForVersion words → fault_of desk words ≡ DisplayVersion ∷ []
unfolding clap_on_literals
fault_version words asks = elim asks [ inl short ↦ rw short refl | inr long ↦ rw long refl ]

fault_plain : (words : List Text) → BeginsPlain words → fault_of desk words ≡ UnknownArgument ∷ []
unfolding clap_on_literals
fault_plain [] plain = absurd plain
fault_plain ([] ∷ words) plain = refl
fault_plain ((b ∷ word) ∷ words) plain =
    let other : (b == 45) ≡ false = grind (arith, nat_tests) in
    let stripped : strip_byte 45 (b ∷ word) ≡ None = rw other refl in
    rw stripped (rw other refl)

-- where `clap` gives but one kind of error, that is the kind, or memory ran out
kind_is : (k : ErrorKind) (words : List Text) (e : Error) → fault_of desk words ≡ k ∷ [] → IsRefusedBy words e → (kind_of e ≡ OutOfMemory) ⊎ (kind_of e ≡ k)
kind_is k words e one (inl (inl memory)) = inl memory
kind_is k words e one (inl (inr among)) = elim (subst (IsAmong (kind_of e)) one among) [ inl same ↦ inr same | inr none ↦ absurd none ]
kind_is k words e one (inr lacks) = let bad : k ∷ [] ≡ [] = sym one ∙ lacks.taken in absurd (cc)

-- and is told so
told_as : (k : ErrorKind) (Q : OptionFault → Type 0) (words : List Text) (e : Error) (fault : OptionFault) → IsRefusedBy words e → IsToldAs (kind_of e) fault
    → Q NoMemory → (IsToldAs k fault → Q fault) → fault_of desk words ≡ k ∷ [] → Q fault
told_as k Q words e fault refused told none says one =
    elim (kind_is k words e one refused) [
      | inl memory ↦ subst Q (sym (subst (λ kind. IsToldAs kind fault) memory told)) none
      | inr same ↦ says (subst (λ kind. IsToldAs kind fault) same told)
    ]

memory_only : (words : List Text) (e : Error) (fault : OptionFault) → IsRefusedBy words e → IsToldAs (kind_of e) fault → ChoosesSome words → fault ≡ NoMemory
memory_only words e fault (inl (inl memory)) told some = subst (λ kind. IsToldAs kind fault) memory told
memory_only words e fault (inl (inr among)) told some = absurd (subst (IsAmong (kind_of e)) some.1.taken among)
memory_only words e fault (inr lacks) told some = absurd (lacks.none some)

-- words that are refused
pub reads_refused : (words : List Text) (e : Error) (fault : OptionFault) → IsRefusedBy words e → IsToldAs (kind_of e) fault → ReadsWords words (Err fault)
reads_refused words e fault refused told = record {
  given = λ choices asks. memory_only words e fault refused told (chosen_by choices, asked_chooses words choices asks);
  plain = λ plain. told_as UnknownArgument IsRefusal words e fault refused told tt (λ h. h) (fault_plain words plain);
  help = λ asks. told_as DisplayHelp IsHelp words e fault refused told tt (λ h. h) (fault_help words asks);
  version = λ asks. told_as DisplayVersion IsVersion words e fault refused told tt (λ h. h) (fault_version words asks);
}

taken_never : (k : ErrorKind) (words : List Text) (options : Options) → Chooses words options → fault_of desk words ≡ k ∷ [] → ⊥
taken_never k words options chosen one = let bad : k ∷ [] ≡ [] = sym one ∙ chosen.taken in cc

-- words that are taken
pub reads_taken : (words : List Text) (options : Options) → Chooses words options → ReadsWords words (Ok options)
reads_taken words options chosen = record {
  given = λ choices asks. asked_only words choices asks options chosen;
  plain = λ plain. taken_never UnknownArgument words options chosen (fault_plain words plain);
  help = λ asks. taken_never DisplayHelp words options chosen (fault_help words asks);
  version = λ asks. taken_never DisplayVersion words options chosen (fault_version words asks);
}
