-- What the words come to where they start no run.
use Rattle.desk_words.specs.declared.words.OptionFault.{OptionFault}
use Rattle.desk_words.specs.declared.words.OptionFault.TheVariants.{Help, Version, Refused, NoMemory}

-- help, or no memory for it
abbrev pub IsHelp : OptionFault → Type 0
IsHelp (Help text) = Unit {0}
IsHelp (Version text) = ⊥
IsHelp (Refused text) = ⊥
IsHelp NoMemory = Unit {0}

-- the version, or no memory for it
abbrev pub IsVersion : OptionFault → Type 0
IsVersion (Help text) = ⊥
IsVersion (Version text) = Unit {0}
IsVersion (Refused text) = ⊥
IsVersion NoMemory = Unit {0}

-- refused words, or no memory to say so
abbrev pub IsRefusal : OptionFault → Type 0
IsRefusal (Help text) = ⊥
IsRefusal (Version text) = ⊥
IsRefusal (Refused text) = Unit {0}
IsRefusal NoMemory = Unit {0}
