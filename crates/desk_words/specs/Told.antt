-- What is told of an error of `clap`.
use Rattle.std.specs.Prelude.{◌≡◌}
use Rattle.clap.specs.declared.error.kind.ErrorKind.{ErrorKind}
use Rattle.clap.specs.declared.error.kind.ErrorKind.TheVariants.{DisplayHelp, DisplayVersion, OutOfMemory}
use Rattle.desk_words.specs.Fault.{IsHelp, IsRefusal, IsVersion}
use Rattle.desk_words.specs.declared.words.OptionFault.{OptionFault}
use Rattle.desk_words.specs.declared.words.OptionFault.TheVariants.{NoMemory}

-- an error of this kind is told so
abbrev pub IsToldAs : ErrorKind → OptionFault → Type 0
IsToldAs OutOfMemory fault = fault ≡ NoMemory
IsToldAs DisplayHelp fault = IsHelp fault
IsToldAs DisplayVersion fault = IsVersion fault
IsToldAs _ fault = IsRefusal fault
