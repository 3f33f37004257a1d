-- Numbers among the words of a line.
use Rattle.std.specs.Prelude.{ℕ, min, ℤ, List, Option}
use Rattle.std.specs.Option.{option_map}
use Rattle.std.specs.Int.{saturate_signed, w64}
use Rattle.text_lines.specs.Numbers.{number_of}
use Rattle.script_lines.specs.Numbers.{integer_of}

-- a number up to `most`; one too large is `most`
abbrev pub up_to : ℕ → List ℕ → Option ℕ
up_to most word = option_map (λ n. min n most) (number_of word)

-- a coordinate; one too large or too small is the nearest there is
abbrev pub coordinate : List ℕ → Option ℤ
coordinate word = option_map (saturate_signed w64) (integer_of word)
