-- Parts of what is written.
use Rattle.std.specs.Prelude.{ℕ, List, decimal, flat_map}
use Rattle.std.specs.Fmt.{signed_decimal}
use Rattle.desk_script.specs.declared.part.Part.{Part}
use Rattle.desk_script.specs.declared.part.Part.TheVariants as part

-- the bytes of one part after the other
abbrev pub part_text : Part → List ℕ
part_text (part.Text bytes) = bytes.now
part_text (part.Number n) = decimal n
part_text (part.Signed z) = signed_decimal z

abbrev pub parts_text : List Part → List ℕ
parts_text = flat_map part_text
