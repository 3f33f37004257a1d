-- What the descriptors of a table say: its head, or the first fault.
use Rattle.std.specs.Prelude.{ℕ, Bool, false, if◌then◌else◌, List, [], ◌∷◌, Option, codes, Some, None, Result, Ok, Err, is_none, option_and_then}
use Rattle.std.specs.Option.{option_map, option_map_or, ok_or}
use Rattle.table_lines.specs.declared.neighborhood.Neighborhood.{Neighborhood}
use Rattle.std.specs.Str.{bytes_eq}
use Rattle.text_lines.specs.NamedValues.{named_value}
use Rattle.rule_file.specs.declared.fault.RuleFault.{RuleFault}
use Rattle.rule_file.specs.declared.fault.RuleFault.TheVariants.{MissingDescriptor, BadStates, BadNeighborhood, BadSymmetry, BadTransition}
use Rattle.basics.specs.Results.{◌>>=◌}
use Rattle.rule_file.specs.RuleFile.{NumberedLine}
use Rattle.rule_file.specs.States.{states_in}
use Rattle.table_lines.specs.declared.descriptors.Head.{Head}
use Rattle.table_lines.specs.declared.descriptors.Descriptor.{Descriptor}
use Rattle.table_lines.specs.Neighborhood.{neighborhood_named}
use Rattle.table_lines.specs.Symmetry.{symmetry_named}
use Rattle.table_lines.specs.declared.descriptors.Descriptor.TheVariants as descriptor

-- the descriptor of this word
abbrev pub descriptor_named : List ℕ → Option Descriptor
descriptor_named word =
    if bytes_eq word (codes "n_states") then Some descriptor.States
    else
    (if bytes_eq word (codes "neighborhood") then Some descriptor.Neighborhood
    else
    (if bytes_eq word (codes "symmetries") then Some descriptor.Symmetries
    else None))

-- a descriptor and its value, which a colon parts, if the line is one
abbrev pub descriptor_of : List ℕ → Option (Descriptor × List ℕ)
descriptor_of line =
    option_and_then (λ named. option_map (λ d. (d, named.1)) (descriptor_named named.0))
    (named_value 58 line)

-- what the descriptors said so far; the symmetry is a name until the neighbourhood is known
pub record Described : Type 0 where
  pub states : Option ℕ
  pub neighborhood : Option Neighborhood
  pub symmetry : Option (List ℕ)

-- nothing was described yet
abbrev pub undescribed : Described
undescribed = record { states = None; neighborhood = None; symmetry = None }

-- neighbourhood and symmetry are there, and the one has no symmetry of that name
abbrev pub are_unfit : Option Neighborhood → Option (List ℕ) → Bool
are_unfit None name = false
are_unfit (Some neighborhood) None = false
are_unfit (Some neighborhood) (Some name) = is_none (symmetry_named neighborhood name)

-- a symmetry is looked up as soon as the neighbourhood is there too
abbrev pub fitting : Described → Result Described RuleFault
fitting d = if are_unfit d.neighborhood d.symmetry then Err BadSymmetry else Ok d

-- a descriptor is described once
abbrev pub once : {X : Type 0} → ℕ → Option X → Result Described RuleFault
    → Result Described RuleFault
once number None described = described
once number (Some x) described = Err (BadTransition number)

-- what one more descriptor says
abbrev pub describe : Described → ℕ → Descriptor → List ℕ → Result Described RuleFault
describe d number descriptor.States value =
    once number d.states
    (ok_or (states_in value) BadStates >>= λ n. Ok (record d { states = Some n }))
describe d number descriptor.Neighborhood value =
    once number d.neighborhood
    (ok_or (neighborhood_named value) BadNeighborhood >>= λ n.
    fitting (record d { neighborhood = Some n }))
describe d number descriptor.Symmetries value =
    once number d.symmetry (fitting (record d { symmetry = Some value }))

-- the head, if all three descriptors were there
abbrev pub head_of : Described → Result Head RuleFault
head_of d = do
  states ← ok_or d.states MissingDescriptor
  neighborhood ← ok_or d.neighborhood MissingDescriptor
  name ← ok_or d.symmetry MissingDescriptor
  symmetry ← ok_or (symmetry_named neighborhood name) BadSymmetry
  Ok (record { states = states; neighborhood = neighborhood; symmetry = symmetry })

-- the head that the first lines describe, up to one that is no descriptor, and the lines from there
-- on
abbrev pub head_from : Described → List NumberedLine → Result (Head × List NumberedLine) RuleFault
head_from d [] = head_of d >>= λ head. Ok (head, [])
head_from d (line ∷ lines) =
    option_map_or (λ x. describe d line.number x.0 x.1 >>= λ e. head_from e lines)
    (descriptor_of line.text) (head_of d >>= λ head. Ok (head, line ∷ lines))
