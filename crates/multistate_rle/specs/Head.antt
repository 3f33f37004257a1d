-- What stands before the body of a pattern file.
use Rattle.std.specs.Prelude.{◌≡◌, IfSome, ℕ, ◌+◌, ◌==◌, ◌||◌, ◌&&◌, Bool, false, List, [], ◌∷◌, codes, length, is_some, Result, Ok, Err, if◌then◌else◌}
use Rattle.text_lines.specs.Lines.{Line}
use Rattle.basics.specs.Results.{◌>>=◌}
use Rattle.multistate_rle.specs.declared.comment.Origin.{Origin}
use Rattle.multistate_rle.specs.declared.fault.RleFault.{RleFault}
use Rattle.multistate_rle.specs.declared.head.Head as kept
use Rattle.multistate_rle.specs.declared.fault.RleFault.TheVariants.{NoHeader}
use Rattle.multistate_rle.specs.Comments.{after_comment}
use Rattle.multistate_rle.specs.Cut.{after, begins_with}
use Rattle.multistate_rle.specs.Header.{rule_name}

-- the origin of the pattern, the rule's name, and how many bytes stand before the body
pub record Head : Type 0 where
  pub origin : Origin
  pub name : List ℕ
  pub len : ℕ

-- a line that is blank or a comment is passed over
abbrev pub is_passed : List ℕ → Bool
is_passed line = (length line == 0) || begins_with 35 line

-- the head that the lines of a file give, where an origin and so many bytes were read before them
abbrev pub head_from : Origin → ℕ → List Line → Result Head RleFault
head_from origin len [] = Err NoHeader
head_from origin len (line ∷ lines) =
    if is_passed line.says
    then head_from (after_comment origin line.says) (len + length line.raw) lines
    else (rule_name line.says
    >>= λ name. Ok (record { origin = origin; name = name; len = len + length line.raw }))

-- one of the comments before the header may place the pattern: reading it takes memory
abbrev pub is_placed : List Line → Bool
is_placed [] = false
is_placed (line ∷ lines) =
    is_passed line.says && (is_some (after (codes "#CXRLE") line.says) || is_placed lines)

-- a head that was read: what it has is that of the file; where memory ran out, it has no origin
pub record IsHead (found : kept.Head) (head : Head) : Type 0 where
  pub name : found.name.now ≡ head.name
  pub len : found.len ≡ head.len
  pub origin : IfSome found.origin (λ origin. origin ≡ head.origin)

-- a call read a head, or gave the fault that there is in its place
abbrev pub ReadsHead : Result kept.Head RleFault → Result Head RleFault → Type 0
ReadsHead (Ok found) read = (head : Head) × (read ≡ Ok head) × IsHead found head
ReadsHead (Err fault) read = read ≡ Err fault
