-- The list of a script's commands.
use Rattle.std.specs.Prelude.{ℕ, List}
use Rattle.script_help.specs.declared.commands.TheConstants.{COMMANDS}

-- the bytes of the list that users read
unfoldable pub command_list : List ℕ
command_list = COMMANDS.now
