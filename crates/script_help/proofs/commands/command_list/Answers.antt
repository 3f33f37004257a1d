use Rattle.std.proofs.Common.{refl}
use Rattle.script_help.specs.Commands.{command_list}
use Rattle.script_help.proofs.commands.command_list.Goals as goal

pub returns : goal.returns
unfolding command_list
returns c = refl
