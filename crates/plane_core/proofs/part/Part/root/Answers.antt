use Rattle.std.proofs.Common.{refl}
use Rattle.plane_core.proofs.Parts.{is_root}
use Rattle.plane_core.proofs.part.Part.root.Goals as goal

pub returns : goal.returns
returns c = is_root c.args.rows.now _ c.requires.rows c.root_level-level.ensures.level refl c.corner_of.ensures.x c.corner_of.ensures.y
