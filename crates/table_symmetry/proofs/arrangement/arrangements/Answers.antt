use Rattle.table_symmetry.proofs.arrangement.arrangements.Goals as goal

pub returns-in-Rotate6Reflect : goal.returns-in-Rotate6Reflect
returns-in-Rotate6Reflect c = rw c.in-Rotate6Reflect.is c.turns_and_reflections-in-Rotate6Reflect.ensures

pub returns-in-Rotate8Reflect : goal.returns-in-Rotate8Reflect
returns-in-Rotate8Reflect c = rw c.in-Rotate8Reflect.is c.turns_and_reflections-in-Rotate8Reflect.ensures
