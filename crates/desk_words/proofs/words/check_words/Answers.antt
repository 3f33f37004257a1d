use Rattle.desk_words.proofs.words.check_words.Goals as goal

pub returns-in-Ok : goal.returns-in-Ok
returns-in-Ok c = rw c.in-Ok.is (rw (c.behind_name.ensures, c.as_slice.ensures.value) at c.options.ensures.reads, tt, tt)
