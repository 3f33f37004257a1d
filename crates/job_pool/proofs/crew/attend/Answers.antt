use Rattle.job_pool.proofs.crew.attend.Goals as goal

pub returns : goal.returns
returns g c = record { shown = _; shows = c.new-post.ensures; left = _; met = c.body.ensures }
