-- Numbers and names of what may refuse a pool.
use Rattle.std.specs.Prelude.{ℕ, List, codes}
use Rattle.job_pool.specs.declared.fault.PoolFault.{PoolFault}
use Rattle.job_pool.specs.declared.fault.PoolFault.TheVariants.{NoMemory, NoWorker}

-- the number of a refusal
abbrev pub number_of : PoolFault → ℕ
number_of NoMemory = 70
number_of NoWorker = 74

-- its name
abbrev pub name_of : PoolFault → List ℕ
name_of NoMemory = codes "NoMemory"
name_of NoWorker = codes "NoWorker"
