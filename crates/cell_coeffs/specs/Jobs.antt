-- Which plan a job is for, and how many powers its equations have.
use Rattle.std.specs.Prelude.{ℕ}
use Rattle.payment_plan.specs.declared.pattern.Which.{Which}
use Rattle.cell_coeffs.specs.declared.job.Job.{Job}
use Rattle.cell_coeffs.specs.declared.job.Job.TheVariants.{First}

-- the plan of a job
abbrev pub which_of : Job → Which
which_of (First which) = which

-- the greatest power of x in the equations of a job
abbrev pub degree_of : Job → ℕ
degree_of (First which) = 8
