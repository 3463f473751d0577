use Rattle.cell_laws.proofs.Solutions.{tame_right_sides_are_small, homogeneous_right_sides_are_small}
use Rattle.cell_laws.proofs.Solutions.{second_right_sides_are_small}
use Rattle.cell_laws.proofs.solution_laws.tame_right_sides_are_small.Goals as goal

pub returns-clause-single : goal.returns-clause-single
returns-clause-single c = tame_right_sides_are_small

pub returns-clause-homogeneous : goal.returns-clause-homogeneous
returns-clause-homogeneous c = homogeneous_right_sides_are_small

pub returns-clause-second : goal.returns-clause-second
returns-clause-second c = second_right_sides_are_small
