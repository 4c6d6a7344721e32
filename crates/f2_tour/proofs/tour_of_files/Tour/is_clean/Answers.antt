use Rattle.std.proofs.Common.{[]}
use Rattle.f2_tour.proofs.tour_of_files.Tour.is_clean.Goals as goal

pub returns-then-self : goal.returns-then-self
returns-then-self c = λ gives none. c.is_empty.ensures [] none
