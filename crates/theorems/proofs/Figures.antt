-- The executable parts of demand 3, computed on some jobs.
use Rattle.std.specs.Prelude.{◌≡◌, refl, true}
use Rattle.lists.specs.Lists.{all}
use Rattle.rules.specs.Parts.{P3, P7, P8, P9, ring_job, lens_job}
use Rattle.rules.specs.Open.{computes}
use Rattle.theorems.specs.Demand3.{reached}
use Rattle.theorems.specs.Figures.{figures, right, cylinder, four_edges, pentagon, spur, table}

-- each job has its figures
pub figures_right : all right table ≡ true
unfolding computes figures reached ring_job lens_job P3 P7 P8 P9 cylinder four_edges pentagon spur table
figures_right = refl
