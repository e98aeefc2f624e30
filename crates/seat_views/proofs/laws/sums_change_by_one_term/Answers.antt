use Rattle.seat_views.proofs.Sums.{over_put_by, over_same, over_has}
use Rattle.seat_views.proofs.laws.sums_change_by_one_term.Goals as goal

pub returns-clause-changed : goal.returns-clause-changed
returns-clause-changed g c = λ n weight f i x. over_put_by n weight f i x

pub returns-clause-alike : goal.returns-clause-alike
returns-clause-alike g c = λ n f h. over_same n f h

pub returns-clause-below : goal.returns-clause-below
returns-clause-below g c = λ n weight f i. over_has n weight f i
