use Rattle.std.proofs.Common.{ap, ◌∙◌}
use Rattle.litmus_parser.specs.Table.{has_shape}
use Rattle.litmus_parser.proofs.ShapeLaws.{shaped, only-shaped}
use Rattle.litmus_parser.proofs.laws.rows_have_this_shape.Goals as goal

pub returns-clause-shaped : goal.returns-clause-shaped
returns-clause-shaped c = λ bars pieces h.
    ap (has_shape bars) h.split ∙ shaped h.front h.rest bars h.inner h.count h.ends

pub returns-clause-only : goal.returns-clause-only
returns-clause-only c = only-shaped
