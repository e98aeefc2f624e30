use Rattle.std.proofs.Common.{sym, ◌∙◌, arith}
use Rattle.line_sets.proofs.Tags.{untagged}
use Rattle.line_sets.proofs.entries.Row.index_of_line.Goals as goal

pub returns-then-at-self : goal.returns-then-at-self
returns-then-at-self g c =
    λ k low tag. absurd (untagged c.args.self.now.tags c.tag_of-tag.result c.count_tags_before-at.result k
    c.count_tags_before-at.ensures (omega (arith, low, c.if-at-self.true)) (tag ∙ sym c.tag_of-tag.ensures))
