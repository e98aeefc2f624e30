use Rattle.std.proofs.Common.{◌≡◌, sym, ap, true, ◌∙◌}
use Rattle.private_cache.specs.CopyTable.{is_pinned}
use Rattle.core_pts.specs.contracts.core_state.Core.{the_view}
use Rattle.core_pts.specs.CoreTable.{pinned_line}
use Rattle.core_pts.specs.OpenCopy.{has_open_copy}
use Rattle.core_pts.proofs.OpenCopies.{open-used}
use Rattle.core_pts.proofs.core_state.Core.fill_copy.Goals as goal

pub invariant_of-self : goal.invariant_of-self
invariant_of-self c =
    let words = c.self.inside.config.line_words in let op = c.self.inside.open_op in
    let pinned : is_pinned (pinned_line (the_view c.self.inside)) c.args.line ≡ true =
    ap (λ core. is_pinned (pinned_line core) c.args.line) c.self.view_is ∙ c.requires.pinned in (
      c.self.invariant.0,
      c.if-self.true ∙ sym (ap (λ cache. has_open_copy words cache op) c.put.ensures
          ∙ open-used (the_view c.self.inside) c.args.line c.args.copy op pinned
          (sym c.self.invariant.1 ∙ c.if-self.true)),
    )
