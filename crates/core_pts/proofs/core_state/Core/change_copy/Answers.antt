use Rattle.std.proofs.Common.{◌≡◌, is_some, sym, ap, true, ◌∙◌}
use Rattle.private_cache.specs.CopyTable.{copy_of}
use Rattle.core_pts.specs.OpenCopy.{has_open_copy}
use Rattle.core_pts.proofs.OpenCopies.{open-changed}
use Rattle.core_pts.proofs.core_state.Core.change_copy.Goals as goal

pub invariant_of-self : goal.invariant_of-self
invariant_of-self c =
    let words = c.self.inside.config.line_words in let op = c.self.inside.open_op in
    let there : is_some (copy_of c.self.inside.cache c.args.line) ≡ true = rw (← c.self.view_is) at c.requires in (
      c.self.invariant.0,
      c.self.invariant.1 ∙ sym (ap (λ cache. has_open_copy words cache op) c.change.ensures
          ∙ open-changed words c.self.inside.cache c.args.line c.args.copy op there),
    )
