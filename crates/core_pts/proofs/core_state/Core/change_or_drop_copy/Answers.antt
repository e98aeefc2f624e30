use Rattle.std.proofs.Common.{◌≡◌, is_some, false, sym, ap, true, ◌∙◌}
use Rattle.private_cache.specs.CopyTable.{copy_of, is_pinned}
use Rattle.core_pts.specs.contracts.core_state.Core.{the_view}
use Rattle.core_pts.specs.CoreTable.{pinned_line}
use Rattle.core_pts.specs.OpenCopy.{has_open_copy}
use Rattle.core_pts.proofs.OpenCopies.{open-changed, open-gone, taken-out}
use Rattle.core_pts.proofs.core_state.Core.change_or_drop_copy.Goals as goal

pub invariant_of-self : goal.invariant_of-self
invariant_of-self c =
    let words = c.self.inside.config.line_words in let op = c.self.inside.open_op in
    let there : is_some (copy_of c.self.inside.cache c.args.line) ≡ true =
    rw (← c.self.view_is) at c.requires.there in (
      c.self.invariant.0,
      c.self.invariant.1 ∙ sym (ap (λ cache. has_open_copy words cache op) c.change.ensures
          ∙ open-changed words c.self.inside.cache c.args.line c.in-Some.copy op there),
    )

pub invariant_of-self-in-None : goal.invariant_of-self-in-None
invariant_of-self-in-None c =
    let words = c.self.inside.config.line_words in let op = c.self.inside.open_op in
    let there : is_some (copy_of c.self.inside.cache c.args.line) ≡ true = rw (← c.self.view_is) at c.requires.there in
    let free : is_pinned (pinned_line (the_view c.self.inside)) c.args.line ≡ false =
    ap (λ core. is_pinned (pinned_line core) c.args.line) c.self.view_is ∙ c.requires.free in (
      c.self.invariant.0,
      c.self.invariant.1 ∙ sym (ap (λ cache. has_open_copy words cache op)
          (taken-out c.self.inside.cache c.args.line _ _ _ c.evict-gone.ensures there)
          ∙ open-gone (the_view c.self.inside) c.args.line op there free),
    )
