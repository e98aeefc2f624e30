use Rattle.std.proofs.Common.{◌≡◌, false, sym, ap, ◌∙◌}
use Rattle.private_cache.specs.CopyTable.{is_pinned}
use Rattle.core_pts.specs.contracts.core_state.Core.{the_view}
use Rattle.core_pts.specs.CoreTable.{pinned_line}
use Rattle.core_pts.specs.OpenCopy.{has_open_copy}
use Rattle.core_pts.proofs.OpenCopies.{is-out, open-gone}
use Rattle.core_pts.proofs.core_state.Core.evict.Goals as goal

pub invariant_of-self-then-not-is_exclusive : goal.invariant_of-self-then-not-is_exclusive
invariant_of-self-then-not-is_exclusive c =
    let words = c.self.inside.config.line_words in let op = c.self.inside.open_op in
    let out = is-out c.self.inside.cache c.args.line c.pinned_line-pinned.result _ _ _ c.in_ok-copy.copy c.evict.ensures
    c.in_ok-copy.was in
    let pinned : c.pinned_line-pinned.result ≡ pinned_line (the_view c.self.inside) =
    c.pinned_line-pinned.ensures ∙ sym (ap pinned_line c.self.view_is) in
    let free : is_pinned (pinned_line (the_view c.self.inside)) c.args.line ≡ false =
    ap (λ line. is_pinned line c.args.line) (sym pinned) ∙ out.free in (
      c.self.invariant.0,
      c.self.invariant.1 ∙ sym (ap (λ cache. has_open_copy words cache op) out.gone
          ∙ open-gone (the_view c.self.inside) c.args.line op out.there free),
    )

pub invariant_of-self-2 : goal.invariant_of-self-2
invariant_of-self-2 c =
    let words = c.self.inside.config.line_words in let op = c.self.inside.open_op in
    let out = is-out c.self.inside.cache c.args.line c.pinned_line-pinned.result _ _ _ c.in_ok-copy.copy c.evict.ensures
    c.in_ok-copy.was in
    let pinned : c.pinned_line-pinned.result ≡ pinned_line (the_view c.self.inside) =
    c.pinned_line-pinned.ensures ∙ sym (ap pinned_line c.self.view_is) in
    let free : is_pinned (pinned_line (the_view c.self.inside)) c.args.line ≡ false =
    ap (λ line. is_pinned line c.args.line) (sym pinned) ∙ out.free in (
      c.self.invariant.0,
      c.self.invariant.1 ∙ sym (ap (λ cache. has_open_copy words cache op) out.gone
          ∙ open-gone (the_view c.self.inside) c.args.line op out.there free),
    )
