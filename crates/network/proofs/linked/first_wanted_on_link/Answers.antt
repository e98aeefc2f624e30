use Rattle.std.proofs.Common.{sym, ap, ◌∙◌}
use Rattle.std.specs.Option.{is_some}
use Rattle.network.specs.Requests.{is_wanted}
use Rattle.network.proofs.FirstMessages.{first-passes, first-fails}
use Rattle.network.proofs.linked.first_wanted_on_link.Goals as goal

pub get-entry-requires : goal.get-entry-requires
get-entry-requires c =
    let met = c.looked_up.ensures.met c.args.arena.now.lists c.args.list c.loop.counter c.in-Some.cell
    c.lists-lists.ensures.once (sym c.loop.invariant.0 ∙ c.in-Some.is) in
    ap is_some met.cell

pub returns-then-wants_message : goal.returns-then-wants_message
returns-then-wants_message c =
    let met = c.looked_up.ensures.met c.args.arena.now.lists c.args.list c.loop.counter c.in-Some.cell
    c.lists-lists.ensures.once (sym c.loop.invariant.0 ∙ c.in-Some.is) in
    sym (c.loop.invariant.1 ∙ first-passes (is_wanted c.args.wanted.now) _ _ _ met.value c.get-entry.result.now met.is
    (sym c.get-entry.ensures ∙ met.cell) (sym c.wants_message.ensures ∙ c.if-wants_message.true))

pub loop-preserved : goal.loop-preserved
loop-preserved c =
    let met = c.looked_up.ensures.met c.args.arena.now.lists c.args.list c.loop.counter c.in-Some.cell
    c.lists-lists.ensures.once (sym c.loop.invariant.0 ∙ c.in-Some.is) in (
      c.next-next.ensures ∙ met.next,
      c.loop.invariant.1 ∙ first-fails (is_wanted c.args.wanted.now) _ _ _ met.value c.get-entry.result.now met.is
          (sym c.get-entry.ensures ∙ met.cell) (sym c.wants_message.ensures ∙ c.if-wants_message.false),
    )
