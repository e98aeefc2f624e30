use Rattle.std.proofs.Common.{◌≡◌, ℕ, ◌+◌, ◌-◌, ◌||◌, drop, length, map, sym, ap, ◌∙◌, subst}
use Rattle.std.proofs.Common.{IsTrue}
use Rattle.inbox.specs.Queues.{values_of}
use Rattle.inbox.specs.Serving.{held_from, is_refused}
use Rattle.inbox.proofs.Walks.{comes-to, goes-on, next-tried, quiet}
use Rattle.inbox.proofs.serve.deliver_held.Goals as goal

pub get-requires : goal.get-requires
get-requires g c = (c.loop.counter, sym c.loop.invariant.0 ∙ c.in-Some.is)

pub deliver_to_part-answer-requires : goal.deliver_to_part-answer-requires
deliver_to_part-answer-requires g c =
    let n = c.loop.counter in
    let found = c.get.ensures.value n (sym c.loop.invariant.0 ∙ c.in-Some.is) in
    subst (λ p. IsTrue (g.P.Receiver.has_case p c.get.result.now)) (sym c.loop.invariant.1)
    (c.requires.cases n c.get.result.now found)

pub returns-then-not-is_message_passed-clause-walk : goal.returns-then-not-is_message_passed-clause-walk
returns-then-not-is_message_passed-clause-walk g c =
    let cells = c.args.held.now in
    let held = values_of c.args.held.now in
    let n = c.loop.counter in
    let u = c.get.result.now in
    let is = c.get.ensures.here n (sym c.loop.invariant.0 ∙ c.in-Some.is) in
    let room : 257 - c.len-count.result ≡ 257 - length held = ap (λ l. 257 - l) c.len-count.ensures.value in
    let found = comes-to g.P.Receiver.table g.P.Receiver.takes_memory held c.args.part.now c.loop.part n u
    (257 - c.len-count.result) _ _
    c.deliver_to_part-answer.result c.deliver_to_part-answer.new.part _ c.loop.invariant.1 room
    (next-tried (drop n cells) (drop (n + 1) cells) n c.in-Some.cell u is) c.deliver_to_part-answer.ensures.answer
    (sym c.is_message_passed.ensures ∙ c.if-not-is_message_passed.true) c.loop.invariant.2 in
    (n, u, is, found.0, found.1)

pub next-next-requires : goal.next-next-requires
next-next-requires g c = (c.loop.counter, sym c.loop.invariant.0 ∙ c.in-Some.is)

pub loop-preserved : goal.loop-preserved
loop-preserved g c =
    let cells = c.args.held.now in
    let held = values_of c.args.held.now in
    let n = c.loop.counter in
    let u = c.get.result.now in
    let here = sym c.loop.invariant.0 ∙ c.in-Some.is in
    let is = c.get.ensures.here n here in
    let room : 257 - c.len-count.result ≡ 257 - length held = ap (λ l. 257 - l) c.len-count.ensures.value in
    let passed = sym c.is_message_passed.ensures ∙ c.if-not-is_message_passed.false in
    let go = goes-on g.P.Receiver.table g.P.Receiver.takes_memory held c.args.part.now c.loop.part n u
    (257 - c.len-count.result) _ _
    c.deliver_to_part-answer.result c.deliver_to_part-answer.new.part c.loop.refused _ c.loop.invariant.1 room
    (next-tried (drop n cells) (drop (n + 1) cells) n c.in-Some.cell u is)
    c.deliver_to_part-answer.ensures.answer passed
    c.loop.invariant.3 in (
      c.next-next.ensures n here,
      c.deliver_to_part-answer.ensures.quiet (quiet c.deliver_to_part-answer.result passed) ∙ c.loop.invariant.1,
      c.loop.invariant.2 ∙ go.0,
      ap (λ b. (c.loop.refused || b) || is_refused g.P.Receiver.table held c.args.part.now
          (held_from (n + 1) (map (λ (a : ℕ × g.row.T.Denot). a.1) (drop (n + 1) cells))))
          c.finds_no_place-refused.ensures ∙ go.1,
    )
