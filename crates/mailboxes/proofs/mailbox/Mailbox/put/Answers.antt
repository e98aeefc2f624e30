use Rattle.std.proofs.Common.{◌≡◌, ◌<◌, ◌+◌, List, refl, sym, ap, ◌∙◌, append-nil, subst, take, drop, length}
use Rattle.std.proofs.Common.{Some, true, length-set, arith}
use Rattle.std.specs.Prelude.{slice_get}
use Rattle.line_arena.specs.CellLists.{first_cell}
use Rattle.network.specs.declared.message.Message.{Message}
use Rattle.seat_views.proofs.Lemmas.{some_is}
use Rattle.inbox.specs.Queues.{values_of, IsAfter}
use Rattle.mailboxes.specs.Places.{link_to, found_full, links_of}
use Rattle.closed_machine.proofs.Lemmas.{walked_all}
use Rattle.mailboxes.proofs.FullEnds.{Marks, marked_more, none_marked}
use Rattle.mailboxes.proofs.Lemmas.{no_change, stays_on}
use Rattle.mailboxes.proofs.Sweeps.{SweptTo, link_on, links_more, own_mark, put_more, swept_more, swept_same}
use Rattle.mailboxes.proofs.mailbox.Mailbox.put.Goals as goal
use Rattle.mailboxes.proofs.mailbox.Mailbox.put.Goals.{else-not-full-end-via-then-not-full-end+else-put_cell}
use Rattle.mailboxes.proofs.mailbox.Mailbox.put.Goals.{else-not-full-end-via-else-not-full-end}

pub loop-index-init : goal.loop-index-init
loop-index-init c =
    let p = c.args.self.now in (
      (
        c.requires.seat,
        no_change p,
        (
          sym (append-nil _),
          refl,
          refl,
          record { hand = refl; held = refl; taken = refl; cursor = refl },
        ),
        refl,
        c.requires.outbox,
        c.requires.linked,
        c.requires.stands,
      ),
      c.front-next.ensures,
      refl,
      none_marked p.cores p.banks p.number,
    )

pub returns-in_default-clause-put : goal.returns-in_default-clause-put
returns-in_default-clause-put c =
    let cells = c.args.outbox.now in
    let i = c.loop-index.invariant in
    let all = walked_all cells c.loop-index.index (sym i.1 ∙ c.in_default.is) in
    let more : c.loop-index.index < length (values_of cells) =
    (let t = c.loop-index-test.true in let e = c.len-index-end.ensures.value in omega arith) in
    absurd (omega (arith, all, more))

pub returns-then-put_cell-clause-put : goal.returns-then-put_cell-clause-put
returns-then-put_cell-clause-put c =
    let p = c.args.self.now in
    let n = c.loop-index.index in
    let ms : List Message = values_of c.args.outbox.now in
    let i = c.loop-index.invariant in
    let m = c.link_of_cell-link.ensures.message in
    let t = c.if-put_cell.ensures.put in
    let here : IsAfter n c.in-Some.cell c.loop-index.outbox =
    ap (λ xs. first_cell (drop n xs)) i.0.3 ∙ sym i.1 ∙ c.in-Some.is in
    let same : t.1 ≡ m.0 = some_is (sym t.2.1 ∙ m.1 n here) in
    let mark = own_mark p c.loop-index.self c.loop-index.full (links_of p.cores p.banks p.number (take n ms))
    c.link_of_cell-link.result.1 m.0.to i.0.1 m.4 m.5 i.3 in (
      n,
      t.0,
      t.1,
      put_more p c.loop-index.self c.put_cell.new.self ms (values_of c.loop-index.outbox)
          (values_of c.put_cell.new.outbox) (found_full p.cores p.banks p.number (take n ms)) n t.0
          c.link_of_cell-link.result.0 (link_to p.cores p.banks p.number t.1.to) t.1
          (m.3 ∙ link_on p c.loop-index.self i.0.1 m.0
          ∙ ap (λ (y : Message). link_to p.cores p.banks p.number y.to) (sym same))
          i.0.2 t.2,
      rw same (sym mark.1 ∙ c.if-not-full-end.true),
    )

-- one more message isn't put
swept : (c : goal.Joined-else-not-full-end) → SweptTo c.args.machine.now c.args.self.now c.args.outbox.now
    (c.loop-index.index + 1) c.else-not-full-end.self c.else-not-full-end.outbox
swept c =
    let p = c.args.self.now in
    let n = c.loop-index.index in
    let ms : List Message = values_of c.args.outbox.now in
    let i = c.loop-index.invariant in
    let m = c.link_of_cell-link.ensures.message in
    let here : IsAfter n c.in-Some.cell c.loop-index.outbox =
    ap (λ xs. first_cell (drop n xs)) i.0.3 ∙ sym i.1 ∙ c.in-Some.is in
    let there : slice_get ms n ≡ Some m.0 = ap (λ xs. slice_get xs n) (sym i.0.2.1) ∙ m.1 n here in
    let mark = own_mark p c.loop-index.self c.loop-index.full (links_of p.cores p.banks p.number (take n ms))
    c.link_of_cell-link.result.1 m.0.to i.0.1 m.4 m.5 i.3 in
    elim c.else-not-full-end.branch [
      | else-not-full-end-via-then-not-full-end+else-put_cell w ↦
          let seat = w.put_cell.ensures.seat in
          let kept = w.put_cell.ensures.kept w.if-put_cell.false in
          rw (w.self-is, w.outbox-is) (
            seat.0,
            stays_on p c.loop-index.self w.put_cell.new.self i.0.1 seat.1,
            swept_more p ms n m.0 there c.loop-index.self w.put_cell.new.self (values_of c.loop-index.outbox)
                (values_of w.put_cell.new.outbox) c.link_of_cell-link.result.0 (m.3
                ∙ link_on p c.loop-index.self i.0.1 m.0)
                (sym mark.1 ∙ w.if-not-full-end.true) i.0.2 w.if-put_cell.ensures.put,
            kept ∙ i.0.3,
            w.put_cell.ensures.outbox,
            w.put_cell.ensures.linked,
            w.put_cell.ensures.stands,
          )
      | else-not-full-end-via-else-not-full-end w ↦ rw (w.self-is, w.outbox-is) (
        i.0.0,
        i.0.1,
        swept_same p ms n m.0 there c.loop-index.self (values_of c.loop-index.outbox)
            (sym mark.1 ∙ w.if-not-full-end.false) i.0.2,
        i.0.3,
        i.0.4,
        i.0.5,
        i.0.6,
      )
    ]

-- the cell is still after as many others
still : (c : goal.Joined-else-not-full-end) → IsAfter c.loop-index.index c.in-Some.cell c.else-not-full-end.outbox
still c =
    ap (λ xs. first_cell (drop c.loop-index.index xs)) (swept c).3 ∙ sym c.loop-index.invariant.1 ∙ c.in-Some.is

pub next-next-requires : goal.next-next-requires
next-next-requires c = (c.loop-index.index, still c)

pub loop-index-preserved : goal.loop-index-preserved
loop-index-preserved c =
    let p = c.args.self.now in
    let n = c.loop-index.index in
    let ms : List Message = values_of c.args.outbox.now in
    let i = c.loop-index.invariant in
    let m = c.link_of_cell-link.ensures.message in
    let now = swept c.before in
    let here : IsAfter n c.in-Some.cell c.loop-index.outbox =
    ap (λ xs. first_cell (drop n xs)) i.0.3 ∙ sym i.1 ∙ c.in-Some.is in
    let there : slice_get ms n ≡ Some m.0 = ap (λ xs. slice_get xs n) (sym i.0.2.1) ∙ m.1 n here in
    let links = links_of p.cores p.banks p.number (take n ms) in
    let mark = own_mark p c.loop-index.self c.loop-index.full links c.link_of_cell-link.result.1 m.0.to i.0.1 m.4 m.5
    i.3 in
    let long = i.2 in
    let few = c.link_of_cell-link.ensures.end in (
      now,
      c.next-next.ensures n (still c.before) ∙ ap (λ xs. first_cell (drop (n + 1) xs)) now.3,
      length-set c.loop-index.full c.link_of_cell-link.result.1 true ∙ i.2,
      subst (Marks p.cores p.banks p.number _) (sym (links_more p.cores p.banks p.number ms n m.0 there))
          (marked_more p.cores p.banks p.number c.loop-index.full links m.0.to (link_to p.cores p.banks p.number m.0.to)
          c.link_of_cell-link.result.1 refl m.4 mark.0 (omega (arith, long, few)) i.3),
    )
