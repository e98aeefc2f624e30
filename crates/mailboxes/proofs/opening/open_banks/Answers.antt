use Rattle.std.proofs.Common.{◌≡◌, ℕ, ◌+◌, ◌<◌, ◌++◌, [], ◌∷◌, List, length, length-append, ap, subst, sym, arith, ◌∙◌}
use Rattle.seat_views.specs.Seated.{one_more, first_view}
use Rattle.seat_rule.specs.Rule.{opening_hold, seat_count}
use Rattle.mailboxes.specs.declared.bank_seat.BankSeat.{BankSeat}
use Rattle.mailboxes.specs.Seats.{IsNewBank}
use Rattle.mailboxes.proofs.NewSeats.{new_bank, more_banks}
use Rattle.mailboxes.proofs.opening.open_banks.Goals as goal

pub loop-number-preserved : goal.loop-number-preserved
loop-number-preserved c =
    let i = c.loop-number.invariant in
    let made = c.make_seat-seat.ensures in
    let m = c.args.machine.now in
    let cores : ℕ = m.set_up.config.cores in
    let p : BankSeat = c.in_ok-new.field-0 in
    let ps : List BankSeat = c.loop-number.banks.items in
    let new = c.in_ok-new.ensures in
    let items : c.push.new.self.items ≡ ps ++ p ∷ [] = c.in_ok-push.ensures.items in
    let long : length c.push.new.self.items ≡ length ps + 1 = ap length items ∙ length-append ps (p ∷ []) in
    let n : ℕ = cores + c.loop-number.number in
    let mine : c.make_seat-seat.result.me.0.mine ≡ opening_hold m.set_up n =
    ap (λ y. y.0.mine) made.made.1 ∙ ap (opening_hold m.table.shared.key) (ap (λ y. y.0.made) i.0.1)
    ∙ ap (λ z. opening_hold z n) m.keyed in
    let below : c.loop-number.number < m.set_up.config.banks = c.loop-number-test.true in
    let seat : IsNewBank m n p =
    new_bank m n p c.make_seat-seat.result (omega arith) (omega arith) (made.table.2 ∙ i.0.0) mine new.0 new.1 new.2
    new.3 new.4 new.5 new.6 (c.seats_stand.ensures.opened m.set_up (seat_count m.set_up) n) in (
      (
        made.table.0 ∙ i.0.0,
        made.made.0 ∙ ap (λ y. (one_more y.0, y.1)) i.0.1
            ∙ ap (λ k. (record (first_view (opening_hold m.set_up 0)) { made = k }, [])) (omega arith),
      ),
      omega arith,
      more_banks m cores ps c.push.new.self.items p items i.2
          (subst (λ k. IsNewBank m (cores + k) p) (sym i.1) seat),
    )
