use Rattle.std.proofs.Common.{rules}
use Rattle.std.proofs.Common.{◌≡◌, ◌+◌, ◌++◌, [], ◌∷◌, List, length, length-append, ap}
use Rattle.std.proofs.Common.{arith, ◌∙◌}
use Rattle.seat_views.specs.Seated.{one_more}
use Rattle.stop_flags.specs.declared.signaler.Signaler.{Signaler}
use Rattle.stop_flags.proofs.SignalerLists.{new_signaler}
use Rattle.seat_views.proofs.Lemmas.{more_at}
use Rattle.stop_flags.specs.Signalers.{IsNewSignaler}
use Rattle.stop_flags.proofs.opening.open_other_signalers.Goals as goal

pub make_seat-seat-requires-clause-table : goal.make_seat-seat-requires-clause-table
make_seat-seat-requires-clause-table c = search rules

pub make_seat-seat-requires-clause-more : goal.make_seat-seat-requires-clause-more
make_seat-seat-requires-clause-more c = search rules

pub loop-number-preserved : goal.loop-number-preserved
loop-number-preserved c =
    let i = c.loop-number.invariant in
    let made = c.make_seat-seat.ensures in
    let m = c.args.signals.now in
    let s : Signaler = c.new_signaler.result in
    let ss : List Signaler = c.loop-number.others.items in
    let new = c.new_signaler.ensures in
    let v = ap (λ y. y.0.made) i.0.1 in
    let workers = ap (λ y. y.0.mine.workers) made.made.1 ∙ ap (λ y. y.0.mine.workers) i.0.1 in
    let items : c.push.new.self.items ≡ ss ++ s ∷ [] = c.in_ok-push.ensures.items in
    let long : length c.push.new.self.items ≡ length ss + 1 = ap length items ∙ length-append ss (s ∷ []) in (
      (made.table.0 ∙ i.0.0, made.made.0 ∙ ap (λ y. (one_more y.0, y.1)) i.0.1),
      omega arith,
      omega arith,
      more_at (IsNewSignaler m) 1 ss c.push.new.self.items s items i.3
          (new_signaler m (1 + length ss) s c.make_seat-seat.result (made.table.2 ∙ i.0.0) workers
          (ap (λ y. y.0.number) made.made.1 ∙ v ∙ omega arith) new.0 new.1),
    )
