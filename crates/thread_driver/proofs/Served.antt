-- What a core's seat was issued by a shift, and what its program was told.
use Rattle.std.proofs.Common.{◌≡◌, ℕ, ◌+◌, List, [], ◌∷◌, ◌++◌, length, map, Option, None, refl, sym, ap, subst, ◌∙◌}
use Rattle.std.proofs.Common.{append-nil, append_assoc, arith}
use Rattle.std.proofs.lemmas.List.{length-map, map-append}
use Rattle.physiological_order.specs.declared.operation.Op.{Op}
use Rattle.physiological_order.specs.declared.operation.Record.{Record}
use Rattle.physiological_order.specs.Order.{Follows}
use Rattle.protocol.specs.Issued.{listed}
use Rattle.mailboxes.specs.declared.machine.Machine.{Machine}
use Rattle.mailboxes.specs.declared.core_seat.CoreSeat.{CoreSeat}
use Rattle.mailboxes.specs.Seats.{IsCoreSeat}
use Rattle.programs.specs.Acts.{Acts}
use Rattle.thread_driver.specs.Playing.{Plays}
use Rattle.thread_driver.proofs.Lemmas.{IssuedLaw, issued_here}
use Rattle.thread_driver.specs.Shifts.{IsSeatServed}

-- behind the first of the records
behind : (rs more : List Record) (k : ℕ) (ops : List Op) → Follows k ops (rs ++ more) → Follows (k + length rs) ops more
behind [] more k ops follows =
    let here : k ≡ k + 0 = omega arith in
    subst (λ (n : ℕ). Follows n ops more) here follows
behind (r ∷ rs) more k ops follows =
    let count : k + 1 + length rs ≡ k + length (r ∷ rs) = omega arith in
    subst (λ (n : ℕ). Follows n ops more) count (behind rs more (k + 1) ops follows.2)

module _ {P : Type 0} (acts : Acts P) (m : Machine) (law : IssuedLaw) where
  pub served : (p : CoreSeat) (a : P) (q : CoreSeat) (b : P) → IsCoreSeat m p → IsCoreSeat m q →
      p.part.core.open_op ≡ None → Plays acts p a q b → IsSeatServed acts p a q b
  served p a q b is_p is_q none plays =
      let before = issued_here m law p is_p in
      let after = issued_here m law q is_q in
      let ops = λ (rs : List Record). map (λ (r : Record). r.op) rs in
      let tail = listed q.part.core.open_op in
      let first : p.issued.items ≡ ops p.records.items =
      before.all ∙ ap (λ (o : Option Op). ops p.records.items ++ listed o) none ∙ append-nil (ops p.records.items) in
      record {
        added = plays.added;
        records = plays.records;
        served = record {
          issued =
              after.all
              ∙ ap (λ (rs : List Record). ops rs ++ tail) plays.records
              ∙ ap (λ (os : List Op). os ++ tail) (map-append (λ (r : Record). r.op) p.records.items plays.added)
              ∙ append_assoc (ops p.records.items) (ops plays.added) tail
              ∙ ap (λ (os : List Op). os ++ (ops plays.added ++ tail)) (sym first);
          in_order =
              let count : 0 + length p.records.items ≡ length p.issued.items =
              omega (arith, ap length first, length-map {B = Op} p.records.items (λ (r : Record). r.op)) in
              subst (λ (n : ℕ). Follows n q.issued.items plays.added) count
              (behind p.records.items plays.added 0 q.issued.items
              (subst (Follows 0 q.issued.items) plays.records after.in_order));
          told = record { now = b; is_now = refl; performs = plays.performs; ahead = plays.ahead };
        };
      }
