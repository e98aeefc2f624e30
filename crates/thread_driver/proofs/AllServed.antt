-- The cores of a closed machine were issued what their programs gave.
use Rattle.std.proofs.Common.{◌≡◌, ℕ, zero, suc, ◌+◌, ◌<◌, List, [], ◌∷◌, ◌++◌, length, map, Option, Some}
use Rattle.std.proofs.Common.{refl, sym, ap, ◌∙◌, subst, arith}
use Rattle.std.specs.List.{AllByRecursion}
use Rattle.std.specs.Prelude.{slice_get, slice_index_or}
use Rattle.physiological_order.specs.declared.operation.Op.{Op}
use Rattle.physiological_order.specs.declared.operation.Record.{Record}
use Rattle.physiological_order.specs.Order.{Follows, of_core}
use Rattle.machine_table.specs.Machine as machine
use Rattle.machine_table.specs.Machine.{operation_of}
use Rattle.machine_table.specs.Opening.{at_start}
use Rattle.machine_theorem.specs.Consistency.{IsConsistent}
use Rattle.protocol.specs.Issued.{listed}
use Rattle.programs.specs.Acts.{Acts}
use Rattle.machine_theorem.specs.Service.{AreServed}
use Rattle.programs.specs.Performs.{Told}
use Rattle.mailboxes.specs.declared.machine.Machine.{Machine}
use Rattle.mailboxes.specs.declared.core_seat.CoreSeat.{CoreSeat}
use Rattle.closed_machine.specs.declared.run.Run.{Run}
use Rattle.mailboxes.specs.Remains.{core_part}
use Rattle.closed_machine.specs.RunParts.{Parts}
use Rattle.mailboxes.specs.Seats.{AllNewCores}
use Rattle.thread_driver.specs.Shifts as shifts
use Rattle.thread_driver.specs.ThreadRuns.{machine_of}
use Rattle.thread_driver.proofs.Numbered.{index_past, nothing_issued}
use Rattle.thread_driver.proofs.OwnRecords.{all_below, no_record}
use Rattle.thread_driver.proofs.Seats.{new_records, operation_there, own_records}

-- a value at each index below the length
pub there : {A : Type 0} (xs : List A) (i : ℕ) → i < length xs → (x : A) × (slice_get xs i ≡ Some x)
there [] i lt = absurd (omega arith)
there (x ∷ xs) zero lt = (x, refl)
there (x ∷ xs) (suc i) lt = there xs i (omega arith)

module _ {P : Type 0} (acts : Acts P) (m : Machine) (run : Run) (parts : Parts run) (cores ended : List CoreSeat)
    (before after : List P) (new : AllNewCores m 0 cores) (many : length cores ≡ run.set_up.config.cores)
    (order : shifts.AreCoresInOrder m ended) (all : length ended ≡ run.set_up.config.cores)
    (programs : length before ≡ length cores) (served : shifts.AreServed acts cores before ended after)
    (left : run.cores.items ≡ map core_part ended) (consistent : IsConsistent (machine_of run parts)) where
  abbrev start : machine.Machine
  start = at_start run.set_up.config run.set_up.memory

  -- no core that isn't there has a record
  all_there : AllByRecursion (λ (r : Record). r.core < run.set_up.config.cores) run.records.items
  all_there = all_below run.set_up.config.cores run.records.items (λ core past.
      no_record (of_core core run.records.items) (listed (operation_of (slice_get (machine_of run parts).cores core)))
      (sym (consistent.issued core).all
      ∙ index_past (λ c. (parts.seats c).issued) run.set_up.config.cores core [] past))

  issued : (c : ℕ) → slice_index_or (machine_of run parts).issued c [] ≡
      slice_index_or start.issued c [] ++ (map (λ r. r.op) (of_core c run.records.items)
      ++ listed (operation_of (slice_get (machine_of run parts).cores c)))
  issued c =
      (consistent.issued c).all
      ∙ sym (ap (λ (ops : List Op). ops ++ (map (λ r. r.op) (of_core c run.records.items)
      ++ listed (operation_of (slice_get (machine_of run parts).cores c))))
      (nothing_issued run.set_up.config.cores c))

  in_order : (c : ℕ) → Follows (length (slice_index_or start.issued c [])) (slice_index_or
      (machine_of run parts).issued c []) (of_core c run.records.items)
  in_order c =
      subst (λ (ops : List Op). Follows (length ops) (slice_index_or (machine_of run parts).issued c [])
      (of_core c run.records.items)) (sym (nothing_issued run.set_up.config.cores c)) (consistent.issued c).in_order

  told : (c : ℕ) → c < run.set_up.config.cores →
      Told acts (of_core c run.records.items) (operation_of (slice_get (machine_of run parts).cores c))
      (slice_get before c) (slice_get after c)
  told c below =
      let p = there cores c (omega (arith, below, many)) in
      let q = there ended c (omega (arith, below, all)) in
      let a = there before c (omega (arith, below, programs, many)) in
      let b = there after c (let long = served.long in omega (arith, below, long, programs, many)) in
      let s = served.each c p.0 a.0 q.0 b.0 p.1 a.1 q.1 b.1 in
      let number = (order.each c q.0 q.1).1 in
      let none = new_records m (0 + c) p.0 (new c p.0 p.1) in
      let own = own_records run parts ended left c q.0 q.1 number ∙ s.records ∙ ap (λ rs. rs ++ s.added) none in
      let now_open = operation_of (slice_get (machine_of run parts).cores c) in
      let still : now_open ≡ q.0.part.core.open_op = operation_there run parts ended left c q.0 q.1 number below in
      subst (λ (o : Option P). Told acts (of_core c run.records.items) now_open o (slice_get after c)) (sym a.1)
      (subst (λ (o : Option P). Told acts (of_core c run.records.items) now_open (Some a.0) o) (sym b.1)
      (subst (λ (o : Option Op). Told acts (of_core c run.records.items) o (Some a.0) (Some b.0)) (sym still)
      (subst (λ rs. Told acts rs q.0.part.core.open_op (Some a.0) (Some b.0)) (sym own) s.served.told)))

  pub all_served : AreServed acts start (machine_of run parts) before after
  all_served = record {
    added = run.records.items;
    records = refl;
    there = all_there;
    each = λ c below none. record { issued = issued c; in_order = in_order c; told = told c below };
  }
