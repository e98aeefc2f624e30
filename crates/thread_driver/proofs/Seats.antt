-- The seats of a closed machine: what the machine that it shows has of each.
use Rattle.std.proofs.Common.{◌≡◌, ℕ, ◌<◌, List, [], map, Option, Some, None, refl, sym, ap, ◌∙◌, subst}
use Rattle.std.specs.Prelude.{slice_get, option_map, Bool}
use Rattle.std.proofs.lemmas.Option.{slice_get-map}
use Rattle.physiological_order.specs.declared.operation.Op.{Op}
use Rattle.physiological_order.specs.Order.{of_core}
use Rattle.seat_rule.specs.declared.views.Hold.{Hold}
use Rattle.machine_table.specs.Machine.{operation_of, open_op, open_op_of}
use Rattle.mailboxes.specs.declared.machine.Machine.{Machine}
use Rattle.mailboxes.specs.declared.core_seat.CoreSeat.{CoreSeat}
use Rattle.closed_machine.specs.declared.run.Run.{Run}
use Rattle.closed_machine.specs.PartsOfState.{IsCoreOf}
use Rattle.mailboxes.specs.Remains.{core_part}
use Rattle.closed_machine.specs.RunParts.{Parts}
use Rattle.mailboxes.specs.Seats.{IsNewCore}
use Rattle.thread_driver.specs.ThreadRuns.{machine_of}
use Rattle.machine_theorem.proofs.Lemmas.{first_at}

-- a new seat has no records
pub new_records : (m : Machine) (j : ℕ) (p : CoreSeat) → IsNewCore m j p → p.records.items ≡ []
new_records m j p is = sym p.tied.records ∙ ap (λ (a : Hold). a.records) is.2

-- an open operation, as it is looked up
abbrev with_request : Bool → Op → Op × Bool
with_request is_out op = (op, is_out)

nothing_open : (o : Option Op) (is_out : Bool) → o ≡ None → option_map (with_request is_out) o ≡ None
nothing_open None is_out is = refl
nothing_open (Some op) is_out is = absurd cc

nothing_there : (o : Option Op) (is_out : Bool) → option_map (with_request is_out) o ≡ None → o ≡ None
nothing_there None is_out is = refl
nothing_there (Some op) is_out is = absurd cc

module _ (run : Run) (parts : Parts run) (cores : List CoreSeat) (left : run.cores.items ≡ map core_part cores)
    (c : ℕ) (q : CoreSeat) (here : slice_get cores c ≡ Some q) (number : q.mail.number ≡ c) where
  part_is_there : slice_get run.cores.items c ≡ Some (core_part q)
  part_is_there =
      ap (λ ps. slice_get ps c) left ∙ slice_get-map core_part cores c ∙ ap (λ o. option_map core_part o) here

  pub of_seat : IsCoreOf (parts.seats c) (core_part q)
  of_seat = subst (λ j. IsCoreOf (parts.seats j) (core_part q)) number (parts.of_cores c (core_part q) part_is_there)

  -- its records are all those of the core
  pub own_records : of_core c run.records.items ≡ q.records.items
  own_records = parts.whole.own c ∙ of_seat.records

  -- and the core's open operation is its own
  module _ (below : c < run.set_up.config.cores) where
    core_there : slice_get (machine_of run parts).cores c ≡ Some q.part.core
    core_there = first_at (λ i. (parts.seats i).core) run.set_up.config.cores c below ∙ ap Some of_seat.core

    pub operation_there : operation_of (slice_get (machine_of run parts).cores c) ≡ q.part.core.open_op
    operation_there = ap operation_of core_there

    pub none_open : q.part.core.open_op ≡ None → open_op (machine_of run parts) c ≡ None
    none_open is = ap open_op_of core_there ∙ nothing_open q.part.core.open_op q.part.core.is_out is

    pub none_left : open_op (machine_of run parts) c ≡ None → q.part.core.open_op ≡ None
    none_left is =
        nothing_there q.part.core.open_op q.part.core.is_out (sym (ap open_op_of core_there) ∙ is)
