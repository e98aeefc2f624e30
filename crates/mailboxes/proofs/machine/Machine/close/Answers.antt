use Rattle.std.proofs.Common.{List, refl, sym, subst}
use Rattle.physiological_order.specs.declared.operation.Record.{Record}
use Rattle.mailboxes.specs.Remains.{OneState}
use Rattle.closed_machine.specs.PartsOfState.{PartsOfState}
use Rattle.mailboxes.proofs.ClosedParts.{left_parts}
use Rattle.mailboxes.proofs.machine.Machine.close.Goals as goal

pub merge_core_records-requires : goal.merge_core_records-requires
merge_core_records-requires c =
    let m = c.args.self in
    let left = c.in_ok-left.left in
    let e = c.in_ok-left.ensures in
    let all = c.requires.whole in (
      e.state.0,
      e.state.1,
      left_parts m.set_up left.set_up c.args.cores.items c.args.banks.items left.cores.items left.banks.items e.state.0
          left.slots.items m.good all.cores_there all.banks_there e.set_up e.cores e.banks e.state.2,
    )

pub returns-clause-state : goal.returns-clause-state
returns-clause-state c =
    let m = c.args.self in
    let left = c.in_ok-left.left in
    let e = c.in_ok-left.ensures in
    let all = c.requires.whole in
    let log : List Record = e.state.0 in
    let parts = left_parts m.set_up left.set_up c.args.cores.items c.args.banks.items left.cores.items
    left.banks.items log left.slots.items m.good all.cores_there all.banks_there e.set_up e.cores e.banks e.state.2 in
    subst (λ rs. OneState m.set_up c.args.cores.items c.args.banks.items rs left.slots.items)
    (sym (c.in_ok-records.ensures log e.state.1 parts)) e.state.2

pub returns-clause-parts : goal.returns-clause-parts
returns-clause-parts c =
    let m = c.args.self in
    let left = c.in_ok-left.left in
    let e = c.in_ok-left.ensures in
    let all = c.requires.whole in
    let log : List Record = e.state.0 in
    let parts = left_parts m.set_up left.set_up c.args.cores.items c.args.banks.items left.cores.items
    left.banks.items log left.slots.items m.good all.cores_there all.banks_there e.set_up e.cores e.banks e.state.2 in
    subst (PartsOfState m.set_up left.cores.items left.banks.items left.slots.items)
    (sym (c.in_ok-records.ensures log e.state.1 parts))
    (left_parts m.set_up m.set_up c.args.cores.items c.args.banks.items left.cores.items left.banks.items log
    left.slots.items m.good all.cores_there all.banks_there refl e.cores e.banks e.state.2)
