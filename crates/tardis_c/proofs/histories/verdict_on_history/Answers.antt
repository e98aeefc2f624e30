use Rattle.std.proofs.Common.{List, subst, sym, ◌∙◌}
use Rattle.physiological_order.specs.declared.operation.Record.{Record}
use Rattle.physiological_order.specs.Faults.{IsVerdict}
use Rattle.physiological_order.specs.Order.{flat}
use Rattle.tardis_c.specs.Plain.{issued_of}
use Rattle.tardis_c.proofs.histories.verdict_on_history.Goals as goal

pub found_of_verdict-requires : goal.found_of_verdict-requires
found_of_verdict-requires c =
    let issued = issued_of c.args.operations.now in (
      issued,
      subst (λ (rs : List Record). IsVerdict (flat c.in_ok-memory.memory) issued rs c.in_ok-verdict.verdict)
          (c.deref.ensures.value ∙ sym c.deref-2.ensures.value) c.in_ok-verdict.ensures,
    )
