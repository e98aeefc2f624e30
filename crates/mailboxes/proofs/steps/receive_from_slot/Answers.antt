use Rattle.std.proofs.Common.{ℕ, List, ◌∷◌, Option, Some, sym, ap, ◌∙◌}
use Rattle.atomic_table.specs.Table.{rest}
use Rattle.network.specs.declared.message.Message.{Message}
use Rattle.mailboxes.proofs.steps.receive_from_slot.Goals as goal

pub exchange-found-requires : goal.exchange-found-requires
exchange-found-requires c = let r = c.requires.reading in let k : ℕ = c.args.slot in (
  c.requires.table.0,
  (Some r.0, r.2 ∙ ap (λ (z : List (ℕ × Option Message)). (k, Some r.0) ∷ z) (sym (ap rest r.2))),
)
