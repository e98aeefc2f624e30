use Rattle.std.proofs.Common.{◌≡◌, ◌∙◌, ap, IfOk, OnErr, IsTrue, sym, subst, refl}
use Rattle.machine_table.specs.declared.event.Answer.{Answer}
use Rattle.machine_table.specs.declared.event.Event.TheVariants.{Deliver}
use Rattle.machine_table.specs.Machine.{Machine}
use Rattle.machine_table.specs.Transition.{on_event}
use Rattle.machine_theorem.specs.Kept.{Invariant}
use Rattle.interleaving_core.specs.contracts.machine_state.MachineState.{the_view}
use Rattle.interleaving_core.specs.PartChanges.{answer_of}
use Rattle.interleaving_core.specs.LookUps.{message_waits}
use Rattle.interleaving_core.specs.PartsInMemory.{with_parts}
use Rattle.interleaving_core.specs.StepAnswers.{TakesMemory, asks_memory}
use Rattle.interleaving_core.proofs.machine_state.MachineState.deliver.Goals as goal

pub deliver_message-requires-clause-parts : goal.deliver_message-requires-clause-parts
deliver_message-requires-clause-parts g c = (
  the_view g.row.H g.H.History c.self.inside,
  g.H.History.room c.self.inside.history,
  record { are = refl; kept = subst Invariant (sym c.self.view_is) c.requires.kept; fits = c.self.invariant },
)

pub invariant_of-self : goal.invariant_of-self
invariant_of-self g c =
    c.deliver_message.ensures.fitted (the_view g.row.H g.H.History c.self.inside) (g.H.History.room
    c.self.inside.history)
    (record { are = refl; kept = subst Invariant (sym c.self.view_is) c.requires.kept; fits = c.self.invariant })

pub returns-clause-done : goal.returns-clause-done
returns-clause-done g c =
    let m : Machine = the_view g.row.H g.H.History c.self.inside in
    let new = c.deliver_message.new in
    subst (λ (x : Machine). IfOk c.deliver_message.result (λ plain. ◌≡◌ {A = Answer × Machine} (
      answer_of plain,
      with_parts m new.cores.items new.banks.items new.drams.items new.flight.mail new.is_stopped,
    ) (on_event x (Deliver c.args.number)))) c.self.view_is
    (c.deliver_message.ensures.done m (g.H.History.room c.self.inside.history)
    (record { are = refl; kept = subst Invariant (sym c.self.view_is) c.requires.kept; fits = c.self.invariant }))

pub returns-clause-wanted : goal.returns-clause-wanted
returns-clause-wanted g c =
    subst (λ (x : Machine). OnErr c.deliver_message.result (TakesMemory x (on_event x (Deliver c.args.number))))
    c.self.view_is
    (c.deliver_message.ensures.wanted (the_view g.row.H g.H.History c.self.inside) (g.H.History.room
    c.self.inside.history)
    (record { are = refl; kept = subst Invariant (sym c.self.view_is) c.requires.kept; fits = c.self.invariant }))

pub returns-clause-store : goal.returns-clause-store
returns-clause-store g c =
    subst (λ (x : Machine). OnErr c.deliver_message.result (IsTrue (asks_memory x (Deliver c.args.number))))
    c.self.view_is
    (c.deliver_message.ensures.store (the_view g.row.H g.H.History c.self.inside) (g.H.History.room
    c.self.inside.history)
    (record { are = refl; kept = subst Invariant (sym c.self.view_is) c.requires.kept; fits = c.self.invariant }))

pub returns-clause-told : goal.returns-clause-told
returns-clause-told g c = λ told.
    c.deliver_message.ensures.told (the_view g.row.H g.H.History c.self.inside) (g.H.History.room c.self.inside.history)
    (record { are = refl; kept = subst Invariant (sym c.self.view_is) c.requires.kept; fits = c.self.invariant }) told

pub returns-clause-waits : goal.returns-clause-waits
returns-clause-waits g c =
    c.deliver_message.ensures.waits (the_view g.row.H g.H.History c.self.inside) (g.H.History.room
    c.self.inside.history)
    (record { are = refl; kept = subst Invariant (sym c.self.view_is) c.requires.kept; fits = c.self.invariant })
    ∙ ap (λ (x : Machine). message_waits x c.args.number) c.self.view_is
