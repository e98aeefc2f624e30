-- A watcher that keeps records has those that a run added.
use Rattle.std.proofs.Common.{◌≡◌, List, [], ◌∷◌, ◌++◌, refl, sym, ap, ◌∙◌, append_assoc, append-nil}
use Rattle.physiological_order.specs.declared.operation.Record.{Record}
use Rattle.machine_table.specs.declared.event.Event.{Event}
use Rattle.machine_table.specs.declared.event.Answer.{Answer}
use Rattle.machine_table.specs.declared.event.Answer.TheVariants as answer
use Rattle.machine_table.specs.declared.event.Refusal.{Refusal}
use Rattle.machine_table.specs.declared.event.Refusal.TheVariants as refusal
use Rattle.machine_table.specs.Answered.{Answered, RefusedSo}
use Rattle.machine_table.specs.Machine.{Machine}
use Rattle.machine_table.specs.Runs.{after_all}
use Rattle.machine_table.specs.Transition.{transition}
use Rattle.machine_table.proofs.Lemmas.{every_answer}
use Rattle.interleaving_core.specs.PartChanges.{with_record}
use Rattle.schedules.specs.Watches.{watched}
use Rattle.streamed_runs.specs.KeptRecords.{keeps_records}

refused_same : (m : Machine) (why : Refusal) (after : Machine) → RefusedSo m why after → after.records ≡ m.records
refused_same m refusal.Exhausted after is = ap (λ (n : Machine). n.records) is
refused_same m refusal.NoMemory after is = absurd is
refused_same m _ after is = ap (λ (n : Machine). n.records) is

answer_adds : (m : Machine) (a : Answer) (after : Machine) → Answered m a after →
    after.records ≡ with_record m.records a
answer_adds m (answer.Refused why) after is = refused_same m why after is
answer_adds m (answer.Completed r) after is = is.records
answer_adds m answer.Waiting after is = ap (λ (n : Machine). n.records) is
answer_adds m answer.Idle after is = ap (λ (n : Machine). n.records) is
answer_adds m answer.Held after is = ap (λ (n : Machine). n.records) is
answer_adds m answer.Issued after is = is.records
answer_adds m answer.Requested after is = is.records
answer_adds m answer.Delivered after is = is.records
answer_adds m answer.Dropped after is = is.records
answer_adds m answer.Started after is = is.records
answer_adds m answer.Evicted after is = is.records
answer_adds m answer.Recalled after is = is.records
answer_adds m answer.Advanced after is = is.records

behind_all : (before seen : List Record) (a : Answer) → with_record (before ++ seen) a ≡ before ++ with_record seen a
behind_all before seen (answer.Completed r) = append_assoc before seen (r ∷ [])
behind_all before seen _ = refl

module _ {W : Type 0} (records : W → List Record) (has_room : W → Type 0) (before : List Record) where
  seen_behind : (seen : List Record) (m : Machine) (events : List Event) → m.records ≡ before ++ seen →
      (after_all m events).records ≡ before ++ watched (keeps_records records has_room) seen m events
  seen_behind seen m [] is = is
  seen_behind seen m (event ∷ events) is =
      let next = transition m event in
      seen_behind (with_record seen next.0) next.1 events
      (answer_adds m next.0 next.1 (every_answer m event) ∙ ap (λ (rs : List Record). with_record rs next.0) is
      ∙ behind_all before seen next.0)

pub records_added : {W : Type 0} (records : W → List Record) (has_room : W → Type 0) (m : Machine)
    (events : List Event) (none : List Record) → none ≡ [] →
    (after_all m events).records ≡ m.records ++ watched (keeps_records records has_room) none m events
records_added records has_room m events none is =
    seen_behind records has_room m.records none m events
    (sym (append-nil m.records) ∙ ap (λ (rs : List Record). m.records ++ rs) (sym is))
