-- What calls of a machine do: `old` is the machine that the handle had before the call, `new` the one after it.
use Rattle.std.specs.Prelude.{◌≡◌, ◌≢◌, ◌⊎◌, ℕ, true, false, List, ◌++◌, take, drop, length, nat_lt}
use Rattle.std.specs.Prelude.{Result, Ok, Err, IfOk}
use Rattle.std.specs.declared.alloc.Global.{Global}
use Rattle.std.specs.declared.vec.Vec.{Vec}
use Rattle.std.specs.Prelude.{Option, Some, None, MatchOption, if◌then◌else◌, option_map}
use Rattle.network.specs.NumberedMessages.{at_number}
use Rattle.machine_table.specs.declared.event.Answer.{Answer}
use Rattle.machine_table.specs.declared.event.Event.{Event}
use Rattle.machine_table.specs.declared.event.Event.TheVariants.{Issue}
use Rattle.machine_table.specs.Machine.{Machine}
use Rattle.machine_table.specs.Opening.{at_start}
use Rattle.machine_table.specs.SetUp.{is_good}
use Rattle.interleaving_core.specs.StepAnswers.{Stepped}
use Rattle.worker_driver.specs.SetUp.{config_of}
use Rattle.tardis_c.specs.Arrays.{HaveNone}
use Rattle.tardis_c.specs.Lacks.{HasSome}
use Rattle.tardis_c.specs.Options.{run_options}
use Rattle.tardis_c.specs.Plain.{op_of, operation_fault, word_fault, words_of}
use Rattle.tardis_c.specs.SystemParts.{c_answer, capped, flag, message_of}
use Rattle.tardis_c.specs.declared.options.PlainOptions.{PlainOptions}
use Rattle.tardis_c.specs.declared.plain.PlainOperation.{PlainOperation}
use Rattle.tardis_c.specs.declared.plain.PlainWord.{PlainWord}
use Rattle.tardis_c.specs.declared.system_looks.Totals.{Totals}
use Rattle.tardis_c.specs.declared.system_parts.CAnswer.{CAnswer}
use Rattle.tardis_c.specs.declared.system_parts.PlainMessage.{PlainMessage}

-- without a machine 16, and nothing changes
abbrev pub Asked : {Out : Type 0} → (old new : Option Machine) → (before after : Out) → (number : ℕ) →
    (Machine → Type 0) → Type 0
Asked old new before after number Does =
    MatchOption old ((new ≡ None) × (after ≡ before) × (number ≡ 16)) Does

-- 18 if there is nothing to tell, and then what was told stays
abbrev pub told : {Out : Type 0} → Out → Option Out → Out × ℕ
told before None = (before, 18)
told before (Some out) = (out, 0)

-- the machine stays; what there is to tell is told, and the number is 0
abbrev pub Tells : {Out : Type 0} → (old new : Option Machine) → (before after : Out) → (number : ℕ) →
    (Machine → Option Out) → Type 0
Tells old new before after number look = Asked old new before after number (λ machine.
    (new ≡ Some machine) × ((after, number) ≡ told before (look machine)))

-- lines are written over the front of others, as far as there are any
abbrev pub overwrite_front : (lines old : List ℕ) → List ℕ
overwrite_front lines old = take (length old) lines ++ drop (length lines) old

-- where there is a part of this number its lines, unless an allocation failed; nothing where there is none
abbrev pub AreLines : {E : Type 0} → Option (Result (Vec ℕ Global) E) → (seat seats : ℕ) → List ℕ → Type 0
AreLines None seat seats lines = nat_lt seat seats ≡ false
AreLines (Some found) seat seats lines = (nat_lt seat seats ≡ true) × IfOk found (λ all. all.items ≡ lines)

-- 18 where nothing is found, 3 where an allocation failed, and what was told stays; else as many lines as there is room
-- for, and how many there are
abbrev pub TellsFound : {E : Type 0} → Option (Result (Vec ℕ Global) E) → (before after : List ℕ × ℕ) → (number : ℕ) →
    Type 0
TellsFound None before after number = (after ≡ before) × (number ≡ 18)
TellsFound (Some (Err e)) before after number = (after ≡ before) × (number ≡ 3)
TellsFound (Some (Ok lines)) before after number =
    (after ≡ (overwrite_front lines.items before.0, length lines.items)) × (number ≡ 0)

-- the machine stays; a part that isn't there is 18; of one that is there the lines are told, or an allocation failed
abbrev pub TellsLines : (old new : Option Machine) → (before after : List ℕ × ℕ) → (number seat : ℕ) →
    (Machine → ℕ) → (Machine → List ℕ) → Type 0
TellsLines old new before after number seat seats look =
    Asked old new before after number (λ machine. (new ≡ Some machine)
    × (((nat_lt seat (seats machine) ≡ false) × (after ≡ before) × (number ≡ 18))
    ⊎ ((nat_lt seat (seats machine) ≡ true)
    × (after ≡ (overwrite_front (look machine) before.0, length (look machine))) × (number ≡ 0))
    ⊎ ((nat_lt seat (seats machine) ≡ true) × (after ≡ before) × (number ≡ 3))))

-- one event, and its answer
abbrev pub Steps : (old new : Option Machine) → (before after : CAnswer) → (number : ℕ) → Event → Type 0
Steps old new before after number event = Asked old new before after number (λ machine.
    (answer : Answer) × (next : Machine) × Stepped machine event answer next × (new ≡ Some next)
    × (after ≡ c_answer answer) × (number ≡ 0))

-- an operation that has a fault is refused with 10
pub record Issues (old new : Option Machine) (before after : CAnswer) (number : ℕ) (plain : PlainOperation) :
    Type 0 where
  pub right : operation_fault plain ≡ 0 → Steps old new before after number (Issue plain.core (op_of plain))
  pub wrong : operation_fault plain ≢ 0 → (new ≡ old) × (after ≡ before) × (number ≡ 10)

-- a machine as its options and its opening words say; or none: 12 if a word has a fault, else 6 if a value of the
-- configuration is out of its range, else 3 if an allocation failed
abbrev pub Opens : (new : Option Machine) → (number cores : ℕ) → PlainOptions → List PlainWord → Type 0
Opens new number cores options opening =
    ((new ≡ Some (at_start (config_of (run_options options).machine cores) (words_of opening))) × (number ≡ 0)
    × HaveNone word_fault opening × (is_good (config_of (run_options options).machine cores) ≡ true))
    ⊎ ((new ≡ None) × (number ≡ 12) × HasSome word_fault opening)
    ⊎ ((new ≡ None) × (number ≡ 6) × HaveNone word_fault opening
    × (is_good (config_of (run_options options).machine cores) ≡ false))
    ⊎ ((new ≡ None) × (number ≡ 3) × HaveNone word_fault opening
    × (is_good (config_of (run_options options).machine cores) ≡ true))

-- a machine that is there already stays: 17
abbrev pub OpensUnless : (old new : Option Machine) → (number cores : ℕ) → PlainOptions → List PlainWord → Type 0
OpensUnless old new number cores options opening = MatchOption old (Opens new number cores options opening)
    (λ machine. (new ≡ Some machine) × (number ≡ 17))

-- what a machine has counted
abbrev pub totals_of : Machine → Totals
totals_of m = record {
  renewals = capped m.mail.counts.renewals;
  upgrades = capped m.mail.counts.upgrades;
  flushes = capped m.mail.counts.flushes;
  write_backs = capped m.mail.counts.write_backs;
  messages = length m.mail.messages;
  records = length m.records;
  is_stopped = flag m.is_stopped;
}

-- the message in flight of a number
abbrev pub message_at : Machine → ℕ → Option PlainMessage
message_at m number = option_map (message_of number) (at_number number m.mail.messages)

-- what a core that is there has, and what a bank has
abbrev pub if_below : {X : Type 0} → (number count : ℕ) → X → Option X
if_below number count x = if nat_lt number count then Some x else None
