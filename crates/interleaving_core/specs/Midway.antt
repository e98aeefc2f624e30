-- What holds in the middle of a run.
use Rattle.std.specs.Prelude.{◌≡◌, ℕ, List, [], ◌++◌, take, drop, slice_index_or}
use Rattle.machine_table.specs.declared.event.Event.{Event}
use Rattle.machine_table.specs.declared.event.Answer.{Answer}
use Rattle.machine_table.specs.Machine.{Machine}
use Rattle.machine_theorem.specs.Consistency.{IsConsistent}
use Rattle.machine_table.specs.SetUp.{SetUpAs}
use Rattle.interleaving_core.specs.IssuedOps.{issued_in}
use Rattle.interleaving_core.specs.SentMessages.{AreCounted, all_sent}
use Rattle.interleaving_core.specs.StepAnswers.{Ran}

-- the machine after the first k events of a run, from which the others lead to its end: it has the set-up that it had
-- at first and is consistent (its records are legal, no line has more than one owner, each word has the coherent value
-- that the records leave, and the words that its lines don't have are 0); its cores were issued the operations of these
-- events that were answered Issued, and its counts rose by the messages that they sent
pub record IsMidway (m : Machine) (events : List Event) (answers : List Answer) (after : Machine)
    (k : ℕ) : Type 0 where
  pub mid : Machine
  pub before : Ran m (take k events) (take k answers) mid
  pub behind : Ran mid (drop k events) (drop k answers) after
  pub set_up : SetUpAs m mid
  pub consistent : IsConsistent mid
  pub issued : (core : ℕ) → slice_index_or mid.issued core [] ≡
      slice_index_or m.issued core [] ++ issued_in core (take k events) (take k answers)
  pub counted : AreCounted m.mail.counts (all_sent m (take k events) (take k answers) mid before) mid.mail.counts
