-- What the proofs of this crate give to the crates above: they import this file and no other of this folder.

-- Each case of the table keeps what its answer says.
pub use Rattle.machine_table.proofs.Cases.{every_answer, holds}
-- What a step answers fits what it does.
pub use Rattle.machine_table.proofs.FittingAnswers.{Fits, FitsTried, Keeping, Making, waits, requests, reaction_fits}
pub use Rattle.machine_table.proofs.FittingAnswers.{copy_fits, entry_fits, advance_fits, attempt_fits}
-- What each event comes to, and the event of a part's act.
pub use Rattle.machine_table.proofs.Outcomes.{IsGiven, Outcome, refuses, issues, completes, core_steps, bank_steps}
pub use Rattle.machine_table.proofs.Outcomes.{dram_steps, outcome, transition_outcome}
pub use Rattle.machine_table.proofs.Outcomes.{core_event, bank_event, finds, delivers, core_acts, bank_acts, dram_acts}
-- How many parts there are in a row.
pub use Rattle.machine_table.proofs.Openings.{row_many}
