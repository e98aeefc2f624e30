-- What the proofs of this crate give to the crates above: they import this file and no other of this folder.

-- How a run stands where no more of its text is known.
pub use Rattle.streamed_runs.proofs.EndedRuns.{run_so_far}
-- The lanes of steps are as many, and each has the steps of its core.
pub use Rattle.streamed_runs.proofs.JoinedLanes.{lane_of, lanes_count}
