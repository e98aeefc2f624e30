-- What the proofs of this crate give to the crates above: they import this file and no other of this folder.

-- A lease that is given is the one that is tested.
pub use Rattle.timestamp_manager.proofs.Given.{covers}
