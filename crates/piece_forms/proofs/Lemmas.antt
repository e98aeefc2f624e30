-- What the proofs of this crate give to the crates above: they import this file and no other of this folder.

-- What is read stands in the form; what stands in it is read; and a fault has its cause.
pub use Rattle.piece_forms.proofs.Laws.{takes, again, explains}
-- What is known of what stands in a form.
pub use Rattle.piece_forms.proofs.Leads.{Leads, leads-given, leads-then, leads-known, Tells, leads-at, Onto}
pub use Rattle.piece_forms.proofs.Leads.{leads-until, leads-refused}
-- A loop over the steps of a form.
pub use Rattle.piece_forms.proofs.Loops.{until-fails, until-goes, until-stops, until-out}
