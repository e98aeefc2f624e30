-- What the proofs of this crate give to the crates above: they import this file and no other of this folder.

-- A machine that the protocol reaches from its opening: its records are legal, no line has two owners, a word's
-- coherent value is what the records leave, and each core was issued its records' operations in their order.
pub use Rattle.protocol.proofs.Headline.{Opened, legal, reachable_ok}
pub use Rattle.protocol.proofs.Owners.{at_most_one}
pub use Rattle.protocol.proofs.Coherent.{coherent_is}
pub use Rattle.protocol.proofs.InProgram.{what_is_issued}
-- An operation whose request is out is not served by its core's copy; every message has a case in its part's table.
pub use Rattle.protocol.proofs.BlockedRequests.{reachable_blocked}
pub use Rattle.protocol.proofs.Cases.{messages_have_cases}
-- While a line is being recalled, its owner's return or a recall that the owner answers is on the way.
pub use Rattle.protocol.proofs.Recalls.{owners_answer}
-- The entry names the owner of its line, and no core owns a line that its bank has.
pub use Rattle.protocol.proofs.Recalls.{owner_named, unowned}
-- What a line's invariant counts: its loads, its stores, and the messages about a core, which waits for one of them.
pub use Rattle.protocol.proofs.Lines.{about, load, loading, one_if, store, storing}
pub use Rattle.protocol.proofs.Headline.{waits_here, waits_there}
-- Functions that are changed at one number.
pub use Rattle.protocol.proofs.Lines.{with_at_cases, with_at_other, with_at_same}
pub use Rattle.protocol.proofs.Completions.{with_at_id}
pub use Rattle.protocol.proofs.Cores.{Some_injective}
-- The records of a core, with one more record of this core or of another.
pub use Rattle.protocol.proofs.Headline.{of_core-own, of_core-other}
