-- What the proofs of this crate give to the crates above: they import this file and no other of this folder.

-- Of dealt lists: where an item is, that the hands tell the list, and what lengths hands have.
pub use Rattle.round_robin.proofs.Deals.{item_at, item_of, same_list, lengths_of, same_lengths}
-- Of hands that are Vecs, or whatever has a list f: the list of one.
pub use Rattle.round_robin.proofs.Steps.{hand_read}
-- Of places: each is in one row and one column, and each hand has its turn.
pub use Rattle.round_robin.proofs.Places.{same_place, split_place, turn_of}
