-- What the proofs of this crate give to the crates above: they import this file and no other of this folder.

-- Views that are shown, as seats change, are made and are joined.
pub use Rattle.seat_views.proofs.Seatings.{within, shown_first, shown_join, shown_set, shown_split}
-- What there is for one number in place of another, and sums over numbers.
pub use Rattle.seat_views.proofs.Sums.{at_put, over_put, over_put_by, over_same, put_else, put_here, some_is}
-- Lists with one more at an end, or read backwards.
pub use Rattle.seat_views.proofs.Lists.{at_more, backwards_has, front_at, get_front, get_middle, get_snoc, joined}
pub use Rattle.seat_views.proofs.Lists.{more_at}
pub use Rattle.seat_views.proofs.Lists.{split_of}
