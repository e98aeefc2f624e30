use Rattle.std.proofs.Common.{rules}
use Rattle.stop_flags.proofs.SignalerLists.{new_signaler}
use Rattle.seat_views.proofs.Lemmas.{front_at}
use Rattle.std.proofs.lemmas.Option.{slice_get-get_or}
use Rattle.stop_flags.proofs.opening.open_signals.Goals as goal

pub returns : goal.returns
returns c = search (rules, new_signaler, front_at, slice_get-get_or)
