use Rattle.std.proofs.Common.{length, refl, arith}
use Rattle.std.proofs.lemmas.Option.{slice_get_read}
use Rattle.mailboxes.specs.Seats.{IsCoreSeat}
use Rattle.play_seats.proofs.EachSeat.{each_but_one}
use Rattle.play_seats.proofs.seats.call_core_at.Goals as goal

pub call_core-requires : goal.call_core-requires
call_core-requires c =
    let near = c.if-at-len.false in
    let long = c.len.ensures in
    let small = c.args.cores.now.ok.0 in
    c.requires c.args.at c.index_mut.result.now
    (slice_get_read c.args.cores.now.items (length c.args.cores.now.items) c.args.at c.index_mut.result.now refl
    (omega arith) c.index_mut.ensures.value)

pub returns : goal.returns
returns c =
    each_but_one (IsCoreSeat c.args.machine.now) c.args.cores.now.items c.args.at c.call_core.new.core
    c.call_core.ensures c.requires
