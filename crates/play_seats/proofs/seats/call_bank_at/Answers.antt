use Rattle.std.proofs.Common.{length, refl, arith}
use Rattle.std.proofs.lemmas.Option.{slice_get_read}
use Rattle.mailboxes.specs.Seats.{IsBankSeat}
use Rattle.play_seats.proofs.EachSeat.{each_but_one}
use Rattle.play_seats.proofs.seats.call_bank_at.Goals as goal

pub call_bank-requires : goal.call_bank-requires
call_bank-requires c =
    let near = c.if-at-len.false in
    let long = c.len.ensures in
    let small = c.args.banks.now.ok.0 in
    c.requires c.args.at c.index_mut.result.now
    (slice_get_read c.args.banks.now.items (length c.args.banks.now.items) c.args.at c.index_mut.result.now refl
    (omega arith) c.index_mut.ensures.value)

pub returns : goal.returns
returns c =
    each_but_one (IsBankSeat c.args.machine.now) c.args.banks.now.items c.args.at c.call_bank.new.bank
    c.call_bank.ensures c.requires
