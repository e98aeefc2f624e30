use Rattle.std.proofs.Common.{◌≡◌, ◌∙◌, false, Option, Result, Ok, Some, ap, sym, subst, refl, set}
use Rattle.std.proofs.Common.{arith, rules}
use Rattle.std.specs.Prelude.{is_some, unwrap_or}
use Rattle.std.proofs.lemmas.Option.{slice_get_within}
use Rattle.network.specs.declared.part.Reaction.{Reaction}
use Rattle.network.specs.Flight.{Flight}
use Rattle.network.specs.NumberedMessages.{at_number}
use Rattle.network.specs.Mail.{Mail}
use Rattle.core_pts.specs.CoreTable.{CoreState}
use Rattle.llc_bank.specs.BankTable.{BankState, bank_table}
use Rattle.machine_table.specs.declared.event.Answer.{Answer}
use Rattle.machine_table.specs.declared.event.Answer.TheVariants as answer
use Rattle.machine_table.specs.Step.{reacted}
use Rattle.interleaving_core.specs.declared.plain_answer.PlainAnswer.{PlainAnswer}
use Rattle.interleaving_core.specs.declared.plain_answer.PlainAnswer.TheVariants.{Held}
use Rattle.interleaving_core.specs.PartChanges.{applied}
use Rattle.machine_theorem.proofs.Lemmas.{get-set_same}
use Rattle.interleaving_core.specs.PartsInMemory.{with_parts}
use Rattle.interleaving_core.proofs.ChangedParts.{bank_place, core_place, dram_place}
use Rattle.interleaving_core.proofs.Endpoints.{delivered, delivery_wanted, dram_asks, gets_case, holds_there}
use Rattle.interleaving_core.proofs.Endpoints.{no_room_made, none_waits, of_there, part_here, waits_at_bank}
use Rattle.interleaving_core.proofs.Endpoints.{waits_where}
use Rattle.interleaving_core.proofs.Endpoints.{with_endpoints, still_fitted}
use Rattle.interleaving_core.proofs.Only.{SameOpen, core_only, kept}
use Rattle.interleaving_core.proofs.OpenCounts.{owed_kept}
use Rattle.interleaving_core.proofs.deliveries.deliver_message.Goals as goal

pub deliver_to_core-requires-clause-case : goal.deliver_to_core-requires-clause-case
deliver_to_core-requires-clause-case c =
    let is = c.requires.parts.2 in
    gets_case is.are is.kept c.args.number c.in-Some.ensures.value (core_place _ c.in-Core.number_of_core)
    c.in-Core.is c.index_mut-core.ensures.value

pub deliver_to_core-requires-clause-endpoints : goal.deliver_to_core-requires-clause-endpoints
deliver_to_core-requires-clause-endpoints c =
    let is = c.requires.parts.2 in
    with_endpoints is.are is.kept c.args.number c.in-Some.ensures.value (core_place _ c.in-Core.number_of_core)
    c.in-Core.is c.index_mut-core.ensures.value is.fits

pub deliver_to_core-requires-clause-few : goal.deliver_to_core-requires-clause-few
deliver_to_core-requires-clause-few c =
    let is = c.requires.parts.2 in
    let within = slice_get_within c.args.cores.now.items c.in-Core.number_of_core c.index_mut-core.result.now
    (part_here is.are is.kept c.args.number c.in-Some.ensures.value (core_place _ c.in-Core.number_of_core)
    c.in-Core.is c.index_mut-core.ensures.value) in
    omega (arith, within, is.fits.masked.few)

pub deliver_to_bank-requires-clause-case : goal.deliver_to_bank-requires-clause-case
deliver_to_bank-requires-clause-case c =
    let is = c.requires.parts.2 in
    gets_case is.are is.kept c.args.number c.in-Some.ensures.value (bank_place _ c.in-Bank.bank)
    c.in-Bank.is c.index_mut-bank.ensures.value

pub deliver_to_bank-requires-clause-endpoints : goal.deliver_to_bank-requires-clause-endpoints
deliver_to_bank-requires-clause-endpoints c =
    let is = c.requires.parts.2 in
    with_endpoints is.are is.kept c.args.number c.in-Some.ensures.value (bank_place _ c.in-Bank.bank)
    c.in-Bank.is c.index_mut-bank.ensures.value is.fits

pub returns-in-Core-clause-done : goal.returns-in-Core-clause-done
returns-in-Core-clause-done c m room is =
    let result : Result PlainAnswer (Unit {0}) = Ok c.deliver_to_core.result in
    delivered is.are is.kept c.args.number c.in-Some.ensures.value (core_place _ c.in-Core.number_of_core)
    c.in-Core.is c.index_mut-core.ensures.value is.fits.capacity_is result _ _ _
    c.deliver_to_core.ensures.done c.deliver_to_core.ensures.stop

pub returns-in-Core-clause-fitted : goal.returns-in-Core-clause-fitted
returns-in-Core-clause-fitted c m room is =
    let cores = c.args.cores.now.items in
    let part = c.index_mut-core.result.now in
    let here = part_here is.are is.kept c.args.number c.in-Some.ensures.value
    (core_place _ c.in-Core.number_of_core) c.in-Core.is c.index_mut-core.ensures.value in
    let after = c.deliver_to_core.new.core in
    let open_kept = subst (λ (x : Answer × CoreState × Mail). x.1.open_op ≡ part.open_op)
    (sym (of_there _ c.in-Some.ensures.value c.deliver_to_core.ensures.done))
    (kept part (SameOpen part) refl c.args.flight.now.capacity c.args.flight.now.mail (Some c.args.number) _
    (core_only part c.in-Some.message.now)) in
    let same = owed_kept cores c.in-Core.number_of_core part after here open_kept in
    still_fitted m.config c.args.flight.now cores m.records _ is.fits
    c.deliver_to_core.new.flight (set cores c.in-Core.number_of_core after) m.records room
    c.deliver_to_core.new.masks c.deliver_to_core.ensures.set_up (omega (arith, same, is.fits.reserved))
    (c.deliver_to_core.ensures.masked cores here open_kept is.fits.masked)

pub returns-in-Some-held_request_awaits_line-clause-done : goal.returns-in-Some-held_request_awaits_line-clause-done
returns-in-Some-held_request_awaits_line-clause-done c m room is =
    let result : Result PlainAnswer (Unit {0}) = Ok Held in
    let part = c.index_mut-bank.result.now in
    let old = c.args.flight.now in
    let stays = c.held_request_awaits_line.ensures.held (ap is_some c.in-Some-held_request_awaits_line.is) in
    delivered is.are is.kept c.args.number c.in-Some.ensures.value (bank_place _ c.in-Bank.bank)
    c.in-Bank.is c.index_mut-bank.ensures.value is.fits.capacity_is result part c.seek.new.self.mail
    c.args.is_stopped.now
    (holds_there (λ x. ◌≡◌ {A = Answer × BankState × Mail} (answer.Held, part, c.seek.new.self.mail)
    (applied old.capacity part old.mail (Some c.args.number) (reacted (bank_table part x))))
    c.in-Some.ensures.value
    (ap (λ (f : Flight). (answer.Held, part, f.mail)) c.seek.ensures
    ∙ ap (λ (r : Option (Reaction × BankState)). applied old.capacity part old.mail (Some c.args.number)
    (reacted r)) (sym stays))) refl

pub returns-in-Some-held_request_awaits_line-clause-told : goal.returns-in-Some-held_request_awaits_line-clause-told
returns-in-Some-held_request_awaits_line-clause-told c m room is = λ told.
    let part = c.index_mut-bank.result.now in
    let banks = c.args.banks.now.items in
    let here = part_here is.are is.kept c.args.number c.in-Some.ensures.value (bank_place _ c.in-Bank.bank)
    c.in-Bank.is c.index_mut-bank.ensures.value in
    no_room_made (with_parts m c.args.cores.now.items (set banks c.in-Bank.bank part) c.args.drams.now.items
    c.seek.new.self.mail c.args.is_stopped.now) c.args.number
    (c.in-Some.ensures.value ∙ ap (λ (f : Flight). at_number c.args.number f.mail.messages) (sym c.seek.ensures))
    c.in-Bank.bank c.in-Bank.is (get-set_same banks c.in-Bank.bank part part here)
    (of_there _ (sym c.in-Some-held_request_awaits_line.is) c.held_request_awaits_line.ensures.there told)

pub returns-in_default-held_request_awaits_line-clause-done :
    goal.returns-in_default-held_request_awaits_line-clause-done
returns-in_default-held_request_awaits_line-clause-done c m room is =
    let result : Result PlainAnswer (Unit {0}) = Ok c.deliver_to_bank.result in
    delivered is.are is.kept c.args.number c.in-Some.ensures.value (bank_place _ c.in-Bank.bank)
    c.in-Bank.is c.index_mut-bank.ensures.value is.fits.capacity_is result _ _ _
    c.deliver_to_bank.ensures.done c.deliver_to_bank.ensures.stop

pub returns-in-Dram-clause-done : goal.returns-in-Dram-clause-done
returns-in-Dram-clause-done c m room is =
    delivered is.are is.kept c.args.number c.in-Some.ensures.value (dram_place _ c.in-Dram.bank)
    c.in-Dram.is c.index_mut-dram.ensures.value is.fits.capacity_is _ _ _ _
    c.deliver_to_part.ensures.done c.deliver_to_part.ensures.stop

pub returns-in-Dram-clause-wanted : goal.returns-in-Dram-clause-wanted
returns-in-Dram-clause-wanted c m room is =
    delivery_wanted is.are is.kept c.args.number c.in-Some.ensures.value (dram_place _ c.in-Dram.bank)
    c.in-Dram.is c.index_mut-dram.ensures.value is.fits.capacity_is c.deliver_to_part.result
    c.deliver_to_part.ensures.memory

pub returns-in-Dram-clause-store : goal.returns-in-Dram-clause-store
returns-in-Dram-clause-store c m room is =
    dram_asks is.are c.args.number c.in-Some.ensures.value c.in-Dram.bank c.in-Dram.is
    (part_here is.are is.kept c.args.number c.in-Some.ensures.value (dram_place _ c.in-Dram.bank)
    c.in-Dram.is c.index_mut-dram.ensures.value)
    c.deliver_to_part.result c.deliver_to_part.ensures.sure

pub returns-in_default-clause-waits : goal.returns-in_default-clause-waits
returns-in_default-clause-waits c m room is =
    c.requires.not_yet ∙ sym (none_waits is.are c.args.number (search rules))

pub returns-in-Core-clause-waits : goal.returns-in-Core-clause-waits
returns-in-Core-clause-waits c m room is =
    c.requires.not_yet ∙ sym (waits_where is.are c.args.number c.in-Some.ensures.value c.in-Core.is)

pub returns-in-Dram-clause-waits : goal.returns-in-Dram-clause-waits
returns-in-Dram-clause-waits c m room is =
    c.requires.not_yet ∙ sym (waits_where is.are c.args.number c.in-Some.ensures.value c.in-Dram.is)

pub returns-in-Some-held_request_awaits_line-clause-waits : goal.returns-in-Some-held_request_awaits_line-clause-waits
returns-in-Some-held_request_awaits_line-clause-waits c m room is =
    let here = part_here is.are is.kept c.args.number c.in-Some.ensures.value (bank_place _ c.in-Bank.bank)
    c.in-Bank.is c.index_mut-bank.ensures.value in
    sym (waits_at_bank is.are c.args.number c.in-Some.ensures.value c.in-Bank.is here
    ∙ sym c.held_request_awaits_line.ensures.value ∙ ap (λ o. unwrap_or o false) c.in-Some-held_request_awaits_line.is)

pub returns-in_default-held_request_awaits_line-clause-waits :
    goal.returns-in_default-held_request_awaits_line-clause-waits
returns-in_default-held_request_awaits_line-clause-waits c m room is =
    let here = part_here is.are is.kept c.args.number c.in-Some.ensures.value (bank_place _ c.in-Bank.bank)
    c.in-Bank.is c.index_mut-bank.ensures.value in
    c.requires.not_yet ∙ sym (waits_at_bank is.are c.args.number c.in-Some.ensures.value c.in-Bank.is here
    ∙ sym c.held_request_awaits_line.ensures.value ∙ ap (λ o. unwrap_or o false)
    c.in_default-held_request_awaits_line.is)
