-- A part that holds or drops a message stays as it is; a core starts nothing, a bank drops nothing that it has a case
-- for, and a DRAM answers each message that it has a case for.
use Rattle.std.proofs.Common.{arith, ◌≡◌, ◌≢◌, ℕ, true, false, List, Option, Some, refl, subst, nat_cmp}
use Rattle.std.proofs.lemmas.Bool.{and_parts}
use Rattle.std.specs.FinMap.{FinMap}
use Rattle.network.specs.declared.message.Body.{Body}
use Rattle.network.specs.declared.message.Body.TheVariants.{ShReq, DramLd, DramSt}
use Rattle.network.specs.declared.message.Message.{Message}
use Rattle.network.specs.declared.part.Reaction.{Reaction}
use Rattle.core_pts.specs.declared.decision.CoreReaction.{CoreReaction}
use Rattle.core_pts.specs.declared.decision.CoreReaction.TheVariants as on_copy
use Rattle.core_pts.specs.CoreTable.{CoreState, core_table, after_reaction, decided}
use Rattle.llc_bank.specs.declared.decision.Decision.{Decision}
use Rattle.llc_bank.specs.declared.decision.Decision.TheVariants as on_entry
use Rattle.llc_bank.specs.BankTable as banks
use Rattle.llc_bank.specs.BankTable.{BankState, bank_table, bank_has_case, after_decision}
use Rattle.dram_mts.specs.Table.{comes_to_dram, is_dram, dram_case, dram_has_case}
use Rattle.machine_table.specs.declared.event.Answer.TheVariants.{Delivered, Started}
use Rattle.machine_table.specs.Step.{Step, Drops, Makes, Stays, reacted}
use Rattle.machine_theorem.proofs.OnEntries.{AtRequest}

-- Cores

-- nothing is started
abbrev StartsNothing : {S : Type 0} → Step S → Type 0
StartsNothing (Makes why false sends part) = ⊥
StartsNothing _ = Unit {0}

abbrev CoreDoes : CoreState → Option (Reaction × CoreState) → Type 0
CoreDoes core r = Stays core r × StartsNothing (reacted r)

core_does : (core : CoreState) (line : ℕ) (r : CoreReaction) → CoreDoes core (after_reaction core line r)
core_does core line on_copy.Drops = (refl, tt)
core_does core line on_copy.Holds = (refl, tt)
core_does core line on_copy.NoCase = (refl, tt)
core_does core line _ = (tt, tt)

pub core_stays : (core : CoreState) (m : Message) → Stays core (core_table core m)
core_stays core m = (core_does core m.line (decided core m.line m.body)).0

pub core_starts : (core after : CoreState) (m started : Message) →
    reacted (core_table core m) ≢ Makes Started false (Some started) after
core_starts core after m started e = subst StartsNothing e (core_does core m.line (decided core m.line m.body)).1

-- Banks

stays_at : (bank : BankState) (m : Message) (d : Decision) → Stays bank (after_decision bank m d)
stays_at bank m on_entry.Waits = refl
stays_at bank m on_entry.NoCase = refl
stays_at bank m _ = tt

pub bank_stays : (bank : BankState) (m : Message) → Stays bank (bank_table bank m)
bank_stays bank m = stays_at bank m (banks.decided bank m)

any_request : (b : Body) → AtRequest (Unit {0}) b
any_request (ShReq pts version) = tt
any_request _ = tt

pub bank_drops : (bank : BankState) (m : Message) → bank_has_case bank m ≡ true → reacted (bank_table bank m) ≢ Drops
bank_drops bank m has e = grind (arith, any_request m.body)

-- DRAMs

abbrev Answered : FinMap nat_cmp (List ℕ) → Message → Body → Type 0
Answered lines m b =
    (answer : Message) × (after : FinMap nat_cmp (List ℕ)) ×
    (reacted (dram_case lines m b) ≡ Makes Delivered true (Some answer) after)

answers : (lines : FinMap nat_cmp (List ℕ)) (m : Message) (b : Body) → comes_to_dram b ≡ true → Answered lines m b
answers lines m DramLd has = (_, _, refl)
answers lines m (DramSt words) has = (_, _, refl)
answers lines m _ has = absurd (let z : false ≡ true = has in cc)

pub dram_answers : (lines : FinMap nat_cmp (List ℕ)) (m : Message) → dram_has_case lines m ≡ true →
    Answered lines m m.body
dram_answers lines m has = answers lines m m.body (and_parts (is_dram m.to) (comes_to_dram m.body) has).1
