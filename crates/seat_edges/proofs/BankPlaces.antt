-- What a bank that is to load a line wants places for.
use Rattle.std.proofs.Common.{◌≡◌, ℕ, ◌-◌, ◌≤◌, Bool, true, false, ◌&&◌, cond, length, Option, Some, refl, ap, ◌∙◌}
use Rattle.std.proofs.Common.{arith}
use Rattle.std.proofs.lemmas.Bool.{lt-leb}
use Rattle.std.proofs.lemmas.Bool.Decides.{nat_tests}
use Rattle.network.specs.declared.message.Body.{Body}
use Rattle.network.specs.declared.message.Message.{Message}
use Rattle.network.specs.declared.part.Reaction.{Reaction}
use Rattle.network.specs.declared.part.Reaction.TheVariants.{HeldAfter}
use Rattle.llc_bank.specs.declared.decision.Decision.TheVariants.{Loads}
use Rattle.llc_bank.specs.declared.entry.Entry.TheVariants.{Loading}
use Rattle.llc_bank.specs.BankTable.{BankState, after_decision, decided, with_used}
use Rattle.inbox.specs.declared.answer.Answer.{Answer}
use Rattle.inbox.specs.declared.answer.Answer.TheVariants.{Refused}
use Rattle.inbox.specs.declared.answer.Refusal.TheVariants.{Full}
use Rattle.inbox.specs.Serving as serving
use Rattle.inbox.specs.Serving.{finds_no_place, fitted}
use Rattle.mailboxes.specs.declared.sending.SendingBank.{SendingBank}
use Rattle.seat_edges.specs.BankPlaceLaws.{IsRequest, Lacks, LoadsWantTwoHeld, asked, load, to_own, to_read}
use Rattle.mailboxes.specs.PartServing.{reacts, replied}
use Rattle.mailboxes.specs.BankServing.{sending_bank_table, sending_bank_takes_memory}
use Rattle.closed_machine.specs.Sending.{OutboxState, can_still_send}
use Rattle.seat_edges.proofs.StayingHands.{stays}

loads : (bank : BankState) (core n line : ℕ) (body : Body) → IsRequest body → Lacks bank line →
    decided bank (asked core n line body) ≡ Loads
loads bank core n line body (to_read pts version e) h = grind (arith, nat_tests)
loads bank core n line body (to_own version e) h = grind (arith, nat_tests)

-- whether there is a number for the message or not
unplaced : (places : ℕ) (a : Answer Message × BankState × OutboxState) (bank : BankState) (out : OutboxState)
    (numbered : Bool) → finds_no_place (fitted places (cond (numbered && false) a (Refused Full, bank, out)).0) ≡ true
unplaced places a bank out true = refl
unplaced places a bank out false = refl

full : (p : SendingBank) (core n line places : ℕ) (body : Body) → IsRequest body → Lacks p.bank line → places ≤ 1 →
    finds_no_place (serving.asked sending_bank_table p (asked core n line body) places).0 ≡ true
full p core n line places body is lacks few =
    let m = asked core n line body in
    let sent : Option (Reaction × BankState) = Some (HeldAfter (load p.bank line), with_used p.bank line Loading) in
    ap (λ d. finds_no_place (fitted places (reacts false p.outbox places p.bank (after_decision p.bank m d)).0))
    (loads p.bank core n line body is lacks)
    ∙ ap (λ x. finds_no_place (fitted places
    (cond (can_still_send p.outbox && x) (replied false p.outbox p.bank sent) (Refused Full, p.bank, p.outbox)).0))
    (lt-leb 2 places (omega (arith, few)))
    ∙ unplaced places (replied false p.outbox p.bank sent) p.bank p.outbox (can_still_send p.outbox)

pub two_held : LoadsWantTwoHeld
two_held b c p q result core bank line body is hand many lacks served =
    stays sending_bank_table sending_bank_takes_memory b p (asked core bank line body) hand
    (full p core bank line (256 - length b.held) body is lacks (omega (arith, many))) served.0 c q served.2
