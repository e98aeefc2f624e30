-- A full held list, all of whose messages wait, takes no message from the hand.
use Rattle.std.proofs.Common.{◌≡◌, ℕ, ◌-◌, true, false, length, Some, refl, ap, ◌∙◌, sym, subst, arith}
use Rattle.std.proofs.lemmas.Bool.Decides.{nat_tests}
use Rattle.network.specs.declared.message.Message.{Message}
use Rattle.inbox.specs.declared.answer.Answer.{Answer}
use Rattle.inbox.specs.declared.answer.Answer.TheVariants.{Held}
use Rattle.inbox.specs.Inboxes.{InboxState, inbox}
use Rattle.inbox.specs.Serving.{finds_no_place, fitted, Serves}
use Rattle.mailboxes.specs.BankServing.{sending_bank_table, sending_bank_takes_memory, reacts_at}
use Rattle.mailboxes.specs.CoreServing.{sending_core_table, sending_core_takes_memory}
use Rattle.mailboxes.specs.PartServing.{reacts}
use Rattle.mailboxes.specs.SeatServing.{seat_result}
use Rattle.seat_edges.specs.WaitLaws.{FullBanksHoldNoMore, FullCoresHoldNoMore}
use Rattle.seat_edges.proofs.EmptyHands.{bank-wait, core-wait}
use Rattle.seat_edges.proofs.WaitingMessages.{waits-full}

no-place : (n k : ℕ) (a : Answer Message) → k ≡ 256 → n ≡ 256 - k → a ≡ Held → finds_no_place (fitted n a) ≡ true
no-place n k a long is held = grind (arith, nat_tests)

pub full_cores : FullCoresHoldNoMore
full_cores b c p q result m hand long first wait s =
    let n = 256 - length b.held in
    let same : b ≡ inbox (Some m) b.held = ap (λ h. inbox h b.held) hand in
    let none = no-place n (length b.held) (sending_core_table p m n).0 long refl
    (ap (λ r. (reacts true p.outbox n p.core r).0) first) in
    let w = waits-full sending_core_table sending_core_takes_memory b.held p m none
    (core-wait b.held p (omega (arith, long)) wait) s.0 c q
    (subst (λ (y : InboxState Message). Serves sending_core_table sending_core_takes_memory y p s.0 c q) same s.2) in
    record { answer = s.1 ∙ ap seat_result w.0; messages = w.1 ∙ sym same; part = w.2 }

pub full_banks : FullBanksHoldNoMore
full_banks b c p q result m hand long to first wait s =
    let n = 256 - length b.held in
    let same : b ≡ inbox (Some m) b.held = ap (λ h. inbox h b.held) hand in
    let none = no-place n (length b.held) (sending_bank_table p m n).0 long refl
    (ap (λ t. (reacts_at t p m n).0) to.1 ∙ ap (λ r. (reacts false p.outbox n p.bank r).0) first) in
    let w = waits-full sending_bank_table sending_bank_takes_memory b.held p m none
    (bank-wait b.held p (omega (arith, long)) wait) s.0 c q
    (subst (λ (y : InboxState Message). Serves sending_bank_table sending_bank_takes_memory y p s.0 c q) same s.2) in
    record { answer = s.1 ∙ ap seat_result w.0; messages = w.1 ∙ sym same; part = w.2 }
