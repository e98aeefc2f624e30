-- What a seat holds is what it stores, before a change and after it.
use Rattle.std.proofs.Common.{◌≡◌, ℕ, Bool, true, false, Result, refl, sym, ap, ◌∙◌, true≢false, List, Option}
use Rattle.std.specs.Prelude.{is_some}
use Rattle.physiological_order.specs.declared.operation.Op.{Op}
use Rattle.physiological_order.specs.declared.operation.Record.{Record}
use Rattle.network.specs.declared.message.Message.{Message}
use Rattle.inbox.specs.declared.answer.Answer.{Answer}
use Rattle.inbox.specs.declared.answer.Refusal.{Refusal}
use Rattle.inbox.specs.declared.answer.Served.{Served}
use Rattle.inbox.specs.Inboxes.{InboxState}
use Rattle.inbox.specs.Effects.{Effect, delivered, dropped, started, moved, unchanged}
use Rattle.seat_views.specs.Seated.{with_hold}
use Rattle.seat_rule.specs.declared.views.Hold.{Hold}
use Rattle.seat_rule.specs.Plays.{SeatState}
use Rattle.mailboxes.specs.declared.mailbox.Mailbox.{Mailbox}
use Rattle.mailboxes.specs.declared.sending.SendingBank.{SendingBank}
use Rattle.mailboxes.specs.declared.sending.SendingCore.{SendingCore}
use Rattle.mailboxes.specs.BankCalls.{PartOf}
use Rattle.mailboxes.specs.BoxMoves.{hold}
use Rattle.mailboxes.specs.CoreServing.{CorePartOf}
use Rattle.mailboxes.specs.SeatServing.{may_change}
use Rattle.mailboxes.specs.Stored.{stored_bank, stored_core}
use Rattle.mailboxes.specs.Ties.{BankTied, BoxTied, CoreTied, SlotSeat}

-- a serving that changes nothing
module _ {P : Type 0} (table : P → Message → ℕ → Answer Message × P) (b : InboxState Message) (p : P)
    (result : Result Served Refusal) (c : InboxState Message) (q : P) where
  abbrev changes : Result Served Refusal → Bool
  changes r = may_change (is_some b.hand) r

  never : {A : Type 0} (r : Result Served Refusal) → changes r ≡ true → result ≡ r → changes result ≡ false → A
  never r may is not = absurd (true≢false (sym may ∙ sym (ap changes is) ∙ not))

  pub nothing_changed : Effect table b p result c q → changes result ≡ false → (c ≡ b) × (q ≡ p)
  nothing_changed (delivered at m sent asked is before after) not = never _ refl is not
  nothing_changed (dropped at m asked is before after) not = never _ refl is not
  nothing_changed (started at m sent asked is before after) not = never _ refl is not
  nothing_changed (moved m asked is now same part) not = never _ (ap is_some asked.0) is not
  nothing_changed (unchanged stays messages part) not = (messages, part)

-- a core's seat that stores what it did holds what it did, and so does a bank's
pub core_stays : (b : Mailbox) (p q : SendingCore) (ops : List Op) (c : InboxState Message) → CorePartOf b p ops →
    (c ≡ b.inbox) × (q ≡ p) → stored_core (hold b) q ops c ≡ hold b
core_stays b p q ops c has same =
    (λ i. stored_core (hold b) (same.1 i) ops (same.0 i))
    ∙ (λ i.
    record (hold b) {
      core = sym has.tied.core i;
      issued = sym has.tied.issued i;
      counts = sym has.tied.counts i;
      outbox = sym has.tied.outbox i;
      hand = sym b.tied.hand i;
      held = sym b.tied.held i;
    })

pub bank_stays : (b : Mailbox) (p q : SendingBank) (c : InboxState Message) → PartOf b p →
    (c ≡ b.inbox) × (q ≡ p) → stored_bank (hold b) q c ≡ hold b
bank_stays b p q c has same =
    (λ i. stored_bank (hold b) (same.1 i) (same.0 i))
    ∙ (λ i.
    record (hold b) {
      bank = sym has.tied.bank i;
      dram = sym has.tied.dram i;
      counts = sym has.tied.counts i;
      outbox = sym has.tied.outbox i;
      hand = sym b.tied.hand i;
      held = sym b.tied.held i;
    })

-- what is stored is what the view has, after a change
pub box_stands : (old new : SlotSeat) (b : Hold) (n : ℕ) (h : Option Message) (waiting : List Message)
    (now : InboxState Message) → new.me ≡ (with_hold old.me.0 b, old.me.1) → BoxTied old n h waiting →
    b.stage ≡ old.me.0.mine.stage → b.hand ≡ now.hand → b.held ≡ now.held → BoxTied new n now.hand now.held
box_stands old new b n h waiting now changed tied stage hand held =
    record {
      number = ap (λ (y : SeatState). y.0.number) changed ∙ tied.number;
      live = ap (λ (y : SeatState). y.0.spent) changed ∙ tied.live;
      none_out = ap (λ (y : SeatState). y.1) changed ∙ tied.none_out;
      idle = ap (λ (y : SeatState). y.0.mine.stage) changed ∙ stage ∙ tied.idle;
      hand = ap (λ (y : SeatState). y.0.mine.hand) changed ∙ hand;
      held = ap (λ (y : SeatState). y.0.mine.held) changed ∙ held;
    }

pub core_stands : (old new : SlotSeat) (part : SendingCore) (issued : List Op) (records : List Record)
    (now : InboxState Message) →
    new.me ≡ (with_hold old.me.0 (stored_core old.me.0.mine part issued now), old.me.1) →
    old.me.0.mine.records ≡ records → CoreTied new.me.0.mine part.core issued records part.outbox
core_stands old new part issued records now changed kept =
    record {
      core = ap (λ (y : SeatState). y.0.mine.core) changed;
      issued = ap (λ (y : SeatState). y.0.mine.issued) changed;
      records = ap (λ (y : SeatState). y.0.mine.records) changed ∙ kept;
      outbox = ap (λ (y : SeatState). y.0.mine.outbox) changed;
      counts = ap (λ (y : SeatState). y.0.mine.counts) changed;
    }

pub bank_stands : (old new : SlotSeat) (part : SendingBank) (now : InboxState Message) →
    new.me ≡ (with_hold old.me.0 (stored_bank old.me.0.mine part now), old.me.1) →
    BankTied new.me.0.mine part.bank part.dram part.outbox
bank_stands old new part now changed =
    record {
      bank = ap (λ (y : SeatState). y.0.mine.bank) changed;
      dram = ap (λ (y : SeatState). y.0.mine.dram) changed;
      outbox = ap (λ (y : SeatState). y.0.mine.outbox) changed;
      counts = ap (λ (y : SeatState). y.0.mine.counts) changed;
    }
