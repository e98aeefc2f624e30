-- What is known of a bank's seat, from what it stores and from the reached state that it stands in: what it does is a
-- move, after which it stores what it holds.
use Rattle.std.proofs.Common.{◌≡◌, ℕ, ◌+◌, ◌-◌, ◌<◌, ◌⊎◌, inl, inr, true, false, List, ◌++◌, Option, Some, None}
use Rattle.std.proofs.Common.{Result, Ok, Err, refl, sym, ap, ◌∙◌, subst, option_to_list, arith}
use Rattle.std.specs.Option.{option_map}
use Rattle.network.specs.declared.message.Node.{Node}
use Rattle.network.specs.declared.message.Node.TheVariants.{Bank, Dram}
use Rattle.network.specs.declared.message.Message.{Message}
use Rattle.llc_bank.specs.declared.entry.Evict.{Evict}
use Rattle.llc_bank.specs.declared.entry.Evict.TheVariants as evict
use Rattle.llc_bank.specs.declared.entry.EvictError.{EvictError}
use Rattle.llc_bank.specs.declared.decision.Eviction.{Eviction}
use Rattle.llc_bank.specs.declared.decision.Eviction.TheVariants as eviction
use Rattle.llc_bank.specs.OnEntry.{evicted}
use Rattle.llc_bank.specs.BankTable as bank_table
use Rattle.llc_bank.specs.BankTable.{BankState, after_eviction, bank_has_case, entry_of}
use Rattle.dram_mts.specs.Table.{dram_has_case, dram_table}
use Rattle.machine_table.specs.Step as step
use Rattle.machine_theorem.specs.Bags.{SameBag}
use Rattle.machine_theorem.specs.Shape.{IsBank}
use Rattle.inbox.specs.declared.answer.Answer.{Answer}
use Rattle.inbox.specs.declared.answer.Refusal.{Refusal}
use Rattle.inbox.specs.declared.answer.Served.{Served}
use Rattle.inbox.specs.Inboxes.{InboxState}
use Rattle.inbox.specs.Serving.{HaveCases, Place, places, sent_list}
use Rattle.inbox.specs.Effects.{Effect, LiesAt, messages_of}
use Rattle.seat_rule.proofs.Lemmas.{weigh-append}
use Rattle.seat_rule.specs.declared.views.SetUp.{SetUp}
use Rattle.seat_rule.specs.declared.views.Hold.{Hold}
use Rattle.seat_rule.specs.Found.{MessagesFindParts, OfStanding}
use Rattle.seat_rule.specs.Plays.{Standing}
use Rattle.seat_rule.specs.Rule.{bag_of_hold, seat_count}
use Rattle.seat_rule.specs.SeatMoves.{HoldSends, HoldSteps, SeatMove, bank_steps, dram_steps, sorts}
use Rattle.machine_theorem.specs.Staying.{BanksStay}
use Rattle.mailboxes.specs.declared.machine.Machine.{Machine}
use Rattle.mailboxes.specs.declared.mailbox.Mailbox.{Mailbox}
use Rattle.mailboxes.specs.declared.sending.SendingBank.{SendingBank}
use Rattle.mailboxes.specs.BankCalls.{IsBankMail, PartOf, evicted_part, evicted_inbox, sent_by_eviction}
use Rattle.mailboxes.specs.BankServing.{bank_has_case_at, reacts_at, sending_bank_has_case, sending_bank_table}
use Rattle.mailboxes.specs.BoxMoves.{hold}
use Rattle.mailboxes.specs.PartServing.{told_if}
use Rattle.mailboxes.specs.Stored.{stored_bank}
use Rattle.mailboxes.proofs.FoundMessages.{ends, finds, have_cases, lies_own}
use Rattle.mailboxes.proofs.MessageEnds.{bank_goes, bank_sends, dram_sends, own_ends}
use Rattle.mailboxes.proofs.Reactions.{Did, did, dram_stays, sends}
use Rattle.mailboxes.proofs.ServedParts.{Settled, answer_moves, answer_settles, by_answer, hold_sends, hold_stays}
use Rattle.mailboxes.proofs.ServedParts.{sent_settles, stays_settled}
use Rattle.mailboxes.proofs.StoredSeats.{bank_stays}

-- what an eviction sends comes from the bank
abbrev evict_sender : Result Evict EvictError → Option Node
evict_sender (Err e) = None
evict_sender (Ok done) = option_map (λ s. s.from) (sent_by_eviction done)

evicted_from : (bank : BankState) (line : ℕ) (d : Eviction) (n : Node) →
    evict_sender (after_eviction bank line d).0 ≡ Some n → n ≡ Bank bank.number
evicted_from bank line eviction.NotThere n e = cc
evicted_from bank line _ n e = cc

sent_from : (e : Evict) (s : Message) → sent_by_eviction e ≡ Some s → evict_sender (Ok e) ≡ Some s.from
sent_from e s is = ap (option_map (λ (x : Message). x.from)) is

-- a message to the seat itself is one more of those that came in
inbox_bag : (b : InboxState Message) (e : Evict) →
    SameBag (messages_of (evicted_inbox b e)) (sent_list (told_if false (sent_by_eviction e)) ++ messages_of b)
inbox_bag b e f =
    let hand = option_to_list b.hand in
    let sent = sent_list (told_if false (sent_by_eviction e)) in
    let u = weigh-append f hand (b.held ++ sent) in
    let v = weigh-append f b.held sent in
    let w = weigh-append f sent (hand ++ b.held) in
    let y = weigh-append f hand b.held in
    omega arith

-- what an eviction makes of a seat
evicted_holds : (a c : Hold) (p bank : BankState) (rest : List Message) (e : Evict) →
    HoldSends a c (bag_of_hold a) (sent_by_eviction e) → HoldSteps a c p bank rest (step.entry_evicted (Ok e, bank))
evicted_holds a c p bank rest evict.Clean sends = (refl, sends)
evicted_holds a c p bank rest _ sends = (refl, sends)

module _ (m : Machine) (b : Mailbox) (p : SendingBank) (is : IsBankMail m b) (has : PartOf b p) where
  abbrev z : SetUp
  z = m.set_up

  abbrev i : ℕ
  i = b.number - z.config.cores

  named : b.number ≡ z.config.cores + i
  named = let least = is.1 in omega arith

  below : i < z.config.banks
  below =
      let least = is.1 in
      let most = is.0.1 in
      omega arith

  here_named : b.number ≡ b.cores + i
  here_named = named ∙ ap (λ k. k + i) (sym is.0.2)

  abbrev pub seat_number : ℕ
  seat_number = b.seat.me.0.number

  abbrev after : SendingBank → InboxState Message → Hold
  after q c = stored_bank (hold b) q c

  -- the parts of these
  abbrev parts : SendingBank → Hold
  parts q = record (hold b) { bank = q.bank; dram = q.dram }

  -- a move from what the seat stores is one from what it holds
  stored : (a : Hold) → SeatMove z b.number (after p b.inbox) a → SeatMove z seat_number (hold b) a
  stored a move =
      subst (λ (y : ℕ × Hold). SeatMove z y.0 y.1 a)
      (λ j. (sym b.tied.number j, bank_stays b p p b.inbox has (refl, refl) j)) move

  -- what the tables said where this was answered, of a message to the bank, and of one to its DRAM
  bank_did : (x : Message) (n : ℕ) (answer : Answer Message) (q : SendingBank) → x.to ≡ Bank i →
      sending_bank_table p x n ≡ (answer, q) →
      Did false p.outbox p.bank (bank_table.bank_table p.bank x) answer q.bank q.outbox × (q.dram ≡ p.dram)
  bank_did x n answer q to asks =
      let e : reacts_at (Bank i) p x n ≡ (answer, q) = ap (λ t. reacts_at t p x n) (sym to) ∙ asks in (
        did false p.outbox p.bank n (bank_table.bank_table p.bank x) answer q.bank q.outbox
            (ap (λ (y : Answer Message × SendingBank). (y.0, y.1.bank, y.1.outbox)) e),
        sym (ap (λ (y : Answer Message × SendingBank). y.1.dram) e),
      )

  dram_did : (x : Message) (n : ℕ) (answer : Answer Message) (q : SendingBank) → x.to ≡ Dram i →
      sending_bank_table p x n ≡ (answer, q) →
      Did false p.outbox p.dram (dram_table p.dram x) answer q.dram q.outbox × (q.bank ≡ p.bank)
  dram_did x n answer q to asks =
      let e : reacts_at (Dram i) p x n ≡ (answer, q) = ap (λ t. reacts_at t p x n) (sym to) ∙ asks in (
        did false p.outbox p.dram n (dram_table p.dram x) answer q.dram q.outbox
            (ap (λ (y : Answer Message × SendingBank). (y.0, y.1.dram, y.1.outbox)) e),
        sym (ap (λ (y : Answer Message × SendingBank). y.1.bank) e),
      )

  -- An eviction

  pub evict_moves : (line : ℕ) (e : Evict) (q : SendingBank) (c : InboxState Message) →
      (bank_table.evict p.bank line).0 ≡ Ok e → q ≡ evicted_part p (bank_table.evict p.bank line).1 e →
      c ≡ evicted_inbox b.inbox e → SeatMove z seat_number (hold b) (after q c)
  evict_moves line e q c done part messages =
      let bank = (bank_table.evict p.bank line).1 in
      let now = evicted_part p bank e in
      subst (λ (y : SendingBank × InboxState Message). SeatMove z seat_number (hold b) (after y.0 y.1))
      (λ j. (sym part j, sym messages j))
      (stored (after now (evicted_inbox b.inbox e))
      (bank_steps i (step.Evicting line) (bag_of_hold (after p b.inbox))
      (step.entry_evicted (Ok e, bank)) below named refl (ap (λ r. step.entry_evicted (r, bank)) done)
      (evicted_holds _ _ _ bank _ e (hold_sends false p.outbox now.outbox b.inbox (evicted_inbox b.inbox e)
      (parts p) (parts now) (sent_by_eviction e) (told_if false (sent_by_eviction e)) (messages_of b.inbox)
      (sends false p.outbox (sent_by_eviction e)) (inbox_bag b.inbox e))) (record { core = refl; issued = refl }) refl))

  module _ (found : MessagesFindParts) (shape : OfStanding (λ z id a. (k : ℕ) → k < z.config.banks →
      id ≡ z.config.cores + k → IsBank z.config k a.bank)) where
    numbered : p.bank.number ≡ i
    numbered =
        sym (ap (λ (x : BankState). x.number) has.tied.bank)
        ∙ (shape z (seat_count z) b.number (hold b) m.good is.2 i below named).numbered

    -- each message that came in goes to the bank or its DRAM, which has a case for it
    here : (at : Place) (x : Message) → LiesAt b.inbox at x →
        ((x.to ≡ Bank i) × (bank_has_case p.bank x ≡ true)) ⊎ ((x.to ≡ Dram i) × (dram_has_case p.dram x ≡ true))
    here at x lies =
        let case = finds found m b is.2 at x lies in
        elim (own_ends b.cores b.banks b.number i here_named x.to (lies_own b at x lies)) [
          | inl to ↦ inl (to, sym (ap (λ y. bank_has_case y x) has.tied.bank) ∙ (case.bank i named to).1)
          | inr to ↦ inr (to, sym (ap (λ y. dram_has_case y x) has.tied.dram) ∙ (case.dram i named to).1)
        ]

    pub all_cases : HaveCases sending_bank_has_case b.inbox p
    all_cases =
        have_cases sending_bank_has_case b.inbox p
        (λ at x lies.
        elim (here at x lies) [
          | inl t ↦ ap (λ n. bank_has_case_at n p x) t.0 ∙ t.1
          | inr t ↦ ap (λ n. bank_has_case_at n p x) t.0 ∙ t.1
        ])

    pub evict_settled : (line : ℕ) (e : Evict) (q : SendingBank) (c : InboxState Message) →
        (bank_table.evict p.bank line).0 ≡ Ok e → q ≡ evicted_part p (bank_table.evict p.bank line).1 e →
        c ≡ evicted_inbox b.inbox e → Standing z (seat_count z) seat_number (after q c) →
        Settled false b.cores b.banks b.number p.outbox q.outbox b.inbox c b.own has.linked
    evict_settled line e q c done part messages standing =
        let now = evicted_part p (bank_table.evict p.bank line).1 e in
        subst (λ (y : SendingBank × InboxState Message).
        Standing z (seat_count z) seat_number (after y.0 y.1) →
        Settled false b.cores b.banks b.number p.outbox y.0.outbox b.inbox y.1 b.own has.linked)
        (λ j. (sym part j, sym messages j))
        (λ stands.
        sent_settles false b.cores b.banks b.number p.outbox now.outbox b.inbox (evicted_inbox b.inbox e) b.own
        has.linked (ends found m b is.0 seat_number (after now (evicted_inbox b.inbox e)) stands) (sent_by_eviction e)
        (told_if false (sent_by_eviction e)) (sends false p.outbox (sent_by_eviction e)) (inbox_bag b.inbox e)
        (λ s gives.
        bank_goes b.cores b.banks b.number i here_named s
        (inl (evicted_from p.bank line (evicted (entry_of p.bank line)) s.from (ap evict_sender done
        ∙ sent_from e s gives) ∙ ap Bank numbered))))
        standing

    -- A serving

    module _ (stay : BanksStay) (result : Result Served Refusal) (c : InboxState Message) (q : SendingBank)
        (effect : Effect sending_bank_table b.inbox p result c q) where
      pub serve_moves : SeatMove z seat_number (hold b) (after q c)
      serve_moves =
          stored (after q c) (by_answer sending_bank_table b.inbox p result c q
          (λ at x answer asked before left.
          elim (here at x asked.0) [
            | inl t ↦ (let d = bank_did x (places b.inbox.held at) answer q t.0 asked.1 in
                answer_moves false p.outbox q.outbox b.inbox c z b.number (parts p) (parts q) p.bank q.bank
                (bank_table.bank_table p.bank x) x
                (λ rest s apart gives sent.
                bank_steps i (step.Getting x) rest s below named (apart, t.0, t.1) gives sent
                (record { core = refl; issued = refl }) d.1)
                (stay.stays p.bank x) at answer d.0 before left)
            | inr t ↦ (let d = dram_did x (places b.inbox.held at) answer q t.0 asked.1 in
                answer_moves false p.outbox q.outbox b.inbox c z b.number (parts p) (parts q) p.dram q.dram
                (dram_table p.dram x) x
                (λ rest s apart gives sent.
                dram_steps i (step.Getting x) rest s below named (apart, t.0, t.1) gives sent
                (record { core = refl; issued = refl }) d.1)
                (dram_stays p.dram x x.body) at answer d.0 before left)
          ])
          (λ same stays.
          sorts (record { core = refl; issued = refl })
          (record {
            bank = ap (λ (y : SendingBank). y.bank) stays;
            dram = ap (λ (y : SendingBank). y.dram) stays;
          })
          (hold_stays false p.outbox q.outbox b.inbox c (parts p) (parts q) same
          (ap (λ (y : SendingBank). y.outbox) stays)))
          effect)

      pub serve_settled : Standing z (seat_count z) seat_number (after q c) →
          Settled false b.cores b.banks b.number p.outbox q.outbox b.inbox c b.own has.linked
      serve_settled standing =
          let to = ends found m b is.0 seat_number (after q c) standing in
          by_answer sending_bank_table b.inbox p result c q
          (λ at x answer asked before left.
          elim (here at x asked.0) [
            | inl t ↦ answer_settles false b.cores b.banks b.number p.outbox q.outbox b.inbox c b.own has.linked to
                p.bank q.bank (bank_table.bank_table p.bank x) x
                (λ s sent. bank_goes b.cores b.banks b.number i here_named s
                (inl (bank_sends p.bank x s sent ∙ ap Bank numbered))) at answer
                (bank_did x (places b.inbox.held at) answer q t.0 asked.1).0 before left
            | inr t ↦ answer_settles false b.cores b.banks b.number p.outbox q.outbox b.inbox c b.own has.linked to
                p.dram q.dram (dram_table p.dram x) x
                (λ s sent. bank_goes b.cores b.banks b.number i here_named s
                (inr (dram_sends p.dram x s sent ∙ t.0))) at answer
                (dram_did x (places b.inbox.held at) answer q t.0 asked.1).0 before left
          ])
          (λ same stays. stays_settled false b.cores b.banks b.number p.outbox q.outbox b.inbox c b.own has.linked same
          (ap (λ (y : SendingBank). y.outbox) stays))
          effect
