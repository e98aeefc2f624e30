-- A turn with an empty hand, whose held messages all wait, takes.
use Rattle.std.proofs.Common.{◌≡◌, ℕ, ◌+◌, ◌-◌, ◌%◌, ◌≤◌, ◌⊎◌, inl, Bool, true, false, nat_eq, is_some, List, [], ◌∷◌}
use Rattle.std.proofs.Common.{◌++◌, length, Some, None, Result, refl, sym, ap, ◌∙◌, subst, arith}
use Rattle.std.proofs.lemmas.Bool.{ne_eqb}
use Rattle.std.proofs.lemmas.Bool.Decides.{nat_tests}
use Rattle.std.proofs.lemmas.Grind.{common_steps}
use Rattle.std.specs.Prelude.{slice_get}
use Rattle.network.specs.declared.message.Message.{Message}
use Rattle.network.specs.declared.message.Node.TheVariants as node
use Rattle.network.specs.declared.part.Reaction.TheVariants as does
use Rattle.core_pts.specs.CoreTable.{core_table}
use Rattle.llc_bank.specs.BankTable.{BankState, bank_table}
use Rattle.machine_table.specs.declared.event.Refusal.{Refusal}
use Rattle.machine_table.specs.SetUp.{is_good}
use Rattle.inbox.specs.declared.answer.Answer.{Answer}
use Rattle.inbox.specs.declared.answer.Answer.TheVariants.{Held}
use Rattle.inbox.specs.declared.answer.Served.{Served}
use Rattle.inbox.specs.Serving.{fitted, stays_held}
use Rattle.seat_rule.specs.declared.views.SetUp.{SetUp}
use Rattle.mailboxes.specs.declared.machine.Machine.{Machine}
use Rattle.mailboxes.specs.declared.mailbox.Mailbox.{Mailbox}
use Rattle.mailboxes.specs.declared.core_seat.CoreSeat.{CoreSeat}
use Rattle.mailboxes.specs.declared.bank_seat.BankSeat.{BankSeat}
use Rattle.mailboxes.specs.declared.sending.SendingBank.{SendingBank}
use Rattle.mailboxes.specs.declared.sending.SendingCore.{SendingCore}
use Rattle.mailboxes.specs.declared.taken.Take.{Take}
use Rattle.mailboxes.specs.declared.taken.Take.TheVariants.{Taken, Nothing, HandFull}
use Rattle.mailboxes.specs.declared.turning.Turn.{Turn}
use Rattle.mailboxes.specs.BankServing.{sending_bank_table, sending_bank_takes_memory, reacts_at}
use Rattle.mailboxes.specs.BankTurns.{BankPuts, BankServes}
use Rattle.mailboxes.specs.BoxMoves.{IsAt, Stays, Takes, hold}
use Rattle.mailboxes.specs.PartServing.{reacts}
use Rattle.mailboxes.specs.CoreServing.{sending_core_table, sending_core_takes_memory}
use Rattle.mailboxes.specs.CoreTurns.{CorePuts, CoreServes}
use Rattle.mailboxes.specs.Places.{AllFoundEmpty, found_empty, incoming, incoming_count}
use Rattle.mailboxes.specs.SeatServing.{SeatServes}
use Rattle.seat_edges.specs.TurnLaws.{BankWaits, CoreWaits, EmptyBankHandsTake, EmptyCoreHandsTake}
use Rattle.mailboxes.specs.Turns.{Ends, Turns, is_idle}
use Rattle.seat_edges.proofs.Calls.{Calls, bank_calls, core_calls, full}
use Rattle.seat_edges.proofs.FullHands.{came_in}
use Rattle.seat_edges.proofs.Turns.{with-empty}
use Rattle.seat_edges.proofs.WaitingMessages.{AllWait, waits}

-- what the law of looks says
abbrev pub LooksAtAll : Type 0
LooksAtAll =
    (z : SetUp) (number start : ℕ) → is_good z.config ≡ true → AllFoundEmpty z number
    (found_empty z.config.cores z.config.banks number start (incoming_count z.config.cores z.config.banks number))

-- Messages that wait

some-place : (n : ℕ) → n ≤ 256 → nat_eq (257 - n) 0 ≡ false
some-place n few = ne_eqb (257 - n) 0 (λ e. omega (arith, few, e))

held-fits : (n : ℕ) (a : Answer Message) → nat_eq n 0 ≡ false → a ≡ Held → stays_held (fitted n a) ≡ true
held-fits n a some e = grind (arith, nat_tests)

pub core-wait : (held : List Message) (p : SendingCore) → length held ≤ 256 →
    ((i : ℕ) (x : Message) → slice_get held i ≡ Some x → core_table p.core x ≡ Some (does.Held, p.core)) →
    AllWait sending_core_table sending_core_takes_memory held p
core-wait held p few wait i x e = let q0 = some-place (length held) few in grind (arith, nat_tests, q0)

pub bank-wait : (held : List Message) (p : SendingBank) → length held ≤ 256 →
    ((i : ℕ) (x : Message) → slice_get held i ≡ Some x →
    ((b : ℕ) × (x.to ≡ node.Bank b)) × (bank_table p.bank x ≡ Some (does.Held, p.bank))) →
    AllWait sending_bank_table sending_bank_takes_memory held p
bank-wait held p few wait i x e =
    let n = 257 - length held in
    let w = wait i x e in
    held-fits n (sending_bank_table p x n).0 (some-place (length held) few)
    (ap (λ t. (reacts_at t p x n).0) w.0.1 ∙ ap (λ r. (reacts false p.outbox n p.bank r).0) w.1)

-- What a take leaves

module _ (m : Machine) (law : LooksAtAll) (xs : List (ℕ × Message)) (at-first id : ℕ) where
  -- before the take
  record Before (p : Mailbox) : Type 0 where
    taken : (hold p).taken ≡ xs
    cursor : p.cursor ≡ at-first
    number : p.number ≡ id
    hand : p.inbox.hand ≡ None

  -- a message was taken, or none was found
  abbrev After : Mailbox → Type 0
  After q =
      ((k : ℕ) × (x : Message) × ((hold q).taken ≡ xs ++ (k, x) ∷ []))
      ⊎ ((((hold q).taken ≡ xs) × (q.cursor ≡ at-first))
      × ((before looks : List (ℕ × ℕ)) × ((hold q).looks ≡ before ++ looks) × AllFoundEmpty m.set_up id looks))

  -- with a message taken
  took-one : (p q : Mailbox) → Before p → Takes m.set_up Taken p q →
      (k : ℕ) × (x : Message) × ((hold q).taken ≡ xs ++ (k, x) ∷ [])
  took-one p q b t =
      let count = incoming_count p.cores p.banks p.number in
      let k = incoming p.cores p.banks p.number ((p.cursor + t.1.0) % count) in
      (k, t.1.1, t.1.3.2 ∙ ap (λ (ys : List (ℕ × Message)). ys ++ (k, t.1.1) ∷ []) b.taken)

  -- with none
  found-none : (p q : Mailbox) → Before p → Stays p q → IsAt m q → Takes m.set_up Nothing p q → After q
  found-none p q b stays at t = grind (arith, nat_tests)

  -- A seat of either kind, with what keeps it waiting

  module _ {S : Type 0} {mail : S → Mailbox} {out : S → List Message} {puts : Bool → S → S → Type 0}
      {serves : Result Served Refusal → S → S → Type 0} {takes : Take → S → S → Type 0}
      (calls : Calls m.set_up mail out puts serves takes) (Waits : S → Type 0)
      (kept : (done : Bool) (p q : S) → puts done p q → Waits p → Waits q)
      (idle : (told : Result Served Refusal) (p q : S) → serves told p q → Waits p →
      ((mail q).inbox ≡ (mail p).inbox) × (is_idle told ≡ true)) where
    after-put : (done : Bool) (p q : S) → puts done p q → Before (mail p) → Before (mail q)
    after-put done p q put b = grind (arith, nat_tests)

    after-serve : (told : Result Served Refusal) (p q : S) → serves told p q → (mail q).inbox ≡ (mail p).inbox →
        Before (mail p) → Before (mail q)
    after-serve told p q serve same b = grind (arith, nat_tests)

    after-take : (before told : Result Served Refusal) (p q u : S) (t : Take) → takes t p u →
        Ends serves takes t before u told q → Before (mail p) → IsAt m (mail q) → After (mail q)
    after-take before told p q u Taken t e b at =
        let one = took-one (mail p) (mail u) b (calls.take Taken p u t).1 in
        inl (one.0, one.1, (calls.serve told u q e).taken ∙ one.2)
    after-take before told p q u Nothing t e b at =
        let x = calls.take Nothing p u t in
        subst (λ s. After (mail s)) (sym e.1)
        (found-none (mail p) (mail u) b x.0 (subst (λ s. IsAt m (mail s)) e.1 at) x.1)
    after-take before told p q u HandFull t e b at = grind (arith, nat_tests)

    seats-take : (p q : S) (result : Result Turn Refusal) → Before (mail p) → Waits p →
        Turns serves takes (full mail) puts p result q → IsAt m (mail q) → After (mail q)
    seats-take p q result before waits turns at =
        with-empty serves takes (full mail) puts (λ s. Before (mail s) × Waits s)
        (λ done r s put w. (after-put done r s put w.0, kept done r s put w.1))
        (λ s. Before (mail s)) (λ s. IsAt m (mail s) → After (mail s)) (λ s w. ap is_some w.0.hand)
        (λ told r s serve w. let x = idle told r s serve w.1 in (after-serve told r s serve x.0 w.0, x.1))
        (λ earlier told s r f b there. after-take earlier told s r f.1 f.0 f.2 f.3 b there) p q result turns
        (before, waits) at

-- Cores

core-kept : (m : Machine) (done : Bool) (p q : CoreSeat) → CorePuts m done p q → CoreWaits p → CoreWaits q
core-kept m done p q put w = grind (arith, nat_tests, common_steps, came_in)

core-idle : (m : Machine) (told : Result Served Refusal) (p q : CoreSeat) → CoreServes m told p q → CoreWaits p →
    (q.mail.inbox ≡ p.mail.inbox) × (is_idle told ≡ true)
core-idle m told p q s w =
    let served = subst (λ stopped. SeatServes sending_core_table sending_core_takes_memory stopped p.mail.inbox p.part
    told q.mail.inbox q.part) w.goes_on s.1 in
    let x = waits sending_core_table sending_core_takes_memory p.mail.inbox p.part w.hand
    (core-wait p.mail.inbox.held p.part w.few w.wait) served.0 q.mail.inbox q.part served.2 in
    (x.0, ap is_idle served.1 ∙ x.1)

pub empty_cores : LooksAtAll → EmptyCoreHandsTake
empty_cores law m p q result wait turns at =
    seats-take m law (hold p.mail).taken p.mail.cursor p.mail.number (core_calls m) CoreWaits (core-kept m)
    (core-idle m) p q result (record { taken = refl; cursor = refl; number = refl; hand = wait.hand }) wait turns at

-- Banks

bank-kept : (m : Machine) (done : Bool) (p q : BankSeat) → BankPuts m done p q → BankWaits p → BankWaits q
bank-kept m done p q put w =
    let s = came_in done p.mail q.mail p.part.outbox.messages q.part.outbox.messages put.2 in
    record {
      goes_on = put.0.3 ∙ w.goes_on;
      hand = s.hand ∙ w.hand;
      few = subst (λ ys. length ys ≤ 256) (sym s.held) w.few;
      wait = λ i x e.
          let y = w.wait i x (ap (λ ys. slice_get ys i) (sym s.held) ∙ e) in
          (y.0, subst (λ (k : BankState). bank_table k x ≡ Some (does.Held, k)) (sym put.0.0) y.1);
    }

bank-idle : (m : Machine) (told : Result Served Refusal) (p q : BankSeat) → BankServes m told p q → BankWaits p →
    (q.mail.inbox ≡ p.mail.inbox) × (is_idle told ≡ true)
bank-idle m told p q s w =
    let served = subst (λ stopped. SeatServes sending_bank_table sending_bank_takes_memory stopped p.mail.inbox p.part
    told q.mail.inbox q.part) w.goes_on s.1 in
    let x = waits sending_bank_table sending_bank_takes_memory p.mail.inbox p.part w.hand
    (bank-wait p.mail.inbox.held p.part w.few w.wait) served.0 q.mail.inbox q.part served.2 in
    (x.0, ap is_idle served.1 ∙ x.1)

pub empty_banks : LooksAtAll → EmptyBankHandsTake
empty_banks law m p q result wait turns at =
    seats-take m law (hold p.mail).taken p.mail.cursor p.mail.number (bank_calls m) BankWaits (bank-kept m)
    (bank-idle m) p q result (record { taken = refl; cursor = refl; number = refl; hand = wait.hand }) wait turns at
