-- A turn that puts nothing, whose only held message finds no place in the full outbox.
use Rattle.std.proofs.Common.{◌≡◌, ℕ, ◌+◌, ◌≤◌, inr, Bool, false, is_some, List, [], ◌∷◌, length}
use Rattle.std.proofs.Common.{Some, None, Result, Ok, Err, sym, ap, ◌∙◌, subst, arith}
use Rattle.std.proofs.lemmas.Bool.Decides.{nat_tests}
use Rattle.network.specs.declared.message.Message.{Message}
use Rattle.core_pts.specs.CoreTable.{CoreState}
use Rattle.llc_bank.specs.BankTable.{BankState, entry_of}
use Rattle.llc_bank.specs.declared.entry.Entry.TheVariants.{Shared}
use Rattle.machine_table.specs.declared.event.Refusal.{Refusal}
use Rattle.machine_table.specs.declared.event.Refusal.TheVariants.{NetworkFull}
use Rattle.inbox.specs.declared.answer.Served.{Served}
use Rattle.inbox.specs.Inboxes.{InboxState, inbox}
use Rattle.seat_rule.specs.declared.views.SetUp.{SetUp}
use Rattle.mailboxes.specs.declared.mailbox.Mailbox.{Mailbox}
use Rattle.mailboxes.specs.declared.taken.Take.{Take}
use Rattle.mailboxes.specs.declared.turning.Turn.{Turn}
use Rattle.seat_edges.specs.BankPlaceLaws.{GrantsWantPlace, IsTimely, asked}
use Rattle.mailboxes.specs.BankServing.{sending_bank_table, sending_bank_takes_memory}
use Rattle.mailboxes.specs.BoxMoves.{SameIncoming, hold}
use Rattle.mailboxes.specs.CoreServing.{sending_core_table, sending_core_takes_memory}
use Rattle.seat_edges.specs.PlaceLaws.{LeaseFits, Owns, ReturnsWantPlace}
use Rattle.mailboxes.specs.SeatServing.{SeatServes}
use Rattle.seat_edges.specs.TurnLaws.{FullBanksTakeNothing, FullCoresTakeNothing, TookNothing}
use Rattle.mailboxes.specs.Turns.{PutSo, Goes, Rests, Turns, TurnsBy, is_idle}
use Rattle.seat_edges.proofs.Calls.{Calls, bank_calls, core_calls, full}
use Rattle.seat_edges.proofs.PutTurns.{turn_puts}

no-puts : (n before after : ℕ) → before + n ≡ after → after ≡ before → n ≡ 0
no-puts n before after e f = omega (arith, e, f)

-- what the turn answers
refused : {A B : Type 0} (refusal : Refusal) → ◌≡◌ {A = Result A Refusal} (Err refusal) (Err NetworkFull) →
    ◌≡◌ {A = Result B Refusal} (Err refusal) (Err NetworkFull)
refused refusal e = ap Err (let same : refusal ≡ NetworkFull = cc in same)

served-or-not : {A B : Type 0} (x : A) → ◌≡◌ {A = Result A Refusal} (Ok x) (Err NetworkFull) → B
served-or-not x e = absurd (cc)

-- A seat of either kind, whose serving after no put finds no place

module _ {S : Type 0} {z : SetUp} {mail : S → Mailbox} {out : S → List Message} {puts : Bool → S → S → Type 0}
    {serves : Result Served Refusal → S → S → Type 0} {takes : Take → S → S → Type 0}
    (calls : Calls z mail out puts serves takes) (p q : S) (hand : (mail p).inbox.hand ≡ None)
    (lacks : (r s : S) (told : Result Served Refusal) → puts false p r → serves told r s → told ≡ Err NetworkFull)
    (same : (hold (mail q)).put ≡ (hold (mail p)).put) where
  turned : (n : ℕ) (told : Result Served Refusal) → TurnsBy serves takes (full mail) puts n p told q →
      (told ≡ Err NetworkFull) × TookNothing (mail p) (mail q)
  turned n told t =
      let none = no-puts n (length (hold (mail p)).put) (length (hold (mail q)).put) (turn_puts calls n p q told t).1
      (ap (λ (xs : List (ℕ × Message)). length xs) same) in
      let r = t.0 in
      let s = t.1.0 in
      let stays : s ≡ p = subst (λ k. PutSo puts k p s) none t.1.1 in
      let put : puts false p r = subst (λ y. puts false y r) stays t.1.2 in
      let kept = (calls.put false p r put).1.3 in
      let empty : full mail r ≡ false = ap is_some (kept.hand ∙ hand) in
      let rest = subst (λ b. Rests serves takes b r told q) empty t.2 in
      let first = lacks r rest.1 rest.0 put rest.2 in
      let serve = calls.serve rest.0 r rest.1 rest.2 in
      let end = subst (λ b. Goes serves takes b rest.0 rest.1 told q) (ap is_idle first) rest.3 in (
        end.0 ∙ first,
        subst (λ y. TookNothing (mail p) (mail y)) (sym end.1)
            (serve.taken ∙ kept.taken, serve.cursor ∙ kept.cursor),
      )

  full_turns : (result : Result Turn Refusal) → Turns serves takes (full mail) puts p result q →
      (result ≡ Err NetworkFull) × TookNothing (mail p) (mail q)
  full_turns (Ok turn) t = served-or-not turn.served (turned turn.put (Ok turn.served) t).0
  full_turns (Err refusal) t = let e = turned t.0 (Err refusal) t.1 in (refused refusal e.0, e.1)

-- the only message is still there after no put
still : (p r : Mailbox) (x : Message) → p.inbox ≡ inbox None (x ∷ []) → SameIncoming p r → r.inbox ≡ inbox None (x ∷ [])
still p r x only same = grind (arith, nat_tests)

pub cores_full : ReturnsWantPlace → FullCoresTakeNothing
cores_full law m p q result x copy goes_on only asks owns fits is_full turns same =
    full_turns (core_calls m) p q (ap (λ (b : InboxState Message). b.hand) only)
    (λ r s told put serves.
    let by = subst (λ stopped. SeatServes sending_core_table sending_core_takes_memory stopped r.mail.inbox r.part
    told s.mail.inbox s.part) (put.0.4 ∙ goes_on) serves.1 in
    (law r.mail.inbox s.mail.inbox r.part s.part told x copy (inr (still p.mail r.mail x only put.2.3)) asks
    (subst (λ (k : CoreState). Owns k x.line copy) (sym put.0.0) owns)
    (subst (λ (k : CoreState). LeaseFits k copy) (sym put.0.0) fits)
    (subst (λ (ms : List Message). 256 ≤ length ms) (sym put.2.1) is_full) by).answer)
    same result turns

pub banks_full : GrantsWantPlace → FullBanksTakeNothing
banks_full law m p q result core bank line body dirty timed goes_on only timely entry is_full turns same =
    full_turns (bank_calls m) p q (ap (λ (b : InboxState Message). b.hand) only)
    (λ r s told put serves.
    let by = subst (λ stopped. SeatServes sending_bank_table sending_bank_takes_memory stopped r.mail.inbox r.part
    told s.mail.inbox s.part) (put.0.3 ∙ goes_on) serves.1 in
    (law r.mail.inbox s.mail.inbox r.part s.part told core bank line body dirty timed
    (subst (λ (k : BankState). IsTimely k.lease timed.wts body) (sym put.0.0) timely)
    (inr (still p.mail r.mail (asked core bank line body) only put.2.3))
    (subst (λ (k : BankState). entry_of k line ≡ Some (Shared dirty timed)) (sym put.0.0) entry)
    (subst (λ (ms : List Message). 256 ≤ length ms) (sym put.2.1) is_full) by).answer)
    same result turns
