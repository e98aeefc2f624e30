-- What turns of a core's seat leave: its number, its operations and its records, and so the operation that is open.
use Rattle.std.proofs.Common.{◌≡◌, ◌≢◌, ℕ, ◌<◌, List, ◌++◌, map, Option, Some, None}
use Rattle.std.proofs.Common.{Bool, true, Result, refl, sym, ap, subst, ◌∙◌}
use Rattle.std.proofs.lemmas.List.{append_cancel_left}
use Rattle.physiological_order.specs.declared.operation.Op.{Op}
use Rattle.physiological_order.specs.declared.operation.Record.{Record}
use Rattle.protocol.specs.Issued.{IsIssued, listed}
use Rattle.machine_table.specs.declared.event.Answer.{Answer}
use Rattle.machine_table.specs.declared.event.Answer.TheVariants.{Completed}
use Rattle.machine_table.specs.declared.event.Refusal.{Refusal}
use Rattle.core_pts.specs.CoreTable.{CoreState}
use Rattle.machine_table.specs.SetUp.{is_good}
use Rattle.seat_rule.specs.declared.views.SetUp.{SetUp}
use Rattle.seat_rule.specs.declared.views.Hold.{Hold}
use Rattle.seat_rule.specs.Plays.{Standing}
use Rattle.seat_rule.specs.Rule.{seat_count}
use Rattle.inbox.specs.declared.answer.Served.{Served}
use Rattle.mailboxes.specs.declared.machine.Machine.{Machine}
use Rattle.mailboxes.specs.declared.core_seat.CoreSeat.{CoreSeat}
use Rattle.mailboxes.specs.declared.taken.Take.{Take}
use Rattle.mailboxes.specs.declared.turning.Turn.{Turn}
use Rattle.mailboxes.specs.declared.outcome.Outcome.{Outcome}
use Rattle.mailboxes.specs.declared.outcome.Outcome.TheVariants.{Keeps, Exhausts, Requests, Completes as CompletesWith}
use Rattle.mailboxes.specs.Attempts.{Attempts, AttemptsSo, outcome}
use Rattle.mailboxes.specs.BoxMoves.{hold}
use Rattle.mailboxes.specs.CoreCalls.{SamePlace}
use Rattle.mailboxes.specs.CoreTurns.{CorePuts, CoreServes, CoreTakes, CoreTurns, core_hand}
use Rattle.mailboxes.specs.Seats.{IsCoreSeat}
use Rattle.thread_driver.specs.Playing.{SameWork}
use Rattle.thread_driver.proofs.TurnLaws.{turns_keep}

-- the law that a core's seat was issued the operations of its records and then the open one
abbrev pub IssuedLaw : Type 0
IssuedLaw =
    (z : SetUp) (n id : ℕ) (a : Hold) → is_good z.config ≡ true → Standing z n id a → id < z.config.cores →
    IsIssued a.issued a.records a.core.open_op

-- what the seat holds of its work stays
pub record IsKept (p q : CoreSeat) : Type 0 where
  pub number : q.mail.number ≡ p.mail.number
  pub issued : (hold q.mail).issued ≡ (hold p.mail).issued
  pub records : (hold q.mail).records ≡ (hold p.mail).records

same_listed : (a b : Option Op) → listed a ≡ listed b → a ≡ b
same_listed None None e = refl
same_listed None (Some b) e = absurd (cc)
same_listed (Some a) None e = absurd (cc)
same_listed (Some a) (Some b) e = cc

kept_same : (p q : CoreSeat) → q ≡ p → IsKept p q
kept_same p q e = subst (IsKept p) (sym e) (record { number = refl; issued = refl; records = refl })

kept_on : (p r q : CoreSeat) → IsKept p r → IsKept r q → IsKept p q
kept_on p r q a b =
    record { number = b.number ∙ a.number; issued = b.issued ∙ a.issued; records = b.records ∙ a.records }

module _ (m : Machine) where
  kept_put : (b : Bool) (p q : CoreSeat) → CorePuts m b p q → IsKept p q
  kept_put b p q c = record { number = c.1.number; issued = c.1.part.issued; records = c.1.part.records }

  kept_take : (t : Take) (p q : CoreSeat) → CoreTakes m t p q → IsKept p q
  kept_take t p q c = record { number = c.1.number; issued = c.1.part.issued; records = c.1.part.records }

  kept_serve : (result : Result Served Refusal) (p q : CoreSeat) → CoreServes m result p q → IsKept p q
  kept_serve result p q c =
      record {
        number = c.0.0;
        issued = ap (λ (a : Hold). a.issued) c.2 ∙ sym p.tied.issued;
        records = ap (λ (a : Hold). a.records) c.2;
      }

  kept_turns : (result : Result Turn Refusal) (p q : CoreSeat) → CoreTurns m p result q → IsKept p q
  kept_turns =
      turns_keep (CoreServes m) (CoreTakes m) core_hand (CorePuts m) IsKept kept_same kept_on kept_serve kept_take
      kept_put

  module _ (law : IssuedLaw) where
    issued_of : (p : CoreSeat) → IsCoreSeat m p →
        IsIssued (hold p.mail).issued (hold p.mail).records (hold p.mail).core.open_op
    issued_of p is = law m.set_up (seat_count m.set_up) p.mail.number (hold p.mail) m.good is.2 is.1

    -- the same of what the seat stores
    pub issued_here : (p : CoreSeat) → IsCoreSeat m p → IsIssued p.issued.items p.records.items p.part.core.open_op
    issued_here p is =
        subst (λ (ops : List Op). IsIssued ops p.records.items p.part.core.open_op) p.tied.issued
        (subst (λ (rs : List Record). IsIssued (hold p.mail).issued rs p.part.core.open_op) p.tied.records
        (subst (λ (c : CoreState). IsIssued (hold p.mail).issued (hold p.mail).records c.open_op) p.tied.core
        (issued_of p is)))

    -- the same operations and records leave the same operation open
    open_stays : (p q : CoreSeat) → IsCoreSeat m p → IsCoreSeat m q → IsKept p q →
        q.part.core.open_op ≡ p.part.core.open_op
    open_stays p q is_p is_q kept =
        let before = (issued_of p is_p).all in
        let after = (issued_of q is_q).all in
        let ops = map (λ (r : Record). r.op) (hold p.mail).records in
        let same : ops ++ listed (hold q.mail).core.open_op ≡ ops ++ listed (hold p.mail).core.open_op =
        sym (after ∙ ap (λ (rs : List Record). map (λ (r : Record). r.op) rs ++ listed (hold q.mail).core.open_op)
        kept.records) ∙ kept.issued ∙ before in
        ap (λ (c : CoreState). c.open_op) (sym q.tied.core)
        ∙ same_listed (hold q.mail).core.open_op (hold p.mail).core.open_op
        (append_cancel_left ops (listed (hold q.mail).core.open_op) (listed (hold p.mail).core.open_op) same)
        ∙ ap (λ (c : CoreState). c.open_op) p.tied.core

    pub turn_stays : (result : Result Turn Refusal) (p q : CoreSeat) → IsCoreSeat m p → IsCoreSeat m q →
        CoreTurns m p result q → SameWork p q
    turn_stays result p q is_p is_q c =
        let kept = kept_turns result p q c in
        record {
          number = kept.number;
          records = sym q.tied.records ∙ kept.records ∙ p.tied.records;
          open_op = open_stays p q is_p is_q kept;
        }

-- the work stays the same twice
pub same_both : (p r q : CoreSeat) → SameWork p r → SameWork r q → SameWork p q
same_both p r q a b =
    record {
      number = b.number ∙ a.number;
      records = b.records ∙ a.records;
      open_op = b.open_op ∙ a.open_op;
    }

-- what holds the same has the same work
same_held : (p q : CoreSeat) → SamePlace p q → hold q.mail ≡ hold p.mail → SameWork p q
same_held p q place same =
    record {
      number = place.0;
      records = sym q.tied.records ∙ ap (λ (a : Hold). a.records) same ∙ p.tied.records;
      open_op = ap (λ (c : CoreState). c.open_op) (sym q.tied.core) ∙ ap (λ (a : Hold). a.core.open_op) same
          ∙ ap (λ (c : CoreState). c.open_op) p.tied.core;
    }

-- an attempt that completes nothing leaves the work as it is
attempt_stays : (m : Machine) (p q : CoreSeat) (given : Answer) → SamePlace p q →
    ((r : Record) → given ≢ Completed r) → (o : Outcome) → AttemptsSo m p given q o → SameWork p q
attempt_stays m p q given place not (Keeps kept) e = same_held p q place e.1.0
attempt_stays m p q given place not Exhausts e = same_held p q place e.1.0
attempt_stays m p q given place not (Requests request) e =
    record {
      number = place.0;
      records = sym q.tied.records ∙ ap (λ (a : Hold). a.records) e.1 ∙ p.tied.records;
      open_op = ap (λ (c : CoreState). c.open_op) (sym q.tied.core) ∙ ap (λ (a : Hold). a.core.open_op) e.1;
    }
attempt_stays m p q given place not (CompletesWith done) e = absurd (not e.0 e.1)

pub attempted_stays : (m : Machine) (p q : CoreSeat) (given : Answer) → SamePlace p q →
    ((r : Record) → given ≢ Completed r) → Attempts m p given q → SameWork p q
attempted_stays m p q given place not e = attempt_stays m p q given place not (outcome p.is_stopped p.part) e
