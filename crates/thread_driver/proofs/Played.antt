-- What one step of a program comes to.
use Rattle.std.proofs.Common.{◌≡◌, [], ◌∷◌, Option, Some, None, IfSome, sym, subst, ◌∙◌, append-nil}
use Rattle.physiological_order.specs.declared.operation.Op.{Op}
use Rattle.physiological_order.specs.declared.operation.Record.{Record}
use Rattle.mailboxes.specs.declared.core_seat.CoreSeat.{CoreSeat}
use Rattle.programs.specs.declared.steps.Step.TheVariants as step
use Rattle.programs.specs.Acts.{Acts}
use Rattle.programs.specs.Performs.{rests, advances, does}
use Rattle.thread_driver.specs.Playing.{SameWork, EndsWork, IsAhead, Plays}

module _ {P : Type 0} (acts : Acts P) where
  ahead_of : (p q : CoreSeat) (program : P) → q.part.core.open_op ≡ p.part.core.open_op → IsAhead acts p program →
      IsAhead acts q program
  ahead_of p q program e a = subst (λ (o : Option Op). IfSome o (λ op. acts.next program ≡ Some (step.Op op))) (sym e) a

  pub none_ahead : (q : CoreSeat) (program : P) → q.part.core.open_op ≡ None → IsAhead acts q program
  none_ahead q program e =
      subst (λ (o : Option Op). IfSome o (λ op. acts.next program ≡ Some (step.Op op))) (sym e) tt

  -- nothing is opened or completed
  pub plays_not : (p q : CoreSeat) (program : P) → IsAhead acts p program → SameWork p q →
      Plays acts p program q program
  plays_not p q program a s =
      record {
        number = s.number;
        added = [];
        records = s.records ∙ sym (append-nil p.records.items);
        performs = rests;
        ahead = ahead_of p q program s.open_op a;
      }

  -- the core advances
  pub plays_advance : (p q : CoreSeat) (program : P) → p.part.core.open_op ≡ None →
      acts.next program ≡ Some step.Advance → SameWork p q → Plays acts p program q (acts.done program None)
  plays_advance p q program e next s =
      record {
        number = s.number;
        added = [];
        records = s.records ∙ sym (append-nil p.records.items);
        performs = advances next rests;
        ahead = none_ahead q (acts.done program None) (s.open_op ∙ e);
      }

  -- the open operation is completed
  pub plays_done : (r : Record) (p q : CoreSeat) (program : P) → IsAhead acts p program → EndsWork r p q →
      Plays acts p program q (acts.done program r.received)
  plays_done r p q program a s =
      record {
        number = s.number;
        added = r ∷ [];
        records = s.records;
        performs = does (subst (λ (o : Option Op). IfSome o (λ op. acts.next program ≡ Some (step.Op op))) s.before a)
            rests;
        ahead = none_ahead q (acts.done program r.received) s.after;
      }
