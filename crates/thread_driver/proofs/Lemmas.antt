-- What the proofs of this crate give to those above: turns of a core's seat with its program, one after the other, and
-- what a seat was issued.
use Rattle.std.proofs.Common.{List, [], ◌++◌, None, refl, sym, ap, ◌∙◌, append-nil, append_assoc}
use Rattle.physiological_order.specs.declared.operation.Record.{Record}
use Rattle.mailboxes.specs.declared.core_seat.CoreSeat.{CoreSeat}
use Rattle.programs.specs.Acts.{Acts}
use Rattle.programs.specs.Performs.{Performs, rests, advances, does}
use Rattle.thread_driver.specs.Playing.{IsAhead, Plays}
pub use Rattle.thread_driver.proofs.KeptWork.{IssuedLaw, issued_here}
pub use Rattle.thread_driver.proofs.Played.{none_ahead}

module _ {P : Type 0} (acts : Acts P) where
  -- one list of records after the other
  performs_both : (rs ss : List Record) (p q r : P) → Performs acts rs p q → Performs acts ss q r →
      Performs acts (rs ++ ss) p r
  performs_both rs ss p q r rests b = b
  performs_both rs ss p q r (advances next on) b = advances next (performs_both rs ss (acts.done p None) q r on b)
  performs_both rs ss p q r (does {r = d} {rs = ds} next on) b =
      does next (performs_both ds ss (acts.done p d.received) q r on b)

  -- nothing is done
  pub plays_none : (p : CoreSeat) (program : P) → IsAhead acts p program → Plays acts p program p program
  plays_none p program ahead =
      record { number = refl; added = []; records = sym (append-nil p.records.items); performs = rests; ahead = ahead }

  -- one after the other
  pub plays_both : (p r q : CoreSeat) (before between after : P) → Plays acts p before r between →
      Plays acts r between q after → Plays acts p before q after
  plays_both p r q before between after a b =
      record {
        number = b.number ∙ a.number;
        added = a.added ++ b.added;
        records = b.records ∙ ap (λ rs. rs ++ b.added) a.records ∙ append_assoc p.records.items a.added b.added;
        performs = performs_both a.added b.added before between after a.performs b.performs;
        ahead = b.ahead;
      }
