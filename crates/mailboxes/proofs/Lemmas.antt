-- What stays of a seat: all, if nothing is done; and what stays from one step to the next stays over both.
use Rattle.std.proofs.Common.{refl, ◌∙◌}
use Rattle.seat_rule.specs.declared.views.Hold.{Hold}
use Rattle.seat_rule.specs.Plays.{SamePart}
use Rattle.mailboxes.specs.declared.mailbox.Mailbox.{Mailbox}
use Rattle.mailboxes.specs.BoxMoves.{hold, Stays}

pub part_on : (a b c : Hold) → SamePart a b → SamePart b c → SamePart a c
part_on a b c s t =
    record {
      core = t.core ∙ s.core;
      bank = t.bank ∙ s.bank;
      dram = t.dram ∙ s.dram;
      issued = t.issued ∙ s.issued;
      records = t.records ∙ s.records;
      counts = t.counts ∙ s.counts;
      seen = t.seen ∙ s.seen;
    }

pub no_change : (p : Mailbox) → Stays p p
no_change p =
    record {
      table = refl;
      number = refl;
      cores = refl;
      banks = refl;
      part = record {
        core = refl;
        bank = refl;
        dram = refl;
        issued = refl;
        records = refl;
        counts = refl;
        seen = refl;
      };
    }

pub stays_on : (p q r : Mailbox) → Stays p q → Stays q r → Stays p r
stays_on p q r s t =
    record {
      table = t.table ∙ s.table;
      number = t.number ∙ s.number;
      cores = t.cores ∙ s.cores;
      banks = t.banks ∙ s.banks;
      part = part_on (hold p) (hold q) (hold r) s.part t.part;
    }
