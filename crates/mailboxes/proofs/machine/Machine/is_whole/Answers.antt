use Rattle.std.proofs.Common.{refl}
use Rattle.mailboxes.proofs.WholeSeats.{has_cores}
use Rattle.mailboxes.proofs.machine.Machine.is_whole.Goals as goal

pub returns-clause-whole : goal.returns-clause-whole
returns-clause-whole c =
    λ all. record {
      cores_there = has_cores c.args.cores.now c.args.self.now.set_up.config.cores
          (c.if-not-has_all_numbers.ensures.all refl);
      banks_there = c.has_all_numbers-2.ensures.all all;
    }
