-- The parts that seats leave are those of the state that the seats show.
use Rattle.std.proofs.Common.{◌≡◌, ℕ, zero, suc, true, List, [], ◌∷◌, Option, Some, sym, refl, ap, ◌∙◌, subst}
use Rattle.std.specs.Prelude.{slice_get, map}
use Rattle.physiological_order.specs.declared.operation.Record.{Record}
use Rattle.network.specs.declared.message.Message.{Message}
use Rattle.machine_table.specs.SetUp.{is_good}
use Rattle.seat_views.proofs.Lemmas.{some_is}
use Rattle.seat_rule.specs.declared.views.SetUp.{SetUp}
use Rattle.seat_rule.specs.declared.views.Hold.{Hold}
use Rattle.mailboxes.specs.declared.core_seat.CoreSeat.{CoreSeat}
use Rattle.mailboxes.specs.declared.bank_seat.BankSeat.{BankSeat}
use Rattle.closed_machine.specs.declared.parts.CorePart.{CorePart}
use Rattle.closed_machine.specs.declared.parts.BankPart.{BankPart}
use Rattle.mailboxes.specs.Seats.{HasCores, HasBanks}
use Rattle.mailboxes.specs.Remains.{core_part, bank_part, OneState}
use Rattle.closed_machine.specs.PartsOfState.{IsCoreOf, IsBankOf, PartsOfState}
use Rattle.mailboxes.proofs.NewSeats.{none_some}

module _ {A B : Type 0} (f : A → B) where
  mapped : (xs : List A) (i : ℕ) (x : A) → slice_get xs i ≡ Some x → slice_get (map f xs) i ≡ Some (f x)
  mapped [] i x e = none_some e
  mapped (y ∷ ys) zero x e = ap (λ z. Some (f z)) (some_is e)
  mapped (y ∷ ys) (suc i) x e = mapped ys i x e

  of_mapped : (xs : List A) (i : ℕ) (y : B) → slice_get (map f xs) i ≡ Some y →
      (x : A) × (slice_get xs i ≡ Some x) × (f x ≡ y)
  of_mapped [] i y e = none_some e
  of_mapped (x ∷ xs) zero y e = (x, refl, some_is e)
  of_mapped (x ∷ xs) (suc i) y e = of_mapped xs i y e

core_of : (seats : ℕ → Hold) (p : CoreSeat) → seats p.mail.number ≡ p.mail.seat.me.0.mine →
    IsCoreOf (seats (core_part p).number) (core_part p)
core_of seats p is =
    record {
      core = ap (λ (h : Hold). h.core) is ∙ p.tied.core;
      issued = ap (λ (h : Hold). h.issued) is ∙ p.tied.issued;
      records = ap (λ (h : Hold). h.records) is ∙ p.tied.records;
      counts = ap (λ (h : Hold). h.counts) is ∙ p.tied.counts;
      outbox = ap (λ (h : Hold). h.outbox) is ∙ p.tied.outbox;
      hand = ap (λ (h : Hold). h.hand) is ∙ p.mail.tied.hand;
      held = ap (λ (h : Hold). h.held) is ∙ p.mail.tied.held;
    }

bank_of : (seats : ℕ → Hold) (p : BankSeat) → seats p.mail.number ≡ p.mail.seat.me.0.mine →
    IsBankOf (seats (bank_part p).number) (bank_part p)
bank_of seats p is =
    record {
      bank = ap (λ (h : Hold). h.bank) is ∙ p.tied.bank;
      dram = ap (λ (h : Hold). h.dram) is ∙ p.tied.dram;
      counts = ap (λ (h : Hold). h.counts) is ∙ p.tied.counts;
      outbox = ap (λ (h : Hold). h.outbox) is ∙ p.tied.outbox;
      hand = ap (λ (h : Hold). h.hand) is ∙ p.mail.tied.hand;
      held = ap (λ (h : Hold). h.held) is ∙ p.mail.tied.held;
    }

pub parts_of_state : (z : SetUp) (cores : List CoreSeat) (banks : List BankSeat) (log : List Record)
    (slots : List (Option Message)) → is_good z.config ≡ true → HasCores cores z.config.cores →
    HasBanks banks z.config.cores z.config.banks → OneState z cores banks log slots →
    PartsOfState z (map core_part cores) (map bank_part banks) slots log
parts_of_state z cores banks log slots good all_cores all_banks o =
    record {
      good = good;
      seats = o.seats;
      phases = o.phases;
      whole = o.whole;
      of_cores = λ i y e.
          let x = of_mapped core_part cores i y e in
          subst (λ (p : CorePart). IsCoreOf (o.seats p.number) p) x.2 (core_of o.seats x.0 (o.of_cores i x.0 x.1));
      of_banks = λ i y e.
          let x = of_mapped bank_part banks i y e in
          subst (λ (p : BankPart). IsBankOf (o.seats p.number) p) x.2 (bank_of o.seats x.0 (o.of_banks i x.0 x.1));
      cores_there = λ j l.
          let h = all_cores.there j l in (h.0, core_part h.1, mapped core_part cores h.0 h.1 h.2, h.3);
      banks_there = λ j l.
          let h = all_banks.there j l in (h.0, bank_part h.1, mapped bank_part banks h.0 h.1 h.2, h.3);
      slots_there = o.slots_there;
      lying = o.lying;
      home = o.home;
    }

pub left_parts : (z left : SetUp) (cores : List CoreSeat) (banks : List BankSeat) (core_parts : List CorePart)
    (bank_parts : List BankPart) (log : List Record) (slots : List (Option Message)) → is_good z.config ≡ true →
    HasCores cores z.config.cores → HasBanks banks z.config.cores z.config.banks → left ≡ z →
    core_parts ≡ map core_part cores → bank_parts ≡ map bank_part banks → OneState z cores banks log slots →
    PartsOfState left core_parts bank_parts slots log
left_parts z left cores banks core_parts bank_parts log slots good all_cores all_banks same cs bs o =
    subst
    (λ (y : SetUp × List CorePart × List BankPart). PartsOfState y.0 y.1 y.2 slots log)
    (λ i. (sym same i, sym cs i, sym bs i))
    (parts_of_state z cores banks log slots good all_cores all_banks o)
