-- What the law of closed machines tells of the seats that were given.
use Rattle.std.proofs.Common.{◌≡◌, ℕ, zero, suc, ◌-◌, List, [], ◌∷◌, ◌++◌, Option, Some, ⊎_elim, sym, ap, ◌∙◌}
use Rattle.std.proofs.Common.{◌+◌, option_to_list, length, arith}
use Rattle.std.specs.Prelude.{slice_get}
use mathlib.Core.Option.{some}
use mathlib.Core.Logic.{dite}
use native.Mathlib.Decide.{dec_lt}
use lib.ListN.{get_elem?}
use Rattle.network.specs.declared.message.Message.{Message}
use Rattle.atomic_table.specs.Seated.{TableId}
use Rattle.seat_views.specs.declared.views.View.{View}
use Rattle.seat_rule.specs.declared.views.SetUp.{SetUp}
use Rattle.seat_rule.specs.declared.views.Stage.TheVariants.{Idle}
use Rattle.seat_rule.specs.declared.views.Hold.{Hold}
use Rattle.seat_rule.specs.Rule.{slot_count}
use Rattle.seat_rule.specs.Ended.{Agrees, AllIdle, Closes, FourAtMostLie, NoneTakenTwice, lies}
use Rattle.closed_machine.proofs.Lemmas.{sliced}
use Rattle.mailboxes.specs.declared.machine.Machine.{Machine}
use Rattle.mailboxes.specs.declared.mailbox.Mailbox.{Mailbox}
use Rattle.mailboxes.specs.declared.core_seat.CoreSeat.{CoreSeat}
use Rattle.mailboxes.specs.declared.bank_seat.BankSeat.{BankSeat}
use Rattle.mailboxes.specs.Places.{Belongs}
use Rattle.mailboxes.specs.Ties.{SlotSeat}
use Rattle.mailboxes.specs.Seats.{AllCoreSeats, HasCores, HasBanks}
use Rattle.mailboxes.specs.BoxMoves.{hold}
use Rattle.mailboxes.specs.Remains.{backwards, core_entry, bank_entry, entry, knows_all, OneState}
use Rattle.mailboxes.proofs.NewSeats.{get_snoc}
use Rattle.mailboxes.proofs.JoinedSeats.{at_more, at_less, get_middle, backwards_has}

-- all seats are known to the last of the cores' seats, to which the others were joined
module _ (z : SetUp) (cores rest : List CoreSeat) (banks : List BankSeat) (first : CoreSeat)
    (split : cores ≡ rest ++ first ∷ []) where
  abbrev others : List (ℕ × Hold)
  others = first.mail.seat.me.0.known ++ backwards core_entry rest

  abbrev known : List (ℕ × Hold)
  known = entry first.mail ∷ (others ++ backwards bank_entry banks)

  abbrev Known : Mailbox → Type 0
  Known p = (q : ℕ) × (get_elem? known q ≡ some (entry p))

  core_known : (i : ℕ) (p : CoreSeat) → slice_get cores i ≡ Some p → Known p.mail
  core_known i p e =
      ⊎_elim
      (λ x.
      let r = backwards_has core_entry rest i p x in
      let s = at_more first.mail.seat.me.0.known (backwards core_entry rest) r.0 (entry p.mail) r.1 in
      (suc s.0, at_less others (backwards bank_entry banks) s.0 (entry p.mail) s.1))
      (λ x. (zero, ap (λ (y : CoreSeat). some (entry y.mail)) x.1))
      (get_snoc rest first p i (ap (λ y. slice_get y i) (sym split) ∙ e))

  bank_known : (i : ℕ) (p : BankSeat) → slice_get banks i ≡ Some p → Known p.mail
  bank_known i p e =
      let r = backwards_has bank_entry banks i p e in
      let s = at_more others (backwards bank_entry banks) r.0 (entry p.mail) r.1 in
      (suc s.0, s.1)

  held : (seats : ℕ → Hold) → Agrees seats known → (p : Mailbox) → Known p → seats p.number ≡ hold p
  held seats agrees p k = ap seats (sym p.tied.number) ∙ agrees k.0 (entry p) k.1

  idle : (p : Mailbox) (j : ℕ) → p.number ≡ j → Known p →
      (i : ℕ) × (h : Hold) × (get_elem? known i ≡ some (j, h)) × (h.stage ≡ Idle)
  idle p j n k = (k.0, hold p, k.1 ∙ ap (λ m. some (m, hold p)) (p.tied.number ∙ n), p.tied.idle)

  all_idle : HasCores cores z.config.cores → HasBanks banks z.config.cores z.config.banks → AllIdle z known
  all_idle a b j lt =
      dite (dec_lt j z.config.cores)
      (λ l. let h = a.there j l in idle h.1.mail j h.3 (core_known h.0 h.1 h.2))
      (λ no.
      let h = b.there (j - z.config.cores) (omega arith) in
      idle h.1.mail j (h.3 ∙ omega arith) (bank_known h.0 h.1 h.2))

  pub one_state : (count : ℕ) (slots : List (Option Message)) → HasCores cores z.config.cores →
      HasBanks banks z.config.cores z.config.banks → (c : Closes z known count slots) → NoneTakenTwice z c.seats →
      FourAtMostLie z c.seats → length slots ≡ slot_count z → OneState z cores banks c.log slots
  one_state count slots a b c taken few_lie there =
      record {
        seats = c.seats;
        phases = c.phases;
        whole = c.whole;
        of_cores = λ i p e. held c.seats c.agrees p.mail (core_known i p e);
        of_banks = λ i p e. held c.seats c.agrees p.mail (bank_known i p e);
        slots_there = there;
        lying = λ k l. sliced slots k (lies (c.phases k)) (c.lying (all_idle a b) k l);
        home = c.home (all_idle a b);
        taken = taken;
        few_lie = few_lie;
      }

-- the last of the cores' seats is apart from the others
pub split_of : (all rest : List CoreSeat) (o : Option CoreSeat) (first : CoreSeat) → all ≡ rest ++ option_to_list o →
    o ≡ Some first → all ≡ rest ++ first ∷ []
split_of all rest o first a is = a ∙ ap (λ (x : Option CoreSeat). rest ++ option_to_list x) is

-- its seat is of the machine's table
pub table_of_first : (m : Machine) (all rest : List CoreSeat) (first : CoreSeat) (slot_seat : SlotSeat) →
    AllCoreSeats m all → all ≡ rest ++ first ∷ [] → slot_seat ≡ first.mail.seat →
    slot_seat.table_id ≡ m.table.shared.table_id
table_of_first m all rest first slot_seat seats split is =
    ap (λ (y : SlotSeat). y.table_id) is
    ∙ (seats (length rest) first (ap (λ y. slice_get y (length rest)) split ∙ get_middle rest first [])).0.0

pub at_table : (m : Machine) (t : TableId) → t ≡ m.table.shared.table_id →
    Belongs t m.table.shared.table_id m.table.shared.key
at_table m t is = (is, m.sized.1 ∙ ap (λ z. slot_count z + 1) (sym m.keyed), m.sized.2 ∙ ap slot_count (sym m.keyed))

-- what is known after the others were joined, those of cores and then those of banks
pub view_of_first : (first : CoreSeat) (rest : List CoreSeat) (banks : List BankSeat) (slot_seat cores all : SlotSeat) →
    slot_seat ≡ first.mail.seat → cores.me ≡ (knows_all slot_seat.me.0 (backwards core_entry rest), slot_seat.me.1) →
    all.me ≡ (knows_all cores.me.0 (backwards bank_entry banks), cores.me.1) →
    all.me.0 ≡
    knows_all (knows_all first.mail.seat.me.0 (backwards core_entry rest)) (backwards bank_entry banks)
view_of_first first rest banks slot_seat cores all is a b =
    ap (λ y. y.0) b
    ∙ ap (λ (y : View Hold). knows_all y (backwards bank_entry banks))
    (ap (λ y. y.0) a ∙ ap (λ (y : SlotSeat). knows_all y.me.0 (backwards core_entry rest)) is)
