-- One more seat of a machine that opens.
use Rattle.std.proofs.Common.{◌≡◌, ℕ, false, zero, suc, ◌+◌, ◌<◌, ◌≤◌, List, [], ◌∷◌, ◌++◌, length, Some, None}
use Rattle.std.proofs.Common.{◌⊎◌, inl, inr, ⊎_elim, sym, refl, ap, ◌∙◌, subst, arith}
use Rattle.std.specs.Prelude.{slice_get}
use Rattle.seat_views.proofs.Lemmas.{some_is}
use Rattle.seat_rule.specs.declared.views.Hold.{Hold}
use Rattle.seat_rule.specs.Rule.{opening_hold, seat_count}
use Rattle.seat_rule.specs.Plays.{Standing}
use Rattle.mailboxes.specs.declared.machine.Machine.{Machine}
use Rattle.mailboxes.specs.declared.mailbox.Mailbox.{Mailbox}
use Rattle.mailboxes.specs.BoxMoves.{Stands}
use Rattle.mailboxes.specs.declared.core_seat.CoreSeat.{CoreSeat}
use Rattle.mailboxes.specs.declared.bank_seat.BankSeat.{BankSeat}
use Rattle.mailboxes.specs.Ties.{SlotSeat}
use Rattle.closed_machine.specs.Sending.{no_outbox}
use Rattle.mailboxes.specs.Seats.{IsNewCore, IsNewBank, AllNewCores, AllNewBanks}

pub none_some : {A B : Type 0} {y : A} → None ≡ Some y → B
none_some e = cc

pub get_snoc : {A : Type 0} → (xs : List A) (x y : A) (i : ℕ) → slice_get (xs ++ x ∷ []) i ≡ Some y →
    (slice_get xs i ≡ Some y) ⊎ ((i ≡ length xs) × (x ≡ y))
get_snoc [] x y zero e = inr (refl, some_is e)
get_snoc [] x y (suc i) e = none_some e
get_snoc (z ∷ xs) x y zero e = inl e
get_snoc (z ∷ xs) x y (suc i) e = ⊎_elim inl (λ t. inr (ap suc t.0, t.1)) (get_snoc xs x y i e)

-- what it holds as the machine opens is a part of a reached state
opened_stands : (m : Machine) (n : ℕ) (p : Mailbox) → p.number ≡ n → p.seat.me.0.mine ≡ opening_hold m.set_up n →
    Standing m.set_up (seat_count m.set_up) n (opening_hold m.set_up n) → Stands m p
opened_stands m n p number opens stands =
    subst (λ (y : ℕ × Hold). Standing m.set_up (seat_count m.set_up) y.0 y.1) (λ i. (sym number i, sym opens i)) stands

-- what a seat is once it is made of a slot_seat of this number
pub new_core : (m : Machine) (n : ℕ) (p : CoreSeat) (slot_seat : SlotSeat) → n < m.set_up.config.cores →
    slot_seat.table_id ≡ m.table.shared.table_id → slot_seat.me.0.mine ≡ opening_hold m.set_up n → p.mail.seat
    ≡ slot_seat →
    p.mail.number ≡ n → p.mail.cores ≡ m.set_up.config.cores → p.mail.banks ≡ m.set_up.config.banks →
    p.mail.cursor ≡ 0 → p.is_stopped ≡ false → p.part.outbox ≡ no_outbox →
    Standing m.set_up (seat_count m.set_up) n (opening_hold m.set_up n) →
    IsNewCore m n p
new_core m n p slot_seat lt table mine seat number cores banks cursor runs nothing stands =
    let opens = ap (λ (y : SlotSeat). y.me.0.mine) seat ∙ mine in (
      (
        (ap (λ (y : SlotSeat). y.table_id) seat ∙ table, omega arith, cores, banks),
        subst (λ k. k < m.set_up.config.cores) (sym number) lt,
        opened_stands m n p.mail number opens stands,
      ),
      number,
      opens,
      cursor,
      runs,
      nothing,
    )

pub new_bank : (m : Machine) (n : ℕ) (p : BankSeat) (slot_seat : SlotSeat) → m.set_up.config.cores ≤ n →
    n < m.set_up.config.cores + m.set_up.config.banks → slot_seat.table_id ≡ m.table.shared.table_id →
    slot_seat.me.0.mine ≡ opening_hold m.set_up n → p.mail.seat ≡ slot_seat → p.mail.number ≡ n →
    p.mail.cores ≡ m.set_up.config.cores → p.mail.banks ≡ m.set_up.config.banks →
    p.mail.cursor ≡ 0 → p.is_stopped ≡ false → p.part.outbox ≡ no_outbox →
    Standing m.set_up (seat_count m.set_up) n (opening_hold m.set_up n) →
    IsNewBank m n p
new_bank m n p slot_seat le lt table mine seat number cores banks cursor runs nothing stands =
    let opens = ap (λ (y : SlotSeat). y.me.0.mine) seat ∙ mine in (
      (
        (ap (λ (y : SlotSeat). y.table_id) seat ∙ table, omega arith, cores, banks),
        subst (λ k. m.set_up.config.cores ≤ k) (sym number) le,
        opened_stands m n p.mail number opens stands,
      ),
      number,
      opens,
      cursor,
      runs,
      nothing,
    )

-- one more at the end of a list, and one more at its front
pub more_cores : (m : Machine) (from : ℕ) (ps qs : List CoreSeat) (p : CoreSeat) → qs ≡ ps ++ p ∷ [] →
    AllNewCores m from ps → IsNewCore m (from + length ps) p → AllNewCores m from qs
more_cores m from ps qs p is all new i q e =
    ⊎_elim (λ x. all i q x)
    (λ x. subst (λ (y : ℕ × CoreSeat). IsNewCore m (from + y.0) y.1) (λ j. (sym x.0 j, x.1 j)) new)
    (get_snoc ps p q i (ap (λ y. slice_get y i) (sym is) ∙ e))

pub more_banks : (m : Machine) (from : ℕ) (ps qs : List BankSeat) (p : BankSeat) → qs ≡ ps ++ p ∷ [] →
    AllNewBanks m from ps → IsNewBank m (from + length ps) p → AllNewBanks m from qs
more_banks m from ps qs p is all new i q e =
    ⊎_elim (λ x. all i q x)
    (λ x. subst (λ (y : ℕ × BankSeat). IsNewBank m (from + y.0) y.1) (λ j. (sym x.0 j, x.1 j)) new)
    (get_snoc ps p q i (ap (λ y. slice_get y i) (sym is) ∙ e))

pub front_core : (m : Machine) (ps : List CoreSeat) (p : CoreSeat) → AllNewCores m 1 ps → IsNewCore m 0 p →
    AllNewCores m 0 (p ∷ ps)
front_core m ps p all new zero q e = subst (λ y. IsNewCore m 0 y) (some_is e) new
front_core m ps p all new (suc i) q e =
    subst (λ k. IsNewCore m k q) (omega arith) (all i q e)
