-- What comes of all seats: they are in order, all there, and each core was issued what its program gave.
use Rattle.std.proofs.Common.{◌≡◌, ℕ, Bool, List, length, Some, sym, ◌∙◌, subst, arith}
use Rattle.std.specs.Prelude.{slice_get}
use Rattle.std.specs.List.{zip}
use Rattle.std.proofs.lemmas.Option.{slice_get_within}
use Rattle.mailboxes.specs.declared.machine.Machine.{Machine}
use Rattle.mailboxes.specs.declared.core_seat.CoreSeat.{CoreSeat}
use Rattle.mailboxes.specs.declared.bank_seat.BankSeat.{BankSeat}
use Rattle.mailboxes.specs.Seats.{AreAll, IsCoreSeat}
use Rattle.programs.specs.Acts.{Acts}
use Rattle.thread_driver.specs.declared.told.Told.{Told}
use Rattle.thread_driver.specs.Given.{AllGiven, IsBankTurn, IsCoreTurn, SeatsGiven}
use Rattle.thread_driver.specs.Playing.{AreAhead, Plays}
use Rattle.thread_driver.specs.Shifts.{AreBanksInOrder, AreCoresInOrder, AreServed, NoneOpen}
use Rattle.thread_driver.proofs.Lemmas.{IssuedLaw, none_ahead}
use Rattle.thread_driver.proofs.Lists.{some_is, there}
use Rattle.thread_driver.proofs.Pairs.{pair_there, parts_there}
use Rattle.thread_driver.proofs.Served.{served}
use Rattle.thread_driver.proofs.Shares.{given_long, given_to}
use Rattle.thread_driver.proofs.Worked.{bank_stays, core_plays}

module _ (m : Machine) where
  pub all_there : (cores : List CoreSeat) (banks : List BankSeat) → AreCoresInOrder m cores →
      AreBanksInOrder m banks → AreAll m cores banks
  all_there cores banks c b =
      record {
        cores_there = record {
          there = λ j lt.
              let long = c.long in
              let p = there cores j (omega arith) in
              (j, p.0, p.1, (c.each j p.0 p.1).1);
        };
        banks_there = record {
          there = λ j lt.
              let long = b.long in
              let p = there banks j (omega arith) in
              (j, p.0, p.1, (b.each j p.0 p.1).1);
        };
      }

  pub order_of_banks : (fair : Bool) (Many : ℕ → Type 0) (banks banks' : List BankSeat) (told : Told) →
      AreBanksInOrder m banks → AllGiven (IsBankTurn fair m) Many banks told banks' → AreBanksInOrder m banks'
  order_of_banks fair Many banks banks' told b given =
      record {
        long = given_long given ∙ b.long;
        each = λ i q at.
            let was = given_to given i q at in
            let before = b.each i was.0 was.1 in
            let stays = bank_stays fair m before.0 was.2.2 in
            (stays.0, stays.1 ∙ before.1);
      }

  module _ {P : Type 0} (acts : Acts P) (Many : ℕ → Type 0) (cores cores' : List CoreSeat) (programs programs' : List P)
      (told : Told) (order : AreCoresInOrder m cores) (none : NoneOpen cores)
      (given : AllGiven (IsCoreTurn acts m) Many (zip cores programs) told (zip cores' programs'))
      (long : length cores' ≡ length cores) where
    -- a core's seat and its program, before and after
    played : (i : ℕ) (p : CoreSeat) (a : P) (q : CoreSeat) (b : P) → slice_get cores i ≡ Some p →
        slice_get programs i ≡ Some a → slice_get cores' i ≡ Some q → slice_get programs' i ≡ Some b →
        IsCoreSeat m q × Plays acts p a q b
    played i p a q b at_p at_a at_q at_b =
        let was = given_to given i (q, b) (pair_there cores' programs' i q b at_q at_b) in
        let parts = parts_there cores programs i was.0 was.1 in
        let p_is : was.0.0 ≡ p = some_is (sym parts.0 ∙ at_p) in
        let a_is : was.0.1 ≡ a = some_is (sym parts.1 ∙ at_a) in
        let is = (order.each i was.0.0 parts.0).0 in
        let ahead = none_ahead acts was.0.0 was.0.1 (none i was.0.0 parts.0) in
        subst (λ (z : CoreSeat). IsCoreSeat m q × Plays acts z a q b) p_is
        (subst (λ (z : P). IsCoreSeat m q × Plays acts was.0.0 z q b) a_is (core_plays acts m is ahead was.2.2))

    pub all_served : IssuedLaw → length programs' ≡ length programs → AreServed acts cores programs cores' programs'
    all_served law programs_long =
        record {
          long = programs_long;
          each = λ i p a q b at_p at_a at_q at_b.
              let is = played i p a q b at_p at_a at_q at_b in
              served acts m law p a q b (order.each i p at_p).0 is.0 (none i p at_p) is.1;
        }

    pub order_of_cores : length programs ≡ length cores → length programs' ≡ length programs → AreCoresInOrder m cores'
    order_of_cores one_each programs_long =
        record {
          long = long ∙ order.long;
          each = λ i q at.
              let lt = slice_get_within cores' i q at in
              let p = there cores i (omega (arith, lt, long)) in
              let a = there programs i (omega (arith, lt, long, one_each)) in
              let b = there programs' i (omega (arith, lt, long, one_each, programs_long)) in
              let is = played i p.0 a.0 q b.0 p.1 a.1 at b.1 in
              (is.0, is.1.number ∙ (order.each i p.0 p.1).1);
        }

  -- before a turn is given
  pub ahead_at_first : {P : Type 0} (acts : Acts P) (cores : List CoreSeat) (programs : List P) → NoneOpen cores →
      length programs ≡ length cores → AreAhead acts cores programs
  ahead_at_first acts cores programs none one_each =
      record { long = one_each; each = λ i p a e f. none_ahead acts p a (none i p e) }

-- What comes of seats that were given turns: all are in order and there, and each core was served.
pub record Comes {P : Type 0} (acts : Acts P) (m : Machine) (cores : List CoreSeat) (programs : List P)
    (cores' : List CoreSeat) (banks' : List BankSeat) (programs' : List P) : Type 0 where
  pub in_order : AreCoresInOrder m cores'
  pub behind : AreBanksInOrder m banks'
  pub whole : AreAll m cores' banks'
  pub are_served : AreServed acts cores programs cores' programs'

pub comes_of : {P : Type 0} (acts : Acts P) (m : Machine) (fair : Bool) (Many : ℕ → Type 0)
    (cores cores' : List CoreSeat) (banks banks' : List BankSeat) (programs programs' : List P) (told : Told) →
    IssuedLaw →
    AreCoresInOrder m cores → NoneOpen cores → AreBanksInOrder m banks → length programs ≡ length cores →
    SeatsGiven acts m fair Many cores banks programs told cores' banks' programs' →
    Comes acts m cores programs cores' banks' programs'
comes_of acts m fair Many cores cores' banks banks' programs programs' told law order none behind one_each given =
    let in_order = order_of_cores m acts Many cores cores' programs programs' given.core_told order none given.of_cores
    given.cores_long one_each given.programs_long in
    let banks_behind = order_of_banks m fair Many banks banks' given.bank_told behind given.of_banks in
    record {
      in_order = in_order;
      behind = banks_behind;
      whole = all_there m cores' banks' in_order banks_behind;
      are_served = all_served m acts Many cores cores' programs programs' given.core_told order none given.of_cores
          given.cores_long law given.programs_long;
    }
