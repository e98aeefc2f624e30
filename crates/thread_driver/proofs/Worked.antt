-- Turns of seats, one after the other: what stays so of a seat. And a worker after it told what is finished, and in and
-- after a pass.
use Rattle.std.proofs.Common.{◌≡◌, ℕ, zero, suc, ◌+◌, ◌<◌, ◌≤◌, Bool, false, List, length, Some, ⊎_elim, refl, sym}
use Rattle.std.proofs.Common.{ap, ap₂, subst, ◌∙◌, arith}
use Rattle.std.specs.Prelude.{replicate, slice_get, slice_index_or, slice_set}
use Rattle.std.specs.List.{zip}
use Rattle.std.proofs.lemmas.Option.{slice_get_within}
use Rattle.mailboxes.specs.declared.machine.Machine.{Machine}
use Rattle.mailboxes.specs.declared.core_seat.CoreSeat.{CoreSeat}
use Rattle.mailboxes.specs.declared.bank_seat.BankSeat.{BankSeat}
use Rattle.mailboxes.specs.Seats.{AllBankSeats, AllCoreSeats, IsBankSeat, IsCoreSeat}
use Rattle.programs.specs.Acts.{Acts}
use Rattle.thread_driver.specs.declared.told.Told.{Told}
use Rattle.thread_driver.specs.declared.worker.Worker.{Worker}
use Rattle.thread_driver.specs.Given.{IsBankTurn, IsCoreTurn, SeatsGiven, TurnsGiven, more, quiet, rests, told_by_both}
use Rattle.thread_driver.specs.Teams.{HasCounts, InARow, PassGiven, SeatsPassed, ends_all, row_end}
use Rattle.thread_driver.specs.Playing.{AreAhead, IsAhead, Plays}
use Rattle.thread_driver.proofs.Lemmas.{plays_both, plays_none}
use Rattle.thread_driver.proofs.Lists.{here, there}
use Rattle.thread_driver.proofs.Pairs.{pair_there, pairs_few, pairs_long, pairs_set, parts_there}
use Rattle.thread_driver.proofs.Passes.{neither_ends, not_passed, passed_at, passed_on}
use Rattle.thread_driver.proofs.Shares.{CountedGiven, given_on, given_whole, given_within, none_counted, none_given}
use Rattle.thread_driver.proofs.Sums.{told_swap}

-- a bank's seat
module _ (fair : Bool) (m : Machine) where
  pub bank_stays : {p : BankSeat} {n : ℕ} {q : BankSeat} {told : Told} → IsBankSeat m p →
      TurnsGiven (IsBankTurn fair m) p n told q → IsBankSeat m q × (q.mail.number ≡ p.mail.number)
  bank_stays is rests = (is, refl)
  bank_stays is (more given turn) = (turn.seat, turn.number ∙ (bank_stays is given).1)

  pub banks_passed : (banks banks' : List BankSeat) {limit k : ℕ} {ns ms : List ℕ} {told : Told} →
      AllBankSeats m banks →
      PassGiven (IsBankTurn fair m) limit k ns banks told ms banks' → AllBankSeats m banks'
  banks_passed banks banks' all passed i q at =
      let was = passed_at passed i q at in
      let before = all i was.0 was.1 in
      ⊎_elim (λ same. subst (IsBankSeat m) same before) (λ had. (bank_stays before had.2).0) was.2

module _ {P : Type 0} (acts : Acts P) (m : Machine) where
  -- a core's seat with its program
  pub core_plays : {x : CoreSeat × P} {n : ℕ} {y : CoreSeat × P} {told : Told} → IsCoreSeat m x.0 →
      IsAhead acts x.0 x.1 → TurnsGiven (IsCoreTurn acts m) x n told y → IsCoreSeat m y.0 × Plays acts x.0 x.1 y.0 y.1
  core_plays {x = x} is ahead rests = (is, plays_none acts x.0 x.1 ahead)
  core_plays {x = x} {y = y} is ahead (more {y = z} given turn) = (
    turn.seat,
    plays_both acts x.0 z.0 y.0 x.1 z.1 y.1 (core_plays is ahead given).1 turn.plays,
  )

  -- the same of all of a list, after a pass
  module _ (cores cores' : List CoreSeat) (programs programs' : List P) {limit k : ℕ} {ns ms : List ℕ} {told : Told}
      (all : AllCoreSeats m cores) (ahead : AreAhead acts cores programs)
      (passed : PassGiven (IsCoreTurn acts m) limit k ns (zip cores programs) told ms (zip cores' programs'))
      (long : length cores' ≡ length cores) (programs_long : length programs' ≡ length programs) where
    core_passed : (i : ℕ) (q : CoreSeat) (b : P) → slice_get cores' i ≡ Some q → slice_get programs' i ≡ Some b →
        IsCoreSeat m q × IsAhead acts q b
    core_passed i q b at_q at_b =
        let was = passed_at passed i (q, b) (pair_there cores' programs' i q b at_q at_b) in
        let parts = parts_there cores programs i was.0 was.1 in
        ⊎_elim
        (λ same. subst (λ (x : CoreSeat × P). IsCoreSeat m x.0 × IsAhead acts x.0 x.1) same
        (all i was.0.0 parts.0, ahead.each i was.0.0 was.0.1 parts.0 parts.1))
        (λ had.
        let row = core_plays (all i was.0.0 parts.0) (ahead.each i was.0.0 was.0.1 parts.0 parts.1) had.2 in
        (row.0, row.1.ahead)) was.2

    pub cores_passed : AllCoreSeats m cores'
    cores_passed i q at =
        let lt = slice_get_within cores' i q at in
        let one_each = ahead.long in
        let b = there programs' i (omega (arith, lt, long, programs_long, one_each)) in
        (core_passed i q b.0 at b.1).0

    pub ahead_passed : AreAhead acts cores' programs'
    ahead_passed =
        record {
          long = programs_long ∙ ahead.long ∙ sym long;
          each = λ i q b at_q at_b. (core_passed i q b at_q at_b).1;
        }

  -- seats of which none had a turn
  pub not_given : (fair : Bool) (Many : ℕ → Type 0) → Many zero → (cores : List CoreSeat) (banks : List BankSeat)
      (programs : List P) → SeatsGiven acts m fair Many cores banks programs quiet cores banks programs
  not_given fair Many is cores banks programs =
      record {
        cores_long = refl;
        programs_long = refl;
        core_told = quiet;
        bank_told = quiet;
        of_cores = none_given Many is (zip cores programs);
        of_banks = none_given Many is banks;
        told_is = refl;
      }

  -- Seats were given turns, by their numbers within these bounds, and what all of these reported together.
  pub record SeatsCounted (fair : Bool) (least most : ℕ) (cores_have banks_have : List ℕ) (cores : List CoreSeat)
      (banks : List BankSeat) (programs : List P) (told : Told) (cores' : List CoreSeat) (banks' : List BankSeat)
      (programs' : List P) : Type 0 where
    pub cores_long : length cores' ≡ length cores
    pub programs_long : length programs' ≡ length programs
    pub core_told : Told
    pub bank_told : Told
    pub of_cores : CountedGiven (IsCoreTurn acts m) least most cores_have (zip cores programs) core_told
        (zip cores' programs')
    pub of_banks : CountedGiven (IsBankTurn fair m) least most banks_have banks bank_told banks'
    pub told_is : told ≡ told_by_both core_told bank_told

  pub not_counted : (fair : Bool) (most : ℕ) (cores : List CoreSeat) (banks : List BankSeat) (programs : List P) →
      length cores ≤ 72 → length banks ≤ 72 →
      SeatsCounted fair 0 most (replicate 72 0) (replicate 72 0) cores banks programs quiet cores banks programs
  not_counted fair most cores banks programs few few' =
      record {
        cores_long = refl;
        programs_long = refl;
        core_told = quiet;
        bank_told = quiet;
        of_cores = let short = pairs_few cores programs in none_counted most 72 (zip cores programs) (omega arith);
        of_banks = none_counted most 72 banks few';
        told_is = refl;
      }

  -- a pass, with the numbers said otherwise
  pass_as : {X : Type 0} {Turn : X → Told → X → Type 0} {limit limit' k : ℕ} {ns ns' ms ms' : List ℕ} {xs ys : List X}
      {told : Told} → limit ≡ limit' → ns ≡ ns' → ms ≡ ms' → PassGiven Turn limit k ns xs told ms ys →
      PassGiven Turn limit' k ns' xs told ms' ys
  pass_as {Turn = Turn} {limit = l} {k = k} {ns = ns} {ns' = ns'} {ms' = ms'} {xs = xs} {ys = ys} {told = told} e f g
      passed =
      subst (λ c. PassGiven Turn c k ns' xs told ms' ys) e
      (subst (λ c. PassGiven Turn l k c xs told ms' ys) f
      (subst (λ c. PassGiven Turn l k ns xs told c ys) g passed))

  -- as many turns, said otherwise
  module _ {fair : Bool} {least most : ℕ} {cores_have banks_have : List ℕ} {cores cores' : List CoreSeat}
      {banks banks' : List BankSeat} {programs programs' : List P} {all : Told}
      (g : SeatsCounted fair least most cores_have banks_have cores banks programs all cores' banks' programs') where
    pub counted_within : {Many : ℕ → Type 0} → ((n : ℕ) → least ≤ n → n ≤ most → Many n) →
        SeatsGiven acts m fair Many cores banks programs all cores' banks' programs'
    counted_within within =
        record {
          cores_long = g.cores_long;
          programs_long = g.programs_long;
          core_told = g.core_told;
          bank_told = g.bank_told;
          of_cores = given_within within g.of_cores;
          of_banks = given_within within g.of_banks;
          told_is = g.told_is;
        }

    -- a pass more, and one that is whole
    module _ {cores'' : List CoreSeat} {banks'' : List BankSeat} {programs'' : List P} {told both : Told}
        {core_counts bank_counts : List ℕ}
        (p : SeatsPassed acts m fair cores' banks' programs' told cores'' banks'' programs'')
        (counts : HasCounts acts most cores_have banks_have core_counts bank_counts p)
        (is : both ≡ told_by_both all told) where
      both_told : both ≡ told_by_both (told_by_both g.core_told p.core_told) (told_by_both g.bank_told p.bank_told)
      both_told =
          is ∙ ap₂ told_by_both g.told_is p.told_is ∙ told_swap g.core_told g.bank_told p.core_told p.bank_told

      core_rows : PassGiven (IsCoreTurn acts m) most p.core_turns cores_have (zip cores' programs') p.core_told
          core_counts (zip cores'' programs'')
      core_rows = pass_as counts.limit_is counts.cores_had_is counts.cores_have_is p.of_cores

      bank_rows : PassGiven (IsBankTurn fair m) most p.bank_turns banks_have banks' p.bank_told bank_counts banks''
      bank_rows = pass_as counts.limit_is counts.banks_had_is counts.banks_have_is p.of_banks

      pub given_more : SeatsCounted fair least most core_counts bank_counts cores banks programs both cores'' banks''
          programs''
      given_more =
          record {
            cores_long = p.cores_long ∙ g.cores_long;
            programs_long = p.programs_long ∙ g.programs_long;
            core_told = told_by_both g.core_told p.core_told;
            bank_told = told_by_both g.bank_told p.bank_told;
            of_cores = given_on g.of_cores core_rows;
            of_banks = given_on g.of_banks bank_rows;
            told_is = both_told;
          }

      pub given_all : least < most → length programs' ≡ length cores' → ends_all told ≡ false →
          SeatsCounted fair (least + 1) most core_counts bank_counts cores banks programs both cores'' banks''
          programs''
      given_all lt one_each goes =
          let neither = neither_ends p.core_told p.bank_told (ap ends_all (sym p.told_is) ∙ goes) in
          record {
            cores_long = p.cores_long ∙ g.cores_long;
            programs_long = p.programs_long ∙ g.programs_long;
            core_told = told_by_both g.core_told p.core_told;
            bank_told = told_by_both g.bank_told p.bank_told;
            of_cores = given_whole lt g.of_cores core_rows
                (p.all_cores neither.0 ∙ sym (pairs_long cores' programs' one_each));
            of_banks = given_whole lt g.of_banks bank_rows (p.all_banks neither.0 neither.1);
            told_is = both_told;
          }

-- the worker gave its seats turns, so many each, and keeps what these told
abbrev pub Gave : {P : Type 0} → Acts P → Machine → Bool → (ℕ → Type 0) → Worker P → Worker P → Type 0
Gave acts m fair Many w v =
    SeatsGiven acts m fair Many w.cores.items w.banks.items w.programs.items v.told v.cores.items v.banks.items
    v.programs.items

-- the next seat in a pass
module _ (fair : Bool) (m : Machine) (banks banks' : List BankSeat) (limit k : ℕ) (ns ms : List ℕ) (told : Told)
    (all : AllBankSeats m banks) (passed : PassGiven (IsBankTurn fair m) limit k ns banks told ms banks')
    (lt : k < length banks') (q : BankSeat) (at : q ≡ slice_index_or banks' k q) where
  pub next_bank : IsBankSeat m q
  next_bank = all k q (sym (not_passed passed) ∙ here banks' k q lt at)

  pub bank_had_row : ends_all told ≡ false → (n j : ℕ) → slice_get ms k ≡ Some n → (had : Told) (r : BankSeat) →
      InARow (IsBankTurn fair m) (row_end limit n) n q j had r →
      PassGiven (IsBankTurn fair m) limit (k + 1) ns banks (told_by_both told had) (slice_set ms k j)
      (slice_set banks' k r)
  bank_had_row goes n j count had r row =
      let next : suc k ≡ k + 1 = omega arith in
      subst (λ i. PassGiven (IsBankTurn fair m) limit i ns banks (told_by_both told had) (slice_set ms k j)
      (slice_set banks' k r)) next
      (passed_on had n j q r goes passed count (here banks' k q lt at) row)

module _ {P : Type 0} (acts : Acts P) (m : Machine) (cores cores' : List CoreSeat) (programs programs' : List P)
    (limit k : ℕ) (ns ms : List ℕ) (told : Told) (all : AllCoreSeats m cores) (ahead : AreAhead acts cores programs)
    (passed : PassGiven (IsCoreTurn acts m) limit k ns (zip cores programs) told ms (zip cores' programs'))
    (lt : k < length cores') (lt' : k < length programs') (q : CoreSeat) (y : P) (at : q ≡ slice_index_or cores' k q)
    (at' : y ≡ slice_index_or programs' k y) where
  next_pair : slice_get (zip cores' programs') k ≡ Some (q, y)
  next_pair = pair_there cores' programs' k q y (here cores' k q lt at) (here programs' k y lt' at')

  next_there : (slice_get cores k ≡ Some q) × (slice_get programs k ≡ Some y)
  next_there = parts_there cores programs k (q, y) (sym (not_passed passed) ∙ next_pair)

  pub next_core : IsCoreSeat m q
  next_core = all k q next_there.0

  pub next_ahead : IsAhead acts q y
  next_ahead = ahead.each k q y next_there.0 next_there.1

  pub core_had_row : ends_all told ≡ false → (n j : ℕ) → slice_get ms k ≡ Some n → (had : Told) (r : CoreSeat) (z : P) →
      InARow (IsCoreTurn acts m) (row_end limit n) n (q, y) j had (r, z) →
      PassGiven (IsCoreTurn acts m) limit (k + 1) ns (zip cores programs) (told_by_both told had) (slice_set ms k j)
      (zip (slice_set cores' k r) (slice_set programs' k z))
  core_had_row goes n j count had r z row =
      let next : suc k ≡ k + 1 = omega arith in
      subst (λ i. PassGiven (IsCoreTurn acts m) limit i ns (zip cores programs) (told_by_both told had)
      (slice_set ms k j) (zip (slice_set cores' k r) (slice_set programs' k z))) next
      (subst (λ ys. PassGiven (IsCoreTurn acts m) limit (suc k) ns (zip cores programs) (told_by_both told had)
      (slice_set ms k j) ys)
      (pairs_set cores' programs' k r z) (passed_on had n j (q, y) (r, z) goes passed count next_pair row))
