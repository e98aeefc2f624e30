-- What workers were dealt, and what is gathered from them once they worked.
use Rattle.std.proofs.Common.{◌≡◌, ℕ, zero, suc, ◌+◌, ◌*◌, ◌%◌, ◌<◌, Bool, false, ◌||◌, List, [], ◌∷◌, length, map}
use Rattle.std.proofs.Common.{Some, sym, refl, ap, ap₂, ◌∙◌, subst, arith, mod-eq_of_lt}
use Rattle.std.specs.Prelude.{slice_get, slice_index_or}
use Rattle.std.specs.List.{list_any, zip}
use Rattle.std.proofs.lemmas.List.{length-map}
use Rattle.std.proofs.lemmas.Nat.{mod_below}
use Rattle.std.proofs.lemmas.Option.{slice_get_within}
use Rattle.mailboxes.specs.declared.machine.Machine.{Machine}
use Rattle.mailboxes.specs.declared.core_seat.CoreSeat.{CoreSeat}
use Rattle.mailboxes.specs.declared.bank_seat.BankSeat.{BankSeat}
use Rattle.mailboxes.specs.Seats.{AllCoreSeats, AllBankSeats}
use Rattle.programs.specs.Acts.{Acts}
use Rattle.stop_flags.specs.declared.signals.Signals.{Signals}
use Rattle.round_robin.specs.Dealing.{HasLengths, IsDealtInTurn, hand_of}
use Rattle.round_robin.proofs.Lemmas.{item_of, lengths_of, same_lengths}
use Rattle.thread_driver.specs.declared.shift.Shift.{Shift}
use Rattle.thread_driver.specs.declared.told.Told.{Told}
use Rattle.thread_driver.specs.declared.worker.Rota.{Rota}
use Rattle.thread_driver.specs.declared.worker.Worker.{Worker}
use Rattle.thread_driver.specs.Given.{AtMost, IsBankTurn, IsCoreTurn, SeatsGiven, quiet, told_by_both}
use Rattle.thread_driver.specs.Hands.{AreDealt, HaveLengths, core_hands, program_hands, bank_hands}
use Rattle.thread_driver.specs.Playing.{AreAhead}
use Rattle.thread_driver.specs.Teams.{AllWork, Works}
use Rattle.thread_driver.proofs.Lists.{there, none_some, some_is}
use Rattle.thread_driver.proofs.Pairs.{pairs_long, same_pair}
use Rattle.thread_driver.proofs.Shares.{HandsGiven, gathered_given, gathered_told, given_long, no_hand, one_hand}
use Rattle.thread_driver.proofs.Shares.{said_together}
use Rattle.thread_driver.proofs.Sums.{or_swap, same_told}
use Rattle.thread_driver.proofs.Worked.{Gave}

-- what a function has of the value at an index
pub value_of : {A B : Type 0} (f : A → B) (xs : List A) (i : ℕ) (x : A) (d : B) → slice_get xs i ≡ Some x →
    slice_index_or (map f xs) i d ≡ f x
value_of f [] i x d e = none_some e
value_of f (y ∷ xs) zero x d e = ap f (some_is e)
value_of f (y ∷ xs) (suc i) x d e = value_of f xs i x d e

-- two numbers above which the same numbers lie
same_number : (x y : ℕ) → ((k : ℕ) → k < x → k < y) → ((k : ℕ) → k < y → k < x) → x ≡ y
same_number zero zero a b = refl
same_number zero (suc y) a b = let c = b 0 (omega arith) in omega arith
same_number (suc x) zero a b = let c = a 0 (omega arith) in omega arith
same_number (suc x) (suc y) a b =
    ap suc (same_number x y (λ k lt. let c = a (suc k) (omega arith) in omega arith)
    (λ k lt. let c = b (suc k) (omega arith) in omega arith))

-- each of a team gave its seats turns, so many each
pub record AllGave {P : Type 0} (acts : Acts P) (m : Machine) (fair : Bool) (Many : ℕ → Type 0)
    (ws vs : List (Worker P)) : Type 0 where
  pub long : length vs ≡ length ws
  pub each : (i : ℕ) (w v : Worker P) → slice_get ws i ≡ Some w → slice_get vs i ≡ Some v → Gave acts m fair Many w v

pub all_gave : {P : Type 0} (acts : Acts P) (m : Machine) (signals : Signals) (rota : Rota) (ws vs : List (Worker P)) →
    AllWork acts m signals rota ws vs → AllGave acts m rota.fair (AtMost rota.turns) ws vs
unfolding Works
all_gave acts m signals rota ws vs work =
    record { long = work.long; each = λ i w v e f. (work.each i w v e f).1.given }

module _ {P : Type 0} (acts : Acts P) (m : Machine) (n : ℕ) where
  -- before they work: what the machine and the programs give is so of each worker's share
  module _ (cores : List CoreSeat) (programs : List P) (banks : List BankSeat) (ws : List (Worker P))
      (dealt : AreDealt n cores programs banks (core_hands ws) (program_hands ws) (bank_hands ws))
      (core_seats : AllCoreSeats m cores) (bank_seats : AllBankSeats m banks) (ahead : AreAhead acts cores programs)
      (i : ℕ) (w : Worker P) (at : slice_get ws i ≡ Some w) where
    within : i < n
    within =
        let lt = slice_get_within ws i w at in
        let count = dealt.cores_dealt.count in
        let long = length-map {B = List CoreSeat} ws (λ (v : Worker P). v.cores.items) in
        omega arith

    first_hand : hand_of 0 n i ≡ i
    first_hand = let z : 0 + i ≡ i = omega arith in ap (λ z. z % n) z ∙ mod-eq_of_lt within

    -- what is at a place of a share
    in_share : {X : Type 0} → (items : Worker P → List X) (xs : List X) → IsDealtInTurn xs 0 n (map items ws) →
        (k : ℕ) →
        slice_get (items w) k ≡ slice_get xs (n * k + i)
    in_share items xs turns k =
        ap (λ l. slice_get l k) (sym (value_of items ws i w [] at))
        ∙ ap (λ h. slice_get (slice_index_or (map items ws) h []) k) (sym first_hand) ∙ turns.at i k within

    core_there : (k : ℕ) → slice_get w.cores.items k ≡ slice_get cores (n * k + i)
    core_there = in_share (λ (v : Worker P). v.cores.items) cores dealt.cores_dealt

    program_there : (k : ℕ) → slice_get w.programs.items k ≡ slice_get programs (n * k + i)
    program_there = in_share (λ (v : Worker P). v.programs.items) programs dealt.programs_dealt

    pub cores_of : AllCoreSeats m w.cores.items
    cores_of k p e = core_seats (n * k + i) p (sym (core_there k) ∙ e)

    pub banks_of : AllBankSeats m w.banks.items
    banks_of k p e =
        let j = item_of banks (length cores) n (bank_hands ws) dealt.banks_dealt i k p
        (ap (λ l. slice_get l k) (value_of (λ (v : Worker P). v.banks.items) ws i w [] at) ∙ e) in
        bank_seats j.0 p j.1

    pub ahead_of : AreAhead acts w.cores.items w.programs.items
    ahead_of =
        record {
          long = same_number (length w.programs.items) (length w.cores.items)
              (λ k lt.
              let a = there w.programs.items k lt in
              let at_a = sym (program_there k) ∙ a.1 in
              let inside = slice_get_within programs (n * k + i) a.0 at_a in
              let long = ahead.long in
              let p = there cores (n * k + i) (omega arith) in
              slice_get_within w.cores.items k p.0 (core_there k ∙ p.1))
              (λ k lt.
              let p = there w.cores.items k lt in
              let at_p = sym (core_there k) ∙ p.1 in
              let inside = slice_get_within cores (n * k + i) p.0 at_p in
              let long = ahead.long in
              let a = there programs (n * k + i) (omega arith) in
              slice_get_within w.programs.items k a.0 (program_there k ∙ a.1));
          each = λ k p a e f.
              ahead.each (n * k + i) p a (sym (core_there k) ∙ e) (sym (program_there k) ∙ f);
        }

  -- after they worked
  module _ (cores : List CoreSeat) (programs : List P) (banks : List BankSeat) (ws vs : List (Worker P))
      (dealt : AreDealt n cores programs banks (core_hands ws) (program_hands ws) (bank_hands ws))
      {fair : Bool} (Many : ℕ → Type 0) (work : AllGave acts m fair Many ws vs) where
    core_count : length ws ≡ n
    core_count =
        let count = dealt.cores_dealt.count in
        let long = length-map {B = List CoreSeat} ws (λ (v : Worker P). v.cores.items) in
        omega arith

    pub vs_count : length vs ≡ n
    vs_count = work.long ∙ core_count

    -- both workers of a hand
    module _ (h : ℕ) (lt : h < n) where
      w : (x : Worker P) × (slice_get ws h ≡ Some x)
      w = let count = core_count in there ws h (omega arith)

      v : (x : Worker P) × (slice_get vs h ≡ Some x)
      v = let count = vs_count in there vs h (omega arith)

    -- hands that are as long as they were
    as_long : {X : Type 0} → (items : Worker P → List X) (xs : List X) (first : ℕ) →
        IsDealtInTurn xs first n (map items ws) →
        ((i : ℕ) (x y : Worker P) → slice_get ws i ≡ Some x → slice_get vs i ≡ Some y →
        length (items y) ≡ length (items x)) → HasLengths (length xs) first n (map items vs)
    as_long items xs first turns same =
        same_lengths (length xs) first n (map items ws) (map items vs) (lengths_of xs first n (map items ws) turns)
        (length-map vs items ∙ vs_count)
        (λ h lt.
        let j : ℕ = hand_of first n h in
        let lt' = mod_below (first + h) n turns.some in
        let x = w j lt' in
        let y = v j lt' in
        ap length (value_of items vs j y.0 [] y.1) ∙ same j x.0 y.0 x.1 y.1
        ∙ sym (ap length (value_of items ws j x.0 [] x.1)))

    pub lengths_after : HaveLengths n (length cores) (length programs) (length banks) (core_hands vs)
        (program_hands vs) (bank_hands vs)
    lengths_after =
        record {
          core_lengths = as_long (λ (x : Worker P). x.cores.items) cores 0 dealt.cores_dealt
              (λ i x y e f. (work.each i x y e f).cores_long);
          program_lengths = as_long (λ (x : Worker P). x.programs.items) programs 0 dealt.programs_dealt
              (λ i x y e f. (work.each i x y e f).programs_long);
          bank_lengths = as_long (λ (x : Worker P). x.banks.items) banks (length cores) dealt.banks_dealt
              (λ i x y e f. given_long (work.each i x y e f).of_banks);
        }

-- what each worker has of cores with their programs
abbrev pub pair_hands : {P : Type 0} → List (Worker P) → List (List (CoreSeat × P))
pair_hands ws = map (λ w. zip w.cores.items w.programs.items) ws

module _ {P : Type 0} where
  pairs_in_hand : (ws : List (Worker P)) (h : ℕ) → slice_index_or (pair_hands ws) h []
      ≡ zip (slice_index_or (core_hands ws) h []) (slice_index_or (program_hands ws) h [])
  pairs_in_hand [] h = refl
  pairs_in_hand (w ∷ ws) zero = refl
  pairs_in_hand (w ∷ ws) (suc h) = pairs_in_hand ws h

  pub pairs_dealt : (n : ℕ) (cores : List CoreSeat) (programs : List P) (ws : List (Worker P)) →
      IsDealtInTurn cores 0 n (core_hands ws) → IsDealtInTurn programs 0 n (program_hands ws) →
      IsDealtInTurn (zip cores programs) 0 n (pair_hands ws)
  pairs_dealt n cores programs ws dealt others =
      record {
        some = dealt.some;
        count = length-map {B = List (CoreSeat × P)} ws (λ (w : Worker P). zip w.cores.items w.programs.items)
            ∙ sym (length-map {B = List CoreSeat} ws (λ (w : Worker P). w.cores.items)) ∙ dealt.count;
        at = λ h k hn.
            let hand : ℕ = hand_of 0 n h in
            ap (λ l. slice_get l k) (pairs_in_hand ws hand)
            ∙ same_pair (slice_index_or (core_hands ws) hand []) cores (slice_index_or (program_hands ws) hand [])
            programs k (n * k + h) (dealt.at h k hn) (others.at h k hn);
      }

  -- all that workers gave their seats, hand by hand, and what they told
  module _ (acts : Acts P) (m : Machine) (fair : Bool) (Many : ℕ → Type 0) where
    record Handed (ws vs : List (Worker P)) : Type 0 where
      pub core_tolds : List Told
      pub bank_tolds : List Told
      pub cores : HandsGiven (IsCoreTurn acts m) Many (pair_hands ws) core_tolds (pair_hands vs)
      pub banks : HandsGiven (IsBankTurn fair m) Many (bank_hands ws) bank_tolds (bank_hands vs)
      pub told : (says : Told → Bool) → ((a b : Told) → says (told_by_both a b) ≡ (says a || says b)) →
          list_any (λ w. says w.told) vs ≡ (list_any says core_tolds || list_any says bank_tolds)

    handed : (ws vs : List (Worker P)) → length vs ≡ length ws →
        ((i : ℕ) (w v : Worker P) → slice_get ws i ≡ Some w → slice_get vs i ≡ Some v → Gave acts m fair Many w v) →
        Handed ws vs
    handed [] [] long each =
        record {
          core_tolds = [];
          bank_tolds = [];
          cores = no_hand;
          banks = no_hand;
          told = λ says adds. refl;
        }
    handed [] (v ∷ vs) long each = absurd (omega (arith, long))
    handed (w ∷ ws) [] long each = absurd (omega (arith, long))
    handed (w ∷ ws) (v ∷ vs) long each =
        let first = each zero w v refl refl in
        let rest = handed ws vs (omega (arith, long)) (λ i x y e f. each (suc i) x y e f) in
        record {
          core_tolds = first.core_told ∷ rest.core_tolds;
          bank_tolds = first.bank_told ∷ rest.bank_tolds;
          cores = one_hand first.of_cores rest.cores;
          banks = one_hand first.of_banks rest.banks;
          told = λ says adds.
              ap₂ (λ a b. a || b) (ap says first.told_is ∙ adds first.core_told first.bank_told)
              (rest.told says adds)
              ∙ or_swap (says first.core_told) (says first.bank_told) (list_any says rest.core_tolds)
              (list_any says rest.bank_tolds);
        }

    -- the seats and programs of a shift, dealt before and gathered afterwards
    pub all_worked : (n : ℕ) (s t : Shift P) (ws vs : List (Worker P)) (told : Told) →
        AreDealt n s.cores.items s.programs.items s.banks.items (core_hands ws) (program_hands ws) (bank_hands ws) →
        AllGave acts m fair Many ws vs → length t.cores.items ≡ length s.cores.items →
        length t.programs.items ≡ length s.programs.items → length t.banks.items ≡ length s.banks.items →
        length s.programs.items ≡ length s.cores.items →
        AreDealt n t.cores.items t.programs.items t.banks.items (core_hands vs) (program_hands vs) (bank_hands vs) →
        told.no_memory ≡ list_any (λ w. w.told.no_memory) vs →
        told.is_exhausted ≡ list_any (λ w. w.told.is_exhausted) vs →
        told.has_progressed ≡ list_any (λ w. w.told.has_progressed) vs →
        SeatsGiven acts m fair Many s.cores.items s.banks.items s.programs.items told t.cores.items t.banks.items
        t.programs.items
    all_worked n s t ws vs told dealt work core_long program_long bank_long one_each after lacks stops moves =
        let all = handed ws vs work.long work.each in
        let pairs = zip s.cores.items s.programs.items in
        let pairs' = zip t.cores.items t.programs.items in
        let d = pairs_dealt n s.cores.items s.programs.items ws dealt.cores_dealt dealt.programs_dealt in
        let d' = pairs_dealt n t.cores.items t.programs.items vs after.cores_dealt after.programs_dealt in
        let long : length pairs' ≡ length pairs =
        pairs_long t.cores.items t.programs.items (program_long ∙ one_each ∙ sym core_long) ∙ core_long
        ∙ sym (pairs_long s.cores.items s.programs.items one_each) in
        let first : ℕ = length s.cores.items in
        let e = dealt.banks_dealt in
        let e' = subst (λ c. IsDealtInTurn t.banks.items c n (bank_hands vs)) core_long after.banks_dealt in
        let bit = λ (says : Told → Bool) (adds : (a b : Told) → says (told_by_both a b) ≡ (says a || says b))
        (silent : says quiet ≡ false).
        all.told says adds
        ∙ sym (ap₂ (λ a b. a || b)
        (said_together Many 0 n pairs pairs' (pair_hands ws) (pair_hands vs) all.core_tolds all.cores d d' long says
        adds silent)
        (said_together Many first n s.banks.items t.banks.items (bank_hands ws) (bank_hands vs) all.bank_tolds
        all.banks e e' bank_long says adds silent)) in
        let core_told : Told = gathered_told Many 0 n pairs pairs' (pair_hands ws) (pair_hands vs) all.core_tolds
        all.cores d d' long in
        let bank_told : Told = gathered_told Many first n s.banks.items t.banks.items (bank_hands ws) (bank_hands vs)
        all.bank_tolds all.banks e e' bank_long in
        record {
          cores_long = core_long;
          programs_long = program_long;
          core_told = core_told;
          bank_told = bank_told;
          of_cores = gathered_given Many 0 n pairs pairs' (pair_hands ws) (pair_hands vs) all.core_tolds all.cores d d'
              long;
          of_banks = gathered_given Many first n s.banks.items t.banks.items (bank_hands ws) (bank_hands vs)
              all.bank_tolds all.banks e e' bank_long;
          told_is = same_told told (told_by_both core_told bank_told)
              (lacks ∙ bit (λ t. t.no_memory) (λ a b. refl) refl)
              (stops ∙ bit (λ t. t.is_exhausted) (λ a b. refl) refl)
              (moves ∙ bit (λ t. t.has_progressed) (λ a b. refl) refl);
        }
