-- Hands that become those of workers, and workers that put theirs into hands again.
use Rattle.std.proofs.Common.{◌≡◌, ℕ, List, [], ◌∷◌, ◌++◌, length, map, sym, ap, subst, ◌∙◌, append_assoc, arith}
use Rattle.std.proofs.Common.{length-append, option_to_list, Option, Some, Result, Ok}
use Rattle.std.specs.Prelude.{if◌then◌else◌, is_ok}
use Rattle.std.proofs.lemmas.List.{length-map, map-append, nil_from_length}
use Rattle.mailboxes.specs.declared.core_seat.CoreSeat.{CoreSeat}
use Rattle.mailboxes.specs.declared.bank_seat.BankSeat.{BankSeat}
use Rattle.round_robin.specs.Dealing.{HasLengths, IsDealtInTurn, total_length}
use Rattle.thread_driver.specs.declared.worker.Worker.{Worker}
use Rattle.thread_driver.specs.declared.worker.Hands.{Hands}
use Rattle.thread_driver.specs.Hands.{AreBack, AreDealt, AreHands, AreSplit, HaveLengths}
use Rattle.thread_driver.specs.Hands.{core_hands, program_hands, bank_hands, cores_in, programs_in, banks_in}

-- lists of which the last one goes to the front of others
pub one_over : {B V : Type 0} (f : V → B) (all : List B) (old new : List V) (v : V) (rest : List B) →
    all ≡ map f old ++ rest → old ≡ new ++ v ∷ [] → all ≡ map f new ++ (f v ∷ rest)
one_over f all old new v rest e is =
    e ∙ ap (λ vs. map f vs ++ rest) is ∙ ap (λ ls. ls ++ rest) (map-append f new (v ∷ []))
    ∙ append_assoc (map f new) (f v ∷ []) rest

-- two lists of one length that lose their last values
pub both_shorter : {A B : Type 0} (xs xs' : List A) (x : A) (ys ys' : List B) (y : B) → xs ≡ xs' ++ x ∷ [] →
    ys ≡ ys' ++ y ∷ [] → length ys ≡ length xs → length ys' ≡ length xs'
both_shorter xs xs' x ys ys' y ex ey same =
    let a = ap length ex ∙ length-append xs' (x ∷ []) in
    let b = ap length ey ∙ length-append ys' (y ∷ []) in
    omega arith

-- what was popped is behind the rest
pub popped : {A : Type 0} (old new : List A) (o : Option A) (x : A) → old ≡ new ++ option_to_list o → o ≡ Some x →
    old ≡ new ++ x ∷ []
popped old new o x e is = e ∙ ap (λ z. new ++ option_to_list z) is

-- one more in front
pub inserted : {A B E : Type 0} (old new : List A) (x : A) (r : Result B E) (b : B) →
    new ≡ (if is_ok r then x ∷ old else old) → r ≡ Ok b → new ≡ x ∷ old
inserted old new x r b e is = e ∙ ap (λ z. if is_ok z then x ∷ old else old) is

module _ {P : Type 0} where
  pub split_more : (all left new : Hands P) (ws : List (Worker P)) (w : Worker P) → AreSplit all left ws →
      left.cores.items ≡ new.cores.items ++ w.cores ∷ [] → left.programs.items ≡ new.programs.items ++ w.programs ∷ [] →
      left.banks.items ≡ new.banks.items ++ w.banks ∷ [] → AreSplit all new (w ∷ ws)
  split_more all left new ws w s cores programs banks =
      record {
        cores = one_over (λ v. v.items) (cores_in all) left.cores.items new.cores.items w.cores (core_hands ws) s.cores
            cores;
        programs = one_over (λ v. v.items) (programs_in all) left.programs.items new.programs.items w.programs
            (program_hands ws) s.programs programs;
        banks = one_over (λ v. v.items) (banks_in all) left.banks.items new.banks.items w.banks (bank_hands ws) s.banks
            banks;
      }

  -- all hands are with the workers
  module _ (n : ℕ) (cores : List CoreSeat) (programs : List P) (banks : List BankSeat) (all left : Hands P)
      (ws : List (Worker P)) where
    pub dealt_to : AreDealt n cores programs banks (cores_in all) (programs_in all) (banks_in all) →
        AreSplit all left ws → AreHands 0 left →
        AreDealt n cores programs banks (core_hands ws) (program_hands ws) (bank_hands ws)
    dealt_to d s none =
        record {
          cores_dealt = subst (IsDealtInTurn cores 0 n)
              (s.cores ∙ ap (λ vs. map (λ v. v.items) vs ++ core_hands ws)
              (nil_from_length left.cores.items none.cores))
              d.cores_dealt;
          programs_dealt = subst (IsDealtInTurn programs 0 n)
              (s.programs ∙ ap (λ vs. map (λ v. v.items) vs ++ program_hands ws)
              (nil_from_length left.programs.items none.programs))
              d.programs_dealt;
          banks_dealt = subst (IsDealtInTurn banks (length cores) n)
              (s.banks ∙ ap (λ vs. map (λ v. v.items) vs ++ bank_hands ws)
              (nil_from_length left.banks.items none.banks))
              d.banks_dealt;
        }

    -- and so are all that were in them
    pub total_to : AreSplit all left ws → AreHands 0 left →
        (total_length (core_hands ws) ≡ total_length (cores_in all))
        × (total_length (bank_hands ws) ≡ total_length (banks_in all))
    total_to s none = (
      ap total_length (sym (s.cores
          ∙ ap (λ vs. map (λ v. v.items) vs ++ core_hands ws) (nil_from_length left.cores.items none.cores))),
      ap total_length (sym (s.banks
          ∙ ap (λ vs. map (λ v. v.items) vs ++ bank_hands ws) (nil_from_length left.banks.items none.banks))),
    )

  -- one worker's hands are back
  pub back_more : (all old new : List (Worker P)) (w : Worker P) (h h' : Hands P) → AreBack all old h →
      old ≡ new ++ w ∷ [] → h'.cores.items ≡ w.cores ∷ h.cores.items →
      h'.programs.items ≡ w.programs ∷ h.programs.items → h'.banks.items ≡ w.banks ∷ h.banks.items →
      AreBack all new h'
  back_more all old new w h h' b split cores programs banks =
      record {
        cores = one_over (λ (v : Worker P). v.cores.items) (core_hands all) old new w (cores_in h) b.cores split
            ∙ ap (λ vs. core_hands new ++ map (λ v. v.items) vs) (sym cores);
        programs = one_over (λ (v : Worker P). v.programs.items) (program_hands all) old new w (programs_in h)
            b.programs split ∙ ap (λ vs. program_hands new ++ map (λ v. v.items) vs) (sym programs);
        banks = one_over (λ (v : Worker P). v.banks.items) (bank_hands all) old new w (banks_in h) b.banks split
            ∙ ap (λ vs. bank_hands new ++ map (λ v. v.items) vs) (sym banks);
      }

  -- all workers' hands are back
  module _ (n : ℕ) (vs : List (Worker P)) (h : Hands P) (long : length vs ≡ n) (back : AreBack vs [] h) where
    hand_count : length h.cores.items ≡ n
    hand_count =
        sym (length-map h.cores.items (λ v. v.items)) ∙ sym (ap length back.cores)
        ∙ length-map {B = List CoreSeat} vs (λ (x : Worker P). x.cores.items) ∙ long

    pub lengths_back : (kc kp kb jc jp jb : ℕ) → jc ≡ kc → jp ≡ kp → jb ≡ kb →
        HaveLengths n kc kp kb (core_hands vs) (program_hands vs) (bank_hands vs) →
        HaveLengths (length h.cores.items) jc jp jb (cores_in h) (programs_in h) (banks_in h)
    lengths_back kc kp kb jc jp jb ec ep eb l =
        record {
          core_lengths = subst (λ m. HasLengths jc 0 m (cores_in h)) (sym hand_count)
              (subst (λ k. HasLengths k 0 n (cores_in h)) (sym ec)
              (subst (HasLengths kc 0 n) back.cores l.core_lengths));
          program_lengths = subst (λ m. HasLengths jp 0 m (programs_in h)) (sym hand_count)
              (subst (λ k. HasLengths k 0 n (programs_in h)) (sym ep)
              (subst (HasLengths kp 0 n) back.programs l.program_lengths));
          bank_lengths = subst (λ m. HasLengths jb jc m (banks_in h)) (sym hand_count)
              (subst (λ k. HasLengths k jc n (banks_in h)) (sym eb)
              (subst (λ k. HasLengths kb k n (banks_in h)) (sym ec)
              (subst (HasLengths kb kc n) back.banks l.bank_lengths)));
        }

    pub dealt_back : (cores : List CoreSeat) (programs : List P) (banks : List BankSeat) →
        AreDealt (length h.cores.items) cores programs banks (cores_in h) (programs_in h) (banks_in h) →
        AreDealt n cores programs banks (core_hands vs) (program_hands vs) (bank_hands vs)
    dealt_back cores programs banks d =
        record {
          cores_dealt = subst (λ m. IsDealtInTurn cores 0 m (core_hands vs)) hand_count
              (subst (IsDealtInTurn cores 0 (length h.cores.items)) (sym back.cores) d.cores_dealt);
          programs_dealt = subst (λ m. IsDealtInTurn programs 0 m (program_hands vs)) hand_count
              (subst (IsDealtInTurn programs 0 (length h.cores.items)) (sym back.programs) d.programs_dealt);
          banks_dealt = subst (λ m. IsDealtInTurn banks (length cores) m (bank_hands vs)) hand_count
              (subst (IsDealtInTurn banks (length cores) (length h.cores.items)) (sym back.banks) d.banks_dealt);
        }
