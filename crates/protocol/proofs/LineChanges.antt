use Rattle.std.proofs.Common.{◌≡◌, ◌≢◌, ℕ, ◌+◌, ◌≤◌, max, Bool, true, false, List, ◌∷◌, Option, Some, None, ◌⊎◌, inl}
use Rattle.std.proofs.Common.{inr, refl, sym, ap, ◌∙◌, subst, arith, le_trans, le_refl, ⊎_elim, rules}
use Rattle.std.proofs.lemmas.Bool.Decides.{nat_tests}
use Rattle.std.specs.List.{AllByRecursion as Each}
use Rattle.std.specs.List.Sorted.{IsPermutation}
use Rattle.std.proofs.lemmas.Bool.{cases_eq}
use Rattle.physiological_order.specs.declared.operation.Record.{Record}
use Rattle.physiological_order.specs.Order.{Memory}
use Rattle.protocol.specs.Machine.{RenewRep, LineTransition, evict_shared, evict_exclusive, written_back, flush_returns}
use Rattle.protocol.specs.Machine.{Config, UpgradeRep, load_starts, flush_starts, evict_clean, evict_dirty, dram_stores}
use Rattle.protocol.specs.Machine.{Copy, Exclusive, Recalling, DramLdRep, DramStRep, wb_dropped, wb_returns, dram_loads}
use Rattle.protocol.specs.Machine.{Absent, Loading, Storing, Message, FlushReq, FlushRep, upgraded, wb_starts, shuffled}
use Rattle.protocol.specs.Machine.{Shared, DramLd, DramSt, with_at, dropped, flushed, renewed, leased, granted, loaded}
use Rattle.protocol.specs.Machine.{Timed, Entry, ShReq, ExReq, ShRep, ExRep, WbReq, WbRep, Line, stored, tally}
use Rattle.protocol.proofs.Bags.{tally-taken, each_taken}
use Rattle.protocol.proofs.Lease.{Current, Leased, Leased-from_Current, Current-raise, Current-fill, Leased-renew}
use Rattle.protocol.proofs.Lease.{Current-upgrade}
use Rattle.protocol.proofs.Lines.{Holder, Bank, At, Flying, flying, right, load, store, about, loading, storing}
use Rattle.protocol.proofs.Lines.{MessageOk, CopyOk, EntryOk, LineOk, with_at_other, with_at_cases, messages_keep}
use Rattle.protocol.proofs.Lines.{copy_keeps, with_bag}

-- holders are told apart
pub At≢Bank : (c : ℕ) → At c ≡ Bank → ⊥
At≢Bank c e = cc

pub At_injective : (c d : ℕ) → At c ≡ At d → c ≡ d
At_injective c d e = cc

pub flying_one : (b : Holder) → flying b ≡ 1 → b ≡ Flying
flying_one Flying e = refl
flying_one _ e = absurd (omega arith)

pub loading_one : (e : Entry) → loading e ≡ 1 → e ≡ Loading
loading_one Loading h = refl
loading_one _ h = absurd (omega arith)

pub storing_one : (e : Entry) → storing e ≡ 1 → e ≡ Storing
storing_one Storing h = refl
storing_one _ h = absurd (omega arith)

pub at_most_one : (b : Holder) → flying b ≤ 1
at_most_one Flying = omega arith
at_most_one _ = omega arith

pub loads_at_most_one : (e : Entry) → loading e ≤ 1
loads_at_most_one Loading = omega arith
loads_at_most_one _ = omega arith

pub stores_at_most_one : (e : Entry) → storing e ≤ 1
stores_at_most_one Storing = omega arith
stores_at_most_one _ = omega arith

-- a message that isn't counted
pub zero_more : (n k : ℕ) → n ≡ k → 0 + n ≡ k
zero_more n k e = omega arith

module _ (f : Config) (h : ℕ → Memory) (l : ℕ) (records : List Record) (busy : ℕ → ℕ) where
  abbrev pub Ok : ℕ → Line → Timed → Holder → Type 0
  Ok t x s b = LineOk f h l records busy t x s b

  abbrev pub Goes : ℕ → Line → Type 0
  Goes t x = (s : Timed) × (b : Holder) × LineOk f h l records busy t x s b

  -- where the right isn't at the bank, the entry is Exclusive or Recalling
  pub owned : (s : Timed) (b : Holder) (t : ℕ) (d : List ℕ) (e : Entry) → EntryOk s b t d e → b ≢ Bank →
      (loading e ≡ 0) × (storing e ≡ 0) × ((u : Timed) (b' : Holder) → b' ≢ Bank → EntryOk u b' t d e)
  owned s b t d (Exclusive o) k n = (refl, refl, λ u b' m. m)
  owned s b t d (Recalling o) k n = (refl, refl, λ u b' m. m)
  owned s b t d _ k n = absurd (n k.0)

  pub keep : (top : ℕ) (s : Timed) (x : Line) (ys : ℕ → Option Copy) (ms : List Message) →
      ((c : ℕ) → (tally (about c) ms ≡ 0) ⊎ (x.copies c ≡ ys c)) → Each (MessageOk f h l top s x.copies x.dram) ms →
      Each (MessageOk f h l top s ys x.dram) ms
  keep top s x ys ms b k = messages_keep f h h l top top s s x.copies ys x.dram x.dram (λ t a on le. refl) (le_refl _)
      ms (inr refl) (inr refl) (inr (refl, refl)) b k

  -- a core without a reply to come may lose its copy
  pub lost : (x : Line) (ms : List Message) (c : ℕ) (y : Option Copy) → tally (about c) ms ≡ 0 → (d : ℕ) →
      (tally (about d) ms ≡ 0) ⊎ (x.copies d ≡ with_at x.copies c y d)
  lost x ms c y e d = ⊎_elim (λ (q : d ≡ c). inl (subst (λ (i : ℕ). tally (about i) ms ≡ 0) (sym q) e))
      (λ (n : d ≡ c → ⊥). inr (sym (with_at_other x.copies c y d n))) (cases_eq d c)

  ok_evict_shared : {t : ℕ} (x : Line) {s : Timed} {b : Holder} (c : ℕ) (copy : Copy) → busy c ≡ 0 →
      x.copies c ≡ Some copy → copy.exclusive ≡ false → Ok t x s b →
      Ok t (record x { copies = with_at x.copies c None }) s b
  ok_evict_shared {t} x {s} {b} c copy free is sh k =
      record {
        current = k.current;
        top = k.top;
        within = k.within;
        copies = with_at_cases (λ d y. (cp : Copy) → y ≡ Some cp → CopyOk f h l k.top s b d cp) x.copies c None
            (λ cp e. cc) (λ d ne cp e. k.copies d cp e);
        held = search (rules, with_at_other);
        messages = keep k.top s x (with_at x.copies c None) x.messages (lost x x.messages c None (k.asks c ∙ free))
            k.messages;
        owner_count = k.owner_count;
        loads = k.loads;
        stores = k.stores;
        asks = k.asks;
        entry = k.entry;
      }

  -- messages are a bag
  pub ok_shuffled : {t : ℕ} (x : Line) {s : Timed} {b : Holder} (ms : List Message) → IsPermutation x.messages ms →
      Ok t x s b → Ok t (record x { messages = ms }) s b
  ok_shuffled {t} x {s} {b} ms p k =
      with_bag f h l k x.entry ms x.dram
      (each_taken (MessageOk f h l k.top s x.copies x.dram) x.messages ms p k.messages)
      (sym (tally-taken right x.messages ms p) ∙ k.owner_count) (sym (tally-taken load x.messages ms p) ∙ k.loads)
      (sym (tally-taken store x.messages ms p) ∙ k.stores)
      (λ c. sym (tally-taken (about c) x.messages ms p) ∙ k.asks c) k.entry

  -- the message that is taken comes first
  abbrev Has : ℕ → Line → Message → List Message → Timed → Holder → Type 0
  Has t x m rest s b = Ok t (record x { messages = m ∷ rest }) s b

  -- a message that counts as nothing may go
  ok_without : {t : ℕ} (x : Line) {s : Timed} {b : Holder} (m : Message) (rest : List Message) → right m ≡ 0 →
      load m ≡ 0 → store m ≡ 0 → ((c : ℕ) → about c m ≡ 0) → Has t x m rest s b →
      Ok t (record x { messages = rest }) s b
  ok_without {t} x {s} {b} m rest r d w a k = grind (arith, nat_tests)

  -- the owner sends the line back, as it stands or leased longer
  ok_evict_exclusive : {t : ℕ} (x : Line) {s : Timed} {b : Holder} (c : ℕ) (copy : Copy) → busy c ≡ 0 →
      x.copies c ≡ Some copy → copy.exclusive ≡ true → Ok t x s b →
      Ok t (record x { copies = with_at x.copies c None; messages = FlushRep c copy.line ∷ x.messages }) s Flying
  ok_evict_exclusive {t} x {s} {b} c copy free is ex k =
      let own = (k.copies c copy is).0 ex in
      let away : b ≢ Bank = λ e. At≢Bank c (sym own.0 ∙ e) in
      let no_owner : tally right x.messages ≡ 0 = k.owner_count ∙ ap flying own.0 in
      let e = owned s b t x.dram x.entry k.entry away in
      record {
        current = k.current;
        top = k.top;
        within = k.within;
        copies = with_at_cases (λ d y. (cp : Copy) → y ≡ Some cp → CopyOk f h l k.top s Flying d cp) x.copies
            c None (λ cp e. cc)
            (λ d ne cp e. copy_keeps f h h l k.top k.top s s x.copies x.copies x.dram x.dram (λ t a on le. refl)
            (le_refl _) b Flying d cp (inl (λ q. ne (sym (At_injective c d (sym own.0 ∙ q))))) (k.copies d cp e));
        held = λ d at. absurd (cc);
        messages = (
          own.1,
          keep k.top s x (with_at x.copies c None) x.messages (lost x x.messages c None (k.asks c ∙ free)) k.messages,
        );
        owner_count = omega arith;
        loads = zero_more _ _ k.loads;
        stores = zero_more _ _ k.stores;
        asks = λ d. zero_more _ _ (k.asks d);
        entry = e.2 s Flying (λ q. cc);
      }

  ok_written_back : {t : ℕ} (x : Line) {s : Timed} {b : Holder} (c rts : ℕ) (copy : Copy) → busy c ≡ 0 →
      x.copies c ≡ Some copy → copy.exclusive ≡ true → copy.line.rts ≤ rts → Ok t x s b →
      Ok t (record x {
        copies =
            with_at x.copies c
            (Some (record { exclusive = false; written = false; line = record (copy.line) { rts = rts } }));
        messages = WbRep c (record (copy.line) { rts = rts }) ∷ x.messages;
      }) (record (copy.line) { rts = rts }) Flying
  ok_written_back {t} x {s} {b} c rts copy free is ex le k =
      let own = (k.copies c copy is).0 ex in
      let u : Timed = record (copy.line) { rts = rts } in
      let new : Option Copy = Some (record { exclusive = false; written = false; line = u }) in
      let away : b ≢ Bank = λ e. At≢Bank c (sym own.0 ∙ e) in
      let no_owner : tally right x.messages ≡ 0 = k.owner_count ∙ ap flying own.0 in
      let e = owned s b t x.dram x.entry k.entry away in
      let up : s.rts ≤ rts = subst (λ (y : Timed). y.rts ≤ rts) own.1 le in
      let words : s.words ≡ copy.line.words = sym (ap (λ (y : Timed). y.words) own.1) in
      let st = Current-raise f h records l copy.line rts le (subst (Current f h records l) (sym own.1) k.current) in
      record {
        current = st;
        top = rts;
        within = le_refl _;
        copies = with_at_cases (λ d y. (cp : Copy) → y ≡ Some cp → CopyOk f h l rts u Flying d cp) x.copies c new
            (search (rules, Leased-from_Current))
            (λ d ne cp e. copy_keeps f h h l k.top rts s u x.copies x.copies x.dram x.dram (λ t a on le. refl)
            (le_trans k.within up) b Flying d cp (inl (λ q. ne (sym (At_injective c d (sym own.0 ∙ q)))))
            (k.copies d cp e));
        held = λ d at. absurd (cc);
        messages = (
          refl,
          messages_keep f h h l k.top rts s u x.copies (with_at x.copies c new) x.dram x.dram
              (λ t a on le. refl) (le_trans k.within up) x.messages (inl no_owner) (inr words) (inr (words, refl))
              (lost x x.messages c new (k.asks c ∙ free)) k.messages,
        );
        owner_count = omega arith;
        loads = zero_more _ _ k.loads;
        stores = zero_more _ _ k.stores;
        asks = λ d. zero_more _ _ (k.asks d);
        entry = e.2 u Flying (λ q. cc);
      }

  -- a recall is only a request
  ok_recalls : {t : ℕ} (x : Line) {s : Timed} {b : Holder} (owner : ℕ) (m : Message) → x.entry ≡ Exclusive owner →
      ((top : ℕ) → MessageOk f h l top s x.copies x.dram m) → right m ≡ 0 → load m ≡ 0 → store m ≡ 0 →
      ((c : ℕ) → about c m ≡ 0) → Ok t x s b → Ok t (record x { entry = Recalling owner; messages = m ∷ x.messages })
      s b
  ok_recalls {t} x {s} {b} owner m is fine r d w a k = grind (arith, nat_tests)

  ok_load_starts : {t : ℕ} (x : Line) {s : Timed} {b : Holder} → x.entry ≡ Absent → Ok t x s b →
      Ok t (record x { entry = Loading; messages = DramLd ∷ x.messages }) s b
  ok_load_starts {t} x {s} {b} is k = grind (arith, nat_tests)

  -- at the bank, no core has the right
  at_bank : (s : Timed) (b : Holder) → b ≡ Bank → (c : ℕ) → b ≡ At c → ⊥
  at_bank s b e c q = At≢Bank c (sym q ∙ e)

  -- a Shared line is leased longer, whatever reply goes out
  ok_leases : {t : ℕ} (x : Line) {s : Timed} {b : Holder} (dirty : Bool) (line : Timed) (rts : ℕ) (m n : Message)
      (rest : List Message) → x.entry ≡ Shared dirty line → line.rts ≤ rts → right m ≡ 0 → right n ≡ 0 → load m ≡ 0 →
      load n ≡ 0 → store m ≡ 0 → store n ≡ 0 → ((c : ℕ) → about c m ≡ about c n) →
      ((top : ℕ) → Current f h records l line → MessageOk f h l top line x.copies x.dram m →
      MessageOk f h l rts (record line { rts = rts }) x.copies x.dram n) →
      Has t x m rest s b → Ok t (record x { entry = Shared dirty (record line { rts = rts }); messages = n ∷ rest })
      (record line { rts = rts }) Bank
  ok_leases {t} x {s} {b} dirty line rts m n rest is le rm rn dm dn wm wn a answer k =
      let u : Timed = record line { rts = rts } in
      let e : EntryOk s b t x.dram (Shared dirty line) = subst (EntryOk s b t x.dram) is k.entry in
      let no_owners : right m + tally right rest ≡ 0 = k.owner_count ∙ ap flying e.0 in
      let no_loads : load m + tally load rest ≡ 0 = k.loads ∙ ap loading is in
      let no_stores : store m + tally store rest ≡ 0 = k.stores ∙ ap storing is in
      let st : Current f h records l line = subst (Current f h records l) (sym e.1) k.current in
      let up : s.rts ≤ rts = subst (λ (y : Timed). y.rts ≤ rts) e.1 le in
      let words : s.words ≡ line.words = sym (ap (λ (y : Timed). y.words) e.1) in
      record {
        current = Current-raise f h records l line rts le st;
        top = rts;
        within = le_refl _;
        copies = λ c cp is_cp. copy_keeps f h h l k.top rts s u x.copies x.copies x.dram x.dram (λ t a on le. refl)
            (le_trans k.within up) b Bank c cp (inl (at_bank s b e.0 c)) (k.copies c cp is_cp);
        held = λ c at. absurd (cc);
        messages = (
          answer k.top st (subst (λ (y : Timed). MessageOk f h l k.top y x.copies x.dram m) (sym e.1) k.messages.0),
          messages_keep f h h l k.top rts s u x.copies x.copies x.dram x.dram (λ t a on le. refl)
              (le_trans k.within up) rest (inl (omega arith)) (inr words) (inr (words, refl)) (λ c. inr refl)
              k.messages.1,
        );
        owner_count = omega arith;
        loads = omega arith;
        stores = omega arith;
        asks = λ c. let r = k.asks c in let z = a c in omega arith;
        entry = (refl, refl, λ z. e.2 z ∙ words);
      }

  -- the right goes out to a core, with the line or with a word that the core's own copy stands
  ok_grants : {t : ℕ} (x : Line) {s : Timed} (u : Timed) {b : Holder} (owner : ℕ) (dirty : Bool) (line : Timed)
      (m n : Message) (rest : List Message) → x.entry ≡ Shared dirty line → right m ≡ 0 → right n ≡ 1 → load m ≡ 0 →
      load n ≡ 0 → store m ≡ 0 → store n ≡ 0 → ((c : ℕ) → about c m ≡ about c n) →
      Current f h records l u → s.rts ≤ u.rts → MessageOk f h l u.rts u x.copies x.dram n →
      Has t x m rest s b → Ok t (record x { entry = Exclusive owner; messages = n ∷ rest }) u Flying
  ok_grants {t} x {s} u {b} owner dirty line m n rest is rm rn dm dn wm wn a st up answer k =
      let e : EntryOk s b t x.dram (Shared dirty line) = subst (EntryOk s b t x.dram) is k.entry in
      let no_owners : right m + tally right rest ≡ 0 = k.owner_count ∙ ap flying e.0 in
      let no_loads : load m + tally load rest ≡ 0 = k.loads ∙ ap loading is in
      let no_stores : store m + tally store rest ≡ 0 = k.stores ∙ ap storing is in
      record {
        current = st;
        top = u.rts;
        within = le_refl _;
        copies = λ c cp is_cp. copy_keeps f h h l k.top u.rts s u x.copies x.copies x.dram x.dram (λ t a on le. refl)
            (le_trans k.within up) b Flying c cp (inl (at_bank s b e.0 c)) (k.copies c cp is_cp);
        held = λ c at. absurd (cc);
        messages = (
          answer,
          messages_keep f h h l k.top u.rts s u x.copies x.copies x.dram x.dram (λ t a on le. refl)
              (le_trans k.within up) rest (inl (omega arith)) (inl (omega arith)) (inl (omega arith))
              (λ c. inr refl) k.messages.1,
        );
        owner_count = omega arith;
        loads = omega arith;
        stores = omega arith;
        asks = λ c. let r = k.asks c in let z = a c in omega arith;
        entry = λ z. cc;
      }

  -- the right comes back
  ok_returns : {t : ℕ} (x : Line) {s : Timed} {b : Holder} (line : Timed) (m : Message) (rest : List Message) →
      right m ≡ 1 → load m ≡ 0 → store m ≡ 0 → ((c : ℕ) → about c m ≡ 0) →
      ((top : ℕ) → MessageOk f h l top s x.copies x.dram m → line ≡ s) →
      Has t x m rest s b → Ok t (record x { entry = Shared true line; messages = rest }) s Bank
  ok_returns {t} x {s} {b} line m rest r d w a tells k =
      let one = at_most_one b in
      let all : right m + tally right rest ≡ flying b = k.owner_count in
      let fl : b ≡ Flying = flying_one b (omega arith) in
      let e = owned s b t x.dram x.entry k.entry (λ q. let z : Flying ≡ Bank = sym fl ∙ q in cc) in
      let no_loads : load m + tally load rest ≡ 0 = k.loads ∙ e.0 in
      let no_stores : store m + tally store rest ≡ 0 = k.stores ∙ e.1 in
      record {
        current = k.current;
        top = k.top;
        within = k.within;
        copies = λ c cp is_cp. copy_keeps f h h l k.top k.top s s x.copies x.copies x.dram x.dram (λ t a on le. refl)
            (le_refl _) b Bank c cp (inl (λ q. let z : Flying ≡ At c = sym fl ∙ q in cc)) (k.copies c cp is_cp);
        held = λ c at. absurd (cc);
        messages = k.messages.1;
        owner_count = omega arith;
        loads = omega arith;
        stores = omega arith;
        asks = λ c. let r = k.asks c in let z = a c in omega arith;
        entry = (refl, tells k.top k.messages.0, λ z. cc);
      }

  -- the words come from DRAM, at the bank's time
  ok_loaded : {t : ℕ} (x : Line) {s : Timed} {b : Holder} (words : List ℕ) (rest : List Message) →
      Has t x (DramLdRep words) rest s b →
      let u : Timed = record { wts = t; rts = t; words = words } in
      Ok t (record x { entry = Shared false u; messages = rest }) u Bank
  ok_loaded {t} x {s} {b} words rest k =
      let u : Timed = record { wts = t; rts = t; words = words } in
      let one = loads_at_most_one x.entry in
      let all : 1 + tally load rest ≡ loading x.entry = k.loads in
      let is = loading_one x.entry (omega arith) in
      let e : EntryOk s b t x.dram Loading = subst (EntryOk s b t x.dram) is k.entry in
      let no_owners : 0 + tally right rest ≡ 0 = k.owner_count ∙ ap flying e.0 in
      let no_stores : 0 + tally store rest ≡ 0 = k.stores ∙ ap storing is in
      let told = k.messages.0 in
      record {
        current = Current-fill f h records l s t words e.1 told k.current;
        top = k.top;
        within = le_trans k.within e.1;
        copies = λ c cp is_cp. copy_keeps f h h l k.top k.top s u x.copies x.copies x.dram x.dram (λ t a on le. refl)
            (le_refl _) b Bank c cp (inl (at_bank s b e.0 c)) (k.copies c cp is_cp);
        held = λ c at. absurd (cc);
        messages = messages_keep f h h l k.top k.top s u x.copies x.copies x.dram x.dram (λ t a on le. refl)
            (le_refl _) rest (inl (omega arith)) (inr (sym told)) (inr (sym told, refl)) (λ c. inr refl) k.messages.1;
        owner_count = omega arith;
        loads = omega arith;
        stores = omega arith;
        asks = λ c. let q = k.asks c in omega arith;
        entry = (refl, refl, λ z. e.2 ∙ sym told);
      }

  ok_stored : {t : ℕ} (x : Line) {s : Timed} {b : Holder} (rest : List Message) → Has t x DramStRep rest s b →
      Ok t (record x { entry = Absent; messages = rest }) s b
  ok_stored {t} x {s} {b} rest k = let q0 = stores_at_most_one x.entry in grind (arith, nat_tests, q0)

  ok_evict_clean : {t : ℕ} (x : Line) {s : Timed} {b : Holder} (line : Timed) → x.entry ≡ Shared false line →
      Ok t x s b → Ok (max t line.rts) (record x { entry = Absent }) s b
  ok_evict_clean {t} x {s} {b} line is k = grind (arith, nat_tests)

  ok_evict_dirty : {t : ℕ} (x : Line) {s : Timed} {b : Holder} (line : Timed) → x.entry ≡ Shared true line →
      Ok t x s b → Ok (max t line.rts) (record x { entry = Storing; messages = DramSt line.words ∷ x.messages }) s b
  ok_evict_dirty {t} x {s} {b} line is k = grind (arith, nat_tests)

  ok_dram_loads : {t : ℕ} (x : Line) {s : Timed} {b : Holder} (rest : List Message) → Has t x DramLd rest s b →
      Ok t (record x { messages = DramLdRep x.dram ∷ rest }) s b
  ok_dram_loads {t} x {s} {b} rest k = let q0 = loads_at_most_one x.entry in grind (arith, nat_tests, q0)

  ok_dram_stores : {t : ℕ} (x : Line) {s : Timed} {b : Holder} (words : List ℕ) (rest : List Message) →
      Has t x (DramSt words) rest s b → Ok t (record x { dram = words; messages = DramStRep ∷ rest }) s b
  ok_dram_stores {t} x {s} {b} words rest k =
      let one = stores_at_most_one x.entry in
      let all : 1 + tally store rest ≡ storing x.entry = k.stores in
      let is = storing_one x.entry (omega arith) in
      let e : EntryOk s b t x.dram Storing = subst (EntryOk s b t x.dram) is k.entry in
      with_bag f h l k x.entry (DramStRep ∷ rest) words (
        k.messages.0,
        messages_keep f h h l k.top k.top s s x.copies x.copies x.dram words (λ t a on le. refl)
            (le_refl _) rest (inr refl) (inr refl) (inl (omega arith)) (λ c. inr refl) k.messages.1,
      ) k.owner_count k.loads k.stores k.asks (subst (EntryOk s b t words) (sym is) e)

  -- an equal version is renewed without its words
  renewed_ok : (x : Line) (c pts bound : ℕ) (line : Timed) (rts : ℕ) → line.rts ≤ rts →
      ((copy : Copy) → x.copies c ≡ Some copy → copy.exclusive ≡ false → Leased f h l bound copy.line) →
      (top : ℕ) → Current f h records l line → MessageOk f h l top line x.copies x.dram (ShReq c pts (Some line.wts))
      → MessageOk f h l rts (record line { rts = rts }) x.copies x.dram (RenewRep c rts)
  renewed_ok x c pts bound line rts le lease top st k =
      let a = k.1 in (
        a.0,
        a.1,
        a.2,
        Leased-renew f h records l bound line (a.0.line) rts st (lease a.0 a.1 a.2) a.3 (le_trans st.order le),
      )

  ok_upgraded : {t : ℕ} (x : Line) {s : Timed} {b : Holder} (c : ℕ) (dirty : Bool) (line : Timed)
      (rest : List Message) → x.entry ≡ Shared dirty line → Has t x (ExReq c (Some line.wts)) rest s b →
      Goes t (record x { entry = Exclusive c; messages = UpgradeRep c line.rts ∷ rest })
  ok_upgraded {t} x {s} {b} c dirty line rest is k =
      let e : EntryOk s b t x.dram (Shared dirty line) = subst (EntryOk s b t x.dram) is k.entry in
      let a = k.messages.0 in
      let u : Timed = record (a.0.line) { rts = s.rts } in
      let st = Current-upgrade f h records l k.top s (a.0.line) k.current ((k.copies c a.0 a.1).1 a.2)
      (a.3 ∙ ap (λ (y : Timed). y.wts) e.1) in (
        u,
        Flying,
        ok_grants x u c dirty line (ExReq c (Some line.wts)) (UpgradeRep c line.rts) rest is refl refl refl
            refl refl refl (λ d. refl) st (le_refl _)
            (a.0, a.1, a.2, ap (λ (r : ℕ). record (a.0.line) { rts = r }) (ap (λ (y : Timed). y.rts) e.1)) k,
      )

  -- every move of one line keeps it
  pub moves_keep : {lease : ℕ} {loses : Bool} {pinned : ℕ → Type 0} {t : ℕ} {x : Line} {u : ℕ} {y : Line} →
      ((c : ℕ) → (pinned c → ⊥) → busy c ≡ 0) → LineTransition lease loses pinned t x u y → Goes t x → Goes u y
  moves_keep {lease} {loses} {pinned} {t} {x} free move k = by_move move
    where
      -- a message that is taken comes first
      has : (m : Message) (rest : List Message) → IsPermutation x.messages (m ∷ rest) → Has t x m rest k.0 k.1
      has m rest p = ok_shuffled x (m ∷ rest) p k.2

      by_move : {u : ℕ} {y : Line} → LineTransition lease loses pinned t x u y → Goes u y
      by_move (evict_shared c copy un is sh) = (k.0, k.1, ok_evict_shared x c copy (free c un) is sh k.2)
      by_move (evict_exclusive c copy un is ex) = (k.0, Flying, ok_evict_exclusive x c copy (free c un) is ex k.2)
      by_move (dropped c rest p may) =
          (k.0, k.1, ok_without x (FlushReq c) rest refl refl refl (λ d. refl) (has _ rest p))
      by_move (wb_dropped c until rest p may) =
          (k.0, k.1, ok_without x (WbReq c until) rest refl refl refl (λ d. refl) (has _ rest p))
      by_move (flushed c rest copy p un is ex) =
          let gone = ok_without x (FlushReq c) rest refl refl refl (λ d. refl) (has _ rest p) in
          (k.0, Flying, ok_evict_exclusive (record x { messages = rest }) c copy (free c un) is ex gone)
      by_move (written_back c until rest copy p un is ex) =
          let gone = ok_without x (WbReq c until) rest refl refl refl (λ d. refl) (has _ rest p) in
          let rts = max (max copy.line.rts (copy.line.wts + lease)) until in
          (_, Flying, ok_written_back (record x { messages = rest }) c rts copy (free c un) is ex (omega arith) gone)
      by_move (load_starts is) = (k.0, k.1, ok_load_starts x is k.2)
      by_move (renewed c pts dirty line rest is p) =
          let rts = max (max line.rts (line.wts + lease)) (pts + lease) in (
            _,
            Bank,
            ok_leases x dirty line rts (ShReq c pts (Some line.wts)) (RenewRep c rts) rest is (omega arith)
                refl refl refl refl refl refl (λ d. refl)
                (renewed_ok x c pts k.2.top line rts (omega arith) (λ cp i sh. (k.2.copies c cp i).1 sh))
                (has _ rest p),
          )
      by_move (leased c pts version dirty line rest is p) =
          let rts = max (max line.rts (line.wts + lease)) (pts + lease) in
          let le : line.rts ≤ rts = omega arith in (
            _,
            Bank,
            ok_leases x dirty line rts (ShReq c pts version) (ShRep c (record line { rts = rts })) rest is le
                refl refl refl refl refl refl (λ d. refl)
                (search (rules, Leased-from_Current, Current-raise)) (has _ rest p),
          )
      by_move (upgraded c dirty line rest is p) = ok_upgraded x c dirty line rest is (has _ rest p)
      by_move (granted c version dirty line rest is p) =
          let e : EntryOk k.0 k.1 t x.dram (Shared dirty line) = subst (EntryOk k.0 k.1 t x.dram) is k.2.entry in (
            k.0,
            Flying,
            ok_grants x k.0 c dirty line (ExReq c version) (ExRep c line) rest is refl refl refl
                refl refl refl (λ d. refl) k.2.current (le_refl _) e.1 (has _ rest p),
          )
      by_move (wb_starts owner until is) =
          (k.0, k.1, ok_recalls x owner (WbReq owner until) is (λ n. tt) refl refl refl (λ d. refl) k.2)
      by_move (flush_starts owner is) =
          (k.0, k.1, ok_recalls x owner (FlushReq owner) is (λ n. tt) refl refl refl (λ d. refl) k.2)
      by_move (flush_returns c line rest p) =
          (k.0, Bank, ok_returns x line _ rest refl refl refl (λ d. refl) (λ n e. e) (has _ rest p))
      by_move (wb_returns c line rest p) =
          (k.0, Bank, ok_returns x line _ rest refl refl refl (λ d. refl) (λ n e. e) (has _ rest p))
      by_move (loaded words rest p) = (_, Bank, ok_loaded x words rest (has _ rest p))
      by_move (stored rest p) = (k.0, k.1, ok_stored x rest (has _ rest p))
      by_move (evict_clean line is) = (k.0, k.1, ok_evict_clean x line is k.2)
      by_move (evict_dirty line is) = (k.0, k.1, ok_evict_dirty x line is k.2)
      by_move (shuffled ms p) = (k.0, k.1, ok_shuffled x ms p k.2)
      by_move (dram_loads rest p) = (k.0, k.1, ok_dram_loads x rest (has _ rest p))
      by_move (dram_stores words rest p) = (k.0, k.1, ok_dram_stores x words rest (has _ rest p))
