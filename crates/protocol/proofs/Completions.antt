use Rattle.std.proofs.Common.{◌≡◌, ◌≢◌, ℕ, ◌+◌, ◌%◌, ◌<◌, ◌≤◌, max, true, List, [], rules, ◌∷◌, ◌++◌, Option, Some}
use Rattle.std.proofs.Common.{None, inl, inr, refl, sym, ap, ◌∙◌, subst, arith, le_trans, le_refl, lt_of_le_of_lt}
use Rattle.std.proofs.Common.{length-set, get_or-set_same, get_or-set_other}
use Rattle.std.proofs.lemmas.Bool.Decides.{nat_tests}
use Rattle.std.proofs.lemmas.Grind.{common_steps}
use Rattle.std.specs.Prelude.{slice_set}
use Rattle.std.proofs.Math.Nat.{mod-lt, div-add-mod}
use Rattle.std.specs.List.{AllByRecursion as Each}
use Rattle.std.proofs.Math.Path.{fun_ext}
use Rattle.physiological_order.specs.declared.operation.Op.{Op}
use Rattle.physiological_order.specs.declared.operation.Op.TheVariants.{Load, Store, Swap}
use Rattle.physiological_order.specs.declared.operation.Record.{Record}
use Rattle.physiological_order.specs.Order.{Memory, address, flat_received, flat_after}
use Rattle.physiological_order.proofs.Lemmas.{memory_at-placed_before, memory_at-placed_keeps, memory_at-placed_writes}
use Rattle.physiological_order.proofs.Lemmas.{Sorted, each_weaker, arranged-push, each_push, each_arranged}
use Rattle.protocol.specs.Machine.{Config, Timed, Copy, Line, line_of, word_at, with_at, write_time, Uses, load_hit}
use Rattle.protocol.specs.Machine.{load_own, store_own, swap_own, tally}
use Rattle.protocol.proofs.Lease.{Current}
use Rattle.protocol.proofs.Lines.{Holder, Bank, flying, right, CopyOk, LineOk, with_at_same, with_at_cases}
use Rattle.protocol.proofs.Lines.{messages_keep, copy_keeps}
use Rattle.protocol.proofs.LineChanges.{At≢Bank, At_injective, owned, lost, Goes}
use Rattle.protocol.proofs.Cores.{Some_injective}
use Rattle.physiological_order.specs.Completion.{Undisturbed, arranged, memory_at}

module _ (f : Config) (h g : ℕ → Memory) (l : ℕ) (records : List Record) (r : Record) where
  -- a record elsewhere, or of a load within the lease, keeps a line
  pub ok_beside : (busy : ℕ → ℕ) (t : ℕ) (x : Line) (s : Timed) (b : Holder) →
      ((t a : ℕ) → line_of f a ≡ l → g t a ≡ h t a) → (line_of f (address r.op) ≡ l → r.ts ≤ s.rts) →
      LineOk f h l records busy t x s b → LineOk f g l (records ++ r ∷ []) busy t x s b
  ok_beside busy t x s b same late k =
      record {
        current = search (rules, each_push);
        top = k.top;
        within = k.within;
        copies = λ c cp is. copy_keeps f h g l k.top k.top s s x.copies x.copies x.dram x.dram
            (λ u a on le. same u a on) (le_refl _) b b c cp (inr (refl, refl, refl)) (k.copies c cp is);
        held = k.held;
        messages = messages_keep f h g l k.top k.top s s x.copies x.copies x.dram x.dram (λ u a on le. same u a on)
            (le_refl _) x.messages (inr refl) (inr refl) (inr (refl, refl)) (λ c. inr refl) k.messages;
        owner_count = k.owner_count;
        loads = k.loads;
        stores = k.stores;
        asks = k.asks;
        entry = k.entry;
      }

  -- a record on the owner's copy
  ok_own : (busy : ℕ → ℕ) (t : ℕ) (x : Line) (s : Timed) (b : Holder) (c : ℕ) (copy new : Copy) → busy c ≡ 0 →
      x.copies c ≡ Some copy → copy.exclusive ≡ true → new.exclusive ≡ true →
      ((top : ℕ) → top ≤ copy.line.rts → (copy.written ≡ true → top < copy.line.wts) →
      ((t a : ℕ) → line_of f a ≡ l → t ≤ top → g t a ≡ h t a) × (new.written ≡ true → top < new.line.wts)) →
      copy.line.rts ≤ new.line.rts → (Current f h records l copy.line → Current f g (records ++ r ∷ []) l new.line) →
      LineOk f h l records busy t x s b → LineOk f g l (records ++ r ∷ []) busy t
      (record x { copies = with_at x.copies c (Some new) }) new.line b
  ok_own busy t x s b c copy new free is ex nex same up invariant k =
      let own = (k.copies c copy is).0 ex in
      let away : b ≢ Bank = λ e. At≢Bank c (sym own.0 ∙ e) in
      let no_owner : tally right x.messages ≡ 0 = k.owner_count ∙ ap flying own.0 in
      let e = owned f h l records busy s b t x.dram x.entry k.entry away in
      let at_most : k.top ≤ copy.line.rts = subst (λ (y : Timed). k.top ≤ y.rts) (sym own.1) k.within in
      let fresh = same k.top at_most (λ w. subst (λ (y : Timed). k.top < y.wts) (sym own.1) (own.2 w)) in
      record {
        current = invariant (subst (Current f h records l) (sym own.1) k.current);
        top = k.top;
        within = le_trans at_most up;
        copies = with_at_cases (λ d y. (cp : Copy) → y ≡ Some cp → CopyOk f g l k.top new.line b d cp)
            x.copies c (Some new)
            (search (rules, Some_injective))
            (λ d ne cp q. copy_keeps f h g l k.top k.top s new.line x.copies x.copies x.dram x.dram fresh.0
            (le_refl _) b b d cp (inl (λ w. ne (sym (At_injective c d (sym own.0 ∙ w))))) (k.copies d cp q));
        held = search (rules, At_injective, with_at_same);
        messages = messages_keep f h g l k.top k.top s new.line x.copies (with_at x.copies c (Some new)) x.dram x.dram
            fresh.0 (le_refl _) x.messages (inl no_owner) (inl (k.loads ∙ e.0)) (inl (k.stores ∙ e.1))
            (lost f h l records busy x x.messages c (Some new) (k.asks c ∙ free)) k.messages;
        owner_count = k.owner_count;
        loads = k.loads;
        stores = k.stores;
        asks = k.asks;
        entry = e.2 new.line b away;
      }

  -- what stands is read, and leased at least up to the read
  Current-read : (s : Timed) (rts : ℕ) → ((t a : ℕ) → line_of f a ≡ l → g t a ≡ h t a) → s.rts ≤ rts → r.ts ≤ rts →
      Current f h records l s → Current f g (records ++ r ∷ []) l (record s { rts = rts })
  Current-read s rts same up late k = search (rules, le_trans, each_push, each_weaker)

  -- two words of a line are at two places
  apart : (a b : ℕ) → 0 < f.line_words → line_of f a ≡ l → line_of f b ≡ l → b ≢ a → b % f.line_words ≢ a % f.line_words
  apart a b good on_a on_b ne e = grind (arith, nat_tests, common_steps, div-add-mod)

  -- what stands is written, above all that came before
  Current-write : (s : Timed) (a v : ℕ) → 0 < f.line_words → line_of f a ≡ l → s.rts ≤ r.ts → address r.op ≡ a →
      ((t b : ℕ) → b ≢ a → g t b ≡ h t b) → ((t : ℕ) → r.ts ≤ t → g t a ≡ v) →
      Current f h records l s → Current f g (records ++ r ∷ []) l (record {
        wts = r.ts;
        rts = r.ts;
        words = slice_set s.words (a % f.line_words) v;
      })
  Current-write s a v good on up at other here k =
      record {
        order = le_refl _;
        long = (let n = length-set s.words (a % f.line_words) v in let le = k.long in omega arith);
        value = search (rules, get_or-set_same, mod-lt, get_or-set_other, apart);
        past = search (rules, each_push, each_weaker, le_trans, le_refl);
      }

-- the values by the records so far
abbrev pub values : Config → List Record → ℕ → Memory
values f records t = memory_at f.opening (arranged records) t

module _ (f : Config) (records : List Record) (r : Record) where
  -- what a load changes
  pub values-load : (b : ℕ) → r.op ≡ Load b → (t a : ℕ) → values f (records ++ r ∷ []) t a ≡ values f records t a
  values-load b is t a = grind (arith, nat_tests, common_steps, arranged-push, memory_at-placed_keeps)

  -- and any operation elsewhere
  pub values-other : (t a : ℕ) → a ≢ address r.op → values f (records ++ r ∷ []) t a ≡ values f records t a
  values-other t a ne = grind (arith, nat_tests, common_steps, arranged-push, memory_at-placed_keeps)

  pub values-before : (t a : ℕ) → t < r.ts → values f (records ++ r ∷ []) t a ≡ values f records t a
  values-before t a lt = grind (arith, nat_tests, common_steps, arranged-push, memory_at-placed_before)

  pub values-written : (t a v : ℕ) → Sorted (arranged records) → Each (λ s. address s.op ≡ a → s.ts ≤ r.ts) records →
      ((n : Memory) → flat_after n r.op a ≡ v) → r.ts ≤ t → values f (records ++ r ∷ []) t a ≡ v
  values-written t a v s past w le = search (rules, arranged-push, memory_at-placed_writes, each_arranged)

-- a table changed at a place to what is there is the same table
pub with_at_id : {X : Type 0} (g : ℕ → X) (i : ℕ) (x : X) → g i ≡ x → with_at g i x ≡ g
with_at_id g i x e = fun_ext (λ j. with_at_cases (λ k y. y ≡ g k) g i x (sym e) (λ k ne. refl) j)

-- what a completed operation leaves, and what its record meets
pub record Completes (f : Config) (l : ℕ) (records : List Record) (busy : ℕ → ℕ) (t pts : ℕ) (y : Line)
    (r : Record) : Type 0 where
  pub line : Goes f (values f (records ++ r ∷ [])) l (records ++ r ∷ []) busy t y
  pub value : r.received ≡ flat_received (values f records r.ts) r.op
  pub undisturbed : Undisturbed r.op r.ts (arranged records)
  pub later : pts ≤ r.ts

module _ (f : Config) (good : 0 < f.line_words) (records : List Record) (sorted : Sorted (arranged records))
    (busy : ℕ → ℕ) (t : ℕ) (x : Line) (c place number pts : ℕ) (free : busy c ≡ 0) where
  abbrev pub record_of : Op → Option ℕ → ℕ → Record
  record_of op received ts = record { core = c; place = place; op = op; received = received; ts = ts; number = number }

  -- a write's time is above all leases, and not below what came before
  write_late : (copy : Copy) → (copy.line.rts ≤ write_time f pts copy) × (pts ≤ write_time f pts copy) ×
      ((top : ℕ) → top ≤ copy.line.rts → copy.line.wts ≤ copy.line.rts → (copy.written ≡ true → top < copy.line.wts) →
      top < write_time f pts copy)
  write_late copy = grind (arith, nat_tests)

  writes_ok : (a v : ℕ) (op : Op) (received : Option ℕ) (copy : Copy) → address op ≡ a →
      ((n : Memory) → flat_after n op a ≡ v) →
      let ts = write_time f pts copy in
      (Current f (values f records) records (line_of f a) copy.line → copy.line.wts ≤ ts →
      received ≡ flat_received (values f records ts) op) →
      (Each (λ q. address q.op ≡ a → q.ts ≤ ts) (arranged records) → Undisturbed op ts (arranged records)) →
      x.copies c ≡ Some copy → copy.exclusive ≡ true → Goes f (values f records) (line_of f a) records busy t x →
      Completes f (line_of f a) records busy t pts (record x {
        copies =
            with_at x.copies c
            (Some (record copy {
              written = true;
              line = record {
                wts = ts;
                rts = ts;
                words = slice_set copy.line.words (a % f.line_words) v;
              };
            }));
      }) (record_of op received ts)
  writes_ok a v op received copy at w receives fits is ex k =
      let ts = write_time f pts copy in
      let r = record_of op received ts in
      let u : Timed = record { wts = ts; rts = ts; words = slice_set copy.line.words (a % f.line_words) v } in
      let own = (k.2.copies c copy is).0 ex in
      let invariant = subst (Current f (values f records) records (line_of f a)) (sym own.1) k.2.current in
      let late = write_late copy in
      let past : Each (λ q. address q.op ≡ a → q.ts ≤ ts) records =
      each_weaker (λ q w e. le_trans (w (ap (line_of f) e)) late.0) records invariant.past in
      record {
        line = (
          u,
          k.1,
          ok_own f (values f records) (values f (records ++ r ∷ [])) (line_of f a) records r busy t x k.0 k.1 c copy
              (record copy { written = true; line = u }) free is ex ex
              (search (rules, values-before, lt_of_le_of_lt)) late.0
              (Current-write f (values f records) (values f (records ++ r ∷ [])) (line_of f a) records r copy.line a
              v good refl late.0 at
              (λ d b ne. values-other f records r d b (λ e. ne (e ∙ at)))
              (λ d le. values-written f records r d a v sorted past w le))
              k.2,
        );
        value = receives invariant (le_trans invariant.order late.0);
        undisturbed = fits (each_arranged (λ q. address q.op ≡ a → q.ts ≤ ts) records past);
        later = late.1;
      }

  -- every completed operation keeps its line, and its record fits
  pub uses_keep : (op : Op) (copy : Copy) (received : Option ℕ) (ts : ℕ) (new : Copy) → x.copies c ≡ Some copy →
      Uses f pts copy op received ts new →
      Goes f (values f records) (line_of f (address op)) records busy t x →
      Completes f (line_of f (address op)) records busy t pts (record x { copies = with_at x.copies c (Some new) })
      (record_of op received ts)
  uses_keep op copy received ts new is (load_hit a sh le) k =
      let l = line_of f a in
      let r = record_of (Load a) (Some (word_at f copy.line.words a)) (max pts copy.line.wts) in
      let lease = (k.2.copies c copy is).1 sh in
      let o = lease.order in
      let w = lease.within in
      let v = k.2.within in
      record {
        line = (
          k.0,
          k.1,
          subst (λ (cs : ℕ → Option Copy). LineOk f (values f (records ++ r ∷ [])) l (records ++ r ∷ []) busy t
              (record x { copies = cs }) k.0 k.1) (sym (with_at_id x.copies c (Some copy) is))
              (ok_beside f (values f records) (values f (records ++ r ∷ [])) l records r busy t x k.0 k.1
              (λ u b on. values-load f records r a refl u b) (λ on. omega arith) k.2),
        );
        value = ap Some (sym (lease.value r.ts a refl (omega arith) (omega arith)));
        undisturbed = tt;
        later = omega arith;
      }
  uses_keep op copy received ts new is (load_own a ex) k =
      let l = line_of f a in
      let rts = max (max pts copy.line.wts) copy.line.rts in
      let r = record_of (Load a) (Some (word_at f copy.line.words a)) (max pts copy.line.wts) in
      let own = (k.2.copies c copy is).0 ex in
      let invariant = subst (Current f (values f records) records l) (sym own.1) k.2.current in
      let same : (u b : ℕ) → line_of f b ≡ l → values f (records ++ r ∷ []) u b ≡ values f records u b =
      λ u b on. values-load f records r a refl u b in
      record {
        line = (
          _,
          k.1,
          ok_own f (values f records) (values f (records ++ r ∷ [])) l records r busy t x k.0 k.1 c copy
              (record copy { line = record (copy.line) { rts = rts } }) free is ex ex
              (λ top le below. (λ u b on e. same u b on, below)) (omega arith)
              (Current-read f (values f records) (values f (records ++ r ∷ [])) l records r copy.line rts same
              (omega arith) (omega arith)) k.2,
        );
        value = ap Some (sym (invariant.value r.ts a refl (omega arith)));
        undisturbed = tt;
        later = omega arith;
      }
  uses_keep op copy received ts new is (store_own a v ex) k =
      writes_ok a v (Store a v) None copy refl (λ n. with_at_same n a v) (λ st le. refl) (λ e. e) is ex k
  uses_keep op copy received ts new is (swap_own a v ex) k =
      writes_ok a v (Swap a v) (Some (word_at f copy.line.words a)) copy refl (λ n. with_at_same n a v)
      (λ st le. ap Some (sym (st.value (write_time f pts copy) a refl le))) (λ e. e) is ex k
