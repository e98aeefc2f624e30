use Rattle.std.proofs.Common.{◌≡◌, ℕ, zero, suc, ◌<◌, ◌≤◌, max, List, [], ◌∷◌, map, Option, Some, None, IfSome, refl}
use Rattle.std.proofs.Common.{sym, ap, ◌∙◌, arith, ⊎_elim, rules}
use Rattle.std.specs.List.{AllByRecursion as Each}
use Rattle.std.proofs.lemmas.Bool.{cond_both, cases_eq, cond-true, cases_lt}
use Rattle.physiological_order.specs.declared.operation.Record.{Record}
use Rattle.physiological_order.specs.Order.{Memory, replay_end}
use Rattle.physiological_order.proofs.Lemmas.{memory_at-end, each_weaker}
use Rattle.protocol.specs.Machine.{Config, Timed, Copy, Entry, Absent, Loading, Shared, Exclusive, Recalling, Storing}
use Rattle.protocol.specs.Machine.{Message, ExRep, UpgradeRep, FlushRep, WbRep, DramSt, DramStRep, Line, Machine}
use Rattle.protocol.specs.Machine.{Reachable, line_of, word_at, or_else, owner_or, owner_words, granted_words}
use Rattle.protocol.specs.Machine.{entry_words, stored_words, coherent_words, coherent, tally}
use Rattle.protocol.proofs.Lines.{Holder, Bank, At, Flying, flying, right, store, storing, MessageOk, EntryOk, LineOk}
use Rattle.protocol.proofs.Headline.{reachable_ok}
use Rattle.physiological_order.specs.Completion.{arranged}

or_else_is : (o : Option (List ℕ)) (d w : List ℕ) → IfSome o (λ x. x ≡ w) → (o ≡ None → d ≡ w) → or_else o d ≡ w
or_else_is None d w h k = k refl
or_else_is (Some x) d w h k = h

module _ (f : Config) (h : ℕ → Memory) (l : ℕ) (records : List Record) (busy : ℕ → ℕ) (t : ℕ) (x : Line) (s : Timed)
    (b : Holder) (k : LineOk f h l records busy t x s b) where
  owner_step : (c : ℕ) (y : Option Copy) (o : Option (List ℕ)) → x.copies c ≡ y → IfSome o (λ w. w ≡ s.words) →
      IfSome (owner_or y o) (λ w. w ≡ s.words)
  owner_step c None o is i = i
  owner_step c (Some copy) o is i = cond_both copy.exclusive _ _ (λ v. IfSome v (λ w. w ≡ s.words))
      (λ ex. ap (λ (y : Timed). y.words) ((k.copies c copy is).0 ex).1) (λ sh. i)

  owner_tells : (n : ℕ) → IfSome (owner_words x.copies n) (λ w. w ≡ s.words)
  owner_tells zero = tt
  owner_tells (suc n) = owner_step n (x.copies n) (owner_words x.copies n) refl (owner_tells n)

  -- a search that finds none passed no owner
  owner_none : (n c : ℕ) → c < n → b ≡ At c → owner_words x.copies n ≡ None → ⊥
  owner_none zero c lt at none = omega arith
  owner_none (suc n) c lt at none =
      ⊎_elim
      (search (rules, cond-true))
      (λ (ne : c ≡ n → ⊥). owner_none n c (omega arith) at (passed (x.copies n) (owner_words x.copies n) none))
      (cases_eq c n)
    where
      passed : (y : Option Copy) (o : Option (List ℕ)) → owner_or y o ≡ None → o ≡ None
      passed None o e = e
      passed (Some copy) o e = cond_both copy.exclusive (Some copy.line.words) o (λ v. v ≡ None → o ≡ None)
          (λ ex z. absurd (cc)) (λ sh z. z) e

  granted_tells : (ms : List Message) → Each (MessageOk f h l k.top s x.copies x.dram) ms →
      IfSome (granted_words x.copies ms) (λ w. w ≡ s.words)
  granted_tells [] e = tt
  granted_tells (ExRep c y ∷ ms) e = ap (λ (z : Timed). z.words) e.0
  granted_tells (UpgradeRep c r ∷ ms) e = search rules
  granted_tells (FlushRep c y ∷ ms) e = ap (λ (z : Timed). z.words) e.0
  granted_tells (WbRep c y ∷ ms) e = ap (λ (z : Timed). z.words) e.0
  granted_tells (_ ∷ ms) e = granted_tells ms e.1

  granted_none : (ms : List Message) → Each (MessageOk f h l k.top s x.copies x.dram) ms → granted_words x.copies
      ms ≡ None → tally right ms ≡ 0
  granted_none [] e n = refl
  granted_none (ExRep c y ∷ ms) e n = absurd (let z : ◌≡◌ {A = Option (List ℕ)} (Some y.words) None = n in cc)
  granted_none (UpgradeRep c r ∷ ms) e n = cc
  granted_none (FlushRep c y ∷ ms) e n = absurd (let z : ◌≡◌ {A = Option (List ℕ)} (Some y.words) None = n in cc)
  granted_none (WbRep c y ∷ ms) e n = absurd (let z : ◌≡◌ {A = Option (List ℕ)} (Some y.words) None = n in cc)
  granted_none (_ ∷ ms) e n = let i = granted_none ms e.1 n in omega arith

  stored_tells : (ms : List Message) → Each (MessageOk f h l k.top s x.copies x.dram) ms →
      IfSome (stored_words ms) (λ w. w ≡ s.words)
  stored_tells [] e = tt
  stored_tells (DramSt w ∷ ms) e = e.0
  stored_tells (_ ∷ ms) e = stored_tells ms e.1

  -- no store is on its way, so it is acknowledged
  stored_none : (ms : List Message) → Each (MessageOk f h l k.top s x.copies x.dram) ms → stored_words ms ≡ None →
      tally store ms ≡ 1 → x.dram ≡ s.words
  stored_none [] e n i = absurd (omega arith)
  stored_none (DramSt w ∷ ms) e n i = absurd (let z : ◌≡◌ {A = Option (List ℕ)} (Some w) None = n in cc)
  stored_none (DramStRep ∷ ms) e n i = e.0
  stored_none (_ ∷ ms) e n i = stored_none ms e.1 n (omega arith)

  entry_tells : (e : Entry) → EntryOk s b t x.dram e → IfSome (entry_words e) (λ w. w ≡ s.words)
  entry_tells (Shared d y) q = ap (λ (z : Timed). z.words) q.1
  entry_tells _ q = tt

  in_dram : (e : Entry) → x.entry ≡ e → EntryOk s b t x.dram e → b ≡ Bank → entry_words e ≡ None →
      stored_words x.messages ≡ None → x.dram ≡ s.words
  in_dram Absent is q at n m = q.2
  in_dram Loading is q at n m = q.2
  in_dram (Shared d y) is q at n m = absurd (let z : ◌≡◌ {A = Option (List ℕ)} (Some y.words) None = n in cc)
  in_dram (Exclusive o) is q at n m = absurd (q at)
  in_dram (Recalling o) is q at n m = absurd (q at)
  in_dram Storing is q at n m = stored_none x.messages k.messages m (k.stores ∙ ap storing is)

  at_the_bank : (cores : ℕ) → ((c : ℕ) → b ≡ At c → c < cores) → owner_words x.copies cores ≡ None →
      granted_words x.copies x.messages ≡ None → (a : Holder) → b ≡ a → b ≡ Bank
  at_the_bank cores few o g Bank e = e
  at_the_bank cores few o g (At c) e = absurd (owner_none cores c (few c e) e o)
  at_the_bank cores few o g Flying e = search (rules, granted_none, flying)

  pub current_is : (cores : ℕ) → ((c : ℕ) → b ≡ At c → c < cores) → coherent_words cores x ≡ s.words
  current_is cores few =
      or_else_is (owner_words x.copies cores) _ s.words (owner_tells cores)
      (search (rules, or_else_is, granted_tells, entry_tells, stored_tells, in_dram, at_the_bank))

-- a time that no record passes
latest : (rs : List Record) → (t : ℕ) × Each (λ r. r.ts ≤ t) rs
latest [] = (0, tt)
latest (r ∷ rs) = let i = latest rs in (max r.ts i.0, (omega arith, each_weaker (λ q w. omega arith) rs i.1))

-- what stands is the replay's end value
pub coherent_is : (f : Config) → 0 < f.line_words → (m : Machine) → Reachable f m → (cores : ℕ) →
    ((c l : ℕ) → cores ≤ c → (m.lines l).copies c ≡ None) → (a : ℕ) →
    coherent f cores m a ≡ replay_end f.opening (map (λ r. r.op) (arranged m.records)) a
coherent_is f good m r cores none a =
    let ok = reachable_ok f good m r in
    let k = ok.lines (line_of f a) in
    let last = latest (arranged m.records) in
    let t = max last.0 k.0.wts in
    let few : (c : ℕ) → k.1 ≡ At c → c < cores = λ c at. ⊎_elim (λ (lt : c < cores). lt)
    (search rules) (cases_lt c cores) in
    ap (λ (ws : List ℕ). word_at f ws a) (search (rules, current_is))
    ∙ sym (k.2.current.value t a refl (omega arith))
    ∙ ap (λ (n : Memory). n a) (memory_at-end f.opening (arranged m.records) t (search (rules, each_weaker)))
