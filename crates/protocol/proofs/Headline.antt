use Rattle.std.proofs.Common.{◌≡◌, ◌≢◌, ℕ, ◌+◌, ◌%◌, ◌<◌, ◌≤◌, Bool, true, false, eqb, List, [], ◌∷◌, ◌++◌, length}
use Rattle.std.proofs.Common.{Option, Some, None, refl, sym, ap, ◌∙◌, subst, arith, le_trans, le_refl, append-nil}
use Rattle.std.proofs.Common.{length-append, rules}
use Rattle.std.proofs.lemmas.Bool.Decides.{nat_tests}
use Rattle.std.proofs.lemmas.Grind.{common_steps}
use Rattle.std.specs.Prelude.{slice_get}
use Rattle.std.proofs.Math.Seq.{get_or-append_seam}
use Rattle.std.proofs.lemmas.Option.{slice_get-get_or}
use Rattle.std.proofs.lemmas.List.Elements.{filter-append}
use Rattle.std.specs.List.{AllByRecursion as Each}
use Rattle.std.proofs.lemmas.Bool.{ne_eqb, cond-true, cond-false, eq-eqb}
use Rattle.physiological_order.specs.declared.operation.Op.{Op}
use Rattle.physiological_order.specs.declared.operation.Record.{Record}
use Rattle.physiological_order.specs.Order.{Memory, address, of_core, Legal}
use Rattle.physiological_order.proofs.Lemmas.{each_push, Sorted-from_Ascends, Kept-none, Kept-issue, Kept-push}
use Rattle.physiological_order.proofs.Lemmas.{Legal-from_Kept}
use Rattle.protocol.specs.Machine.{Config, Timed, Copy, Entry, Absent, Loading, Storing, Line, Core, Machine, line_of}
use Rattle.protocol.specs.Machine.{with_at, waits, OpensWith, opened, IsPinned, LineTransition, evict_clean, Answers}
use Rattle.protocol.specs.Machine.{shared, exclusive, renews, upgrades, Asks, Uses, Transition, issue, advance, ask}
use Rattle.protocol.specs.Machine.{answer, complete, line_changes, Reachable, at_first, goes_on}
use Rattle.protocol.proofs.Bags.{tally-taken, each_map}
use Rattle.protocol.proofs.Lines.{one_at_most, Holder, Bank, about, about_itself, EntryOk, with_at_same, with_at_cases}
use Rattle.protocol.proofs.Lines.{with_bag}
use Rattle.protocol.proofs.LineChanges.{Goes, moves_keep}
use Rattle.protocol.proofs.Cores.{answers_keep, asks_keep}
use Rattle.protocol.proofs.Completions.{values, values-other, ok_beside, uses_keep}
use Rattle.physiological_order.specs.Completion.{Kept, arranged}

-- what is issued and not completed is the open operation
abbrev pub Opened : List Op → ℕ → Option Op → Type 0
Opened ops done None = length ops ≡ done
Opened ops done (Some op) = (length ops ≡ done + 1) × (slice_get ops done ≡ Some op)

pub record CoreOk (c : ℕ) (core : Core) (ops : List Op) (records : List Record) : Type 0 where
  pub pts : Each (λ r. r.core ≡ c → r.ts ≤ core.pts) records
  pub opened : Opened ops (length (of_core c records)) core.open_op
  pub idle : core.open_op ≡ None → core.out ≡ false

abbrev pub busy : Config → (ℕ → Core) → ℕ → ℕ → ℕ
busy f cores l c = waits f l (cores c).out (cores c).open_op

pub record MachineOk (f : Config) (m : Machine) : Type 0 where
  pub kept : Kept f.opening m.issued m.records
  pub lines : (l : ℕ) → Goes f (values f m.records) l m.records (busy f m.cores l) (m.mts (l % f.banks)) (m.lines l)
  pub cores : (c : ℕ) → CoreOk c (m.cores c) (m.issued c) m.records

-- two tables changed at one place
with_at_both : {X Y : Type 0} (P : ℕ → X → Y → Type 0) (g : ℕ → X) (k : ℕ → Y) (i : ℕ) (x : X) (y : Y) → P i x y →
    ((j : ℕ) → j ≢ i → P j (g j) (k j)) → (j : ℕ) → P j (with_at g i x j) (with_at k i y j)
with_at_both P g k i x y here there j = grind (arith, nat_tests)

-- what cores wait for
waits_none : (f : Config) (l : ℕ) (out : Bool) (op : Option Op) → out ≡ false → waits f l out op ≡ 0
waits_none f l true op e = absurd (cc)
waits_none f l false op e = refl

waits_at_most : (f : Config) (l : ℕ) (out : Bool) (op : Option Op) → waits f l out op ≤ 1
waits_at_most f l true None = omega arith
waits_at_most f l true (Some op) = one_at_most (eqb (line_of f (address op)) l)
waits_at_most f l false op = omega arith

pub waits_here : (f : Config) (op : Op) → waits f (line_of f (address op)) true (Some op) ≡ 1
waits_here f op = cond-true (eqb (line_of f (address op)) (line_of f (address op))) 1 0 (eq-eqb _ _ refl)

pub waits_there : (f : Config) (l : ℕ) (op : Op) → l ≢ line_of f (address op) → waits f l true (Some op) ≡ 0
waits_there f l op ne = cond-false (eqb (line_of f (address op)) l) 1 0 (ne_eqb _ _ (λ e. ne (sym e)))

pub waits_unpinned : (f : Config) (l : ℕ) (out : Bool) (p : Option Op) →
    ((op : Op) × (p ≡ Some op) × (line_of f (address op) ≡ l) → ⊥) → waits f l out p ≡ 0
waits_unpinned f l true None h = refl
waits_unpinned f l true (Some op) h = grind (arith, nat_tests)
waits_unpinned f l false p h = refl

waits_elsewhere : (f : Config) (l k : ℕ) (out : Bool) (p : Option Op) → waits f l out p ≡ 1 → k ≢ l →
    waits f k out p ≡ 0
waits_elsewhere f l k true None h ne = refl
waits_elsewhere f l k true (Some op) h ne = grind (arith, nat_tests)
waits_elsewhere f l k false p h ne = refl

-- a line under the same waits, and at a later time of its bank
busy_same : {f : Config} {h : ℕ → Memory} {l : ℕ} {records : List Record} {p q : ℕ → ℕ} {t : ℕ} {x : Line} →
    ((c : ℕ) → p c ≡ q c) → Goes f h l records p t x → Goes f h l records q t x
busy_same {f} {h} {l} {records} {p} {q} {t} {x} same k = grind (arith, nat_tests, common_steps, with_bag)

entry_later : (s : Timed) (b : Holder) (t u : ℕ) (d : List ℕ) (e : Entry) → t ≤ u →
    EntryOk s b t d e → EntryOk s b u d e
entry_later s b t u d Absent le k = (k.0, le_trans k.1 le, k.2)
entry_later s b t u d Loading le k = (k.0, le_trans k.1 le, k.2)
entry_later s b t u d Storing le k = (k.0, le_trans k.1 le)
entry_later s b t u d _ le k = k

goes_later : {f : Config} {h : ℕ → Memory} {l : ℕ} {records : List Record} {p : ℕ → ℕ} {t u : ℕ} {x : Line} → t ≤ u →
    Goes f h l records p t x → Goes f h l records p u x
goes_later {f} {h} {l} {records} {p} {t} {u} {x} le k = grind (arith, nat_tests, common_steps, entry_later, with_bag)

-- a reply comes only to a core that waits for it
answers_busy : {f : Config} {h : ℕ → Memory} {l : ℕ} {records : List Record} {p : ℕ → ℕ} {t c : ℕ} {x y : Line} →
    p c ≤ 1 → Answers c x y → Goes f h l records p t x → p c ≡ 1
answers_busy {c = c} {x = x} one (shared line rest q) k = let e = tally-taken (about c) x.messages _ q in
    let a = k.2.asks c in let i = about_itself c in omega arith
answers_busy {c = c} {x = x} one (exclusive line rest q) k = let e = tally-taken (about c) x.messages _ q in
    let a = k.2.asks c in let i = about_itself c in omega arith
answers_busy {c = c} {x = x} one (renews rts copy rest q is) k = let e = tally-taken (about c) x.messages _ q in
    let a = k.2.asks c in let i = about_itself c in omega arith
answers_busy {c = c} {x = x} one (upgrades rts copy rest q is) k = let e = tally-taken (about c) x.messages _ q in
    let a = k.2.asks c in let i = about_itself c in omega arith

-- no move lowers the time of a bank
moves_rise : {lease : ℕ} {loses : Bool} {pinned : ℕ → Type 0} {t u : ℕ} {x y : Line} →
    LineTransition lease loses pinned t x u y → t ≤ u
moves_rise (evict_clean line is) = omega arith
moves_rise _ = omega arith

-- the opening
opened_line : (f : Config) (pts mts : ℕ → ℕ) (drams : ℕ → List ℕ) → OpensWith f drams → (l : ℕ) →
    Goes f (values f []) l [] (busy f (opened pts mts drams).cores l) f.opening_time ((opened pts mts drams).lines l)
opened_line f pts mts drams opens l = (
  record { wts = f.opening_time; rts = f.opening_time; words = drams l },
  Bank,
  record {
    current = search (rules, le_refl);
    top = f.opening_time;
    within = le_refl _;
    copies = λ c cp e. absurd (cc);
    held = λ c at. absurd (cc);
    messages = tt;
    owner_count = refl;
    loads = refl;
    stores = refl;
    asks = λ c. refl;
    entry = (refl, le_refl _, refl);
  },
)

opened_ok : (f : Config) (pts mts : ℕ → ℕ) (drams : ℕ → List ℕ) → ((l : ℕ) → mts (l % f.banks) ≡ f.opening_time) →
    OpensWith f drams → MachineOk f (opened pts mts drams)
opened_ok f pts mts drams at opens =
    record {
      kept = Kept-none f.opening (opened pts mts drams).issued;
      lines = λ l. subst (λ (u : ℕ). Goes f (values f []) l [] (busy f (opened pts mts drams).cores l) u
          ((opened pts mts drams).lines l)) (sym (at l)) (opened_line f pts mts drams opens l);
      cores = λ c. record { pts = tt; opened = refl; idle = λ e. refl };
    }

issue_ok : (f : Config) (m : Machine) (c : ℕ) (op : Op) → (m.cores c).open_op ≡ None → MachineOk f m →
    MachineOk f (record m {
      cores = with_at m.cores c (record (m.cores c) { open_op = Some op });
      issued = with_at m.issued c (m.issued c ++ op ∷ []);
    })
issue_ok f m c op none k =
    let core : Core = record (m.cores c) { open_op = Some op } in
    let idle = (k.cores c).idle none in
    let at : length (m.issued c) ≡ length (of_core c m.records) = rw none at (k.cores c).opened in
    record {
      kept = Kept-issue f.opening m.issued (with_at m.issued c (m.issued c ++ op ∷ [])) m.records
          (with_at_cases (λ d ops. (more : List Op) × (ops ≡ m.issued d ++ more)) m.issued c (m.issued c ++ op ∷ [])
          (op ∷ [], refl) (λ d ne. ([], sym (append-nil (m.issued d))))) k.kept;
      lines = λ l. busy_same (search (rules, with_at_cases, waits_none)) (k.lines l);
      cores = with_at_both (λ d y ops. CoreOk d y ops m.records) m.cores m.issued c core (m.issued c ++ op ∷ [])
          (record {
            pts = (k.cores c).pts;
            opened = (
              length-append (m.issued c) (op ∷ []) ∙ omega arith,
              subst (λ (n : ℕ). slice_get (m.issued c ++ op ∷ []) n ≡ Some op) at
                  (slice_get-get_or (m.issued c ++ op ∷ []) (length (m.issued c)) op
                  (omega (arith, length-append (m.issued c) (op ∷ [])))
                  ∙ ap Some (get_or-append_seam (m.issued c) op [] op)),
            );
            idle = λ e. absurd (cc);
          })
          (λ d ne. k.cores d);
    }

advance_ok : (f : Config) (m : Machine) (c : ℕ) → MachineOk f m →
    MachineOk f (record m { cores = with_at m.cores c (record (m.cores c) { pts = (m.cores c).pts + 1 }) })
advance_ok f m c k =
    let core : Core = record (m.cores c) { pts = (m.cores c).pts + 1 } in
    record {
      kept = k.kept;
      lines = λ l. busy_same
          (with_at_cases (λ d y. busy f m.cores l d ≡ waits f l y.out y.open_op) m.cores c core refl (λ d ne. refl))
          (k.lines l);
      cores = search (rules, with_at_cases, each_map, le_trans);
    }

-- the lines after one of them changed and the cores' waits with it
ask_ok : (f : Config) (m : Machine) (c : ℕ) (op : Op) (y : Line) → (m.cores c).open_op ≡ Some op →
    (m.cores c).out ≡ false → Asks c (m.cores c).pts op (m.lines (line_of f (address op))) y → MachineOk f m →
    MachineOk f (record m {
      cores = with_at m.cores c (record (m.cores c) { out = true });
      lines = with_at m.lines (line_of f (address op)) y;
    })
ask_ok f m c op y opens quiet a k =
    let core : Core = record (m.cores c) { out = true } in
    let here = line_of f (address op) in
    record {
      kept = k.kept;
      lines = with_at_cases (λ l x. Goes f (values f m.records) l m.records (busy f (with_at m.cores c core) l)
          (m.mts (l % f.banks)) x) m.lines here y
          (busy_same
          (search (rules, with_at_both, waits_here))
          (asks_keep f (values f m.records) here m.records (busy f m.cores here) (m.mts (here % f.banks)) c
          (m.cores c).pts op (waits_none f here (m.cores c).out (m.cores c).open_op quiet) (m.lines here)
          y a (k.lines here)))
          (λ l ne. busy_same
          (search (rules, with_at_cases, waits_none, waits_there)) (k.lines l));
      cores = with_at_cases (λ d z. CoreOk d z (m.issued d) m.records) m.cores c core
          (search rules)
          (λ d ne. k.cores d);
    }

answer_ok : (f : Config) (m : Machine) (c l : ℕ) (y : Line) → Answers c (m.lines l) y → MachineOk f m →
    MachineOk f (record m {
      cores = with_at m.cores c (record (m.cores c) { out = false });
      lines = with_at m.lines l y;
    })
answer_ok f m c l y a k =
    let core : Core = record (m.cores c) { out = false } in
    let one = waits_at_most f l (m.cores c).out (m.cores c).open_op in
    let waited = answers_busy one a (k.lines l) in
    record {
      kept = k.kept;
      lines = with_at_cases (λ i x. Goes f (values f m.records) i m.records (busy f (with_at m.cores c core) i)
          (m.mts (i % f.banks)) x) m.lines l y
          (busy_same
          (search (rules, with_at_both))
          (answers_keep f (values f m.records) l m.records (busy f m.cores l) (m.mts (l % f.banks)) c one
          (m.lines l) y a (k.lines l)))
          (λ i ne. busy_same
          (search (rules, with_at_cases, waits_elsewhere)) (k.lines i));
      cores = with_at_cases (λ d z. CoreOk d z (m.issued d) m.records) m.cores c core
          (record { pts = (k.cores c).pts; opened = (k.cores c).opened; idle = λ e. refl })
          (λ d ne. k.cores d);
    }

move_ok : (f : Config) (m : Machine) (l t : ℕ) (y : Line) → LineTransition f.lease f.loses_recalls
    (IsPinned f m.cores l) (m.mts (l % f.banks)) (m.lines l) t y → MachineOk f m →
    MachineOk f (record m { mts = with_at m.mts (l % f.banks) t; lines = with_at m.lines l y })
move_ok f m l t y mv k =
    let up = moves_rise mv in
    record {
      kept = k.kept;
      lines = with_at_cases (λ i x. Goes f (values f m.records) i m.records (busy f m.cores i)
          (with_at m.mts (l % f.banks) t (i % f.banks)) x) m.lines l y
          (subst (λ (u : ℕ). Goes f (values f m.records) l m.records (busy f m.cores l) u y)
          (sym (with_at_same m.mts (l % f.banks) t))
          (moves_keep f (values f m.records) l m.records (busy f m.cores l)
          (λ c un. waits_unpinned f l (m.cores c).out (m.cores c).open_op un) mv (k.lines l)))
          (λ i ne. with_at_cases (λ b u. b ≡ i % f.banks → Goes f (values f m.records) i m.records (busy f m.cores i)
          u (m.lines i)) m.mts (l % f.banks) t
          (λ e. goes_later (subst (λ (b : ℕ). m.mts b ≤ t) e up) (k.lines i))
          (λ b nb e. subst (λ (b' : ℕ). Goes f (values f m.records) i m.records (busy f m.cores i) (m.mts b')
          (m.lines i)) (sym e) (k.lines i))
          (i % f.banks) refl);
      cores = k.cores;
    }

-- one more record, of this core or of another
pub of_core-own : (c : ℕ) (records : List Record) (r : Record) → r.core ≡ c → of_core c (records ++ r ∷ []) ≡ of_core
    c records ++ r ∷ []
of_core-own c records r e = grind (arith, nat_tests, common_steps, eq-eqb, filter-append)

pub of_core-other : (c : ℕ) (records : List Record) (r : Record) → r.core ≢ c →
    of_core c (records ++ r ∷ []) ≡ of_core c records
of_core-other c records r ne = grind (arith, nat_tests, common_steps, append-nil, filter-append, ne_eqb)

complete_ok : (f : Config) → 0 < f.line_words → (m : Machine) (c : ℕ) (op : Op) (copy new : Copy)
    (received : Option ℕ) (ts : ℕ) → (m.cores c).open_op ≡ Some op → (m.cores c).out ≡ false →
    (m.lines (line_of f (address op))).copies c ≡ Some copy → Uses f (m.cores c).pts copy op received ts
    new → MachineOk f m →
    MachineOk f (record m {
      cores = with_at m.cores c (record { pts = ts; open_op = None; out = false });
      lines = with_at m.lines (line_of f (address op)) (record (m.lines (line_of f (address op))) {
        copies = with_at ((m.lines (line_of f (address op))).copies) c (Some new);
      });
      records = m.records ++ record {
        core = c;
        place = length (of_core c m.records);
        op = op;
        received = received;
        ts = ts;
        number = length m.records;
      } ∷ [];
    })
complete_ok f good m c op copy new received ts opens quiet is used k =
    let core : Core = record { pts = ts; open_op = None; out = false } in
    let here = line_of f (address op) in
    let r : Record = record {
      core = c;
      place = length (of_core c m.records);
      op = op;
      received = received;
      ts = ts;
      number = length m.records;
    } in
    let free = waits_none f here (m.cores c).out (m.cores c).open_op quiet in
    let open_is : Opened (m.issued c) (length (of_core c m.records)) (Some op) =
    subst (Opened (m.issued c) (length (of_core c m.records))) opens (k.cores c).opened in
    let done = uses_keep f good m.records (Sorted-from_Ascends (arranged m.records) k.kept.ascends)
    (busy f m.cores here) (m.mts (here % f.banks)) (m.lines here) c (length (of_core c m.records))
    (length m.records) (m.cores c).pts free op copy received ts new is used (k.lines here) in
    record {
      kept = Kept-push f.opening m.issued m.records r k.kept (search (rules, each_map, le_trans));
      lines = with_at_cases (λ i x. Goes f (values f (m.records ++ r ∷ [])) i (m.records ++ r ∷ [])
          (busy f (with_at m.cores c core) i) (m.mts (i % f.banks)) x) m.lines here
          (record (m.lines here) { copies = with_at ((m.lines here).copies) c (Some new) })
          (search (rules, busy_same, with_at_cases))
          (λ i ne. busy_same
          (search (rules, with_at_cases, waits_none)) (
            (k.lines i).0,
            (k.lines i).1,
            ok_beside f (values f m.records) (values f (m.records ++ r ∷ [])) i m.records r (busy f m.cores i)
                (m.mts (i % f.banks)) (m.lines i) (k.lines i).0 (k.lines i).1
                (λ t a on. values-other f m.records r t a (λ e. ne (sym on ∙ ap (line_of f) e)))
                (λ on. absurd (ne (sym on))) (k.lines i).2,
          ));
      cores = with_at_cases (λ d z. CoreOk d z (m.issued d) (m.records ++ r ∷ [])) m.cores c core
          (search (rules, each_push, each_map, le_trans, le_refl, of_core-own, length-append))
          (search (rules, each_push, of_core-other));
    }

-- every change keeps the machine
transition_ok : (f : Config) → 0 < f.line_words → (m n : Machine) → Transition f m n → MachineOk f m → MachineOk f n
transition_ok f good m n (issue c op none) k = issue_ok f m c op none k
transition_ok f good m n (advance c) k = advance_ok f m c k
transition_ok f good m n (ask c op y opens quiet a) k = ask_ok f m c op y opens quiet a k
transition_ok f good m n (answer c l y a) k = answer_ok f m c l y a k
transition_ok f good m n (complete c op copy new received ts opens quiet is used) k = search (rules, complete_ok)
transition_ok f good m n (line_changes l t y mv) k = move_ok f m l t y mv k

pub reachable_ok : (f : Config) → 0 < f.line_words → (m : Machine) → Reachable f m → MachineOk f m
reachable_ok f good m (at_first pts mts drams at opens) = opened_ok f pts mts drams at opens
reachable_ok f good m (goes_on {m = before} r transition) = search (rules, transition_ok, reachable_ok f good before r)

-- THE HEADLINE
pub legal : (f : Config) → 0 < f.line_words → (m : Machine) → Reachable f m → Legal f.opening m.issued m.records
legal f good m r = Legal-from_Kept f.opening m.issued m.records (reachable_ok f good m r).kept
