-- A state that keeps the invariant is consistent, and so is a machine.
use Rattle.std.proofs.Common.{◌≡◌, ℕ, ◌/◌, ◌%◌, ◌≤◌, List, ◌∷◌, map, get_or, refl, sym, ap, ◌∙◌, subst, nat_cmp, []}
use Rattle.std.specs.FinMap.{FinMap}
use Rattle.physiological_order.specs.declared.operation.Record.{Record}
use Rattle.physiological_order.specs.Order.{flat, Arrangement, replay_end, of_core}
use Rattle.physiological_order.proofs.Lemmas.{one_arrangement, arrangement_of}
use Rattle.core_pts.specs.CoreTable.{CoreState}
use Rattle.machine_table.specs.declared.config.Config.{Config}
use Rattle.machine_table.specs.Machine.{Machine, operation_of}
use Rattle.machine_table.specs.Opening.{open_core}
use Rattle.protocol.specs.Issued.{IsIssued}
use Rattle.protocol.specs.Machine as by_line
use Rattle.protocol.specs.Machine.{tally}
use Rattle.protocol.proofs.Lemmas.{legal, what_is_issued, reachable_ok, at_most_one, coherent_is, owners_answer, about}
use Rattle.protocol.proofs.Lemmas.{load, loading, store, storing}
use Rattle.machine_theorem.specs.States.{State, seen}
use Rattle.machine_theorem.specs.Ownership.{coherent}
use Rattle.machine_theorem.specs.Coherence as machine
use Rattle.machine_theorem.specs.Consistent.{Consistent}
use Rattle.machine_theorem.specs.Consistency.{IsConsistent}
use Rattle.machine_theorem.specs.View.{copy_in, entry_in, messages_of, set_up, view}
use Rattle.machine_theorem.specs.Kept.{IsKept, Invariant}
use Rattle.machine_theorem.proofs.KeptSteps.{kept_reordered}
use Rattle.machine_theorem.proofs.Openings.{no_copy}
use Rattle.machine_theorem.proofs.Coherence.{seen_listed, owners_of, coherent_words_are}
use Rattle.machine_theorem.proofs.FoundCases.{bag_finds, messages_find_cases}

module _ (config : Config) (opening : FinMap nat_cmp ℕ) (a : State) (s : IsKept config opening a) where
  abbrev f : by_line.Config
  f = set_up config opening

  value_left : (arranged : List Record) → Arrangement a.records arranged → (word : ℕ) →
      coherent config opening a word ≡ replay_end (flat opening) (map (λ r. r.op) arranged) word
  value_left arranged is word =
      coherent_is f s.shape.some_words (view config a) s.reached.reachable config.cores
      (λ core line past. ap (λ (c : CoreState). copy_in c line) (s.shape.cores_beyond core past)
      ∙ no_copy config core line) word
      ∙ ap (λ rs. replay_end (flat opening) (map (λ (r : Record). r.op) rs) word)
      (one_arrangement a.records _ arranged (arrangement_of (flat opening) a.issued a.records
      (reachable_ok f s.shape.some_words (view config a) s.reached.reachable).kept) is)

  -- the loads and stores in flight of a line, and the messages about a core and the line: one, if the core waits for it
  pub line_counts : (l : ℕ) → let ms = messages_of a.bag l in let e = entry_in (a.banks (l % config.banks)) l in
      (tally load ms ≡ loading e) × (tally store ms ≡ storing e) × ((c : ℕ) →
      tally (about c) ms ≡ by_line.waits f l (a.cores c).is_out (a.cores c).open_op)
  line_counts l = let k = (reachable_ok f s.shape.some_words (view config a) s.reached.reachable).lines l in
      (k.2.loads, k.2.stores, k.2.asks)

  pub issued_now : (core : ℕ) → IsIssued (a.issued core) (of_core core a.records) (a.cores core).open_op
  issued_now = what_is_issued f s.shape.some_words (view config a) s.reached.reachable

  pub state_consistent : Consistent config opening a
  state_consistent = record {
    legal = legal f s.shape.some_words (view config a) s.reached.reachable;
    owners = at_most_one f s.shape.some_words (view config a) s.reached.reachable config.cores;
    coherent = value_left;
    cases = λ message rest same. (bag_finds config opening (record a { bag = message ∷ rest })
        (kept_reordered config opening a (message ∷ rest) same s)).0.found;
    recalls = owners_answer f s.shape.some_words refl (view config a) s.reached.reachable;
  }

module _ (m : Machine) (s : Invariant m) where
  state : Consistent m.config m.opening (seen m)
  state = state_consistent m.config m.opening (seen m) s.kept

  one_owner : (line : ℕ) → machine.owners m line ≤ 1
  one_owner line = subst (λ (n : ℕ). n ≤ 1) (owners_of m s line) (state.owners line)

  -- the machine's coherent values are those of its state
  pub values_of : (word : ℕ) → machine.coherent m word ≡ coherent m.config m.opening (seen m) word
  values_of word = ap (λ ws. get_or ws (word % m.config.line_words) 0)
      (sym (coherent_words_are m s (word / m.config.line_words) (one_owner (word / m.config.line_words))))

  pub consistent : IsConsistent m
  consistent = record {
    legal = state.legal;
    issued = λ core. subst (IsIssued (get_or m.issued core []) (of_core core m.records))
        (seen_listed (λ (c : CoreState). c.open_op) operation_of (λ c. refl) m.cores core
        (open_core m.config core) refl)
        (issued_now m.config m.opening (seen m) s.kept core);
    one_owner = one_owner;
    coherent = λ arranged is word. values_of word ∙ state.coherent arranged is word;
    cases = messages_find_cases m s;
    zeros = s.kept.reached.zeros;
    recalls = state.recalls;
  }
