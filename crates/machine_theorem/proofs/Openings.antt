-- The invariant holds of the initial state and of a machine as it opens.
use Rattle.std.proofs.Common.{Bool, true, false, [], length, replicate, Option, subst, arith, unwrap_or, nat_cmp, rules}
use Rattle.std.proofs.Common.{◌≡◌, ℕ, ◌/◌, ◌%◌, ◌<◌, ◌≤◌, ◌&&◌, ◌||◌, eqb, leb, List, Some, None, refl, sym, ap, ◌∙◌}
use Rattle.std.specs.FinMap.{FinMap, entries, get-entries}
use Rattle.std.proofs.lemmas.List.{length-replicate}
use Rattle.std.proofs.lemmas.Bool.{and_parts, or_cases, leb-true}
use Rattle.line_sets.specs.Order.{find}
use Rattle.dram_mts.specs.Lines.{words_of}
use Rattle.llc_bank.specs.declared.entry.Entry.{Entry}
use Rattle.llc_bank.specs.BankTable.{entry_of}
use Rattle.machine_table.specs.declared.config.Config.{Config}
use Rattle.machine_table.specs.SetUp.{is_within, is_good}
use Rattle.machine_table.specs.Opening.{dram_of, open_bank, open_core, at_start}
use Rattle.machine_table.proofs.Lemmas.{row_many}
use Rattle.protocol.specs.Machine as by_line
use Rattle.protocol.specs.Machine.{OpensWith, at_first}
use Rattle.machine_theorem.specs.PastWords.{IsReached}
use Rattle.machine_theorem.specs.States.{State, initial_state}
use Rattle.machine_theorem.specs.View.{entry_seen, copy_or_none, copy_in, set_up, view}
use Rattle.machine_theorem.specs.Kept.{IsKept, Invariant}
use Rattle.machine_theorem.proofs.Turns.{machine_same, line_same}
use Rattle.machine_theorem.proofs.KeptSteps.{kept_same}
use Rattle.machine_theorem.proofs.InitialStates.{opening_same}
use Rattle.machine_theorem.proofs.DramOpening.{get_replicate, dram_long, dram_word, dram_zeros}
use Rattle.machine_theorem.proofs.ByParts.{core_by, bank_by, shape_by}

-- what is taken of a good set-up
pub record Fair (c : Config) : Type 0 where
  pub some_banks : 0 < c.banks
  pub some_sets : 0 < c.sets
  pub some_ways : 0 < c.ways
  pub some_bank_sets : 0 < c.bank_sets
  pub some_bank_ways : 0 < c.bank_ways
  pub some_words : 0 < c.line_words
  pub most_words : c.line_words ≤ 8

some_of : (n most : ℕ) → is_within n most ≡ true → 0 < n
some_of n most h = let le = leb-true 1 n (and_parts (leb 1 n) (leb n most) h).0 in omega arith

one_or_eight : (n : ℕ) → (eqb n 1 || eqb n 8) ≡ true → (0 < n) × (n ≤ 8)
one_or_eight n h = grind (arith, or_cases (eqb n 1) (eqb n 8) h)

pub fair : (c : Config) → is_good c ≡ true → Fair c
fair c good =
    let shape : Bool = is_within c.cores 64 && is_within c.banks 8 && is_within c.messages 65536 in
    let caches : Bool = is_within c.sets 1024 && is_within c.ways 16 in
    let banks : Bool = is_within c.bank_sets 1024 && is_within c.bank_ways 16 in
    let words : Bool = eqb c.line_words 1 || eqb c.line_words 8 in
    let lease : Bool = is_within c.lease 4294967296 in
    let parts = parts_of shape caches banks words lease good in
    let line = one_or_eight c.line_words parts.3 in
    record {
      some_banks = some_of c.banks 8 (and_parts (is_within c.cores 64) (is_within c.banks 8)
          (and_parts (is_within c.cores 64 && is_within c.banks 8) (is_within c.messages 65536) parts.0).0).1;
      some_sets = some_of c.sets 1024 (and_parts _ (is_within c.ways 16) parts.1).0;
      some_ways = some_of c.ways 16 (and_parts (is_within c.sets 1024) _ parts.1).1;
      some_bank_sets = some_of c.bank_sets 1024 (and_parts _ (is_within c.bank_ways 16) parts.2).0;
      some_bank_ways = some_of c.bank_ways 16 (and_parts (is_within c.bank_sets 1024) _ parts.2).1;
      some_words = line.0;
      most_words = line.1;
    }
  where
    parts_of : (a b d e g : Bool) → (a && b && d && e && g) ≡ true → (a ≡ true) × (b ≡ true) × (d ≡ true) × (e ≡ true)
    parts_of a b d e g h = grind (arith, and_parts (a && b && d) e (and_parts (a && b && d && e) g h).0)

module _ (c : Config) where
  pub no_copy : (i l : ℕ) → copy_in (open_core c i) l ≡ None
  no_copy i l = ap (λ ps. copy_or_none (find ps l)) (get_replicate c.sets (l % length (replicate c.sets [])) [])

  pub no_entry : (i l : ℕ) → entry_of (open_bank c i) l ≡ None
  no_entry i l = ap (λ ps. find ps l) (get_replicate c.bank_sets ((l / c.banks) % length (replicate c.bank_sets [])) [])

  module _ (opening : FinMap nat_cmp ℕ) (f : Fair c) where
    abbrev a : State
    a = initial_state c opening

    abbrev drams : ℕ → List ℕ
    drams l = words_of (dram_of c (l % c.banks) (entries opening)) l

    opens : OpensWith (set_up c opening) drams
    opens = record {
      long = λ l. let n = dram_long c (l % c.banks) (entries opening) l in let w = f.most_words in omega arith;
      same = λ w. dram_word c ((w / c.line_words) % c.banks) f.some_words f.most_words (entries opening) w refl
          ∙ sym (ap (λ (o : Option ℕ). unwrap_or o 0) (get-entries opening w));
    }

    reached : IsReached (set_up c opening) (view c a)
    reached =
        subst (IsReached (set_up c opening))
        (machine_same (by_line.opened (λ k. c.opening_time) (λ b. c.opening_time) drams) (view c a)
        (λ l. line_same _ _ (sym (ap entry_seen (no_entry (l % c.banks) l))) (λ k. sym (no_copy k l)) refl refl)
        (λ k. refl) (λ b. refl) (λ k. refl) refl)
        (record {
          some_words = f.some_words;
          reachable = at_first (λ k. c.opening_time) (λ b. c.opening_time) drams (λ l. refl) opens;
          zeros = λ l. record {
            copies = λ core copy e. absurd (let z : ◌≡◌ {A = Option by_line.Copy} None (Some copy) = e in cc);
            entry = tt;
            messages = tt;
            dram = λ k le. dram_zeros c (l % c.banks) f.some_words (entries opening) l k le;
          };
        })

    pub initial_kept : IsKept c opening a
    initial_kept = record {
      shape = shape_by f.some_words f.some_banks
          (λ k. core_by refl refl refl refl refl
          (subst (λ (n : ℕ). 0 < n) (sym (length-replicate c.sets [])) f.some_sets) refl
          (λ p o q. absurd (let z : false ≡ true = q in cc)))
          (λ b. bank_by refl refl refl
          (subst (λ (n : ℕ). 0 < n) (sym (length-replicate c.bank_sets [])) f.some_bank_sets) (λ l ne. no_entry b l)
          (λ l y i. absurd (let z : ◌≡◌ {A = Option Entry} None (Some y) = sym (no_entry b l) ∙ i in cc)))
          tt (λ k le. refl) (λ b le. refl) (λ b le. refl) (λ k le. refl);
      reached = reached;
    }

    pub at_start_invariant : Invariant (at_start c opening)
    at_start_invariant = search (rules, row_many, length-replicate, kept_same, opening_same, initial_kept)
