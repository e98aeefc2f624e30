-- Owners and coherent values of a machine's lists are those of its state by lines.
use Rattle.std.proofs.Common.{◌≡◌, ℕ, zero, suc, ◌+◌, ◌%◌, ◌≤◌, Bool, true, false, cond, eqb, List, [], ◌∷◌, length}
use Rattle.std.proofs.Common.{get_or, Option, Some, None, refl, sym, ap, ap₂, ◌∙◌, arith, ⊎_elim, slice_get, mod-lt}
use Rattle.std.proofs.lemmas.Bool.{cases_Bool}
use Rattle.std.specs.FinMap.{entries}
use Rattle.std.proofs.lemmas.Option.{slice_get-get_or}
use Rattle.std.proofs.lemmas.Bool.Decides.{nat_tests}
use Rattle.network.specs.declared.message.Body.{Body}
use Rattle.network.specs.declared.message.Body.TheVariants as body
use Rattle.network.specs.declared.message.Message.{Message}
use Rattle.network.specs.Search as right
use Rattle.network.specs.Search.{is_ownership_of, is_store_of, first_message, count_messages}
use Rattle.private_cache.specs.declared.line_copy.LineCopy.{LineCopy}
use Rattle.private_cache.specs.CopyTable.{copy_of}
use Rattle.core_pts.specs.CoreTable.{CoreState}
use Rattle.core_pts.specs.OnCopy.{is_exclusive}
use Rattle.llc_bank.specs.declared.entry.Entry.{Entry}
use Rattle.llc_bank.specs.declared.entry.Entry.TheVariants as entry
use Rattle.llc_bank.specs.BankTable.{BankState, core_of, entry_of}
use Rattle.machine_table.specs.Machine.{Machine}
use Rattle.machine_table.specs.Opening.{dram_of, open_bank, open_core}
use Rattle.protocol.specs.Machine as by_line
use Rattle.protocol.specs.Machine.{Copy, Line, owns, owned_below, owners as line_owners, owners_in, owner_or}
use Rattle.machine_theorem.specs.View.{copy_or_none, copy_in, entry_seen, entry_in, body_seen, messages_of, line_in}
use Rattle.machine_theorem.specs.Bags.{bag_of, weigh}
use Rattle.machine_theorem.specs.Ownership.{ownership_in}
use Rattle.machine_theorem.specs.Kept.{Invariant}
use Rattle.machine_theorem.proofs.Turns.{line_same}
use Rattle.machine_theorem.proofs.Openings.{no_copy, no_entry}
use Rattle.machine_theorem.specs.Coherence.{exclusive_copies, copy_words, granted_words, words_to_store, coherent_words}
use Rattle.machine_theorem.specs.Coherence.{or_else, owned_words, owner_words, cached_words, shared_words, stored_words}
use Rattle.machine_theorem.specs.Coherence.{owner_in, owners, or_other, words_with, bank_words, words_in}

-- what is had of a line where a part may not be there
abbrev copy_at : Option CoreState → ℕ → Option Copy
copy_at None line = None
copy_at (Some core) line = copy_in core line

abbrev entry_at : Option BankState → ℕ → by_line.Entry
entry_at None line = by_line.Absent
entry_at (Some bank) line = entry_in bank line

-- the part of a number, or one that looks as none
pub seen_listed : {X Y : Type 0} (see : X → Y) (at : Option X → Y) → ((x : X) → at (Some x) ≡ see x) → (xs : List X)
    (k : ℕ) (d : X) → see d ≡ at None → see (get_or xs k d) ≡ at (slice_get xs k)
seen_listed see at some [] k d none = none
seen_listed see at some (x ∷ xs) zero d none = sym (some x)
seen_listed see at some (x ∷ xs) (suc k) d none = seen_listed see at some xs k d none

-- owners among cores
pub owned_first : (copies : ℕ → Option Copy) (n : ℕ) → owned_below copies (suc n) ≡ owns (copies 0) + owned_below
    (λ k. copies (suc k)) n
owned_first copies zero = refl
owned_first copies (suc n) = let rest = owned_first copies n in omega (arith, rest)

pub owns_is : (o : Option LineCopy) → owns (copy_or_none o) ≡ owner_in o
owns_is None = refl
owns_is (Some copy) = refl

owned_is : (cores : List CoreState) (line : ℕ) → owned_below (λ k. copy_at (slice_get cores k) line) (length cores) ≡
    exclusive_copies cores line
owned_is [] line = refl
owned_is (core ∷ cores) line = owned_first (λ k. copy_at (slice_get (core ∷ cores) k) line) (length cores)
    ∙ ap₂ (λ a b. a + b) (owns_is (copy_of core.cache line)) (owned_is cores line)

-- and of messages
carries_is : (from to : ℕ) (b : Body) → by_line.carries_ownership (body_seen from to b) ≡ cond
    (right.carries_ownership b) 1 0
carries_is from to (body.ShReq pts v) = refl
carries_is from to _ = refl

pub owners_weigh : (ms : List Message) (line : ℕ) → owners_in (messages_of ms line) ≡ weigh (ownership_in line) ms
owners_weigh [] line = refl
owners_weigh (x ∷ xs) line =
    grind (arith, owners_weigh xs line, carries_is (core_of x.from) (core_of x.to) x.body, nat_tests)

pub owners_are : (ms : List (ℕ × Message)) (line : ℕ) → owners_in (messages_of (bag_of ms) line) ≡ count_messages
    (is_ownership_of line) ms
owners_are ms line = owners_weigh (bag_of ms) line ∙ counted ms
  where
    counted : (ms : List (ℕ × Message)) → weigh (ownership_in line) (bag_of ms) ≡
        count_messages (is_ownership_of line) ms
    counted [] = refl
    counted (x ∷ xs) = ap (λ k. cond (is_ownership_of line x.1) 1 0 + k) (counted xs)

-- the owner's words: there is at most one owner
owner_first : (copies : ℕ → Option Copy) (n : ℕ) → by_line.owner_words copies (suc n) ≡ or_other
    (by_line.owner_words (λ k. copies (suc k)) n) (owner_or (copies 0) None)
owner_first copies zero = refl
owner_first copies (suc n) = ap (owner_or (copies (suc n))) (owner_first copies n) ∙ passed (copies (suc n))
  where
    passed : (y : Option Copy) → owner_or y (or_other (by_line.owner_words (λ k. copies (suc k)) n)
        (owner_or (copies 0) None)) ≡ or_other (owner_or y (by_line.owner_words (λ k. copies (suc k)) n))
        (owner_or (copies 0) None)
    passed None = refl
    passed (Some copy) = grind (arith, nat_tests)

none_owns : (cores : List CoreState) (line : ℕ) → exclusive_copies cores line ≡ 0 → owner_words cores line ≡ None
none_owns [] line h = refl
none_owns (core ∷ cores) line h = go (copy_of core.cache line) h (none_owns cores line)
  where
    go : (o : Option LineCopy) → owner_in o + exclusive_copies cores line ≡ 0 → (exclusive_copies cores line ≡ 0 →
        owner_words cores line ≡ None) → or_other (owned_words o) (owner_words cores line) ≡ None
    go None h rest = rest (omega arith)
    go (Some copy) h rest = grind (arith, cases_Bool (is_exclusive copy.state))

owner_is : (cores : List CoreState) (line : ℕ) → exclusive_copies cores line ≤ 1 →
    by_line.owner_words (λ k. copy_at (slice_get cores k) line) (length cores) ≡ owner_words cores line
owner_is [] line h = refl
owner_is (core ∷ cores) line h =
    owner_first (λ k. copy_at (slice_get (core ∷ cores) k) line) (length cores)
    ∙ ap (λ o. or_other o (owner_or (copy_or_none (copy_of core.cache line)) None))
    (owner_is cores line (omega arith))
    ∙ go (copy_of core.cache line) h
  where
    none_or : (o : Option (List ℕ)) → or_other o None ≡ o
    none_or None = refl
    none_or (Some ws) = refl

    go : (o : Option LineCopy) → owner_in o + exclusive_copies cores line ≤ 1 → or_other (owner_words cores line)
        (owner_or (copy_or_none o) None) ≡ or_other (owned_words o) (owner_words cores line)
    go None h = none_or (owner_words cores line)
    go (Some copy) h = ⊎_elim
        (λ (e : is_exclusive copy.state ≡ true). rw e (ap (λ o. or_other o (Some copy.words))
        (none_owns cores line (let z = rw e at h in omega arith))))
        (λ (e : is_exclusive copy.state ≡ false). rw e (none_or (owner_words cores line)))
        (cases_Bool (is_exclusive copy.state))

-- words with the ownership in flight
cached_is : (o : Option CoreState) (line : ℕ) → by_line.words_of (copy_at o line) ≡ cached_words o line
cached_is None line = refl
cached_is (Some core) line = go (copy_of core.cache line)
  where
    go : (o : Option LineCopy) → by_line.words_of (copy_or_none o) ≡ copy_words o
    go None = refl
    go (Some copy) = refl

module _ (cores : List CoreState) (line : ℕ) where
  abbrev copies : ℕ → Option Copy
  copies k = copy_at (slice_get cores k) line

  with_ownership : (m : Message) (ms : List by_line.Message) (found : Option (ℕ × Message)) (n : ℕ) (b : Body) →
      by_line.granted_words copies ms ≡ granted_words cores line found →
      by_line.granted_words copies (body_seen (core_of m.from) (core_of m.to) b ∷ ms) ≡ cond
      (right.carries_ownership b) (words_with cores line m b) (granted_words cores line found)
  with_ownership m ms found n (body.ExRep y) rest = refl
  with_ownership m ms found n (body.UpgradeRep r) rest = cached_is (slice_get cores (core_of m.to)) line
  with_ownership m ms found n (body.FlushRep y) rest = refl
  with_ownership m ms found n (body.WbRep y) rest = refl
  with_ownership m ms found n _ rest = rest

  granted_if : (b : Bool) (x : ℕ × Message) (found : Option (ℕ × Message)) → granted_words cores line
      (cond b (Some x) found) ≡ cond b (words_with cores line x.1 x.1.body) (granted_words cores line found)
  granted_if true x found = refl
  granted_if false x found = refl

  granted_is : (ms : List (ℕ × Message)) → by_line.granted_words copies (messages_of (bag_of ms) line) ≡
      granted_words cores line (first_message (is_ownership_of line) ms)
  granted_is [] = refl
  granted_is (x ∷ xs) =
      let rest = granted_is xs in
      ⊎_elim (λ (e : eqb x.1.line line ≡ true). rw e (with_ownership x.1 (messages_of (bag_of xs) line)
      (first_message (is_ownership_of line) xs) x.0 x.1.body rest
      ∙ sym (granted_if (right.carries_ownership x.1.body) x (first_message (is_ownership_of line) xs))))
      (λ (e : eqb x.1.line line ≡ false). rw e rest) (cases_Bool (eqb x.1.line line))

-- words in a bank
bank_is : (o : Option BankState) (line : ℕ) → by_line.entry_words (entry_at o line) ≡ bank_words o line
bank_is None line = refl
bank_is (Some bank) line = go (entry_of bank line)
  where
    go : (o : Option Entry) → by_line.entry_words (entry_seen o) ≡ shared_words o
    go None = refl
    go (Some entry.Loading) = refl
    go _ = refl

-- words on their way to DRAM
stored_if : (b : Bool) (x : ℕ × Message) (found : Option (ℕ × Message)) → stored_words (cond b (Some x) found) ≡ cond
    b (words_to_store x.1.body) (stored_words found)
stored_if true x found = refl
stored_if false x found = refl

with_store : (from to : ℕ) (ms : List by_line.Message) (found : Option (ℕ × Message)) (b : Body) →
    by_line.stored_words ms ≡ stored_words found → by_line.stored_words (body_seen from to b ∷ ms) ≡ cond
    (right.is_dram_store b) (words_to_store b) (stored_words found)
with_store from to ms found (body.DramSt ws) rest = refl
with_store from to ms found _ rest = rest

stored_is : (ms : List (ℕ × Message)) (line : ℕ) → by_line.stored_words (messages_of (bag_of ms) line) ≡ stored_words
    (first_message (is_store_of line) ms)
stored_is [] line = refl
stored_is (x ∷ xs) line =
    let rest = stored_is xs line in
    ⊎_elim (λ (e : eqb x.1.line line ≡ true). rw e (with_store (core_of x.1.from) (core_of x.1.to)
    (messages_of (bag_of xs) line) (first_message (is_store_of line) xs) x.1.body rest
    ∙ sym (stored_if (right.is_dram_store x.1.body) x (first_message (is_store_of line) xs))))
    (λ (e : eqb x.1.line line ≡ false). rw e rest) (cases_Bool (eqb x.1.line line))

same_else : (o : Option (List ℕ)) (d : List ℕ) → by_line.or_else o d ≡ or_else o d
same_else None d = refl
same_else (Some x) d = refl

else_same : (o p : Option (List ℕ)) (d e : List ℕ) → o ≡ p → d ≡ e → by_line.or_else o d ≡ or_else p e
else_same o p d e q r = same_else o d ∙ ap₂ (λ x y. or_else x y) q r

-- a machine's line, by its lists
module _ (m : Machine) (s : Invariant m) (line : ℕ) where
  abbrev home : ℕ
  home = line % m.config.banks

  abbrev by_lists : Line
  by_lists = record {
    entry = entry_at (slice_get m.banks home) line;
    copies = λ k. copy_at (slice_get m.cores k) line;
    messages = messages_of (bag_of m.mail.messages) line;
    dram = words_in (slice_get m.drams home) line;
  }

  listed_is : line_in m line ≡ by_lists
  listed_is =
      line_same _ _
      (seen_listed (λ b. entry_in b line) (λ o. entry_at o line) (λ b. refl) m.banks home
      (open_bank m.config home) (ap entry_seen (no_entry m.config home line)))
      (λ k. seen_listed (λ c. copy_in c line) (λ o. copy_at o line) (λ c. refl) m.cores k
      (open_core m.config k) (no_copy m.config k line)) refl
      (ap (λ o. words_in o line) (sym (slice_get-get_or m.drams home (dram_of m.config home (entries m.opening))
      (let n = s.dram_count in let lt = mod-lt line s.kept.shape.some_banks in omega arith))))

  pub owners_of : line_owners m.config.cores (line_in m line) ≡ owners m line
  owners_of = ap₂ (λ n x. line_owners n x) (sym s.core_count) listed_is
      ∙ ap₂ (λ a b. a + b) (owned_is m.cores line) (owners_are m.mail.messages line)

  pub coherent_words_are : owners m line ≤ 1 → by_line.coherent_words m.config.cores (line_in m line) ≡
      coherent_words m line
  coherent_words_are one =
      ap₂ (λ n x. by_line.coherent_words n x) (sym s.core_count) listed_is
      ∙ else_same _ _ _ _ (owner_is m.cores line (omega arith))
      (else_same _ _ _ _ (granted_is m.cores line m.mail.messages)
      (else_same _ _ _ _ (bank_is (slice_get m.banks home) line)
      (else_same _ _ _ _ (stored_is m.mail.messages line) refl)))
