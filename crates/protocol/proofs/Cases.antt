use Rattle.std.proofs.Common.{◌≡◌, ℕ, ◌<◌, ◌≤◌, List, [], ◌∷◌, Option, sym, ◌∙◌, subst, arith, rules}
use Rattle.std.proofs.lemmas.Bool.Decides.{nat_tests}
use Rattle.std.specs.List.{AllByRecursion as Each}
use Rattle.physiological_order.specs.Order.{Memory}
use Rattle.protocol.specs.Machine.{Config, Timed, Copy, Entry, Exclusive, Recalling, Message, ShRep, ExRep, RenewRep}
use Rattle.protocol.specs.Machine.{UpgradeRep, FlushRep, WbRep, DramLdRep, DramStRep, Machine, Reachable}
use Rattle.protocol.specs.Machine.{WaitsFor, IsShared, IsGranted, HasCase, tally}
use Rattle.protocol.proofs.Lines.{Holder, Bank, Flying, flying, right, load, store, about, about_itself, loading}
use Rattle.protocol.proofs.Lines.{storing, HasShared, MessageOk, EntryOk, LineOk}
use Rattle.protocol.proofs.LineChanges.{flying_one, at_most_one, loading_one, loads_at_most_one, storing_one}
use Rattle.protocol.proofs.LineChanges.{stores_at_most_one}
use Rattle.protocol.proofs.Headline.{reachable_ok, busy}

-- who has something to come waits for it
waiting : (f : Config) (m : Machine) (l c : ℕ) → 1 ≤ busy f m.cores l c → WaitsFor f m l c
waiting f m l c le = grind (arith, nat_tests)

granted : (s : Timed) (b : Holder) (t : ℕ) (d : List ℕ) (e : Entry) → EntryOk s b t d e → b ≡ Flying → IsGranted e
granted s b t d (Exclusive o) k fl = tt
granted s b t d (Recalling o) k fl = tt
granted s b t d _ k fl = absurd (let z : Flying ≡ Bank = sym fl ∙ k.0 in cc)

is_shared : (y : Option Copy) (P : Timed → Type 0) → HasShared y P → IsShared y
is_shared y P k = subst IsShared (sym k.1) k.2

module _ (f : Config) (m : Machine) (h : ℕ → Memory) (l t : ℕ) (s : Timed) (b : Holder)
    (k : LineOk f h l m.records (busy f m.cores l) t (m.lines l) s b) where
  case_of : (x : Message) → right x ≤ flying b → load x ≤ loading (m.lines l).entry →
      store x ≤ storing (m.lines l).entry → ((c : ℕ) → about c x ≤ busy f m.cores l c) → MessageOk f h l k.top s
      (m.lines l).copies (m.lines l).dram x → HasCase f m l x
  case_of (ShRep c x) r d w a q = waiting f m l c (let i = about_itself c in let z = a c in omega arith)
  case_of (ExRep c x) r d w a q = waiting f m l c (let i = about_itself c in let z = a c in omega arith)
  case_of (RenewRep c n) r d w a q =
      (waiting f m l c (let i = about_itself c in let z = a c in omega arith), is_shared _ _ q)
  case_of (UpgradeRep c n) r d w a q =
      (waiting f m l c (let i = about_itself c in let z = a c in omega arith), is_shared _ _ q)
  case_of (FlushRep c x) r d w a q = granted s b t _ _ k.entry (flying_one b (let one = at_most_one b in omega arith))
  case_of (WbRep c x) r d w a q = granted s b t _ _ k.entry (flying_one b (let one = at_most_one b in omega arith))
  case_of (DramLdRep ws) r d w a q = loading_one _ (let one = loads_at_most_one (m.lines l).entry in omega arith)
  case_of DramStRep r d w a q = storing_one _ (let one = stores_at_most_one (m.lines l).entry in omega arith)
  case_of _ r d w a q = tt

  cases_of : (xs : List Message) → tally right xs ≤ flying b → tally load xs ≤ loading (m.lines l).entry →
      tally store xs ≤ storing (m.lines l).entry → ((c : ℕ) → tally (about c) xs ≤ busy f m.cores l c) →
      Each (MessageOk f h l k.top s (m.lines l).copies (m.lines l).dram) xs → Each (HasCase f m l) xs
  cases_of [] r d w a q = tt
  cases_of (x ∷ xs) r d w a q =
      search (
        rules,
        case_of,
        cases_of xs (omega arith) (omega arith) (omega arith) (λ c. let z = a c in omega arith) q.1,
      )

pub messages_have_cases : (f : Config) → 0 < f.line_words → (m : Machine) → Reachable f m → (l : ℕ) →
    Each (HasCase f m l) (m.lines l).messages
messages_have_cases f good m r l =
    let k = (reachable_ok f good m r).lines l in
    cases_of f m _ l _ k.0 k.1 k.2 (m.lines l).messages (let z = k.2.owner_count in omega arith) (let z = k.2.loads in
    omega arith) (let z = k.2.stores in omega arith) (λ c. let z = k.2.asks c in omega arith) k.2.messages
