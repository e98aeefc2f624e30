use Rattle.std.proofs.Common.{◌≡◌, ◌≢◌, ℕ, ◌+◌, ◌≤◌, true, false, eqb, List, ◌∷◌, Some, inl, refl, sym, ap, ◌∙◌, arith}
use Rattle.std.proofs.Common.{le_refl, rules}
use Rattle.std.proofs.lemmas.Bool.Decides.{nat_tests}
use Rattle.std.specs.List.Sorted.{IsPermutation}
use Rattle.std.proofs.lemmas.Bool.{ne_eqb}
use Rattle.physiological_order.specs.declared.operation.Op.{Op}
use Rattle.physiological_order.specs.declared.operation.Record.{Record}
use Rattle.physiological_order.specs.Order.{Memory}
use Rattle.protocol.specs.Machine.{Config, Timed, Copy, Message, ShRep, ExRep, RenewRep, UpgradeRep, Line, with_at}
use Rattle.protocol.specs.Machine.{Answers, shared, exclusive, renews, upgrades, Asks, to_read, to_write, NotOwned}
use Rattle.protocol.specs.Machine.{tally}
use Rattle.protocol.proofs.Lease.{Leased}
use Rattle.protocol.proofs.Lines.{Holder, Bank, At, Flying, right, load, store, about, one_if, about_itself, MessageOk}
use Rattle.protocol.proofs.Lines.{CopyOk, LineOk, with_at_same, with_at_other, with_at_cases, copy_keeps, flying}
use Rattle.protocol.proofs.Lines.{loading, storing}
use Rattle.protocol.proofs.LineChanges.{At≢Bank, At_injective, flying_one, at_most_one, owned, keep, lost, Goes}
use Rattle.protocol.proofs.LineChanges.{ok_shuffled}

pub Some_injective : {X : Type 0} (x y : X) → Some x ≡ Some y → x ≡ y
Some_injective x y e = cc

module _ (f : Config) (h : ℕ → Memory) (l : ℕ) (records : List Record) where
  -- a reply that gives a core a Shared copy
  ok_shared : (busy : ℕ → ℕ) (t : ℕ) (x : Line) (s : Timed) (b : Holder) (c : ℕ) (new : Copy) (m : Message)
      (rest : List Message) → busy c ≤ 1 →
      right m ≡ 0 → load m ≡ 0 → store m ≡ 0 → about c m ≡ 1 → ((d : ℕ) → d ≢ c → about d m ≡ 0) →
      new.exclusive ≡ false →
      ((top : ℕ) → MessageOk f h l top s x.copies x.dram m → NotOwned (x.copies c) × Leased f h l top new.line) →
      LineOk f h l records busy t (record x { messages = m ∷ rest }) s b → LineOk f h l records (with_at busy c 0) t
      (record x { copies = with_at x.copies c (Some new); messages = rest }) s b
  ok_shared busy t x s b c new m rest one rm dm wm am others sh tells k =
      let owner_count : right m + tally right rest ≡ flying b = k.owner_count in
      let loads : load m + tally load rest ≡ loading x.entry = k.loads in
      let stores : store m + tally store rest ≡ storing x.entry = k.stores in
      let asks : about c m + tally (about c) rest ≡ busy c = k.asks c in
      let no_asks : tally (about c) rest ≡ 0 = omega arith in
      let told = tells k.top k.messages.0 in
      record {
        current = k.current;
        top = k.top;
        within = k.within;
        copies = with_at_cases (λ d y. (cp : Copy) → y ≡ Some cp → CopyOk f h l k.top s b d cp) x.copies c (Some new)
            (search (rules, Some_injective))
            (λ d ne cp e. k.copies d cp e);
        held = search (rules, with_at_other);
        messages = search (rules, keep, lost);
        owner_count = omega arith;
        loads = omega arith;
        stores = omega arith;
        asks = search (rules, with_at_cases, about);
        entry = k.entry;
      }

  -- a reply that gives a core the right
  ok_owner : (busy : ℕ → ℕ) (t : ℕ) (x : Line) (s : Timed) (b : Holder) (c : ℕ) (new : Copy) (m : Message)
      (rest : List Message) → busy c ≤ 1 →
      right m ≡ 1 → load m ≡ 0 → store m ≡ 0 → about c m ≡ 1 → ((d : ℕ) → d ≢ c → about d m ≡ 0) →
      new.exclusive ≡ true →
      new.written ≡ false → ((top : ℕ) → MessageOk f h l top s x.copies x.dram m → new.line ≡ s) →
      LineOk f h l records busy t (record x { messages = m ∷ rest }) s b → LineOk f h l records (with_at busy c 0) t
      (record x { copies = with_at x.copies c (Some new); messages = rest }) s (At c)
  ok_owner busy t x s b c new m rest one rm dm wm am others ex nw tells k =
      let owner_count : right m + tally right rest ≡ flying b = k.owner_count in
      let loads : load m + tally load rest ≡ loading x.entry = k.loads in
      let stores : store m + tally store rest ≡ storing x.entry = k.stores in
      let asks : about c m + tally (about c) rest ≡ busy c = k.asks c in
      let most = at_most_one b in
      let fl : b ≡ Flying = flying_one b (omega arith) in
      let no_asks : tally (about c) rest ≡ 0 = omega arith in
      let e = owned f h l records busy s b t x.dram x.entry k.entry (λ q. let z : Flying ≡ Bank = sym fl ∙ q in cc) in
      record {
        current = k.current;
        top = k.top;
        within = k.within;
        copies = with_at_cases (λ d y. (cp : Copy) → y ≡ Some cp → CopyOk f h l k.top s (At c) d cp)
            x.copies c (Some new)
            (search (rules, Some_injective))
            (λ d ne cp q. copy_keeps f h h l k.top k.top s s x.copies x.copies x.dram x.dram (λ t a on le. refl)
            (le_refl _) b (At c) d cp (inl (λ w. let z : Flying ≡ At d = sym fl ∙ w in cc)) (k.copies d cp q));
        held = search (rules, At_injective, with_at_same);
        messages = search (rules, keep, lost);
        owner_count = omega arith;
        loads = omega arith;
        stores = omega arith;
        asks = search (rules, with_at_cases, about);
        entry = e.2 s (At c) (λ q. At≢Bank c q);
      }

  about_other : (c d : ℕ) → d ≢ c → one_if (eqb c d) ≡ 0
  about_other c d ne = ap one_if (ne_eqb c d (λ e. ne (sym e)))

  -- every reply keeps the line
  pub answers_keep : (busy : ℕ → ℕ) (t c : ℕ) → busy c ≤ 1 → (x y : Line) → Answers c x y → Goes f h l records busy t
      x → Goes f h l records (with_at busy c 0) t y
  answers_keep busy t c one x y answers k = by_answer y answers
    where
      has : (m : Message) (rest : List Message) → IsPermutation x.messages (m ∷ rest) →
          LineOk f h l records busy t (record x { messages = m ∷ rest }) k.0 k.1
      has m rest p = ok_shuffled f h l records busy x (m ∷ rest) p k.2

      by_answer : (y : Line) → Answers c x y → Goes f h l records (with_at busy c 0) t y
      by_answer y (shared line rest p) = (
        k.0,
        k.1,
        ok_shared busy t x k.0 k.1 c (record { exclusive = false; written = false; line = line }) (ShRep c line) rest
            one refl refl refl (about_itself c) (about_other c) refl (λ n q. q) (has _ rest p),
      )
      by_answer y (exclusive line rest p) = (
        k.0,
        At c,
        ok_owner busy t x k.0 k.1 c (record { exclusive = true; written = false; line = line }) (ExRep c line) rest
            one refl refl refl (about_itself c) (about_other c) refl refl (λ n q. q) (has _ rest p),
      )
      by_answer y (renews rts copy rest p is) =
          let taken = has (RenewRep c rts) rest p in
          let m = taken.messages.0 in
          let sh : copy.exclusive ≡ false =
          sym (ap (λ (y : Copy). y.exclusive) (Some_injective m.0 copy (sym m.1 ∙ is))) ∙ m.2 in (
            k.0,
            k.1,
            ok_shared busy t x k.0 k.1 c (record copy { line = record (copy.line) { rts = rts } }) (RenewRep c rts) rest
                one refl refl refl (about_itself c) (about_other c) sh
                (search (rules, Some_injective)) taken,
          )
      by_answer y (upgrades rts copy rest p is) =
          let u : Timed = record (copy.line) { rts = rts } in (
            k.0,
            At c,
            ok_owner busy t x k.0 k.1 c (record { exclusive = true; written = false; line = u }) (UpgradeRep c rts) rest
                one refl refl refl (about_itself c) (about_other c) refl refl
                (search (rules, Some_injective))
                (has _ rest p),
          )

  -- every request keeps the line
  pub asks_keep : (busy : ℕ → ℕ) (t c pts : ℕ) (op : Op) → busy c ≡ 0 → (x y : Line) → Asks c pts op x y →
      Goes f h l records busy t x → Goes f h l records (with_at busy c 1) t y
  asks_keep busy t c pts op free x y (to_read a w) k = grind (arith, nat_tests)
  asks_keep busy t c pts op free x y (to_write w) k = grind (arith, nat_tests)
