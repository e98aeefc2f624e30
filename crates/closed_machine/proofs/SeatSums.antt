-- Sums over the seats and slots of a closed machine, and over the messages of a list.
use Rattle.std.proofs.Common.{◌≡◌, ℕ, zero, suc, ◌+◌, ◌++◌, ◌<◌, List, [], ◌∷◌, take, length, Option, Some}
use Rattle.std.proofs.Common.{option_to_list, ⊎_elim, sym, refl, ap, ◌∙◌, add-one, get_or, arith}
use Rattle.std.specs.Prelude.{slice_get}
use Rattle.std.proofs.lemmas.Option.{slice_get_read, slice_get_within}
use Rattle.network.specs.declared.counts.Counts.{Counts}
use Rattle.network.specs.declared.message.Message.{Message}
use Rattle.network.specs.Mail.{AreCounts}
use Rattle.machine_theorem.specs.Bags.{weigh}
use Rattle.inbox.specs.Inboxes.{InboxState}
use Rattle.seat_views.specs.Seated.{over}
use Rattle.seat_views.proofs.Lemmas.{some_is}
use Rattle.seat_rule.specs.Rule.{bag_of_hold, content, counts_of, slot_count}
use Rattle.seat_rule.specs.Ended.{lies}
use Rattle.seat_rule.proofs.Lemmas.{weigh-append}
use Rattle.closed_machine.specs.declared.run.Run.{Run}
use Rattle.closed_machine.specs.declared.parts.CorePart.{CorePart}
use Rattle.closed_machine.specs.Sending.{OutboxState}
use Rattle.closed_machine.specs.RunParts.{Parts}
use Rattle.closed_machine.specs.RunSums.{Left, AreCountsOf, messages_left, plus}
use Rattle.closed_machine.proofs.RunStates.{found}

-- with one number more
pub over_more : (n : ℕ) (f : ℕ → ℕ) (sum more : ℕ) → sum ≡ over n f → more ≡ f n → sum + more ≡ over (n + 1) f
over_more n f sum more a b = rw (add-one n) (λ i. a i + b i)

pub counts_more : (n : ℕ) (each : ℕ → Counts) (sum more : Counts) → sum ≡ counts_of n each → more ≡ each n →
    plus sum more ≡ counts_of (n + 1) each
counts_more n each sum more a b = rw (add-one n) (λ i. plus (a i) (b i))

-- and within the sum of the two bounds
pub within_more : (sum more new : Counts) (m n most : ℕ) → AreCounts sum m → AreCounts more n → new ≡ plus sum more →
    m + n ≡ most → AreCounts new most
within_more sum more new m n most p q is all =
    record {
      renewals = let e = ap (λ (x : Counts). x.renewals) is in let a = p.renewals in let b = q.renewals in omega arith;
      upgrades = let e = ap (λ (x : Counts). x.upgrades) is in let a = p.upgrades in let b = q.upgrades in omega arith;
      flushes = let e = ap (λ (x : Counts). x.flushes) is in let a = p.flushes in let b = q.flushes in omega arith;
      write_backs =
          let e = ap (λ (x : Counts). x.write_backs) is in
          let a = p.write_backs in
          let b = q.write_backs in
          omega arith;
    }

-- with one message more, if there is one
weigh_take : (f : Message → ℕ) (xs : List Message) (n : ℕ) →
    weigh f (take (suc n) xs) ≡ weigh f (take n xs) + weigh f (option_to_list (slice_get xs n))
weigh_take f [] zero = omega arith
weigh_take f [] (suc n) = omega arith
weigh_take f (x ∷ xs) zero = omega arith
weigh_take f (x ∷ xs) (suc n) = let r = weigh_take f xs n in omega arith

pub weigh_more : (f : Message → ℕ) (xs : List Message) (n sum more : ℕ) → sum ≡ weigh f (take n xs) →
    more ≡ weigh f (option_to_list (slice_get xs n)) → sum + more ≡ weigh f (take (n + 1) xs)
weigh_more f xs n sum more a b = rw (add-one n) (let r = weigh_take f xs n in omega arith)

-- the messages that a seat left, added up place by place
pub weigh_left : (f : Message → ℕ) (outbox : OutboxState) (inbox : InboxState Message) (out hand held : ℕ) →
    out ≡ weigh f outbox.messages → hand ≡ weigh f (option_to_list inbox.hand) → held ≡ weigh f inbox.held →
    out + hand + held ≡ weigh f (messages_left outbox inbox)
weigh_left f outbox inbox out hand held a b c =
    let first = weigh-append f outbox.messages (option_to_list inbox.hand ++ inbox.held) in
    let second = weigh-append f (option_to_list inbox.hand) inbox.held in
    omega arith

-- what a seat left is what the state has of it
module _ (run : Run) (number : ℕ) (outbox : OutboxState) (inbox : InboxState Message)
    (left : Left run number outbox inbox) where
  pub left_counts : (each : ℕ → Counts) → AreCountsOf run each → outbox.counts ≡ each number
  left_counts each counts =
      ⊎_elim
      (λ x. ap (λ (o : OutboxState). o.counts) (sym x.4) ∙ sym (counts.0 x.0 x.1 x.2) ∙ ap each x.3)
      (λ x. ap (λ (o : OutboxState). o.counts) (sym x.4) ∙ sym (counts.1 x.0 x.1 x.2) ∙ ap each x.3)
      left

  pub left_messages : (parts : Parts run) → messages_left outbox inbox ≡ bag_of_hold (parts.seats number)
  left_messages parts =
      ⊎_elim
      (λ x.
      let is = parts.of_cores x.0 x.1 x.2 in
      (λ i. messages_left (sym x.4 i) (sym x.5 i))
      ∙ (λ i. sym is.outbox i ++ (option_to_list (sym is.hand i) ++ sym is.held i))
      ∙ ap (λ j. bag_of_hold (parts.seats j)) x.3)
      (λ x.
      let is = parts.of_banks x.0 x.1 x.2 in
      (λ i. messages_left (sym x.4 i) (sym x.5 i))
      ∙ (λ i. sym is.outbox i ++ (option_to_list (sym is.hand i) ++ sym is.held i))
      ∙ ap (λ j. bag_of_hold (parts.seats j)) x.3)
      left

-- the core that is read at a place where a part of its number stands
pub found_core : (run : Run) (parts : Parts run) (core at : ℕ) (p q : CorePart) →
    slice_get run.cores.items at ≡ Some p → p.number ≡ core → q ≡ get_or run.cores.items at q →
    q.core ≡ (parts.seats core).core
found_core run parts core at p q e n is =
    let here = found (λ (x : CorePart). x.number) run.cores.items core at p q e n is in
    sym (parts.of_cores at q here.0).core ∙ ap (λ j. (parts.seats j).core) here.1

-- what is read at the place of a slot is in flight there
pub found_content : (run : Run) (parts : Parts run) (k : ℕ) (o : Option Message) → k < slot_count run.set_up →
    o ≡ get_or run.slots.items k o → option_to_list o ≡ content (parts.phases k)
found_content run parts k o l read =
    let at = parts.lying k l in
    let here = slice_get_read run.slots.items (length run.slots.items) k o refl
    (slice_get_within run.slots.items k (lies (parts.phases k)) at) read in
    ap option_to_list (some_is (sym here ∙ at)) ∙ sym (parts.home k l)

-- what the seats of the state counted is what their parts did
pub state_counts : (run : Run) (parts : Parts run) → AreCountsOf run (λ j. (parts.seats j).counts)
state_counts run parts =
    ((λ i p e. (parts.of_cores i p e).counts), (λ i p e. (parts.of_banks i p e).counts))
