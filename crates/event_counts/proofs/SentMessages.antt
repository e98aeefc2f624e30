-- The messages that events send, one at most each, are counted.
use Rattle.std.proofs.Common.{◌≡◌, ℕ, ◌+◌, ◌-◌, ◌^◌, ◌<◌, ◌≤◌, Bool, true, false, cond, eqb, List, [], ◌∷◌, ◌++◌}
use Rattle.std.proofs.Common.{length, Option, Some, None, refl, ap, ◌∙◌, arith}
use Rattle.std.proofs.lemmas.Bool.{cond_both}
use Rattle.std.proofs.lemmas.Bool.Decides.{nat_tests}
use Rattle.std.proofs.lemmas.Grind.{common_steps}
use Rattle.network.specs.declared.message.Message.{Message}
use Rattle.network.specs.declared.message.Node.{Node}
use Rattle.network.specs.Mail.{Mail, sent as sent_by}
use Rattle.network.specs.NumberedMessages.{at_number, without_number}
use Rattle.machine_table.specs.declared.event.Event.{Event}
use Rattle.machine_table.specs.declared.event.Answer.{Answer}
use Rattle.machine_table.specs.declared.event.Refusal.TheVariants as refusal
use Rattle.machine_table.specs.Machine.{Machine, with_core, with_bank, with_dram}
use Rattle.machine_table.specs.Posted.{can_post, left, posted}
use Rattle.machine_table.specs.Runs.{after_all}
use Rattle.machine_table.specs.Step.{Step, Makes, Drops}
use Rattle.machine_table.specs.Transition.{changed, refused, transition}
use Rattle.machine_table.proofs.Lemmas.{Outcome, core_steps, bank_steps, dram_steps, transition_outcome}
use Rattle.event_counts.specs.Counts.{EventCounts, more}
use Rattle.event_counts.specs.Losses.{Lost, at_risk}
use Rattle.schedules.specs.Watches.{watched}
use Rattle.event_counts.specs.Counting.{Counter, answered, counted, counter_events, counter_seen, goes_to, is_row}
use Rattle.event_counts.specs.Counting.{seen}
use Rattle.event_counts.proofs.KeptCounts.{IsKept, answered_keeps, followed, row_counts}

module _ {X : Type 0} where
  -- a number that nothing has is still free where something is taken
  free_without : (k n : ℕ) (xs : List (ℕ × X)) → at_number k xs ≡ None → at_number k (without_number n xs) ≡ None
  free_without k n [] none = refl
  free_without k n (x ∷ xs) none = let rest = free_without k n xs in grind (arith, nat_tests, common_steps, rest)

  -- what is added behind is found by its number, where that was free
  added : (k n : ℕ) (x : X) (xs : List (ℕ × X)) → at_number k xs ≡ None →
      at_number k (xs ++ (n, x) ∷ []) ≡ cond (eqb n k) (Some x) None
  added k n x [] none = refl
  added k n x (y ∷ xs) none = let rest = added k n x xs in grind (arith, nat_tests, common_steps, rest)

-- no message in flight has the next number or a later one, and the numbers that are given end at 2 ^ 64 - 2
pub record IsOpen (mail : Mail) : Type 0 where
  pub free : (k : ℕ) → mail.next ≤ k → at_number k mail.messages ≡ None
  pub bound : mail.next < 2 ^ 64

-- the next number that is to be counted, by what is in flight with it
abbrev next_after : ℕ → Option Message → ℕ
next_after next None = next
next_after next (Some message) = more next

-- what an event leaves, where this was the next number: one message more at most, which is in flight with it
pub record SendsOne (next : ℕ) (after : Mail) : Type 0 where
  pub opened : IsOpen after
  pub most : after.next ≤ next + 1
  pub counted : next_after next (at_number next after.messages) ≡ after.next

module _ (mail : Mail) (opened : IsOpen mail) where
  -- nothing is sent
  none : SendsOne mail.next mail
  none = record {
    opened = opened;
    most = omega arith;
    counted = ap (next_after mail.next) (opened.free mail.next (omega arith));
  }

  -- a message is sent
  one : (message : Message) → mail.next < 2 ^ 64 - 1 → SendsOne mail.next (sent_by mail message)
  one message number = record {
    opened = record {
      free = λ k later. let at = added k mail.next message mail.messages (opened.free k (omega (arith, later))) in
          grind (arith, nat_tests, common_steps, at, later);
      bound = omega (arith, number);
    };
    most = omega arith;
    counted = let at = added mail.next mail.next message mail.messages (opened.free mail.next (omega arith)) in
        grind (arith, nat_tests, common_steps, at, number);
  }

  -- a message is taken
  taken : (n : Option ℕ) → IsOpen (left mail n)
  taken None = opened
  taken (Some n) = record {
    free = λ k later. free_without k n mail.messages (opened.free k later);
    bound = opened.bound;
  }

module _ (m : Machine) (opened : IsOpen m.mail) where
  posts : (n : Option ℕ) (consumes : Bool) (sends : Option Message) →
      can_post m.config.messages m.mail consumes sends ≡ true → SendsOne m.mail.next (posted m.mail n consumes sends)
  posts n true None can = none (left m.mail n) (taken m.mail opened n)
  posts n false None can = none m.mail opened
  posts n true (Some message) can =
      one (left m.mail n) (taken m.mail opened n) message (grind (arith, nat_tests, common_steps, can))
  posts n false (Some message) can = one m.mail opened message (grind (arith, nat_tests, common_steps, can))

  changes : {S : Type 0} (put : S → Machine) (n : Option ℕ) (done : Step S) →
      SendsOne m.mail.next (changed m put n done).1.mail
  changes put n Drops = none (left m.mail n) (taken m.mail opened n)
  changes put n (Makes answer consumes sends part) =
      cond_both (can_post m.config.messages m.mail consumes sends)
      (answer, record (put part) { mail = posted m.mail n consumes sends }) (refused m refusal.NetworkFull)
      (λ o. SendsOne m.mail.next o.1.mail) (λ e. posts n consumes sends e) (λ e. none m.mail opened)
  changes put n _ = none m.mail opened

  outcome_sends : (e : Event) (o : Answer × Machine) → Outcome m e o → SendsOne m.mail.next o.1.mail
  outcome_sends e o (core_steps c core act n done at given is fits) = changes (with_core m c) n done
  outcome_sends e o (bank_steps b bank act n done at given is fits) = changes (with_bank m b) n done
  outcome_sends e o (dram_steps b lines act n done at given is fits) = changes (with_dram m b) n done
  outcome_sends e o _ = none m.mail opened

  pub event_sends : (e : Event) → SendsOne m.mail.next (transition m e).1.mail
  event_sends e = outcome_sends e (transition m e) (transition_outcome m e)

-- what an event adds to the counts leaves the next number, but for the message that was sent
next_is : (next : ℕ) → IsKept (λ n. n.next ≡ next)
next_is next = record {
  told = λ n events held dropped has. has;
  at_cores = λ n core change leaves has. has;
  at_banks = λ n bank change has. has;
}

seen_next : (n : EventCounts) (lost : Lost) (to : Option Node) (e : Event) (a : Answer) (after : Machine)
    (o : Option Message) → (seen n lost to e a after o).next ≡ next_after n.next o
seen_next n lost to e a after o = by o
  where
    told : (answered (record n { events = more n.events }) lost to e a after).next ≡ n.next
    told = answered_keeps (λ k. k.next ≡ n.next) (next_is n.next) (λ k r has. has)
        (record n { events = more n.events }) lost to e a after refl

    by : (o : Option Message) → (seen n lost to e a after o).next ≡ next_after n.next o
    by None = told
    by (Some x) = followed (λ k. k.next ≡ more n.next) (next_is (more n.next)) _ after e x (ap more told)

-- counts that have all messages sent so far have all that a list of events sends
pub all_counted : (m : Machine) (events : List Event) (k : Counter) → IsOpen m.mail → k.counts.next ≡ m.mail.next →
    (watched counter_events k m events).counts.next ≡ (after_all m events).mail.next
all_counted m [] k opened has = has
all_counted m (e ∷ events) k opened has =
    let next = transition m e in let sends = event_sends m opened e in
    let o = at_number k.counts.next next.1.mail.messages in
    all_counted next.1 events (counter_seen k m e next.0 next.1) sends.opened
    (ap (λ (n : EventCounts). n.next) (row_counts (counted k (goes_to m e) (at_risk m e) e next.0 next.1)
    (is_row k.every (length next.1.records) next.0))
    ∙ seen_next k.counts k.lost (goes_to m e) e next.0 next.1 o
    ∙ ap (λ n. next_after n (at_number n next.1.mail.messages)) has ∙ sends.counted)

-- one event sends one message at most, whatever is in flight
pub one_at_most : (m : Machine) (e : Event) → (transition m e).1.mail.next ≤ m.mail.next + 1
one_at_most m e = by e (transition m e) (transition_outcome m e)
  where
    posts_one : (n : Option ℕ) (consumes : Bool) (sends : Option Message) →
        (posted m.mail n consumes sends).next ≤ m.mail.next + 1
    posts_one n true None = omega arith
    posts_one n false None = omega arith
    posts_one n true (Some message) = omega arith
    posts_one n false (Some message) = omega arith

    changes_one : {S : Type 0} (put : S → Machine) (n : Option ℕ) (done : Step S) →
        (changed m put n done).1.mail.next ≤ m.mail.next + 1
    changes_one put n Drops = omega arith
    changes_one put n (Makes answer consumes sends part) =
        cond_both (can_post m.config.messages m.mail consumes sends)
        (answer, record (put part) { mail = posted m.mail n consumes sends }) (refused m refusal.NetworkFull)
        (λ o. o.1.mail.next ≤ m.mail.next + 1) (λ e. posts_one n consumes sends) (λ e. omega arith)
    changes_one put n _ = omega arith

    by : (e : Event) (o : Answer × Machine) → Outcome m e o → o.1.mail.next ≤ m.mail.next + 1
    by e o (core_steps c core act n done at given is fits) = changes_one (with_core m c) n done
    by e o (bank_steps b bank act n done at given is fits) = changes_one (with_bank m b) n done
    by e o (dram_steps b lines act n done at given is fits) = changes_one (with_dram m b) n done
    by e o _ = omega arith
