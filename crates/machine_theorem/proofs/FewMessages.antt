-- A machine that no event of a round changes has at most one message in flight for each core, if the recalls that cores
-- hold find the owners.
use Rattle.std.proofs.Common.{◌≡◌, ◌≢◌, ℕ, zero, suc, ◌+◌, ◌-◌, ◌^◌, ◌<◌, ◌≤◌, Bool, true, false, eqb, List, [], ◌∷◌}
use Rattle.std.proofs.Common.{length, Option, Some, None, inl, inr, ◌⊎◌, refl, sym, ap, ◌∙◌, subst, ⊎_elim, arith}
use Rattle.std.specs.List.{slice_get, AllByRecursion as Each}
use Rattle.std.specs.Ordering.{nat_cmp}
use Rattle.std.specs.FinMap.{FinMap}
use Rattle.std.proofs.lemmas.Bool.{cases_eq, cond-true, cond-false, eq-eqb, ne_eqb}
use Rattle.std.proofs.lemmas.Bool.Decides.{nat_tests}
use Rattle.physiological_order.specs.declared.operation.Op.{Op}
use Rattle.physiological_order.specs.Order.{address}
use Rattle.network.specs.declared.message.Body.{Body}
use Rattle.network.specs.declared.message.Body.TheVariants as body
use Rattle.network.specs.declared.message.Message.{Message}
use Rattle.network.specs.declared.message.Node.TheVariants as node
use Rattle.network.specs.NumberedMessages.{IsRising, at_number}
use Rattle.network.specs.Routes.{has_route, is_core_to_bank}
use Rattle.private_cache.specs.CopyTable.{is_pinned}
use Rattle.core_pts.specs.CoreTable.{pinned_line}
use Rattle.llc_bank.specs.BankTable.{core_of}
use Rattle.machine_table.specs.declared.config.Config.{Config}
use Rattle.machine_table.specs.declared.event.Event.{Event}
use Rattle.machine_table.specs.Machine.{Machine}
use Rattle.machine_table.specs.Opening.{at_start}
use Rattle.machine_table.specs.Runs.{after_all}
use Rattle.machine_table.specs.SetUp.{is_good}
use Rattle.protocol.specs.Machine as by_line
use Rattle.protocol.specs.Machine.{tally}
use Rattle.protocol.specs.Recalls.{recall_to, grant_to, OwnsOrWill}
use Rattle.protocol.proofs.Lemmas.{about, one_if, waits_here, waits_there}
use Rattle.machine_theorem.specs.Bags.{bag_of, weigh}
use Rattle.machine_theorem.specs.HeldRecalls.{RecallsFindOwners}
use Rattle.machine_theorem.specs.Kept.{Invariant}
use Rattle.machine_theorem.specs.Rounds.{IsRequest, MovesOn}
use Rattle.machine_theorem.specs.Shape.{GoesHome}
use Rattle.machine_theorem.specs.States.{seen}
use Rattle.machine_theorem.specs.View.{body_seen, message_seen, messages_of, line_in, set_up}
use Rattle.machine_theorem.proofs.ActiveParts.{IsRecall, pinned_here, recall_weighs}
use Rattle.machine_theorem.proofs.Bags.{bag-taken}
use Rattle.machine_theorem.proofs.Deliveries.{of_line, line_weighs}
use Rattle.machine_theorem.proofs.Events.{invariant}
use Rattle.machine_theorem.proofs.MovingOn.{Stays, a_request, a_recall, message_moves, light_moves, asks, owner_moves}
use Rattle.machine_theorem.proofs.RoundEvents.{CanSend}
use Rattle.machine_theorem.proofs.ServiceEvents.{bag_length, rising_after}
use Rattle.machine_theorem.proofs.Routes.{up_ends}
use Rattle.machine_theorem.proofs.SetUps.{after_all_same}

-- what is so of each message that is found is so of all, or something else is
each_found : (P : Message → Type 0) (Else : Type 0) (low high : ℕ) (ms : List (ℕ × Message)) → IsRising low ms high →
    ((n : ℕ) (x : Message) → low ≤ n → at_number n ms ≡ Some x → Else ⊎ P x) → Else ⊎ Each P (bag_of ms)
each_found P Else low high [] rising each = inr tt
each_found P Else low high (y ∷ ys) rising each = ⊎_elim (λ (e : Else). inl e)
    (λ (here : P y.1). ⊎_elim (λ (e : Else). inl e) (λ (rest : Each P (bag_of ys)). inr (here, rest))
    (each_found P Else (y.0 + 1) high ys rising.1
    (λ n x from at. each n x (let r = rising.0 in omega (arith, from, r))
    (cond-false (eqb y.0 n) (Some y.1) (at_number n ys) (ne_eqb y.0 n (λ e. omega (arith, e, from))) ∙ at))))
    (each y.0 y.1 rising.0 (cond-true (eqb y.0 y.0) (Some y.1) (at_number y.0 ys) (eq-eqb y.0 y.0 refl)))

-- what cores have together
abbrev total : ℕ → (ℕ → ℕ) → ℕ
total zero w = 0
total (suc n) w = w n + total n w

total_most : (n : ℕ) (w : ℕ → ℕ) → ((c : ℕ) → w c ≤ 1) → total n w ≤ n
total_most zero w most = omega arith
total_most (suc n) w most = let a = most n in let b = total_most n w most in omega (arith, a, b)

total_grows : (n : ℕ) (w v : ℕ → ℕ) → total n v ≤ total n (λ d. w d + v d)
total_grows zero w v = omega arith
total_grows (suc n) w v = let z = total_grows n w v in omega (arith, z)

one_more : (n c : ℕ) (w v : ℕ → ℕ) → c < n → 1 ≤ w c → total n v + 1 ≤ total n (λ d. w d + v d)
one_more zero c w v below some = absurd (omega (arith, below))
one_more (suc n) c w v below some = ⊎_elim
    (λ (e : c ≡ n). let z = total_grows n w v in let y = rw e at some in omega (arith, z, y))
    (λ (ne : c ≡ n → ⊥). let z = one_more n c w v (omega (arith, below, ne)) some in omega (arith, z)) (cases_eq c n)

-- a message about a core that there is
abbrev IsAbout : ℕ → Message → Type 0
IsAbout cores x = (core_of x.from < cores) × (1 ≤ about (core_of x.from) (message_seen x))

abbrev weight : List Message → ℕ → ℕ
weight bag c = weigh (λ x. about c (message_seen x)) bag

counted : (cores : ℕ) (bag : List Message) → Each (IsAbout cores) bag → length bag ≤ total cores (weight bag)
counted cores [] each = omega arith
counted cores (x ∷ xs) each =
    let z = one_more cores (core_of x.from) (λ d. about d (message_seen x)) (weight xs) each.0.0 each.0.1 in
    let y = counted cores xs each.1 in omega (arith, z, y)

-- where the other lines' messages weigh nothing, those of one weigh all
on_line : (w : by_line.Message → ℕ) (l : ℕ) (bag : List Message) →
    ((k : ℕ) → k ≢ l → weigh (of_line k w) bag ≡ 0) → weigh (λ x. w (message_seen x)) bag ≡ weigh (of_line l w) bag
on_line w l [] none = refl
on_line w l (x ∷ xs) none =
    let rest = on_line w l xs (λ k ne. let z = none k ne in omega (arith, z)) in
    let other = none x.line in grind (arith, nat_tests, rest, other)

-- a request is about its core, which there is
requests : (config : Config) (x : Message) → GoesHome config x → IsRequest x.body → IsAbout config.cores x
requests config x home is =
    let u = up_ends config.cores config.banks x.from x.to (route x.body is home.2) in
    (rw u.from_core u.some_core, asks x.body is (core_of x.from) (core_of x.to))
  where
    route : (b : Body) → IsRequest b → has_route config.cores config.banks x.from x.to b ≡ true →
        is_core_to_bank config.cores config.banks x.from x.to ≡ true
    route (body.ShReq pts version) is r = r
    route (body.ExReq version) is r = r
    route _ is r = absurd is

    asks : (b : Body) → IsRequest b → (from to : ℕ) → 1 ≤ about from (body_seen from to b)
    asks (body.ShReq pts version) is from to = let z = ap one_if (eq-eqb from from refl) in omega (arith, z)
    asks (body.ExReq version) is from to = let z = ap one_if (eq-eqb from from refl) in omega (arith, z)
    asks _ is from to = absurd is

module _ {more : Bool} (m : Machine) (able : CanSend more m) (s : Invariant m)
    (rising : IsRising 0 m.mail.messages m.mail.next) (owned : RecallsFindOwners m) where
  abbrev f : by_line.Config
  f = set_up m.config m.opening

  abbrev bag : List Message
  bag = bag_of m.mail.messages

  -- a recall that is held finds the owner, which completes its operation, or its grant
  held_moves : (n : ℕ) (x : Message) → at_number n m.mail.messages ≡ Some x → (c : ℕ) → x.to ≡ node.Core c →
      slice_get m.cores c ≡ Some ((seen m).cores c) → is_pinned (pinned_line ((seen m).cores c)) x.line ≡ true →
      IsRecall x.body → MovesOn m
  held_moves n x number c to at pinned is =
      by_owner (owned x.line c recalled (pinned_here m.config m.opening (seen m) s.kept c x.line pinned))
    where
      recalled : 1 ≤ tally (recall_to c) (messages_of bag x.line)
      recalled =
          let e = line_weighs x.line (recall_to c) bag in
          let t = bag-taken n m.mail.messages x number (of_line x.line (recall_to c)) in
          let w : of_line x.line (recall_to c) x ≡ 1 = cond-true (eqb x.line x.line) _ 0 (eq-eqb x.line x.line refl)
          ∙ recall_weighs x.body is (core_of x.from) (core_of x.to) c
          ∙ cond-true (eqb (core_of x.to) c) 1 0 (eq-eqb (core_of x.to) c (ap core_of to)) in
          omega (arith, e, t, w)

      by_owner : OwnsOrWill c (line_in m x.line) → MovesOn m
      by_owner (inr grant) = light_moves m able s rising (grant_to c) (λ d pts v. refl) (λ d v. refl) (λ d. refl)
          (λ d u. refl) x.line grant
      by_owner (inl owns) = owner_moves m able s rising c at x.line owns pinned

  all_requests : MovesOn m ⊎ Each (λ x. IsRequest x.body) bag
  all_requests = each_found (λ x. IsRequest x.body) (MovesOn m) 0 m.mail.next m.mail.messages rising
      (λ n x low number. ⊎_elim (λ (moves : MovesOn m). inl moves) (stays n x number)
      (message_moves m able s rising n x number))
    where
      stays : (n : ℕ) (x : Message) → at_number n m.mail.messages ≡ Some x → Stays m n x → MovesOn m ⊎ IsRequest x.body
      stays n x number (a_request b to at reacts is) = inr is
      stays n x number (a_recall c to at pinned is) = inl (held_moves n x number c to at pinned is)

  -- a core has at most one request in flight
  one_each : (c : ℕ) → weight bag c ≤ 1
  one_each c = by_out ((seen m).cores c).is_out ((seen m).cores c).open_op refl refl
    where
      weighs : (l : ℕ) → weigh (of_line l (about c)) bag
          ≡ by_line.waits f l ((seen m).cores c).is_out ((seen m).cores c).open_op
      weighs l = sym (line_weighs l (about c) bag) ∙ asks m able s rising l c

      by_out : (out : Bool) (o : Option Op) → ((seen m).cores c).is_out ≡ out → ((seen m).cores c).open_op ≡ o →
          weight bag c ≤ 1
      by_out true (Some op) is opens =
          let l : ℕ = by_line.line_of f (address op) in
          let at : (k : ℕ) → weigh (of_line k (about c)) bag ≡ by_line.waits f k true (Some op) = (λ k. weighs k
          ∙ ap (λ (b : Bool). by_line.waits f k b ((seen m).cores c).open_op) is ∙ ap (by_line.waits f k true) opens) in
          let z = on_line (about c) l bag (λ k ne. at k ∙ waits_there f k op ne) in
          let y = at l ∙ waits_here f op in omega (arith, z, y)
      by_out true None is opens =
          let at : (k : ℕ) → weigh (of_line k (about c)) bag ≡ 0 = (λ k. weighs k
          ∙ ap (λ (b : Bool). by_line.waits f k b ((seen m).cores c).open_op) is ∙ ap (by_line.waits f k true) opens) in
          let z = on_line (about c) 0 bag (λ k ne. at k) in let y = at 0 in omega (arith, z, y)
      by_out false o is opens =
          let at : (k : ℕ) → weigh (of_line k (about c)) bag ≡ 0 = (λ k. weighs k
          ∙ ap (λ (b : Bool). by_line.waits f k b ((seen m).cores c).open_op) is) in
          let z = on_line (about c) 0 bag (λ k ne. at k) in let y = at 0 in omega (arith, z, y)

  are_about : (ms : List Message) → Each (GoesHome m.config) ms → Each (λ x. IsRequest x.body) ms →
      Each (IsAbout m.config.cores) ms
  are_about [] homes are = tt
  are_about (x ∷ xs) homes are = (requests m.config x homes.0 are.0, are_about xs homes.1 are.1)

  pub few : MovesOn m ⊎ (length m.mail.messages ≤ m.config.cores)
  few = ⊎_elim (λ (moves : MovesOn m). inl moves)
      (λ (are : Each (λ x. IsRequest x.body) bag). inr
      (let z = counted m.config.cores bag (are_about bag s.kept.shape.each_message are) in
      let y = total_most m.config.cores (weight bag) one_each in
      let n = bag_length m.mail.messages in omega (arith, z, y, n))) all_requests

-- so it is after any list of events
pub few_after : (config : Config) (good : is_good config ≡ true) (opening : FinMap nat_cmp ℕ) (events : List Event) →
    let m = after_all (at_start config opening) events in
    m.is_stopped ≡ false → m.mail.next < 2 ^ 64 - 1 → RecallsFindOwners m →
    MovesOn m ⊎ (length m.mail.messages ≤ config.cores)
few_after config good opening events running numbers owned =
    let m : Machine = after_all (at_start config opening) events in
    let able : CanSend false m = record {
      runs = running;
      room = λ is. absurd (let z : false ≡ true = is in cc);
      numbers = numbers;
    } in
    subst (λ (c : Config). MovesOn m ⊎ (length m.mail.messages ≤ c.cores))
    (after_all_same (at_start config opening) events).config
    (few m able (invariant config opening events good) (rising_after (at_start config opening) events (omega arith))
    owned)
