-- What stays of the rule when one seat moves.
use Rattle.std.proofs.Common.{◌≡◌, ◌≢◌, ℕ, ◌+◌, ◌/◌, ◌<◌, ◌^◌, false, List, ◌++◌, length, get_or, set, Option}
use Rattle.std.proofs.Common.{rules, sym, refl, ap, ◌∙◌, subst, arith, length-set, get_or-set_other, get_or-set_same}
use Rattle.std.proofs.lemmas.Bool.Decides.{nat_tests}
use Rattle.std.proofs.lemmas.Grind.{common_steps}
use mathlib.Core.Option.{some}
use lib.ListN.{get_elem?}
use Rattle.atomic_table.specs.Table.{State}
use Rattle.physiological_order.specs.declared.operation.Record.{Record}
use Rattle.physiological_order.specs.Order.{of_core}
use Rattle.network.specs.declared.message.Message.{Message}
use Rattle.machine_theorem.specs.Bags.{weigh, SameBag}
use Rattle.machine_theorem.specs.Moves.{same}
use Rattle.seat_views.specs.declared.views.View.{View}
use Rattle.seat_views.specs.Seated.{over, with_value_at, with_hold}
use Rattle.seat_views.proofs.Lemmas.{at_put, over_put, over_put_by, put_here, within, shown_set}
use Rattle.seat_rule.specs.declared.views.SetUp.{SetUp}
use Rattle.seat_rule.specs.declared.views.Stage.{Stage}
use Rattle.seat_rule.specs.declared.views.Hold.{Hold}
use Rattle.seat_rule.specs.Rule.{Phase, content, Homes, InPhase, At, Busy, Addressed, node_of, bag_of_hold}
use Rattle.seat_rule.specs.Rule.{opening_hold}
use Rattle.seat_rule.specs.Rule.{no_hold, gather, counts_of, MovesReach, in_flight, IsPrefix, weigh_links, RuleIsKept}
use Rattle.seat_rule.specs.Plays.{Standing, SamePart}
use Rattle.seat_rule.proofs.Phases.{Only, busy_moves, phase_moves}
use Rattle.seat_rule.proofs.Weights.{weigh-append, weigh_together}

-- the same seats, with the same messages in another order
pub rebag : (z : SetUp) (n : ℕ) (seats : ℕ → Hold) (xs ys : List Message) (log : List Record) → SameBag xs ys →
    MovesReach z n seats xs log → MovesReach z n seats ys log
rebag z n seats xs ys log e r = same r (search (rules, e))

-- what a seat has of its own is the same, for all seats
pub same_of : {X : Type 0} (g : Hold → X) (seats : ℕ → Hold) (id : ℕ) (h : Hold) → g h ≡ g (seats id) →
    (j : ℕ) → g (seats j) ≡ g (with_value_at seats id h j)
same_of g seats id h e j = at_put seats id h (λ i x. g (seats i) ≡ g x) j (sym e) (λ _. refl)

-- seats of which one changed nothing that the state shows, with the same messages in another order
reseat : (z : SetUp) (n : ℕ) (seats : ℕ → Hold) (id : ℕ) (h : Hold) (xs ys : List Message) (log : List Record) →
    SamePart (seats id) h → SameBag xs ys → MovesReach z n seats xs log → MovesReach z n (with_value_at seats id h) ys
    log
reseat z n seats id h xs ys log p e r =
    let counts : (λ j. (seats j).counts) ≡ (λ j. (with_value_at seats id h j).counts) =
    λ i j. same_of (λ x. x.counts) seats id h p.counts j i in
    same r (record {
      cores = same_of (λ x. x.core) seats id h p.core;
      banks = λ b. same_of (λ x. x.bank) seats id h p.bank (z.config.cores + b);
      drams = λ b. same_of (λ x. x.dram) seats id h p.dram (z.config.cores + b);
      bag = e;
      issued = same_of (λ x. x.issued) seats id h p.issued;
      records = refl;
      counts = ap (counts_of n) counts;
    })

-- a seat that isn't spent, of a table that keeps the rule
module _ (z : SetUp) (n : ℕ) (from to : ℕ → ℕ) (slots : ℕ) (s : State (Option Message) (View Hold))
    (r : RuleIsKept z n from to slots s) (id : ℕ) (v : View Hold) (at : get_elem? s.views id ≡ some v)
    (live : v.spent ≡ false) where
  pub old_is : r.seats id ≡ v.mine
  old_is = r.shown.mine id v at live

  pub seated : id < n
  seated = let a = within s.views id v at in let b = r.shown.few in omega arith

  -- what a fact about the seat's hold says of the new hold
  of_new : {X : Type 0} (g : Hold → X) (F : ℕ → X → Type 0) (h : Hold) → g h ≡ g v.mine →
      ((j : ℕ) → F j (g (r.seats j))) → (j : ℕ) → F j (g (with_value_at r.seats id h j))
  of_new g F h e all j =
      at_put r.seats id h (λ i x. F i (g x)) j (subst (F id) (ap g old_is ∙ sym e) (all id)) (λ _. all j)

  -- a sum over seats, after this one holds h
  sum_moves : (w : Hold → ℕ) (h : Hold) →
      over n (λ j. w (with_value_at r.seats id h j)) + w v.mine ≡ over n (λ j. w (r.seats j)) + w h
  sum_moves w h = let q0 = over_put n w r.seats id h seated in grind (arith, nat_tests, q0)

  -- a step on the word of slot k
  module _ (h : Hold) (k x : ℕ) (homes' : Homes) (phase : Phase) (near : k < slots)
      (long : length homes' ≡ length s.homes)
      (same_homes : (i : ℕ) → i ≢ k → get_elem? homes' i ≡ get_elem? s.homes i) (here : InPhase x homes' k phase)
      (others : (j : ℕ) → j ≢ id → At from to slots (with_value_at r.phases k phase) j (r.seats j).stage)
      (there : Addressed (λ i. node_of z (to i)) k phase) (only : Only k v.mine.stage)
      (busy : Busy from to (λ j. (with_value_at r.seats id h j).stage) k phase)
      (mine : At from to slots (with_value_at r.phases k phase) id h.stage) (part : SamePart v.mine h)
      (bag : (f : Message → ℕ) →
      weigh f (bag_of_hold h) + weigh f (content phase) ≡ weigh f (bag_of_hold v.mine) + weigh f (content (r.phases k)))
      (links : (f : ℕ → Message → ℕ) →
      weigh_links f h.put + weigh_links f v.mine.taken + weigh (f (k / 4)) (content (r.phases k)) ≡
      weigh_links f v.mine.put + weigh_links f h.taken + weigh (f (k / 4)) (content phase)) where
    abbrev seats' : ℕ → Hold
    seats' = with_value_at r.seats id h

    abbrev phases' : ℕ → Phase
    phases' = with_value_at r.phases k phase

    slots_in_phase : (j : ℕ) → j < slots → InPhase (get_or (set s.words k x) j 0) homes' j (phases' j)
    slots_in_phase j l =
        grind (arith, nat_tests, common_steps, at_put, get_or, get_or-set_other, get_or-set_same, phase_moves)

    slots_busy : (j : ℕ) → j < slots → Busy from to (λ i. (seats' i).stage) j (phases' j)
    slots_busy j l = grind (arith, nat_tests, common_steps, at_put, busy_moves, old_is)

    links_balance : (f : ℕ → Message → ℕ) →
        over n (λ j. weigh_links f (seats' j).put) ≡
        over n (λ j. weigh_links f (seats' j).taken) + over slots (λ j. weigh (f (j / 4)) (content (phases' j)))
    links_balance f =
        let a = r.links f in
        let b = sum_moves (λ g. weigh_links f g.put) h in
        let c = sum_moves (λ g. weigh_links f g.taken) h in
        let d : over slots (λ j. weigh (f (j / 4)) (content (phases' j))) + weigh (f (k / 4)) (content (r.phases k))
        ≡ over slots (λ j. weigh (f (j / 4)) (content (r.phases j))) + weigh (f (k / 4)) (content phase) =
        over_put_by slots (λ j p. weigh (f (j / 4)) (content p)) r.phases k phase near in
        let e = links f in
        omega arith

    same_flight : SameBag (in_flight n slots r.seats r.phases) (in_flight n slots seats' phases')
    same_flight f =
        let a = weigh_together f n slots (λ j. bag_of_hold (r.seats j)) (λ j. content (r.phases j)) in
        let b = weigh_together f n slots (λ j. bag_of_hold (seats' j)) (λ j. content (phases' j)) in
        let c = sum_moves (λ g. weigh f (bag_of_hold g)) h in
        let d = over_put slots (λ (p : Phase). weigh f (content p)) r.phases k phase near in
        let e = bag f in
        omega arith

    pub slot_moves : RuleIsKept z n from to slots
        (record { words = set s.words k x; homes = homes'; views = set s.views id (with_hold v h) })
    slot_moves =
        record {
          seats = seats';
          phases = phases';
          log = r.log;
          shown = shown_set Hold (opening_hold z) n s.views r.seats id v h r.shown at live;
          wide = length-set s.words k x ∙ r.wide;
          homes = long ∙ r.homes;
          count = get_or-set_other s.words k slots x 0 (λ e. omega arith) ∙ r.count;
          each_slot = slots_in_phase;
          each_seat = λ j. at_put r.seats id h (λ i g. At from to slots phases' i g.stage) j mine (others j);
          busy = slots_busy;
          addressed = λ j l.
              at_put r.phases k phase (Addressed (λ i. node_of z (to i))) j there (λ _. r.addressed j l);
          links = links_balance;
          reached = reseat z n r.seats id h (in_flight n slots r.seats r.phases) (in_flight n slots seats' phases')
              r.log (subst (λ (g : Hold). SamePart g h) (sym old_is) part) same_flight r.reached;
          seen = of_new (λ g. g.seen) (λ _ xs. IsPrefix xs r.log) h part.seen r.seen;
          total = let a = sum_moves (λ g. length g.records) h in
              let b : length h.records ≡ length v.mine.records = ap length part.records in
              let c = r.total in
              omega arith;
          bounded = of_new (λ g. g.records) (λ _ xs. length xs < 2 ^ 32) h part.records r.bounded;
          own = of_new (λ g. g.records) (λ i xs. of_core i r.log ≡ xs) h part.records r.own;
        }

  -- the messages of all others
  abbrev pub others : List Message
  others = gather n (λ j. bag_of_hold (with_value_at r.seats id no_hold j)) ++ gather slots (λ k. content (r.phases k))

  joined : (h : Hold) → SameBag (bag_of_hold h ++ others) (in_flight n slots (with_value_at r.seats id h) r.phases)
  joined h f =
      let a = weigh_together f n slots (λ j. bag_of_hold (with_value_at r.seats id h j)) (λ j. content (r.phases j)) in
      let b = weigh_together f n slots (λ j. bag_of_hold (with_value_at r.seats id no_hold j))
      (λ j. content (r.phases j)) in
      let c = sum_moves (λ g. weigh f (bag_of_hold g)) no_hold in
      let d = sum_moves (λ g. weigh f (bag_of_hold g)) h in
      let e = weigh-append f (bag_of_hold h) others in
      omega arith

  apart : SameBag (in_flight n slots r.seats r.phases) (bag_of_hold v.mine ++ others)
  apart f =
      let a = weigh_together f n slots (λ j. bag_of_hold (r.seats j)) (λ j. content (r.phases j)) in
      let b = weigh_together f n slots (λ j. bag_of_hold (with_value_at r.seats id no_hold j))
      (λ j. content (r.phases j)) in
      let c = sum_moves (λ g. weigh f (bag_of_hold g)) no_hold in
      let d = weigh-append f (bag_of_hold v.mine) others in
      omega arith

  -- the state, with the seat's messages apart from the others
  pub alone : MovesReach z n r.seats (bag_of_hold v.mine ++ others) r.log
  alone = rebag z n r.seats (in_flight n slots r.seats r.phases) (bag_of_hold v.mine ++ others) r.log apart r.reached

  pub whole_again : (h : Hold) (log : List Record) → MovesReach z n (with_value_at r.seats id h)
      (bag_of_hold h ++ others) log →
      MovesReach z n (with_value_at r.seats id h) (in_flight n slots (with_value_at r.seats id h) r.phases) log
  whole_again h log q = grind (arith, nat_tests, common_steps, joined, rebag)

  -- a step on the last word
  module _ (h : Hold) (x : ℕ) (log : List Record) (count : x ≡ length log) (stage : h.stage ≡ v.mine.stage)
      (puts : h.put ≡ v.mine.put) (takes : h.taken ≡ v.mine.taken)
      (reached : MovesReach z n (with_value_at r.seats id h) (bag_of_hold h ++ others) log)
      (seen : (j : ℕ) → IsPrefix (with_value_at r.seats id h j).seen log)
      (total : length log + length v.mine.records ≡ length r.log + length h.records)
      (bounded : length h.records < 2 ^ 32) (own : (j : ℕ) → of_core j log ≡ (with_value_at r.seats id h j).records)
    where
      same_stage : (q : ℕ) → (r.seats q).stage ≡ (with_value_at r.seats id h q).stage
      same_stage = same_of (λ g. g.stage) r.seats id h (stage ∙ ap (λ (g : Hold). g.stage) (sym old_is))

      pub count_moves : RuleIsKept z n from to slots
          (record { words = set s.words slots x; homes = s.homes; views = set s.views id (with_hold v h) })
      count_moves =
          let wide = r.wide in
          record {
            seats = with_value_at r.seats id h;
            phases = r.phases;
            log = log;
            shown = shown_set Hold (opening_hold z) n s.views r.seats id v h r.shown at live;
            wide = length-set s.words slots x ∙ r.wide;
            homes = r.homes;
            count = get_or-set_same s.words slots x 0 (omega arith) ∙ count;
            each_slot = λ j l.
                subst (λ y. InPhase y s.homes j (r.phases j))
                (sym (get_or-set_other s.words slots j x 0 (λ e. omega arith))) (r.each_slot j l);
            each_seat = of_new (λ g. g.stage) (At from to slots r.phases) h stage r.each_seat;
            busy = λ j l.
                subst (λ (y : ℕ → Stage). Busy from to y j (r.phases j)) (λ i q. same_stage q i) (r.busy j l);
            addressed = r.addressed;
            links = λ f. let a = r.links f in
                let b = sum_moves (λ g. weigh_links f g.put) h in
                let c = sum_moves (λ g. weigh_links f g.taken) h in
                let p : weigh_links f h.put ≡ weigh_links f v.mine.put = ap (weigh_links f) puts in
                let q : weigh_links f h.taken ≡ weigh_links f v.mine.taken = ap (weigh_links f) takes in
                omega arith;
            reached = whole_again h log reached;
            seen = seen;
            total = let a = sum_moves (λ g. length g.records) h in let b = r.total in omega arith;
            bounded = λ j. at_put r.seats id h (λ i g. length g.records < 2 ^ 32) j bounded (λ _. r.bounded j);
            own = own;
          }

-- what a seat holds is a part of a reached state
pub standing_of : (z : SetUp) (n : ℕ) (from to : ℕ → ℕ) (slots : ℕ) (s : State (Option Message) (View Hold)) (id : ℕ)
    (w : View Hold) → RuleIsKept z n from to slots s → get_elem? s.views id ≡ some w → w.spent ≡ false →
    Standing z n w.number w.mine
unfolding Standing
standing_of z n from to slots s id w r at live =
    let is = old_is z n from to slots s r id w at live in
    subst (λ j. Standing z n j w.mine) (sym (r.shown.number id w at live)) (
      r.seats,
      others z n from to slots s r id w at live,
      r.log,
      is,
      alone z n from to slots s r id w at live,
      r.own id ∙ ap (λ (g : Hold). g.records) is,
    )

-- and it is so still, where nothing changes that the state shows
pub stands_on : (z : SetUp) (n id : ℕ) (a b : Hold) → SamePart a b → SameBag (bag_of_hold a) (bag_of_hold b) →
    Standing z n id a → Standing z n id b
unfolding Standing
stands_on z n id a b part bag s = (
  with_value_at s.0 id b,
  s.1,
  s.2,
  put_here s.0 id b,
  reseat z n s.0 id b (bag_of_hold a ++ s.1) (bag_of_hold b ++ s.1) s.2
      (subst (λ (g : Hold). SamePart g b) (sym s.3) part)
      (λ f.
      let x = weigh-append f (bag_of_hold a) s.1 in
      let y = weigh-append f (bag_of_hold b) s.1 in
      let e = bag f in
      omega arith)
      s.4,
  s.5 ∙ sym part.records,
)
