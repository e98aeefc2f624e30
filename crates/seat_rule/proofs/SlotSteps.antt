-- The steps on a slot's word keep the rule: looks, a put and a take.
use Rattle.std.proofs.Common.{◌≡◌, ◌≢◌, ℕ, ◌+◌, ◌/◌, ◌<◌, ◌⊎◌, inl, inr, ⊎_elim, false, List, [], ◌∷◌, ◌++◌}
use Rattle.std.proofs.Common.{get_or, set, Option, Some, None, option_to_list, remove, sym, refl, ap, ◌∙◌, subst, arith}
use Rattle.std.proofs.Common.{length-set}
use Rattle.std.proofs.lemmas.Bool.Decides.{nat_tests}
use Rattle.std.proofs.lemmas.Grind.{common_steps}
use Rattle.std.specs.Prelude.{slice_get}
use mathlib.Core.Option.{some, none}
use lib.ListN.{get_elem?}
use Rattle.atomic_table.specs.Table.{State, step, Act, keeps, takes, gives, Valid, carried_after, stepped, Allows}
use Rattle.atomic_table.specs.Table.{rest}
use Rattle.atomic_table.proofs.Lists.{set_here, set_else}
use Rattle.network.specs.declared.message.Message.{Message}
use Rattle.machine_theorem.specs.Bags.{weigh}
use Rattle.seat_views.specs.declared.views.View.{View}
use Rattle.seat_views.specs.Seated.{with_value_at, with_hold}
use Rattle.seat_views.proofs.Lemmas.{put_here, at_put, within}
use Rattle.seat_rule.specs.declared.views.SetUp.{SetUp}
use Rattle.seat_rule.specs.declared.views.Stage.{Stage}
use Rattle.seat_rule.specs.declared.views.Stage.TheVariants.{Idle, Writing, Reading}
use Rattle.seat_rule.specs.declared.views.Hold.{Hold}
use Rattle.seat_rule.specs.Rule.{Phase, free, writing, full, reading, content, InPhase, At, Busy, Addressed, node_of}
use Rattle.seat_rule.specs.Rule.{bag_of_hold, weigh_links, RuleIsKept}
use Rattle.seat_rule.specs.Plays.{SeatState, looked, saw_out, saw_in, gave, SamePart, HoldPuts, HoldTakes, put_hold}
use Rattle.seat_rule.specs.Plays.{take_hold}
use Rattle.seat_rule.proofs.Weights.{weigh-append, weigh-remove, weigh_links-append}
use Rattle.seat_rule.proofs.Phases.{Only, at_elsewhere, at_same, idle_writing, idle_reading, free_reading, full_writing}
use Rattle.seat_rule.proofs.Phases.{writing_reading, reading_writing}
use Rattle.seat_rule.proofs.Frames.{old_is, slot_moves, standing_of}

abbrev Sets : Type 0
Sets = State (Option Message) (View Hold)

-- nothing of the seat's part moves
unmoved : {a : Hold} {xs : List (ℕ × ℕ)} {stage : Stage} → SamePart a (record a { looks = xs; stage = stage })
unmoved = record { core = refl; bank = refl; dram = refl; issued = refl; records = refl; counts = refl; seen = refl }

module _ (z : SetUp) (n : ℕ) (from to : ℕ → ℕ) (slots : ℕ) where
  abbrev K : Sets → Type 0
  K = RuleIsKept z n from to slots

  -- what a step has to give: a view and an act that keep the rule, of which `then` holds
  abbrev Goes : Sets → ℕ → ℕ → SeatState → (SeatState → Type 0) → ℕ → Type 0
  Goes s i id me then x =
      (w : View Hold) × (a : Act (Option Message)) × Valid s.homes me.1 a × K (stepped s i x id me.1 w a) ×
      then (w, carried_after me.1 a)

  module _ (s : Sets) (r : K s) (id : ℕ) (me : SeatState) (at : get_elem? s.views id ≡ some me.0)
      (live : me.0.spent ≡ false) where
    abbrev v : View Hold
    v = me.0

    is : r.seats id ≡ v.mine
    is = old_is z n from to slots s r id v at live

    -- another seat stays out with its slot if slot k isn't out with a seat, or is out with this one
    away : (k : ℕ) (phase : Phase) → (from k ≡ id) ⊎ (r.phases k ≢ writing) →
        (to k ≡ id) ⊎ ((m : Message) → r.phases k ≢ reading m) → (j : ℕ) → j ≢ id → (stage : Stage) →
        At from to slots r.phases j stage → At from to slots (with_value_at r.phases k phase) j stage
    away k phase f t j ne Idle a = tt
    away k phase f t j ne (Writing i) a = grind (arith, nat_tests, common_steps, at_elsewhere)
    away k phase f t j ne (Reading i m) a = grind (arith, nat_tests, common_steps, at_elsewhere)

    -- an idle seat isn't out with a slot
    module _ (k : ℕ) (idle : v.mine.stage ≡ Idle) where
      idle_at : (j : ℕ) → j ≡ id → (r.seats j).stage ≡ Idle
      idle_at j e = ap (λ q. (r.seats q).stage) e ∙ ap (λ (h : Hold). h.stage) is ∙ idle

      still_busy : (h : Hold) (phase : Phase) → Busy from to (λ j. (r.seats j).stage) k phase →
          Busy from to (λ j. (with_value_at r.seats id h j).stage) k phase
      still_busy h free b = tt
      still_busy h writing b = grind (arith, nat_tests, common_steps, at_put, idle_at, idle_writing)
      still_busy h (full m) b = tt
      still_busy h (reading m) b = grind (arith, nat_tests, common_steps, at_put, idle_at, idle_reading)

      -- a look that takes nothing out
      stays : (x : ℕ) → k < slots →
          K (stepped s k (get_or s.words k 0) id me.1 (with_hold v (looked v.mine k x Idle)) keeps)
      stays x near =
          slot_moves z n from to slots s r id v at live (looked v.mine k x Idle) k (get_or s.words k 0) s.homes
          (r.phases k) near refl (λ _ _. refl) (r.each_slot k near)
          (λ j ne. at_same from to slots r.phases j k (r.seats j).stage (r.each_seat j)) (r.addressed k near)
          (subst (Only k) (sym idle) tt) (still_busy (looked v.mine k x Idle) (r.phases k) (r.busy k near)) tt unmoved
          (λ f. refl) (λ f. refl)

      -- a look that takes the slot out, with what it has
      goes_out : (x : ℕ) (stage : Stage) (phase : Phase) (y : Option Message) → k < slots →
          content (r.phases k) ≡ content phase → InPhase (get_or s.words k 0) (set s.homes k none) k phase →
          ((j : ℕ) → j ≢ id → At from to slots (with_value_at r.phases k phase) j (r.seats j).stage) →
          Addressed (λ i. node_of z (to i)) k phase →
          Busy from to (λ j. (with_value_at r.seats id (looked v.mine k x stage) j).stage) k phase →
          At from to slots (with_value_at r.phases k phase) id stage →
          K (stepped s k (get_or s.words k 0) id me.1 (with_hold v (looked v.mine k x stage)) (takes k y))
      goes_out x stage phase y near same here others there busy mine =
          slot_moves z n from to slots s r id v at live (looked v.mine k x stage) k (get_or s.words k 0)
          (set s.homes k none) phase near (length-set s.homes k none) (λ i ne. set_else s.homes k i none ne) here
          others there (subst (Only k) (sym idle) tt) busy mine unmoved
          (λ f. ap (λ xs. weigh f (bag_of_hold v.mine) + weigh f xs) (sym same))
          (λ f. ap (λ xs. weigh_links f v.mine.put + weigh_links f v.mine.taken + weigh (f (k / 4)) xs) same)

    -- the slot that was taken out last is given back
    gives_back : (k x : ℕ) (h : Hold) (y : Option Message) (phase : Phase) → me.1 ≡ (k, y) ∷ rest me.1 → k < slots →
        InPhase x (set s.homes k (some y)) k phase →
        ((j : ℕ) → j ≢ id → At from to slots (with_value_at r.phases k phase) j (r.seats j).stage) →
        Addressed (λ i. node_of z (to i)) k phase → Only k v.mine.stage →
        Busy from to (λ j. (with_value_at r.seats id h j).stage) k phase → h.stage ≡ Idle → SamePart v.mine h →
        ((f : Message → ℕ) →
        weigh f (bag_of_hold h) + weigh f (content phase) ≡ weigh f (bag_of_hold v.mine) + weigh f
        (content (r.phases k))) →
        ((f : ℕ → Message → ℕ) →
        weigh_links f h.put + weigh_links f v.mine.taken + weigh (f (k / 4)) (content (r.phases k)) ≡
        weigh_links f v.mine.put + weigh_links f h.taken + weigh (f (k / 4)) (content phase)) →
        Goes s k id me (gave z n (with_hold v h) me) x
    gives_back k x h y phase held near here others there only busy idle part bag links =
        let w : View Hold = with_hold v h in
        let kept : K (stepped s k x id me.1 w gives) =
        subst (λ (c : List (ℕ × Option Message)). K (stepped s k x id c w gives)) (sym held)
        (slot_moves z n from to slots s r id v at live h k x (set s.homes k (some y)) phase near
        (length-set s.homes k (some y)) (λ i ne. set_else s.homes k i (some y) ne) here others there only busy
        (subst (At from to slots (with_value_at r.phases k phase) id) (sym idle) tt) part bag links) in
        let there : get_elem? (set s.views id w) id ≡ some w = set_here s.views id w (within s.views id v at) in (
          w,
          gives,
          tt,
          kept,
          (refl, refl, standing_of z n from to slots _ id w kept there live),
        )

  -- a look at a slot, by the source of its link
  pub sees_out : (id : ℕ) (me : SeatState) (k : ℕ) → k < slots → from k ≡ me.0.number → me.0.spent ≡ false →
      me.0.mine.stage ≡ Idle → Allows K slots id me k (λ x. x) (saw_out (step slots k 0 0 none) me)
  sees_out id me k near own live idle s r wide at fits = by (r.phases k) refl (r.each_slot k near)
    where
      mine : from k ≡ id
      mine = own ∙ r.shown.number id me.0 at live

      by : (phase : Phase) → r.phases k ≡ phase → InPhase (get_or s.words k 0) s.homes k phase →
          Goes s k id me (saw_out (step slots k 0 0 none) me (get_or s.words k 0)) (get_or s.words k 0)
      by free e p =
          let h = looked me.0.mine k 0 (Writing k) in (
            with_hold me.0 h,
            takes k None,
            p.1,
            goes_out s r id me at live k idle 0 (Writing k) writing None near (ap content e) p.0
                (λ j ne.
                away s r id me at live k writing (inl mine) (inr (λ m q. free_reading (sym e ∙ q))) j ne
                (r.seats j).stage (r.each_seat j)) tt
                (ap (λ q. (with_value_at r.seats id h q).stage) mine ∙ ap (λ (g : Hold). g.stage)
                (put_here r.seats id h))
                (near, mine, put_here r.phases k writing),
            inl (p.0, refl, refl),
          )
      by writing e p =
          idle_writing
          (sym (idle_at s r id me at live k idle (from k) mine)
          ∙ subst (Busy from to (λ j. (r.seats j).stage) k) e (r.busy k near))
      by (full m) e p = (
        with_hold me.0 (looked me.0.mine k 1 Idle),
        keeps,
        tt,
        stays s r id me at live k idle 1 near,
        inr (p.0, refl, refl),
      )
      by (reading m) e p = (
        with_hold me.0 (looked me.0.mine k 1 Idle),
        keeps,
        tt,
        stays s r id me at live k idle 1 near,
        inr (p, refl, refl),
      )

  -- a look at a slot, by the target of its link
  pub sees_in : (id : ℕ) (me : SeatState) (k : ℕ) → k < slots → to k ≡ me.0.number → me.0.spent ≡ false →
      me.0.mine.stage ≡ Idle → Allows K slots id me k (λ x. x) (saw_in z (step slots k 0 0 none) me)
  sees_in id me k near own live idle s r wide at fits = by (r.phases k) refl (r.each_slot k near)
    where
      mine : to k ≡ id
      mine = own ∙ r.shown.number id me.0 at live

      by : (phase : Phase) → r.phases k ≡ phase → InPhase (get_or s.words k 0) s.homes k phase →
          Goes s k id me (saw_in z (step slots k 0 0 none) me (get_or s.words k 0)) (get_or s.words k 0)
      by free e p = (
        with_hold me.0 (looked me.0.mine k 0 Idle),
        keeps,
        tt,
        stays s r id me at live k idle 0 near,
        inl (p.0, refl, refl),
      )
      by writing e p = (
        with_hold me.0 (looked me.0.mine k 0 Idle),
        keeps,
        tt,
        stays s r id me at live k idle 0 near,
        inl (p, refl, refl),
      )
      by (full m) e p =
          let h = looked me.0.mine k 1 (Reading k m) in
          let goes = subst (Addressed (λ i. node_of z (to i)) k) e (r.addressed k near) in (
            with_hold me.0 h,
            takes k (Some m),
            p.1,
            goes_out s r id me at live k idle 1 (Reading k m) (reading m) (Some m) near (ap content e) p.0
                (λ j ne.
                away s r id me at live k (reading m) (inr (λ q. full_writing (sym e ∙ q))) (inl mine) j ne
                (r.seats j).stage (r.each_seat j)) goes
                (ap (λ q. (with_value_at r.seats id h q).stage) mine ∙ ap (λ (g : Hold). g.stage)
                (put_here r.seats id h))
                (near, mine, put_here r.phases k (reading m)),
            inr (p.0, (m, refl, refl, goes ∙ ap (node_of z) own)),
          )
      by (reading m) e p =
          idle_reading
          (sym (idle_at s r id me at live k idle (to k) mine)
          ∙ subst (Busy from to (λ j. (r.seats j).stage) k) e (r.busy k near))

  -- a message is put into the slot that the seat writes
  pub puts : (id : ℕ) (me : SeatState) (k : ℕ) (m : Message) (h : Hold) → me.0.spent ≡ false →
      me.0.mine.stage ≡ Writing k → me.1 ≡ (k, Some m) ∷ rest me.1 → m.to ≡ node_of z (to k) →
      HoldPuts me.0.mine k m h → Allows K slots id me k (λ _. 1) (λ _. gave z n (with_hold me.0 h) me)
  puts id me k m h live stage held goes p s r wide at fits =
      let a = subst (At from to slots r.phases id)
      (ap (λ (g : Hold). g.stage) (is s r id me at live) ∙ stage) (r.each_seat id) in
      let homes = set_here s.homes k (some (Some m)) (subst (λ l. k < l) (sym r.homes) a.0) in
      gives_back s r id me at live k 1 h (Some m) (full m) held a.0 (refl, homes)
      (λ j ne.
      away s r id me at live k (full m) (inl a.1) (inr (λ x q. writing_reading (sym a.2 ∙ q))) j ne (r.seats j).stage
      (r.each_seat j)) goes (subst (Only k) (sym stage) refl) tt p.1 p.0
      (λ f.
      let b = p.4 f in
      let c : weigh f (content (r.phases k)) ≡ 0 = ap (λ q. weigh f (content q)) a.2 in
      omega arith)
      (λ f.
      let c : weigh (f (k / 4)) (content (r.phases k)) ≡ 0 = ap (λ q. weigh (f (k / 4)) (content q)) a.2 in
      let b : weigh_links f h.put ≡ weigh_links f me.0.mine.put + f (k / 4) m =
      ap (weigh_links f) p.2 ∙ weigh_links-append f me.0.mine.put ((k, m) ∷ []) ∙ omega arith in
      let d : weigh_links f h.taken ≡ weigh_links f me.0.mine.taken = ap (weigh_links f) p.3 in
      omega arith)

  -- the message of the slot that the seat reads is taken
  pub taking : (id : ℕ) (me : SeatState) (k : ℕ) (m : Message) (h : Hold) → me.0.spent ≡ false →
      me.0.mine.stage ≡ Reading k m → me.1 ≡ (k, None) ∷ rest me.1 → HoldTakes me.0.mine k m h →
      Allows K slots id me k (λ _. 0) (λ _. gave z n (with_hold me.0 h) me)
  taking id me k m h live stage held p s r wide at fits =
      let a = subst (At from to slots r.phases id)
      (ap (λ (g : Hold). g.stage) (is s r id me at live) ∙ stage) (r.each_seat id) in
      let homes = set_here s.homes k (some None) (subst (λ l. k < l) (sym r.homes) a.0) in
      gives_back s r id me at live k 0 h None free held a.0 (refl, homes)
      (λ j ne.
      away s r id me at live k free (inr (λ q. reading_writing (sym a.2 ∙ q))) (inl a.1) j ne (r.seats j).stage
      (r.each_seat j)) tt (subst (Only k) (sym stage) refl) tt p.1 p.0
      (λ f.
      let b = p.4 f in
      let c : weigh f (content (r.phases k)) ≡ f m = ap (λ q. weigh f (content q)) a.2 ∙ omega arith in
      omega arith)
      (λ f.
      let c : weigh (f (k / 4)) (content (r.phases k)) ≡ f (k / 4) m =
      ap (λ q. weigh (f (k / 4)) (content q)) a.2 ∙ omega arith in
      let b : weigh_links f h.put ≡ weigh_links f me.0.mine.put = ap (weigh_links f) p.2 in
      let d : weigh_links f h.taken ≡ weigh_links f me.0.mine.taken + f (k / 4) m =
      ap (weigh_links f) p.3 ∙ weigh_links-append f me.0.mine.taken ((k, m) ∷ []) ∙ omega arith in
      omega arith)

-- what a put from the outbox and a take into the hand do to the messages of a seat
pub puts_hold : (a : Hold) (k : ℕ) (m : Message) (i : ℕ) → slice_get a.outbox i ≡ Some m →
    HoldPuts a k m (put_hold a k m i)
puts_hold a k m i e = (
  record { core = refl; bank = refl; dram = refl; issued = refl; records = refl; counts = refl; seen = refl },
  refl,
  refl,
  refl,
  λ f. let b = weigh-append f a.outbox (option_to_list a.hand ++ a.held) in
      let c = weigh-append f (remove a.outbox i) (option_to_list a.hand ++ a.held) in
      let d = weigh-remove f a.outbox i m e in
      omega arith,
)

pub takes_hold : (a : Hold) (k : ℕ) (m : Message) → a.hand ≡ None → HoldTakes a k m (take_hold a k m)
takes_hold a k m e = grind (arith, nat_tests, common_steps, option_to_list, weigh-append)
