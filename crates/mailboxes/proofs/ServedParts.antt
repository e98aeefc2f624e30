-- What the serving of a message makes of a seat: a move of it, after which each message that came in is the seat's own,
-- and there is a link for each message of the outbox.
use Rattle.std.proofs.Common.{◌≡◌, ℕ, zero, suc, Bool, true, false, cond, List, [], ◌∷◌, ◌++◌, Option, Some, None}
use Rattle.std.proofs.Common.{Result, inl, inr, refl, sym, ap, ◌∙◌, subst, ⊎_elim, option_to_list, arith}
use Rattle.std.specs.Prelude.{slice_get}
use Rattle.network.specs.declared.message.Message.{Message}
use Rattle.network.specs.declared.part.Reaction.{Reaction}
use Rattle.network.specs.declared.part.Reaction.TheVariants as does
use Rattle.network.specs.Routes.{has_endpoints}
use Rattle.machine_table.specs.declared.event.Answer.TheVariants as answers
use Rattle.machine_table.specs.Step.{Drops, Makes, Stays, Step, reacted}
use Rattle.machine_theorem.specs.Bags.{weigh, SameBag}
use Rattle.inbox.specs.declared.answer.Answer.{Answer}
use Rattle.inbox.specs.declared.answer.Answer.TheVariants.{Delivered, Dropped, Started, Held, Refused}
use Rattle.inbox.specs.declared.answer.Refusal.{Refusal}
use Rattle.inbox.specs.declared.answer.Served.{Served}
use Rattle.inbox.specs.Inboxes.{InboxState}
use Rattle.inbox.specs.Serving.{Place, sent_list}
use Rattle.inbox.specs.Effects.{SameMessages, messages_of, others, IsAsked, Effect}
use Rattle.inbox.specs.Effects.{delivered, dropped, started, moved, unchanged}
use Rattle.seat_rule.proofs.Lemmas.{weigh-append}
use Rattle.seat_views.proofs.Lemmas.{some_is}
use Rattle.seat_rule.specs.declared.views.SetUp.{SetUp}
use Rattle.seat_rule.specs.declared.views.Hold.{Hold}
use Rattle.seat_rule.specs.Rule.{bag_of_hold}
use Rattle.seat_rule.specs.SeatMoves.{SeatMove, HoldSends, HoldSteps}
use Rattle.closed_machine.specs.Sending.{OutboxState, noted, sent_out}
use Rattle.mailboxes.specs.PartServing.{leaves, posted_if, told, told_if}
use Rattle.mailboxes.specs.Places.{AllOwn, AllLinked, has_link_to, is_own}
use Rattle.mailboxes.proofs.MessageEnds.{Goes, IsSent}
use Rattle.mailboxes.proofs.NewSeats.{get_snoc, none_some}
use Rattle.mailboxes.proofs.Reactions.{Did, Sends, sends_none}

-- What a serving does, by the answer

-- the messages that there are after an answer to the one that lay there
abbrev pub Left : InboxState Message → Place → Answer Message → InboxState Message → Type 0
Left b at (Delivered sent) c = SameMessages (messages_of c) (sent_list sent ++ others b at)
Left b at Dropped c = SameMessages (messages_of c) (others b at)
Left b at (Started sent) c = SameMessages (messages_of c) (sent_list sent ++ messages_of b)
Left b at Held c = ⊥
Left b at (Refused r) c = ⊥

-- the part was asked about a message, or there are the same messages and the same part
pub by_answer : {P X : Type 0} (table : P → Message → ℕ → Answer Message × P) (b : InboxState Message) (p : P)
    (result : Result Served Refusal) (c : InboxState Message) (q : P) →
    ((at : Place) (m : Message) (answer : Answer Message) → IsAsked table b p at m answer q →
    SameMessages (messages_of b) (m ∷ others b at) → Left b at answer c → X) →
    (SameMessages (messages_of c) (messages_of b) → q ≡ p → X) → Effect table b p result c q → X
by_answer table b p result c q asked stays (delivered at m sent is gives before after) =
    asked at m (Delivered sent) is before after
by_answer table b p result c q asked stays (dropped at m is gives before after) = asked at m Dropped is before after
by_answer table b p result c q asked stays (started at m sent is gives before after) =
    asked at m (Started sent) is before after
by_answer table b p result c q asked stays (moved m is gives now same part) = stays same part
by_answer table b p result c q asked stays (unchanged gives same part) =
    stays (λ f w is. ap (λ (y : InboxState Message). w (messages_of y)) same) part

-- the table said something
pub table_did : {P : Type 0} (is_core : Bool) (out o : OutboxState) (p q : P) (r : Option (Reaction × P))
    (b c : InboxState Message) (at : Place) (answer : Answer Message) → Did is_core out p r answer q o →
    Left b at answer c → (d : Reaction) × (r ≡ Some (d, q))
table_did is_core out o p q r b c at (Delivered sent) did left = (does.Done did.0, did.1)
table_did is_core out o p q r b c at Dropped did left = (does.Dropped, did.0)
table_did is_core out o p q r b c at (Started sent) did left = (does.HeldAfter did.0, did.1)
table_did is_core out o p q r b c at Held did left = absurd left
table_did is_core out o p q r b c at (Refused e) did left = absurd left

-- lists of the same messages are the same bag
bag_is : (xs ys : List Message) → SameMessages xs ys → SameBag xs ys
bag_is xs ys same f = same f (weigh f) (record { none = refl; one_more = λ m ms. refl })

-- What a seat holds that stores this outbox and these messages that came in, and has its parts of h
abbrev pub holding : Hold → OutboxState → InboxState Message → Hold
holding h out b =
    record h { counts = out.counts; outbox = out.messages; hand = b.hand; held = b.held }

module _ (is_core : Bool) (out o : OutboxState) (b c : InboxState Message) where
  -- the messages of the seat afterwards: what was sent, and the others
  all_bag : (answer sent : Option Message) (xs : List Message) → Sends is_core out answer sent o →
      SameBag (messages_of c) (sent_list sent ++ xs) →
      SameBag (o.messages ++ messages_of c) (option_to_list answer ++ (out.messages ++ xs))
  all_bag answer sent xs s same f =
      let x = weigh-append f o.messages (messages_of c) in
      let y = weigh-append f o.messages (sent_list sent ++ xs) in
      let t = same f in
      let u = s.bag xs f in
      omega arith

  pub hold_sends : (h k : Hold) (answer sent : Option Message) (xs : List Message) → Sends is_core out answer sent o →
      SameBag (messages_of c) (sent_list sent ++ xs) →
      HoldSends (holding h out b) (holding k o c) (out.messages ++ xs) answer
  hold_sends h k answer sent xs s same = record { bag = all_bag answer sent xs s same; counts = s.counts }

  pub hold_stays : (h k : Hold) → SameMessages (messages_of c) (messages_of b) → o ≡ out →
      HoldSends (holding h out b) (holding k o c) (bag_of_hold (holding h out b)) None
  hold_stays h k same stays =
      hold_sends h k None None (messages_of b) (sends_none is_core out o stays)
      (bag_is (messages_of c) (messages_of b) same)

  -- A move of the seat

  module _ (z : SetUp) (id : ℕ) (h k : Hold) {P : Type 0} (p q : P) (r : Option (Reaction × P)) (m : Message)
      (steps : (rest : List Message) (s : Step P) → SameBag (bag_of_hold (holding h out b)) (m ∷ rest) →
      reacted r ≡ s → HoldSteps (holding h out b) (holding k o c) p q rest s →
      SeatMove z id (holding h out b) (holding k o c))
      (stays : Stays p r) where
    pub answer_moves : (at : Place) (answer : Answer Message) → Did is_core out p r answer q o →
        SameMessages (messages_of b) (m ∷ others b at) → Left b at answer c →
        SeatMove z id (holding h out b) (holding k o c)
    answer_moves at answer did before left = by answer did left
      where
        rest : List Message
        rest = out.messages ++ others b at

        apart : SameBag (bag_of_hold (holding h out b)) (m ∷ rest)
        apart f =
            let x = weigh-append f out.messages (messages_of b) in
            let y = weigh-append f out.messages (others b at) in
            let t = bag_is (messages_of b) (m ∷ others b at) before f in
            omega arith

        by : (answer : Answer Message) → Did is_core out p r answer q o → Left b at answer c →
            SeatMove z id (holding h out b) (holding k o c)
        by (Delivered sent) d l =
            steps rest (Makes answers.Delivered true d.0 q) apart (ap reacted d.1) (
              refl,
              hold_sends h k d.0 sent (others b at) d.2 (bag_is (messages_of c) (sent_list sent ++ others b at) l),
            )
        by Dropped d l =
            steps rest Drops apart (ap reacted d.0) (
              subst (Stays p) d.0 stays,
              hold_sends h k None None (others b at) d.1 (bag_is (messages_of c) (others b at) l),
            )
        by (Started sent) d l =
            steps rest (Makes answers.Started false (Some d.0) q) apart (ap reacted d.1) (
              refl,
              hold_sends h k (Some d.0) sent (messages_of b) d.2
                  (bag_is (messages_of c) (sent_list sent ++ messages_of b) l),
            )
        by Held d l = absurd l
        by (Refused e) d l = absurd l

-- messages that all weigh nothing, and the list of them
zero_all : (f : Message → ℕ) (xs : List Message) (k : ℕ) (m : Message) → weigh f xs ≡ 0 → slice_get xs k ≡ Some m →
    f m ≡ 0
zero_all f [] k m none e = absurd (let no : None ≡ Some m = e in cc)
zero_all f (x ∷ xs) zero m none e =
    let same : x ≡ m = cc in
    let is = ap f same in
    omega arith
zero_all f (x ∷ xs) (suc k) m none e = zero_all f xs k m (omega arith) e

all_zero : (f : Message → ℕ) (xs : List Message) → ((k : ℕ) (m : Message) → slice_get xs k ≡ Some m → f m ≡ 0) →
    weigh f xs ≡ 0
all_zero f [] each = refl
all_zero f (x ∷ xs) each =
    let first = each 0 x refl in
    let rest = all_zero f xs (λ k m e. each (suc k) m e) in
    omega arith

-- the messages that aren't the seat's own are none
module _ (cores number : ℕ) where
  abbrev other : Message → ℕ
  other m = cond (is_own cores number m.to) 0 1

  own_weighs : (m : Message) → is_own cores number m.to ≡ true → other m ≡ 0
  own_weighs m e = ap (λ b. cond b 0 1) e

  weighs_own : (b : Bool) → ◌≡◌ {A = ℕ} (cond b 0 1) 0 → b ≡ true
  weighs_own true e = refl
  weighs_own false e = absurd (omega (arith, e))

  own_list : (b : InboxState Message) → AllOwn cores number b → weigh other (messages_of b) ≡ 0
  own_list b own =
      let hand = hand_own b.hand own.hand in
      let held = all_zero other b.held (λ k m e. own_weighs m (own.held k m e)) in
      let all = weigh-append other (option_to_list b.hand) b.held in
      omega arith
    where
      hand_own : (h : Option Message) → ((m : Message) → h ≡ Some m → is_own cores number m.to ≡ true) →
          weigh other (option_to_list h) ≡ 0
      hand_own None each = refl
      hand_own (Some m) each = let one = own_weighs m (each m refl) in omega arith

  list_own : (b : InboxState Message) → weigh other (messages_of b) ≡ 0 → AllOwn cores number b
  list_own b none =
      let all = weigh-append other (option_to_list b.hand) b.held in
      record {
        hand = λ m e.
            let h : weigh other (option_to_list b.hand) ≡ 0 = omega arith in
            let one = ap (λ x. weigh other (option_to_list x)) (sym e) ∙ h in
            weighs_own (is_own cores number m.to) (omega arith);
        held = λ k m e.
            weighs_own (is_own cores number m.to) (zero_all other b.held k m (omega arith) e);
      }

-- one more message that has a link
linked_more : (cores banks number : ℕ) (ms : List Message) (m : Message) → AllLinked cores banks number ms →
    has_link_to cores banks number m.to ≡ true → AllLinked cores banks number (ms ++ m ∷ [])
linked_more cores banks number ms m all one i x e =
    ⊎_elim (λ t. all i x t) (λ t. ap (λ (y : Message). has_link_to cores banks number y.to) (sym t.1) ∙ one)
    (get_snoc ms m x i e)

module _ (is_core : Bool) (cores banks number : ℕ) (out o : OutboxState) (b c : InboxState Message)
    (own : AllOwn cores number b) (linked : AllLinked cores banks number out.messages) where
  abbrev pub Settled : Type 0
  Settled = AllOwn cores number c × AllLinked cores banks number o.messages

  pub stays_settled : SameMessages (messages_of c) (messages_of b) → o ≡ out → Settled
  stays_settled same stays = (
    list_own cores number c
        (bag_is (messages_of c) (messages_of b) same (other cores number) ∙ own_list cores number b own),
    subst (λ (x : OutboxState). AllLinked cores banks number x.messages) (sym stays) linked,
  )

  -- a message that is sent
  settled_one : (s : Message) (l : Bool) →
      cond l (has_link_to cores banks number s.to) (is_own cores number s.to) ≡ true →
      (weigh (other cores number) (sent_list (cond l None (Some s))) ≡ 0)
      × AllLinked cores banks number (cond l (sent_out out s) (noted out s)).messages
  settled_one s true goes = (refl, linked_more cores banks number out.messages s linked goes)
  settled_one s false goes = (let one = own_weighs cores number s goes in omega arith, linked)

  module _ (ends : (s : Message) (xs : List Message) → SameBag (o.messages ++ messages_of c) (s ∷ xs) →
      has_endpoints cores banks s ≡ true) where
    settled : (answer sent : Option Message) (xs : List Message) → Sends is_core out answer sent o →
        SameBag (messages_of c) (sent_list sent ++ xs) → weigh (other cores number) xs ≡ 0 →
        ((s : Message) → answer ≡ Some s → has_endpoints cores banks s ≡ true → Goes cores banks number is_core s.to) →
        Settled
    settled answer sent xs s same none goes =
        by answer s.outbox s.told_is (all_bag is_core out o b c answer sent xs s same) goes
      where
        mine : (t : Option Message) → sent ≡ t → weigh (other cores number) (sent_list t) ≡ 0 → AllOwn cores number c
        mine t e w =
            let f = other cores number in
            let x = same f in
            let y = weigh-append f (sent_list sent) xs in
            let v = ap (λ u. weigh f (sent_list u)) e in
            list_own cores number c (omega arith)

        by : (answer : Option Message) → o ≡ posted_if is_core out answer → sent ≡ told_if is_core answer →
            SameBag (o.messages ++ messages_of c) (option_to_list answer ++ (out.messages ++ xs)) →
            ((s : Message) → answer ≡ Some s → has_endpoints cores banks s ≡ true →
            Goes cores banks number is_core s.to) → Settled
        by None now is bag goes = (
          mine None is refl,
          subst (λ (y : OutboxState). AllLinked cores banks number y.messages) (sym now) linked,
        )
        by (Some s) now is bag goes =
            let one = settled_one s (leaves is_core s.to) (goes s refl (ends s (out.messages ++ xs) bag)) in (
              mine (told is_core s) is one.0,
              subst (λ (y : OutboxState). AllLinked cores banks number y.messages) (sym now) one.1,
            )

    -- all that came in are there still
    pub sent_settles : (answer sent : Option Message) → Sends is_core out answer sent o →
        SameBag (messages_of c) (sent_list sent ++ messages_of b) →
        ((s : Message) → answer ≡ Some s → has_endpoints cores banks s ≡ true → Goes cores banks number is_core s.to) →
        Settled
    sent_settles answer sent s same goes = settled answer sent (messages_of b) s same (own_list cores number b own) goes

    module _ {P : Type 0} (p q : P) (r : Option (Reaction × P)) (m : Message)
        (goes : (s : Message) → IsSent r s → has_endpoints cores banks s ≡ true → Goes cores banks number is_core s.to)
      where
        pub answer_settles : (at : Place) (answer : Answer Message) → Did is_core out p r answer q o →
            SameMessages (messages_of b) (m ∷ others b at) → Left b at answer c → Settled
        answer_settles at answer did before left = by answer did left
          where
            others_own : weigh (other cores number) (others b at) ≡ 0
            others_own =
                let f = other cores number in
                let x = bag_is (messages_of b) (m ∷ others b at) before f in
                let y = own_list cores number b own in
                omega arith

            by : (answer : Answer Message) → Did is_core out p r answer q o → Left b at answer c → Settled
            by (Delivered sent) d l =
                settled d.0 sent (others b at) d.2 (bag_is (messages_of c) (sent_list sent ++ others b at) l) others_own
                (λ s e. goes s (q, inl (d.1 ∙ ap (λ x. Some (does.Done x, q)) e)))
            by Dropped d l =
                settled None None (others b at) d.1 (bag_is (messages_of c) (others b at) l) others_own
                (λ s e. none_some e)
            by (Started sent) d l =
                sent_settles (Some d.0) sent d.2 (bag_is (messages_of c) (sent_list sent ++ messages_of b) l)
                (λ s e. goes s (q, inr (d.1 ∙ ap (λ x. Some (does.HeldAfter x, q)) (some_is e))))
            by Held d l = absurd l
            by (Refused e) d l = absurd l
