-- One more message that was not put, or was, after others that were not.
use Rattle.std.proofs.Common.{◌≡◌, ℕ, ◌+◌, List, [], ◌∷◌, ◌++◌, append_assoc, append-nil, take, Some, refl, sym, ap}
use Rattle.std.proofs.Common.{◌∙◌, arith, ◌==◌, ◌<◌, zero, suc, Bool, true, false, get_or, eq-eqb}
use Rattle.std.proofs.lemmas.Bool.Decides.{nat_tests}
use Rattle.std.proofs.lemmas.Grind.{common_steps, flat_map-append}
use Rattle.std.specs.Prelude.{flat_map, option_map, slice_get, ◌≢◌}
use Rattle.std.proofs.lemmas.Bool.{false≢true}
use Rattle.std.proofs.lemmas.List.Folds.{list_any_at}
use Rattle.std.specs.List.{list_any}
use Rattle.std.proofs.lemmas.List.{map-append, take_more}
use Rattle.std.proofs.lemmas.Option.{get_or_from_slice_get, slice_get-map, slice_get_within}
use Rattle.network.specs.declared.message.Message.{Message}
use Rattle.seat_rule.specs.Plays.{ones}
use Rattle.mailboxes.specs.declared.mailbox.Mailbox.{Mailbox}
use Rattle.mailboxes.specs.declared.machine.Machine.{Machine}
use Rattle.network.specs.declared.message.Node.{Node}
use Rattle.inbox.specs.declared.queue.Queue.{Queue}
use Rattle.inbox.specs.Queues.{values_of}
use Rattle.mailboxes.specs.Places.{AllLinked, end_of, found_full, has_link_to, link_to, links_of, once}
use Rattle.mailboxes.proofs.FullEnds.{Marks}
use Rattle.mailboxes.proofs.Once.{once_more, once_same}
use Rattle.mailboxes.specs.BoxMoves.{hold, IsAt, Stands, Stays, SameIncoming, PutInto, PutNothing}

incoming_on : (p q r : Mailbox) → SameIncoming p q → SameIncoming q r → SameIncoming p r
incoming_on p q r s t = grind (arith, nat_tests)

-- the links of a seat that stays are the same
pub link_on : (p q : Mailbox) → Stays p q → (m : Message) →
    link_to q.cores q.banks q.number m.to ≡ link_to p.cores p.banks p.number m.to
link_on p q s m = λ i. link_to (s.cores i) (s.banks i) (s.number i) m.to

-- the links of one more message
pub links_more : (cores banks number : ℕ) (ms : List Message) (i : ℕ) (m : Message) → slice_get ms i ≡ Some m →
    links_of cores banks number (take (i + 1) ms) ≡
    links_of cores banks number (take i ms) ++ link_to cores banks number m.to ∷ []
links_more cores banks number ms i m here =
    ap (links_of cores banks number) (take_more ms i m (slice_get_within ms i m here)
    ∙ ap (λ x. take i ms ++ x ∷ []) (get_or_from_slice_get ms i m m here))
    ∙ map-append (λ (n : Message). link_to cores banks number n.to) (take i ms) (m ∷ [])

-- the slots of one more link were found full, or its link was found full before
module _ (p : Mailbox) (ms : List Message) (i : ℕ) (m : Message) (here : slice_get ms i ≡ Some m) where
  abbrev links : ℕ → List ℕ
  links n = links_of p.cores p.banks p.number (take n ms)

  abbrev swept : ℕ → List (ℕ × ℕ)
  swept n = found_full p.cores p.banks p.number (take n ms)

  abbrev to_go : ℕ
  to_go = link_to p.cores p.banks p.number m.to

  pub swept_more : (q r : Mailbox) (xs ys : List Message) (link : ℕ) → link ≡ to_go →
      list_any (λ l. l == to_go) (links i) ≡ false → PutNothing (swept i) p ms q xs →
      PutNothing (ones link 4) q xs r ys →
      PutNothing (swept (i + 1)) p ms r ys
  swept_more q r xs ys link is new n t =
      let more : swept (i + 1) ≡ swept i ++ ones link 4 =
      ap (λ ls. flat_map (λ l. ones l 4) (once ls)) (links_more p.cores p.banks p.number ms i m here)
      ∙ ap (λ ls. flat_map (λ l. ones l 4) ls) (once_more (links i) to_go new)
      ∙ flat_map-append (λ l. ones l 4) (once (links i)) (to_go ∷ [])
      ∙ ap (λ zs. swept i ++ zs) (append-nil (ones to_go 4)) ∙ ap (λ l. swept i ++ ones l 4) (sym is) in (
        t.0 ∙ ap (λ zs. zs ++ ones link 4) n.0 ∙ append_assoc (hold p).looks (swept i) (ones link 4)
            ∙ ap (λ zs. (hold p).looks ++ zs) (sym more),
        t.1 ∙ n.1,
        t.2 ∙ n.2,
        incoming_on p q r n.3 t.3,
      )

  pub swept_same : (q : Mailbox) (xs : List Message) → list_any (λ l. l == to_go) (links i) ≡ true →
      PutNothing (swept i) p ms q xs → PutNothing (swept (i + 1)) p ms q xs
  swept_same q xs there n =
      let q0 = links_more p.cores p.banks p.number ms i m here in let q1 = once_same (links i) to_go there in
      grind (arith, nat_tests, q0, q1)

-- a message was put after looks that found nothing free
pub put_more : (p q r : Mailbox) (ms xs ys : List Message) (looks : List (ℕ × ℕ)) (i s link own : ℕ) (m : Message) →
    link ≡ own → PutNothing looks p ms q xs → PutInto link [] i s m q xs r ys → PutInto own looks i s m p ms r ys
put_more p q r ms xs ys looks i s link own m is n t = grind (arith, nat_tests, common_steps, append_assoc, incoming_on)

-- nothing was put of the messages so far: the slots of their links were found full
abbrev pub SweptTo : Machine → Mailbox → Queue Message → ℕ → Mailbox → Queue Message → Type 0
SweptTo m p out n q left = IsAt m q × Stays p q
    × PutNothing (found_full p.cores p.banks p.number (take n (values_of out))) p (values_of out) q (values_of left)
    × (left ≡ out) × ((hold q).outbox ≡ values_of left) × AllLinked q.cores q.banks q.number (values_of left)
    × Stands m q

-- the mark of a message's link
pub own_mark : (p q : Mailbox) (full : List Bool) (links : List ℕ) (e : ℕ) (to : Node) → Stays p q → e ≡ end_of to →
    has_link_to q.cores q.banks q.number to ≡ true → Marks p.cores p.banks p.number full links →
    (has_link_to p.cores p.banks p.number to ≡ true)
    × (get_or full e false ≡ list_any (λ l. l == link_to p.cores p.banks p.number to) links)
own_mark p q full links e to s at lead marks = grind (arith, nat_tests)

taken : {X : Type 0} (xs : List X) (i j : ℕ) → j < i → slice_get (take i xs) j ≡ slice_get xs j
taken xs zero j less = absurd (omega (arith, less))
taken [] (suc i) j less = refl
taken (x ∷ xs) (suc i) zero less = refl
taken (x ∷ xs) (suc i) (suc j) less = taken xs i j (omega (arith, less))

-- a message on a link that no older one goes on
pub older_elsewhere : (cores banks number : ℕ) (out : List Message) (i j : ℕ) (m : Message) (to : Node) → j < i →
    slice_get out j ≡ Some m →
    list_any (λ l. l == link_to cores banks number to) (links_of cores banks number (take i out)) ≡ false →
    link_to cores banks number m.to ≢ link_to cores banks number to
older_elsewhere cores banks number out i j m to older here none same =
    let links = links_of cores banks number (take i out) in
    let link = λ (n : Message). link_to cores banks number n.to in
    let at : slice_get links j ≡ Some (link m) =
    slice_get-map link (take i out) j ∙ ap (option_map link) (taken out i j older ∙ here) in
    let found = list_any_at (λ l. l == link_to cores banks number to) links j 0 (slice_get_within links j (link m) at)
    (ap (λ l. l == link_to cores banks number to) (get_or_from_slice_get links j (link m) 0 at)
    ∙ eq-eqb (link m) (link_to cores banks number to) same) in
    absurd (false≢true (sym none ∙ found))
