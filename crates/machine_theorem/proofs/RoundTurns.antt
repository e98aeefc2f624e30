-- The turns of cores in a round keep what rounds keep of recalls, line by line and core by core.
use Rattle.std.proofs.lemmas.Bool.Decides.{nat_tests}
use Rattle.std.proofs.Common.{◌≡◌, ◌≢◌, ℕ, ◌+◌, ◌≤◌, Bool, false, ◌∷◌, Option, Some, None, inl, inr, ◌⊎◌, refl, sym, ap}
use Rattle.std.proofs.Common.{◌∙◌, subst, arith, le_refl, rules}
use Rattle.std.proofs.lemmas.Bool.{cases_eq}
use Rattle.physiological_order.specs.declared.operation.Op.{Op}
use Rattle.physiological_order.specs.Order.{address}
use Rattle.protocol.specs.Machine.{Config, Copy, Exclusive, Message, FlushRep, Line, Core, Machine, tally, with_at}
use Rattle.protocol.specs.Machine.{line_of, IsPinned, LineTransition, evict_shared, evict_exclusive, Asks, to_read}
use Rattle.protocol.specs.Machine.{to_write, Transition, issue, advance, ask, complete, line_changes}
use Rattle.protocol.specs.Recalls.{recall_to, grant_to, return_of}
use Rattle.protocol.proofs.Lemmas.{with_at_cases, with_at_other, with_at_same, Some_injective}
use Rattle.machine_theorem.proofs.RecallPairs.{IsElsewhere, Sound, Listed, Eased, eased, eased_list, recalls, returns}
use Rattle.machine_theorem.proofs.RecallPairs.{not_both}
use Rattle.machine_theorem.proofs.RoundLines.{Good, Alike}
use Rattle.machine_theorem.proofs.Turns.{Kind, issuing, attempting, advancing, leaving, delivering, leaves_at, kind_at}
use Rattle.machine_theorem.proofs.Turns.{kind_of, Leads}

module _ (f : Config) where
  -- the core has an operation open, and no copy of its line
  abbrev pub LacksCopy : (ℕ → Line) → (ℕ → Core) → ℕ → Type 0
  LacksCopy xs ds c = (op : Op) × ((ds c).open_op ≡ Some op) × ((xs (line_of f (address op))).copies c ≡ None)

  -- while cores have their turns, those from a number on are still to come
  pub record TurnPair (next : ℕ) (xs : ℕ → Line) (ds : ℕ → Core) (l c : ℕ) : Type 0 where
    pub sound : Sound f l c (xs l) ((ds c).open_op)
    -- who returns a line unasked can't complete its operation in this turn
    pub lacks : 1 ≤ returns c (xs l) → (xs l).entry ≡ Exclusive c → LacksCopy xs ds c
    -- no return of a core to come is unasked, and its recalls find the owner, or are of another line than its operation
    pub listed : next ≤ c → Listed f l c (xs l) ((ds c).open_op) 0 0

  abbrev pub Turns : ℕ → Machine → Type 0
  Turns next m = (l c : ℕ) → TurnPair next m.lines m.cores l c

  pub later : (next : ℕ) (m : Machine) → Turns next m → Turns (next + 1) m
  later next m turns l c = let k = turns l c in
      record { sound = k.sound; lacks = k.lacks; listed = λ le. k.listed (omega (arith, le)) }

  -- as rounds begin, and as deliveries begin
  pub begins : (m : Machine) → Good f (λ l w. 0) m → Turns 0 m
  begins m good l c = let k = good l c in record {
    sound = k.0;
    lacks = λ some is. absurd (let z = k.1.returns_listed is in omega (arith, some, z));
    listed = λ le. k.1;
  }

  pub delivers_next : (p : ℕ → (Message → ℕ) → ℕ) (next : ℕ) (m : Machine) →
      ((l : ℕ) (w : Message → ℕ) → tally w (m.lines l).messages ≤ p l w) → Turns next m → Good f p m
  delivers_next p next m le turns l c = grind arith

  module _ (next : ℕ) (xs ys : ℕ → Line) (ds es : ℕ → Core) (l c : ℕ) where
    -- the line and the core stay as they were
    kept : Eased f l c (xs l) (ys l) → (ys l).entry ≡ (xs l).entry → (es c).open_op ≡ (ds c).open_op →
        (LacksCopy xs ds c → LacksCopy ys es c) → TurnPair next xs ds l c → TurnPair next ys es l c
    kept e entry opens lacks k = search (rules, eased, eased_list)

  -- what a core's turn leaves of a line, as another core sees it
  record Beside (c : ℕ) (x y : Line) : Type 0 where
    entry : y.entry ≡ x.entry
    copies : y.copies c ≡ x.copies c
    recalled : recalls c y ≤ recalls c x
    returned : returns c y ≤ returns c x
    granted : tally (grant_to c) x.messages ≤ tally (grant_to c) y.messages

  beside_by : {c : ℕ} {x y : Line} → y.entry ≡ x.entry → y.copies c ≡ x.copies c → recalls c y ≤ recalls c x →
      returns c y ≤ returns c x → tally (grant_to c) x.messages ≤ tally (grant_to c) y.messages → Beside c x y
  beside_by entry copies recalled returned granted = grind (arith, entry, copies, recalled, returned, granted)

  unchanged : (c : ℕ) (x : Line) → Beside c x x
  unchanged c x = beside_by refl refl (le_refl _) (le_refl _) (le_refl _)

  eased_beside : (l c : ℕ) (x y : Line) → Beside c x y → Eased f l c x y
  eased_beside l c x y b = search rules

  -- a core's turn, as another core sees it, or this one, if its operation stays
  beside : (next : ℕ) (xs ys : ℕ → Line) (ds es : ℕ → Core) (c : ℕ) → ((l : ℕ) → Beside c (xs l) (ys l)) →
      (es c).open_op ≡ (ds c).open_op → (l : ℕ) → TurnPair next xs ds l c → TurnPair next ys es l c
  beside next xs ys ds es c b opens l = kept next xs ys ds es l c (eased_beside l c _ _ (b l)) (b l).entry opens
      (λ k. (k.0, opens ∙ k.1, (b (line_of f (address k.0))).copies ∙ k.2))

  pub turns_alike : (next : ℕ) (m n : Machine) → Alike f m n → Turns next m → Turns next n
  turns_alike next m n k turns l c = beside next m.lines n.lines m.cores n.cores c
      (λ j. beside_by (k.entry j) (k.copies j c) (let z = k.weighs j (recall_to c) in omega (arith, z))
      (let z = k.weighs j (return_of c) in omega (arith, z)) (let z = k.weighs j (grant_to c) in omega (arith, z)))
      (k.opens c) l (turns l c)

  -- a core other than the one whose turn it is, and its own lines, where one line changes
  one_line : (m : Machine) (k : ℕ) (y : Line) (c : ℕ) → Beside c (m.lines k) y → (l : ℕ) →
      Beside c (m.lines l) (with_at m.lines k y l)
  one_line m k y c here =
      with_at_cases (λ l (z : Line). Beside c (m.lines l) z) m.lines k y here (λ l ne. unchanged c (m.lines l))

  same_op : (m : Machine) (d : ℕ) (core : Core) → core.open_op ≡ (m.cores d).open_op → (c : ℕ) →
      (with_at m.cores d core c).open_op ≡ (m.cores c).open_op
  same_op m d core same = with_at_cases (λ c (z : Core). z.open_op ≡ (m.cores c).open_op) m.cores d core same
      (λ c ne. refl)

  other_op : (m : Machine) (d : ℕ) (core : Core) (c : ℕ) → c ≢ d →
      (with_at m.cores d core c).open_op ≡ (m.cores c).open_op
  other_op m d core c ne = ap (λ (z : Core). z.open_op) (with_at_other m.cores d core c ne)

  asked : (d pts : ℕ) (op : Op) (x y : Line) → Asks d pts op x y → (c : ℕ) → Beside c x y
  asked d pts op x y (to_read a cannot) c = beside_by refl refl (omega arith) (omega arith) (omega arith)
  asked d pts op x y (to_write cannot) c = beside_by refl refl (omega arith) (omega arith) (omega arith)

  -- a copy leaves, as another core sees it
  left_beside : (d c : ℕ) → c ≢ d → {lease t u : ℕ} {loses : Bool} {pinned : ℕ → Type 0} {x y : Line}
      (move : LineTransition lease loses pinned t x u y) → leaves_at move ≡ Some d → Beside c x y
  left_beside d c ne {x = x} (evict_shared e copy un is sh) at = beside_by refl
      (with_at_other x.copies e None c (λ q. ne (q ∙ Some_injective e d at))) (le_refl _) (le_refl _) (le_refl _)
  left_beside d c ne {x = x} (evict_exclusive e copy un is ex) at =
      let apart : c ≢ e = λ q. ne (q ∙ Some_injective e d at) in grind (arith, nat_tests)
  left_beside d c ne _ at = absurd (let z : ◌≡◌ {A = Option ℕ} None (Some d) = at in cc)

  -- as the core itself sees it
  record LeftBy (d : ℕ) (pinned : ℕ → Type 0) (x y : Line) : Type 0 where
    unpinned : pinned d → ⊥
    entry : y.entry ≡ x.entry
    gone : y.copies d ≡ None
    recalled : recalls d y ≡ recalls d x

  left_by : (d : ℕ) {lease t u : ℕ} {loses : Bool} {pinned : ℕ → Type 0} {x y : Line}
      (move : LineTransition lease loses pinned t x u y) → leaves_at move ≡ Some d → LeftBy d pinned x y
  left_by d {pinned = pinned} {x = x} (evict_shared e copy un is sh) at =
      subst (λ i. LeftBy i pinned x (record x { copies = with_at x.copies e None })) (Some_injective e d at) (record {
        unpinned = un;
        entry = refl;
        gone = with_at_same x.copies e None;
        recalled = refl;
      })
  left_by d {pinned = pinned} {x = x} (evict_exclusive e copy un is ex) at = subst (λ i. LeftBy i pinned x (record x {
    copies = with_at x.copies e None;
    messages = FlushRep e copy.line ∷ x.messages;
  })) (Some_injective e d at) (record {
    unpinned = un;
    entry = refl;
    gone = with_at_same x.copies e None;
    recalled = omega arith;
  })
  left_by d _ at = absurd (let z : ◌≡◌ {A = Option ℕ} None (Some d) = at in cc)

  -- what line_changes may be
  abbrev IsLines : Kind → Type 0
  IsLines delivering = Unit {0}
  IsLines (leaving c l) = Unit {0}
  IsLines _ = ⊥

  line_kind : (l : ℕ) (o : Option ℕ) → IsLines (kind_at l o)
  line_kind l None = tt
  line_kind l (Some c) = tt

  no_copy : {copy : Copy} {o : Option Copy} → o ≡ Some copy → o ≡ None → ⊥
  no_copy {copy} is none = let z : None ≡ Some copy = sym none ∙ is in absurd (cc)

  -- an attempt
  attempts : (c : ℕ) {m n : Machine} (turn : Transition f m n) → kind_of turn ≡ attempting c → Turns (c + 1) m →
      Turns (c + 1) n
  attempts c {m} (ask d op y opens out asks) is turns l e =
      beside (c + 1) m.lines _ m.cores _ e (one_line m (line_of f (address op)) y e (asked d _ op _ y asks e))
      (same_op m d _ refl e) l (turns l e)
  attempts c {m} (complete d op copy new received ts opens out there uses) is turns l e = go (cases_eq e d)
    where
      k : ℕ
      k = line_of f (address op)

      y : Line
      y = record (m.lines k) { copies = with_at ((m.lines k).copies) d (Some new) }

      has : LacksCopy m.lines m.cores d → ⊥
      has lacks = no_copy (subst (λ (p : Op). (m.lines (line_of f (address p))).copies d ≡ Some copy)
          (Some_injective op lacks.0 (sym opens ∙ lacks.1)) there) lacks.2

      same : ((with_at m.lines k y l).entry ≡ (m.lines l).entry)
          × ((with_at m.lines k y l).messages ≡ (m.lines l).messages)
      same = with_at_cases (λ j (z : Line). (z.entry ≡ (m.lines j).entry) × (z.messages ≡ (m.lines j).messages))
          m.lines k y (refl, refl) (λ j ne. (refl, refl)) l

      back : 1 ≤ returns d (with_at m.lines k y l) → (with_at m.lines k y l).entry ≡ Exclusive d → ⊥
      back some at = has ((turns l d).lacks
          (let w = ap (tally (return_of d)) same.1 in omega (arith, w, some)) (sym same.0 ∙ at))

      core : Core
      core = record { pts = ts; open_op = None; out = false }

      closed : (with_at m.cores d core d).open_op ≡ None
      closed = ap (λ (z : Core). z.open_op) (with_at_same m.cores d core)

      attempts_at : (i j : ℕ) → attempting i ≡ attempting j → i ≡ j
      attempts_at i j e = cc

      own : TurnPair (c + 1) (with_at m.lines k y) (with_at m.cores d core) l d
      own = let q = turns l d in record {
        sound = grind (arith, asked);
        lacks = λ some at. absurd (back some at);
        listed = λ le. absurd (let w = attempts_at d c is in omega (arith, w, le));
      }

      go : (e ≡ d) ⊎ (e ≡ d → ⊥) → TurnPair (c + 1) (with_at m.lines k y) (with_at m.cores d core) l e
      go (inl at) = rw at own
      go (inr ne) = beside (c + 1) m.lines _ m.cores _ e (one_line m k y e (beside_by refl
          (with_at_other ((m.lines k).copies) d (Some new) e ne) (le_refl _) (le_refl _) (le_refl _)))
          (other_op m d _ e ne) l (turns l e)
  attempts c (line_changes l t y move) is turns k e = grind (arith, line_kind l (leaves_at move))
  attempts c _ is turns l e = absurd (cc)

  -- its time goes on
  advances : (next : ℕ) {m n : Machine} (turn : Transition f m n) → kind_of turn ≡ advancing → Turns next m →
      Turns next n
  advances next {m} (advance d) is turns l c =
      beside next m.lines _ m.cores _ c (λ j. unchanged c (m.lines j)) (same_op m d _ refl c) l (turns l c)
  advances next (line_changes l t y move) is turns k e = grind (arith, line_kind l (leaves_at move))
  advances next _ is turns l e = absurd (cc)

  -- a copy leaves of a core that lacks one of its operation's line
  leaves : (c k : ℕ) {m n : Machine} (turn : Transition f m n) → kind_of turn ≡ leaving c k →
      LacksCopy m.lines m.cores c →
      Turns (c + 1) m → Turns (c + 1) n
  leaves c k {m} (line_changes d t y move) is lacks turns l e = go (cases_eq e c)
    where
      both : (o : Option ℕ) → kind_at d o ≡ leaving c k → o ≡ Some c
      both None at = absurd (cc)
      both (Some i) at = ap Some (let z : i ≡ c = cc in z)

      at : leaves_at move ≡ Some c
      at = both (leaves_at move) is

      left : LeftBy c (IsPinned f m.cores d) (m.lines d) y
      left = left_by c move at

      elsewhere : (j : ℕ) → j ≡ d → IsElsewhere f j ((m.cores c).open_op)
      elsewhere j q = (lacks.0, lacks.1, λ on. left.unpinned (lacks.0, lacks.1, on ∙ q))

      lacks_now : (j : ℕ) (copy : Option Copy) → (m.lines j).copies c ≡ copy → copy ≡ None →
          (with_at m.lines d y j).copies c ≡ None
      lacks_now j copy there gone = with_at_cases (λ j (z : Line). (m.lines j).copies c ≡ None → z.copies c ≡ None)
          m.lines d y (λ none. left.gone) (λ j ne none. none) j (there ∙ gone)

      here : TurnPair (c + 1) m.lines m.cores d c → TurnPair (c + 1) (with_at m.lines d y) m.cores d c
      here q = let y_is : with_at m.lines d y d ≡ y = with_at_same m.lines d y in record {
        sound = rw y_is (record {
          held = λ some on. absurd (not_both f d _ on (elsewhere d refl));
          unasked = λ named. left.recalled ∙ q.sound.unasked (sym left.entry ∙ named);
          asked = λ named. let z = q.sound.asked (sym left.entry ∙ named) in let w = left.recalled in
              omega (arith, z, w);
          returning = λ some named. elsewhere d refl;
        });
        lacks = λ some named. (lacks.0, lacks.1, lacks_now _ None lacks.2 refl);
        listed = λ le. absurd (omega (arith, le));
      }

      own : (l ≡ d) ⊎ (l ≡ d → ⊥) → TurnPair (c + 1) (with_at m.lines d y) m.cores l c
      own (inl q) = rw q (here (turns d c))
      own (inr ne) = let same : with_at m.lines d y l ≡ m.lines l = with_at_other m.lines d y l ne in
          kept (c + 1) m.lines _ m.cores _ l c (rw same (eased_beside l c _ _ (unchanged c (m.lines l))))
          (ap (λ (z : Line). z.entry) same)
          refl (λ q. (q.0, q.1, lacks_now _ None q.2 refl)) (turns l c)

      go : (e ≡ c) ⊎ (e ≡ c → ⊥) → TurnPair (c + 1) (with_at m.lines d y) m.cores l e
      go (inl q) = rw q (own (cases_eq l d))
      go (inr ne) = beside (c + 1) m.lines _ m.cores _ e (one_line m d y e (left_beside c e ne move at)) refl l
          (turns l e)
  leaves c k _ is lacks turns l e = absurd (cc)

  -- a core is given an operation
  issues : (c : ℕ) {m n : Machine} (turn : Transition f m n) → kind_of turn ≡ issuing c → Turns c m → Turns (c + 1) n
  issues c {m} (issue d op free) is turns l e = go (cases_eq e c)
    where
      at : d ≡ c
      at = cc

      closed : IsElsewhere f l ((m.cores c).open_op) → ⊥
      closed there = let z : None ≡ Some there.0 = sym free ∙ ap (λ i. (m.cores i).open_op) at ∙ there.1 in absurd (cc)

      given : ℕ → Core
      given = with_at m.cores d (record (m.cores d) { open_op = Some op })

      own : TurnPair (c + 1) m.lines given l c
      own = let q = turns l c in record {
        sound = grind (arith, le_refl c, asked);
        lacks = λ some named. absurd (closed (q.sound.returning some named));
        listed = λ le. absurd (omega (arith, le));
      }

      go : (e ≡ c) ⊎ (e ≡ c → ⊥) → TurnPair (c + 1) m.lines given l e
      go (inl q) = rw q own
      go (inr ne) = beside (c + 1) m.lines _ m.cores _ e (λ j. unchanged e (m.lines j))
          (other_op m d _ e (λ q. ne (q ∙ at))) l
          (later c m turns l e)
  issues c (line_changes l t y move) is turns k e = absurd (subst IsLines is (line_kind l (leaves_at move)))
  issues c _ is turns l e = absurd (cc)

  module _ (m n : Machine) where
    pub attempt_keeps : (c : ℕ) → Leads f (attempting c) m n → Turns (c + 1) m → Turns (c + 1) n
    attempt_keeps c t = attempts c t.turn t.is

    pub advance_keeps : (next : ℕ) → Leads f advancing m n → Turns next m → Turns next n
    advance_keeps next t = advances next t.turn t.is

    pub leaving_keeps : (c k : ℕ) → Leads f (leaving c k) m n → LacksCopy m.lines m.cores c → Turns (c + 1) m →
        Turns (c + 1) n
    leaving_keeps c k t = leaves c k t.turn t.is

    pub issue_keeps : (c : ℕ) → Leads f (issuing c) m n → Turns c m → Turns (c + 1) n
    issue_keeps c t = issues c t.turn t.is
