-- Parts of a turn, one behind the other.
use Rattle.std.proofs.Common.{◌≡◌, ℕ, Bool, true, false, List, [], ◌∷◌, ◌++◌, Option, Some, None}
use Rattle.std.proofs.Common.{refl, sym, ap, ap₂, ◌∙◌, subst, append_assoc, append-nil, ◌+◌, ◌<◌, length, get_or, drop}
use Rattle.std.proofs.lemmas.List.{at_drop_more}
use Rattle.machine_table.specs.declared.event.Event.{Event}
use Rattle.machine_table.specs.Machine.{Machine}
use Rattle.machine_table.specs.Runs.{after_all}
use Rattle.machine_table.specs.Transition.{transition}
use Rattle.programs.specs.declared.ends.End.{End}
use Rattle.programs.specs.declared.ends.End.TheVariants.{Exhausted, NoMemory}
use Rattle.programs.specs.Acts.{Acts}
use Rattle.schedules.specs.Parts.{Action, Does, Advances, Lists, Standing, Part, after_action, after_actions}
use Rattle.schedules.specs.Parts.{events_of_one, events_of, followed_by, only_if}
use Rattle.schedules.specs.Runs.{AsksMemory}
use Rattle.schedules.specs.Notes.{Point, standing, IsMade, IsRefused, Reaches}
use Rattle.schedules.specs.Watches.{Watches, watched, AreSeen, keeps_events}
use Rattle.schedules.proofs.RunLaws.{all_both}

-- events that are seen one after the other
module _ {W : Type 0} (watches : Watches W) where
  seen_after : (before : watches.Seen) (start : Machine) (xs ys : List Event) →
      watched watches before start (xs ++ ys) ≡
      watched watches (watched watches before start xs) (after_all start xs) ys
  seen_after before start [] ys = refl
  seen_after before start (x ∷ xs) ys =
      seen_after (watches.sees before start x (transition start x).0 (transition start x).1) (transition start x).1
      xs ys

  pub seen_both : {before : watches.Seen} {start m n : Machine} {w v : W} (xs ys : List Event) →
      AreSeen watches before start xs m w → AreSeen watches (watches.seen w) m ys n v →
      AreSeen watches before start (xs ++ ys) n v
  seen_both {before} {start} xs ys h k = record {
    leads = k.leads ∙ ap (λ (l : Machine). after_all l ys) h.leads ∙ sym (all_both start xs ys);
    seen = k.seen ∙ ap₂ (λ (x : watches.Seen) (l : Machine). watched watches x l ys) h.seen h.leads
        ∙ sym (seen_after before start xs ys);
  }

-- what is kept is the events
pub all_listed : {W : Type 0} (items : W → List Event) (has_room : W → Type 0) (before : List Event) (m : Machine)
    (events : List Event) → watched (keeps_events items has_room) before m events ≡ before ++ events
all_listed items has_room before m [] = sym (append-nil before)
all_listed items has_room before m (event ∷ events) =
    all_listed items has_room (before ++ event ∷ []) (transition m event).1 events
    ∙ append_assoc before (event ∷ []) events

asks_more : (keeps : Bool) (m : Machine) (xs ys : List Action) → AsksMemory keeps m xs → AsksMemory keeps m (xs ++ ys)
asks_more keeps m [] ys asks = absurd asks
asks_more keeps m (Does e ∷ xs) ys asks = asks
asks_more keeps m (Advances core ∷ xs) ys asks = asks
asks_more keeps m (Lists ∷ xs) ys asks = tt

module _ {P : Type 0} (acts : Acts P) where
  pub after_both : (s : Standing P) (xs ys : List Action) →
      after_actions acts s (xs ++ ys) ≡ after_actions acts (after_actions acts s xs) ys
  after_both s [] ys = refl
  after_both s (x ∷ xs) ys = after_both (after_action acts s x) xs ys

  pub events_both : (s : Standing P) (xs ys : List Action) →
      events_of acts s (xs ++ ys) ≡ events_of acts s xs ++ events_of acts (after_actions acts s xs) ys
  events_both s [] ys = refl
  events_both s (x ∷ xs) ys =
      ap (λ l. events_of_one acts s x ++ l) (events_both (after_action acts s x) xs ys)
      ∙ sym (append_assoc (events_of_one acts s x) (events_of acts (after_action acts s x) xs)
      (events_of acts (after_actions acts (after_action acts s x) xs) ys))

  -- exhausted times end a run
  stays_out : {W : Type 0} (q : Point P W) (xs : List Action) →
      after_actions acts (standing q true) xs ≡ standing q true
  stays_out q [] = refl
  stays_out q (Does e ∷ xs) = stays_out q xs
  stays_out q (Advances core ∷ xs) = stays_out q xs
  stays_out q (Lists ∷ xs) = stays_out q xs

  is_silent : {W : Type 0} (q : Point P W) (xs : List Action) → events_of acts (standing q true) xs ≡ []
  is_silent q [] = refl
  is_silent q (Does e ∷ xs) = is_silent q xs
  is_silent q (Advances core ∷ xs) = is_silent q xs
  is_silent q (Lists ∷ xs) = is_silent q xs

module _ {P W : Type 0} (acts : Acts P) (watches : Watches W) where
  pub none_made : (p : Point P W) → IsMade acts watches [] p p false
  none_made p = record { leads = refl; seen = record { leads = refl; seen = refl }; asked = λ asked. asked }

  pub list_made : (p : Point P W) → IsMade acts watches (Lists ∷ []) p p false
  list_made p = record { leads = refl; seen = record { leads = refl; seen = refl }; asked = λ asked. asked }

  pub list_refused : (p : Point P W) (xs : List Action) → IsRefused acts watches (Lists ∷ xs) p p
  list_refused p xs =
      record { made = []; left = Lists ∷ xs; actions_are = refl; is_made = none_made p; asks = tt }

  -- the events of both parts
  of_both : {p q : Point P W} {out : Bool} (xs ys : List Action) → IsMade acts watches xs p q out →
      events_of acts (standing p false) (xs ++ ys)
      ≡ events_of acts (standing p false) xs ++ events_of acts (standing q out) ys
  of_both {p} xs ys h =
      events_both acts (standing p false) xs ys
      ∙ ap (λ (s : Standing P). events_of acts (standing p false) xs ++ events_of acts s ys) h.leads

  made_both : {p q u : Point P W} {out : Bool} (xs ys : List Action) → IsMade acts watches xs p q false →
      IsMade acts watches ys q u out → IsMade acts watches (xs ++ ys) p u out
  made_both {p} {q} {u} xs ys h k = record {
    leads = after_both acts (standing p false) xs ys ∙ ap (λ (s : Standing P). after_actions acts s ys) h.leads
        ∙ k.leads;
    seen = subst (λ (l : List Event). AreSeen watches (watches.seen p.log.watcher) p.machine l u.machine u.log.watcher)
        (sym (of_both xs ys h))
        (seen_both watches (events_of acts (standing p false) xs) (events_of acts (standing q false) ys) h.seen k.seen);
    asked = λ asked. k.asked (h.asked asked);
  }

  made_out : {p q : Point P W} (xs ys : List Action) → IsMade acts watches xs p q true →
      IsMade acts watches (xs ++ ys) p q true
  made_out {p} {q} xs ys h = record {
    leads = after_both acts (standing p false) xs ys ∙ ap (λ (s : Standing P). after_actions acts s ys) h.leads
        ∙ stays_out acts q ys;
    seen = subst (λ (l : List Event). AreSeen watches (watches.seen p.log.watcher) p.machine l q.machine q.log.watcher)
        (sym (of_both xs ys h ∙ ap (λ (l : List Event). events_of acts (standing p false) xs ++ l) (is_silent acts q ys)
        ∙ append-nil (events_of acts (standing p false) xs))) h.seen;
    asked = h.asked;
  }

  refused_first : {p q : Point P W} (xs ys : List Action) → IsRefused acts watches xs p q →
      IsRefused acts watches (xs ++ ys) p q
  refused_first {p} {q} xs ys h = record {
    made = h.made;
    left = h.left ++ ys;
    actions_are = ap (λ (l : List Action). l ++ ys) h.actions_are ∙ append_assoc h.made h.left ys;
    is_made = h.is_made;
    asks = asks_more watches.asks q.machine h.left ys h.asks;
  }

  refused_then : {p q u : Point P W} (xs ys : List Action) → IsMade acts watches xs p q false →
      IsRefused acts watches ys q u → IsRefused acts watches (xs ++ ys) p u
  refused_then xs ys h k = record {
    made = xs ++ k.made;
    left = k.left;
    actions_are = ap (λ (l : List Action). xs ++ l) k.actions_are ∙ sym (append_assoc xs k.made k.left);
    is_made = made_both xs k.made h k.is_made;
    asks = k.asks;
  }

  -- one part, and the other
  pub did_then : {p q : Point P W} (u : Point P W) (f g : Part P) →
      IsMade acts watches (f (standing p false)) p q false → (o : Option End) → Reaches acts watches g q o u →
      Reaches acts watches (followed_by acts f g) p o u
  did_then {p} {q} u f g h None k =
      subst (λ (s : Standing P). IsMade acts watches (f (standing p false) ++ g s) p u false) (sym h.leads)
      (made_both (f (standing p false)) (g (standing q false)) h k)
  did_then {p} {q} u f g h (Some Exhausted) k =
      subst (λ (s : Standing P). IsMade acts watches (f (standing p false) ++ g s) p u true) (sym h.leads)
      (made_both (f (standing p false)) (g (standing q false)) h k)
  did_then {p} {q} u f g h (Some NoMemory) k =
      subst (λ (s : Standing P). IsRefused acts watches (f (standing p false) ++ g s) p u) (sym h.leads)
      (refused_then (f (standing p false)) (g (standing q false)) h k)
  did_then u f g h _ k = absurd k

  -- one part, which ends the run
  pub did_first : (p q : Point P W) (f g : Part P) (e : End) → Reaches acts watches f p (Some e) q →
      Reaches acts watches (followed_by acts f g) p (Some e) q
  did_first p q f g Exhausted h =
      made_out (f (standing p false)) (g (after_actions acts (standing p false) (f (standing p false)))) h
  did_first p q f g NoMemory h =
      refused_first (f (standing p false)) (g (after_actions acts (standing p false) (f (standing p false)))) h
  did_first p q f g _ h = absurd h

  -- one part is another one, where both begin
  pub did_as : (p q : Point P W) (f g : Part P) → f (standing p false) ≡ g (standing p false) → (o : Option End) →
      Reaches acts watches f p o q → Reaches acts watches g p o q
  did_as p q f g same None h = subst (λ (xs : List Action). IsMade acts watches xs p q false) same h
  did_as p q f g same (Some Exhausted) h = subst (λ (xs : List Action). IsMade acts watches xs p q true) same h
  did_as p q f g same (Some NoMemory) h = subst (λ (xs : List Action). IsRefused acts watches xs p q) same h
  did_as p q f g same _ h = absurd h

  -- a part that is made under a condition
  pub did_if : (p q : Point P W) (b : Bool) (f : Part P) → b ≡ true → (o : Option End) → Reaches acts watches f p o q →
      Reaches acts watches (only_if b f) p o q
  did_if p q b f holds =
      did_as p q f (only_if b f) (ap (λ (c : Bool). only_if c f (standing p false)) (sym holds))

  pub did_not : (p : Point P W) (b : Bool) (f : Part P) → b ≡ false →
      IsMade acts watches (only_if b f (standing p false)) p p false
  did_not p b f fails =
      subst (λ (c : Bool). IsMade acts watches (only_if c f (standing p false)) p p false) (sym fails) (none_made p)

  -- a part that makes nothing, under any condition
  pub did_nothing : (p : Point P W) (b : Bool) (f : Part P) → f (standing p false) ≡ [] →
      IsMade acts watches (only_if b f (standing p false)) p p false
  did_nothing p true f none =
      subst (λ (xs : List Action). IsMade acts watches xs p p false) (sym none) (none_made p)
  did_nothing p false f none = none_made p

  -- what is left of a part, where all before was made
  abbrev pub IsLeft : Part P → Part P → Point P W → Point P W → Type 0
  IsLeft all left p q =
      (o : Option End) (u : Point P W) → Reaches acts watches left q o u → Reaches acts watches all p o u

  pub left_then : {p q u : Point P W} (all f g : Part P) → IsLeft all (followed_by acts f g) p q →
      IsMade acts watches (f (standing q false)) q u false → IsLeft all g p u
  left_then all f g h made o v did = h o v (did_then v f g made o did)

  pub left_first : (p q u : Point P W) (all f g : Part P) → IsLeft all (followed_by acts f g) p q → (e : End) →
      Reaches acts watches f q (Some e) u → Reaches acts watches all p (Some e) u
  left_first p q u all f g h e did = h (Some e) u (did_first q u f g e did)

-- a number that is next is at the front of those that are left
pub left_from : (numbers : List ℕ) (i number : ℕ) → i < length numbers → number ≡ get_or numbers i number →
    drop i numbers ≡ number ∷ drop (i + 1) numbers
left_from numbers i number below is =
    at_drop_more (λ xs. xs) numbers i number below ∙ ap (λ n. n ∷ drop (i + 1) numbers) (sym is)
