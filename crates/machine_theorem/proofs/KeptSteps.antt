-- What it means that a step of a part keeps the invariant of the state, and that a state in which the messages are in
-- another order keeps it, too.
use Rattle.std.proofs.Common.{◌≡◌, ◌≢◌, ℕ, ◌+◌, Bool, true, false, cond, eqb, List, [], ◌∷◌, ◌++◌, Some, None, refl}
use Rattle.std.proofs.Common.{sym, ap, subst, arith, append_assoc, nat_cmp, IsPermutation}
use Rattle.std.specs.FinMap.{FinMap}
use Rattle.std.specs.List.{AllByRecursion as Each}
use Rattle.std.proofs.lemmas.List.Sorted.{IsPermutation-refl, IsPermutation-cons, IsPermutation-swap}
use Rattle.network.specs.declared.message.Message.{Message}
use Rattle.machine_table.specs.declared.config.Config.{Config}
use Rattle.machine_table.specs.Step.{Step, Drops, Makes, Tried, Completes, Does}
use Rattle.protocol.specs.Machine as by_line
use Rattle.protocol.specs.Machine.{shuffled}
use Rattle.machine_theorem.specs.Bags.{SameBag}
use Rattle.machine_theorem.specs.States.{State, Same}
use Rattle.machine_theorem.specs.Moves.{with_core, with_answer, with_completion, StepsTo}
use Rattle.machine_theorem.specs.View.{message_seen, messages_of, set_up, view}
use Rattle.machine_theorem.specs.PastWords.{IsReached}
use Rattle.machine_theorem.specs.Shape.{GoesHome, HasShape}
use Rattle.machine_theorem.specs.Kept.{IsKept}
use Rattle.machine_theorem.proofs.Reorderings.{Reordered, none, behind, swapped, followed, reordered}
use Rattle.machine_theorem.proofs.Lookups.{messages_there}
use Rattle.machine_theorem.proofs.Turns.{Kind, Leads, bag_turn}
use Rattle.machine_theorem.proofs.PastWords.{goes_on}
use Rattle.machine_theorem.proofs.ByParts.{shape_by}

-- two messages next to one another
two : (b c : Bool) (x y : by_line.Message) (xs : List by_line.Message) →
    IsPermutation (cond b (x ∷ cond c (y ∷ xs) xs) (cond c (y ∷ xs) xs))
    (cond c (y ∷ cond b (x ∷ xs) xs) (cond b (x ∷ xs) xs))
two true true x y xs = IsPermutation-swap (x ∷ y ∷ xs) (y ∷ x ∷ xs) 0 1 (omega arith) (omega arith) refl
two true false x y xs = IsPermutation-refl (x ∷ xs)
two false true x y xs = IsPermutation-refl (y ∷ xs)
two false false x y xs = IsPermutation-refl xs

more : (b : Bool) (x : by_line.Message) (xs ys : List by_line.Message) → IsPermutation xs ys →
    IsPermutation (cond b (x ∷ xs) xs) (cond b (x ∷ ys) ys)
more true x xs ys i = IsPermutation-cons x xs ys i
more false x xs ys i = i

line_reordered : (before : List Message) (x y : Message) (xs : List Message) (l : ℕ) →
    IsPermutation (messages_of (before ++ x ∷ y ∷ xs) l) (messages_of (before ++ y ∷ x ∷ xs) l)
line_reordered [] x y xs l = two (eqb x.line l) (eqb y.line l) (message_seen x) (message_seen y) (messages_of xs l)
line_reordered (z ∷ zs) x y xs l = more (eqb z.line l) (message_seen z) _ _ (line_reordered zs x y xs l)

line_kept : (before : List Message) (x y : Message) (xs : List Message) (l : ℕ) → l ≢ x.line →
    messages_of (before ++ x ∷ y ∷ xs) l ≡ messages_of (before ++ y ∷ x ∷ xs) l
line_kept [] x y xs l ne = grind (arith, messages_there x (y ∷ xs) l ne, eqb y.line l, messages_there x xs l ne)
line_kept (z ∷ zs) x y xs l ne = ap (λ ms. cond (eqb z.line l) (message_seen z ∷ ms) ms) (line_kept zs x y xs l ne)

each_reordered : (P : Message → Type 0) {xs ys : List Message} → Reordered xs ys → Each P xs → Each P ys
each_reordered P none e = e
each_reordered P (behind x same) e = (e.0, each_reordered P same e.1)
each_reordered P (swapped x y xs) e = (e.1.0, (e.0, e.1.1))
each_reordered P (followed same later) e = each_reordered P later (each_reordered P same e)

module _ (config : Config) (opening : FinMap nat_cmp ℕ) where
  abbrev Reaches : State → List Message → Type 0
  Reaches a bag = IsReached (set_up config opening) (view config (record a { bag = bag }))

  reached_reordered : (a : State) {xs ys : List Message} → Reordered xs ys → (before : List Message) →
      Reaches a (before ++ xs) → Reaches a (before ++ ys)
  reached_reordered a none before r = r
  reached_reordered a (behind {xs} {ys} x same) before r =
      rw (append_assoc before (x ∷ []) ys) at (reached_reordered a same (before ++ x ∷ [])
      (rw (append_assoc before (x ∷ []) xs) r))
  reached_reordered a (swapped x y xs) before r =
      goes_on r (bag_turn config opening (record a { bag = before ++ x ∷ y ∷ xs }) x.line (before ++ y ∷ x ∷ xs)
      (line_kept before x y xs) (shuffled _ (line_reordered before x y xs x.line), refl)).turn
  reached_reordered a (followed same later) before r =
      reached_reordered a later before (reached_reordered a same before r)

  -- other messages that go home
  pub shape_with : (a : State) (bag : List Message) → Each (GoesHome config) bag → HasShape config opening a →
      HasShape config opening (record a { bag = bag })
  shape_with a bag each s = shape_by s.some_words s.some_banks s.each_core s.each_bank each s.cores_beyond
      s.banks_beyond s.drams_beyond s.lists_beyond

  -- the messages in another order
  pub kept_reordered : (a : State) (bag : List Message) → SameBag a.bag bag → IsKept config opening a →
      IsKept config opening (record a { bag = bag })
  kept_reordered a bag same s =
      let order = reordered a.bag bag same in
      record {
        shape = shape_with a bag (each_reordered (GoesHome config) order s.shape.each_message) s.shape;
        reached = reached_reordered a order [] s.reached;
      }

  -- the same state
  pub kept_same : (a b : State) → Same a b → IsKept config opening a → IsKept config opening b
  kept_same a b k s =
      subst (IsKept config opening) (λ i. record {
        cores = λ c. k.cores c i;
        banks = λ j. k.banks j i;
        drams = λ j. k.drams j i;
        bag = b.bag;
        issued = λ c. k.issued c i;
        records = k.records i;
        counts = k.counts i;
      }) (kept_reordered a b.bag k.bag s)

  -- a state with its shape, to which a transition of this kind leads
  pub record Turned (kind : Kind) (a b : State) : Type 0 where
    pub shape : HasShape config opening b
    pub leads : Leads (set_up config opening) kind (view config a) (view config b)

  pub turned_kept : {kind : Kind} (a b : State) → IsKept config opening a → Turned kind a b → IsKept config opening b
  turned_kept a b s t = record { shape = t.shape; reached = goes_on s.reached t.leads.turn }

  -- this is so after a step of a part, if it leads to a state
  abbrev pub Comes : {S : Type 0} → (State → Type 0) → State → (S → State) → List Message → Step S → Type 0
  Comes X a put rest Drops = X (record a { bag = rest })
  Comes X a put rest (Makes did consumes sends part) = X (with_answer (put part) (cond consumes rest a.bag) sends)
  Comes X a put rest _ = Unit {0}

  abbrev pub Goes : {S : Type 0} → Kind → State → (S → State) → List Message → Step S → Type 0
  Goes kind a = Comes (Turned kind a) a

  pub goes_to : {S : Type 0} (X : State → Type 0) (a b : State) (put : S → State) (rest : List Message)
      (step : Step S) → Comes X a put rest step → StepsTo a put rest step b → X b
  goes_to X a b put rest Drops goes to = rw to goes
  goes_to X a b put rest (Makes did consumes sends part) goes to = rw to goes
  goes_to X a b put rest _ goes to = absurd to

  pub goes_kept : {S : Type 0} (kind : Kind) (a : State) (put : S → State) (rest : List Message) (step : Step S) →
      IsKept config opening a → Goes kind a put rest step → Comes (IsKept config opening) a put rest step
  goes_kept kind a put rest Drops s goes = turned_kept a _ s goes
  goes_kept kind a put rest (Makes did consumes sends part) s goes = turned_kept a _ s goes
  goes_kept kind a put rest _ s goes = tt

  -- and after what an attempt of a core comes to
  abbrev pub Tries : (State → Type 0) → State → ℕ → List Message → Tried → Type 0
  Tries X a c rest (Completes op received ts core) = X (with_completion a c op received ts core)
  Tries X a c rest (Does step) = Comes X a (with_core a c) rest step

  pub tries_kept : (kind : Kind) (a : State) (c : ℕ) (rest : List Message) (t : Tried) → IsKept config opening a →
      Tries (Turned kind a) a c rest t → Tries (IsKept config opening) a c rest t
  tries_kept kind a c rest (Completes op received ts core) s goes = turned_kept a _ s goes
  tries_kept kind a c rest (Does step) s goes = goes_kept kind a (with_core a c) rest step s goes

  -- where the delivered message comes first in the bag, or is in it anywhere
  pub found_anywhere : {S : Type 0} (a : State) (put : S → State) (message : Message) (rest : List Message) →
      SameBag a.bag (message ∷ rest) → (step : Step S) →
      Comes (IsKept config opening) (record a { bag = message ∷ rest }) (λ x. record (put x) { bag = message ∷ rest })
      rest step → Comes (IsKept config opening) a put rest step
  found_anywhere a put message rest same (Makes did false None part) goes =
      kept_reordered _ a.bag (λ h. sym (same h)) goes
  found_anywhere a put message rest same (Makes did false (Some q) part) goes =
      kept_reordered _ (q ∷ a.bag) (λ h. ap (λ n. h q + n) (sym (same h))) goes
  found_anywhere a put message rest same _ goes = goes
