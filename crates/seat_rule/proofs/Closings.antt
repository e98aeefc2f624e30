-- What the last state of the table tells of all seats and slots.
use Rattle.std.proofs.Common.{◌≡◌, ℕ, zero, suc, ◌+◌, ◌-◌, ◌*◌, ◌/◌, ◌<◌, ◌≤◌, Bool, true, false, cond, eqb, List, []}
use Rattle.std.proofs.Common.{◌∷◌, get_or, Option, sym, refl, ap, ◌∙◌, subst, arith}
use Rattle.std.proofs.lemmas.Bool.Decides.{nat_tests}
use Rattle.std.proofs.lemmas.Grind.{common_steps}
use mathlib.Core.Option.{some, some-injective, some-ne-none}
use native.Mathlib.Decide.{ℕ_discrete}
use lib.ListN.{get_elem?}
use Rattle.atomic_table.specs.Table.{State, Final, Seen}
use Rattle.physiological_order.specs.declared.operation.Record.{Record}
use Rattle.network.specs.declared.message.Message.{Message}
use Rattle.machine_table.specs.SetUp.{is_good}
use Rattle.machine_theorem.specs.Bags.{weigh}
use Rattle.seat_views.specs.declared.views.View.{View}
use Rattle.seat_views.specs.Seated.{over}
use Rattle.seat_views.proofs.Lemmas.{over_same}
use Rattle.seat_rule.specs.declared.views.SetUp.{SetUp}
use Rattle.seat_rule.specs.declared.views.Stage.TheVariants.{Idle}
use Rattle.seat_rule.specs.declared.views.Hold.{Hold}
use Rattle.seat_rule.specs.StateLaws.{StateLaws}
use Rattle.seat_rule.specs.Rule.{Phase, free, content, RuleIsKept, Holds, from_of, to_of, seat_count, slot_count}
use Rattle.seat_rule.specs.Rule.{state_of, in_flight}
use Rattle.seat_rule.specs.Ended.{Whole, on_link, lies, Agrees, AllIdle, Closes, IsNotOut}
use Rattle.seat_rule.proofs.Phases.{idle_writing, idle_reading}

module _ {A : Type 0} where
  read_at : (l : List A) (i : ℕ) (x d : A) → get_elem? l i ≡ some x → get_or l i d ≡ x
  read_at [] i x d e = absurd (some-ne-none x (sym e))
  read_at (y ∷ l) zero x d e = some-injective y x e
  read_at (y ∷ l) (suc i) x d e = read_at l i x d e

-- a slot that no seat has taken out has its message or none
module _ (z : SetUp) (n : ℕ) (from to : ℕ → ℕ) (slots : ℕ) (s : State (Option Message) (View Hold))
    (r : RuleIsKept z n from to slots s) (idle : (j : ℕ) → j < n → (r.seats j).stage ≡ Idle) where
  all_idle : (j : ℕ) → (r.seats j).stage ≡ Idle
  all_idle j = grind (arith, nat_tests)

  slot_lies : (xs : List (Option Message)) →
      ((k : ℕ) (y : Option Message) → get_elem? s.homes k ≡ some (some y) → get_elem? xs k ≡ some y) →
      (k : ℕ) → k < slots → get_elem? xs k ≡ some (lies (r.phases k))
  slot_lies xs final k l = grind (arith, nat_tests, common_steps, all_idle, get_or, idle_reading, idle_writing)

  slot_home : (k : ℕ) → k < slots → IsNotOut (r.phases k)
  slot_home k l = grind (arith, nat_tests, common_steps, all_idle, idle_reading, idle_writing)

pub ends : (laws : StateLaws) (z : SetUp) (id : ℕ) (w : View Hold) (words : List ℕ) (xs : List (Option Message))
    (n : ℕ) → is_good z.config ≡ true → w.spent ≡ false → Final (Seen (Holds z) id w) words xs →
    get_elem? words (slot_count z) ≡ some n → Closes z ((w.number, w.mine) ∷ w.known) n xs
ends laws z id w words xs n good live final found =
    let s = final.0 in
    let r = final.1.0 in
    let at : get_elem? s.views id ≡ some w = final.1.1 in
    let messages = in_flight (seat_count z) (slot_count z) r.seats r.phases in
    let known : Agrees r.seats ((w.number, w.mine) ∷ w.known) =
    agrees r.seats (ap r.seats (r.shown.number id w at live) ∙ r.shown.mine id w at live)
    (λ q p e. (r.shown.known id w at q p e).0) in
    record {
      seats = r.seats;
      phases = r.phases;
      log = r.log;
      whole = record {
        reached = r.reached;
        consistent =
            laws.consistent z.config z.memory (state_of z (seat_count z) r.seats messages r.log) good r.reached;
        own = r.own;
        seen = r.seen;
        total = r.total;
        links = r.links;
      };
      counted = sym r.count ∙ ap (λ (y : List ℕ). get_or y (slot_count z) 0) final.2
          ∙ read_at words (slot_count z) n 0 found;
      agrees = known;
      lying = λ all.
          slot_lies z (seat_count z) (from_of z) (to_of z) (slot_count z) s r (idle r.seats known all) xs final.4;
      home = λ all.
          slot_home z (seat_count z) (from_of z) (to_of z) (slot_count z) s r (idle r.seats known all);
    }
  where
    idle : (seats : ℕ → Hold) → Agrees seats ((w.number, w.mine) ∷ w.known) →
        AllIdle z ((w.number, w.mine) ∷ w.known) → (j : ℕ) → j < seat_count z → (seats j).stage ≡ Idle
    idle seats known all j l =
        let h = all j l in
        ap (λ (g : Hold). g.stage) (known h.0 (j, h.1) h.2) ∙ h.3

    agrees : (seats : ℕ → Hold) → seats w.number ≡ w.mine →
        ((q : ℕ) (p : ℕ × Hold) → get_elem? w.known q ≡ some p → seats p.0 ≡ p.1) →
        Agrees seats ((w.number, w.mine) ∷ w.known)
    agrees seats first others zero p e =
        subst (λ (y : ℕ × Hold). seats y.0 ≡ y.1) (some-injective (w.number, w.mine) p e) first
    agrees seats first others (suc i) p e = others i p e

-- the four slots of a link have at most four messages
at_most_four : (link n : ℕ) (w : ℕ → ℕ) → ((k : ℕ) → w k ≤ 1) →
    (over n (λ k. cond (eqb (k / 4) link) (w k) 0) ≤ n - 4 * link) ×
    (over n (λ k. cond (eqb (k / 4) link) (w k) 0) ≤ 4)
at_most_four link zero w b = (omega arith, omega arith)
at_most_four link (suc n) w b = let q0 = at_most_four link n w b in grind (arith, nat_tests, q0)

at_most_one : (phase : Phase) → weigh (λ m. 1) (content phase) ≤ 1
at_most_one free = omega arith
at_most_one _ = omega arith

of_link : (b : Bool) (phase : Phase) →
    weigh (λ (m : Message). cond b 1 0) (content phase) ≡ cond b (weigh (λ m. 1) (content phase)) 0
of_link true phase = refl
of_link false free = refl
of_link false _ = refl

-- on a link, at most four more messages were put than taken
pub at_most_four_lie : (z : SetUp) (seats : ℕ → Hold) (phases : ℕ → Phase) (log : List Record) →
    Whole z seats phases log → (link : ℕ) →
    over (seat_count z) (λ j. on_link link (seats j).put) ≤
    over (seat_count z) (λ j. on_link link (seats j).taken) + 4
at_most_four_lie z seats phases log whole link =
    let a = whole.links (λ l m. cond (eqb l link) 1 0) in
    let w : ℕ → ℕ = λ k. weigh (λ (m : Message). 1) (content (phases k)) in
    let e = over_same (slot_count z) (λ k. weigh (λ (m : Message). cond (eqb (k / 4) link) 1 0) (content (phases k)))
    (λ k. cond (eqb (k / 4) link) (w k) 0) (λ k l. of_link (eqb (k / 4) link) (phases k)) in
    let b = (at_most_four link (slot_count z) w (λ k. at_most_one (phases k))).1 in
    omega arith
