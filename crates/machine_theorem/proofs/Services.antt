-- Services of a state: moves that complete what is open. No core is issued anything by them, or advances its own time.
use Rattle.std.proofs.Common.{◌≡◌, ◌≢◌, ℕ, zero, suc, ◌+◌, ◌<◌, ◌≤◌, List, [], ◌∷◌, ◌++◌, length, None, ◌⊎◌, inl, inr}
use Rattle.std.proofs.Common.{arith, le_trans}
use Rattle.physiological_order.specs.declared.operation.Op.{Op}
use Rattle.physiological_order.specs.declared.operation.Record.{Record}
use Rattle.physiological_order.specs.Order.{of_core}
use Rattle.network.specs.declared.message.Node.TheVariants.{Core, Bank}
use Rattle.network.specs.declared.message.Message.{Message}
use Rattle.core_pts.specs.CoreTable.{core_has_case}
use Rattle.llc_bank.specs.BankTable.{bank_has_case}
use Rattle.machine_table.specs.declared.config.Config.{Config}
use Rattle.machine_table.specs.Step.{Exhausts, Does, Act, Advancing, message_of, core_step, bank_step}
use Rattle.machine_theorem.specs.States.{State}
use Rattle.machine_theorem.specs.Moves.{Move, issues, core_steps, AreBeside}

abbrev pub IsService : {config : Config} {a b : State} → Move config a b → Type 0
IsService (issues core op after below is) = ⊥
IsService (core_steps core act rest done below beside is to) = act ≢ Advancing
IsService _ = Unit {0}

-- so many services, one after the other, with at most so many messages in flight after each
pub data Serves (config : Config) (most : ℕ) : ℕ → State → State → Type 0 where
  nothing : {a : State} → Serves config most 0 a a
  first : {k : ℕ} {a b d : State} (move : Move config a b) → IsService move → length b.bag ≤ most →
      Serves config most k b d → Serves config most (suc k) a d

-- a service is possible whose sum of times doesn't fit
pub data IsLate (config : Config) (a : State) : Type 0 where
  a_core : (core : ℕ) (act : Act) (rest : List Message) → core < config.cores → act ≢ Advancing →
      AreBeside a.bag (Core core) (core_has_case (a.cores core)) (message_of act) rest →
      core_step (a.cores core) act ≡ Does Exhausts → IsLate config a
  a_bank : (bank : ℕ) (act : Act) (rest : List Message) → bank < config.banks →
      AreBeside a.bag (Bank bank) (bank_has_case (a.banks bank)) (message_of act) rest →
      bank_step (a.banks bank) act ≡ Exhausts → IsLate config a

-- a core's open operation is completed, and nothing else of this core
pub record Completes (core : ℕ) (op : Op) (a b : State) : Type 0 where
  pub completion : Record
  pub its_operation : completion.op ≡ op
  pub records : of_core core b.records ≡ of_core core a.records ++ completion ∷ []
  pub closed : (b.cores core).open_op ≡ None

-- at most so many services lead to where G holds, or a sum of times doesn't fit
pub record LeadsTo (config : Config) (most services : ℕ) (G : State → Type 0) (a : State) : Type 0 where
  pub made : ℕ
  pub few : made ≤ services
  pub after : State
  pub serves : Serves config most made a after
  pub ends : G after ⊎ IsLate config after

-- they complete a core's open operation
abbrev pub EndsWithin : Config → ℕ → ℕ → ℕ → Op → State → Type 0
EndsWithin config most services core op a = LeadsTo config most services (Completes core op a) a

module _ {config : Config} {most : ℕ} where
  serves_on : (j k : ℕ) (a b d : State) → Serves config most j a b → Serves config most k b d →
      Serves config most (j + k) a d
  serves_on zero k a _ d nothing more = let e : zero + k ≡ k = omega arith in rw e more
  serves_on (suc j) k a b d (first move is few made) more =
      let e : suc j + k ≡ suc (j + k) = omega arith in rw e (first move is few (serves_on j k _ b d made more))

  pub leads_here : {k : ℕ} {G : State → Type 0} {a : State} → G a → LeadsTo config most k G a
  leads_here {a = a} goal = record { made = 0; few = omega arith; after = a; serves = nothing; ends = inl goal }

  pub leads_late : {k : ℕ} {G : State → Type 0} {a : State} → IsLate config a → LeadsTo config most k G a
  leads_late {a = a} late = record { made = 0; few = omega arith; after = a; serves = nothing; ends = inr late }

  -- the first of these services
  pub leads_after : {k : ℕ} {G : State → Type 0} {a b : State} (move : Move config a b) → IsService move →
      length b.bag ≤ most → LeadsTo config most k G b → LeadsTo config most (suc k) G a
  leads_after move is few way = record {
    made = suc way.made;
    few = let z = way.few in omega arith;
    after = way.after;
    serves = first move is few way.serves;
    ends = way.ends;
  }

  pub leads_for : {k : ℕ} {G H : State → Type 0} {a : State} → LeadsTo config most k G a →
      ((b : State) → G b → H b) → LeadsTo config most k H a
  leads_for way so = record {
    made = way.made;
    few = way.few;
    after = way.after;
    serves = way.serves;
    ends = elim way.ends [ inl x ↦ inl (so way.after x) | inr x ↦ inr x ];
  }

  -- these services, and then those
  pub leads_on : {j k i : ℕ} {G H : State → Type 0} {a : State} → LeadsTo config most j G a →
      ((b : State) → G b → LeadsTo config most k H b) → j + k ≤ i → LeadsTo config most i H a
  leads_on {a = a} way go le =
      elim way.ends [
        | inl x ↦
            let more = go way.after x in
            record {
              made = way.made + more.made;
              few = let y = more.few in let z = way.few in omega arith;
              after = more.after;
              serves = serves_on way.made more.made a way.after more.after way.serves more.serves;
              ends = more.ends;
            }
        | inr x ↦
            record {
              made = way.made;
              few = let z = way.few in omega arith;
              after = way.after;
              serves = way.serves;
              ends = inr x;
            }
      ]

  pub leads_within : {j k : ℕ} {G : State → Type 0} {a : State} → LeadsTo config most j G a → j ≤ k →
      LeadsTo config most k G a
  leads_within way le = leads_on way (λ b x. leads_here {k = 0} x) (omega arith)

-- more may be in flight
pub leads_wider : {config : Config} {less most k : ℕ} {G : State → Type 0} {a : State} →
    LeadsTo config less k G a → less ≤ most → LeadsTo config most k G a
leads_wider {config = config} {less = less} {most = most} {a = a} way le = record {
  made = way.made;
  few = way.few;
  after = way.after;
  serves = wider way.made a way.after way.serves;
  ends = way.ends;
}
  where
    wider : (j : ℕ) (a b : State) → Serves config less j a b → Serves config most j a b
    wider zero a _ nothing = nothing
    wider (suc j) a b (first move is few more) = first move is (le_trans few le) (wider j _ b more)
