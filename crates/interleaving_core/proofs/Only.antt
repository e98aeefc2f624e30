-- What the steps of each event answer, and what parts they make.
use Rattle.std.proofs.Common.{◌≡◌, ℕ, ◌+◌, Bool, true, false, cond, List, [], ◌∷◌, length, length-append, Option}
use Rattle.std.proofs.Common.{Some, None, refl, ap, arith}
use Rattle.std.proofs.lemmas.Bool.{cond_both}
use Rattle.std.proofs.lemmas.Bool.Decides.{nat_tests}
use Rattle.std.proofs.lemmas.Grind.{common_steps}
use Rattle.physiological_order.specs.declared.operation.Op.{Op}
use Rattle.physiological_order.specs.declared.operation.Record.{Record}
use Rattle.network.specs.declared.message.Message.{Message}
use Rattle.network.specs.Mail.{Mail, has_capacity}
use Rattle.timestamp_manager.specs.Lease.{fits}
use Rattle.core_pts.specs.declared.attempt.Attempt.{Attempt}
use Rattle.core_pts.specs.declared.attempt.Attempt.TheVariants as attempted
use Rattle.core_pts.specs.CoreTable as core_table
use Rattle.core_pts.specs.CoreTable.{CoreState, core_table}
use Rattle.machine_table.specs.declared.event.Answer.{Answer}
use Rattle.machine_table.specs.declared.event.Answer.TheVariants as answer
use Rattle.machine_table.specs.declared.event.Refusal.TheVariants as refusal
use Rattle.machine_table.specs.Step as step
use Rattle.machine_table.specs.Step.{Step, Tried, record_of}
use Rattle.machine_table.proofs.Lemmas.{FitsTried, Keeping, Making, waits, requests}
use Rattle.interleaving_core.specs.PartChanges.{StandsAfter, applied, applied_attempt, stops, with_record}
use Rattle.interleaving_core.specs.Reservation.{owed_for}
use Rattle.interleaving_core.proofs.ClosedOps.{Closes, attempt_closes}

-- an answer that adds no record and doesn't stop the machine
abbrev pub IsPlain : Answer → Type 0
IsPlain why = ((records : List Record) → with_record records why ≡ records) × (stops why ≡ false)

-- what parts answer is so
pub kept_plain : (why : Answer) → Keeping why → IsPlain why
kept_plain why waits = ((λ records. refl), refl)
kept_plain why _ = ((λ records. refl), refl)

pub made_plain : (why : Answer) → Making why → IsPlain why
made_plain why requests = ((λ records. refl), refl)
made_plain why _ = ((λ records. refl), refl)

-- a step that makes only parts of which this holds
abbrev pub Only : {S : Type 0} → (S → Type 0) → Step S → Type 0
Only made (step.Makes why consumes sends part) = made part
Only made _ = Unit {0}

module _ (core : CoreState) where
  -- the core's open operation is unchanged, and with it whether its request is out; or it is completed
  abbrev pub SameOpen : CoreState → Type 0
  SameOpen after = after.open_op ≡ core.open_op

  abbrev pub SameStatus : CoreState → Type 0
  SameStatus after = (after.open_op ≡ core.open_op) × (after.is_out ≡ core.is_out)

  abbrev pub OneLess : CoreState → Type 0
  OneLess after = owed_for after.open_op + 1 ≡ owed_for core.open_op

  -- so of an attempt
  abbrev pub OnlyTried : Tried → Type 0
  OnlyTried (step.Completes op received ts after) = OneLess after
  OnlyTried (step.Does s) = Only SameOpen s

  -- records and open operations, together, count the same before and after
  pub balanced : (c number capacity : ℕ) (mail : Mail) (records : List Record) (t : Tried) → FitsTried t → OnlyTried t →
      length (with_record records (applied_attempt c number capacity mail core t).0)
      + owed_for (applied_attempt c number capacity mail core t).1.open_op ≡ length records + owed_for core.open_op
  balanced c number capacity mail records (step.Completes op received ts after) fits only =
      let more = length-append records (record_of c number core op received ts ∷ []) in omega (arith, more, only)
  balanced c number capacity mail records (step.Does step.Exhausts) fits only = refl
  balanced c number capacity mail records (step.Does (step.Keeps why)) fits only =
      ap (λ (rs : List Record). length rs + owed_for core.open_op) ((kept_plain why fits).0 records)
  balanced c number capacity mail records (step.Does step.Drops) fits only = refl
  balanced c number capacity mail records (step.Does (step.Makes why consumes sends after)) fits only =
      let q0 = made_plain why fits in grind (arith, nat_tests, q0)

  attempted_only : (op : Op) → core.open_op ≡ Some op → (tries : Option Attempt × CoreState) → Closes tries →
      OnlyTried (step.attempted core op tries)
  attempted_only op opens (None, after) closes = tt
  attempted_only op opens (Some (attempted.Completed received ts), after) closes = let none =
      ap owed_for closes in let one = ap owed_for opens in omega (arith, none, one)
  attempted_only op opens (Some (attempted.NeedShared pts version), after) closes = refl
  attempted_only op opens (Some (attempted.NeedExclusive version), after) closes = refl
  attempted_only op opens (Some _, after) closes = tt

  pub attempt_only : OnlyTried (step.attempt_open core core.open_op)
  attempt_only = grind (arith, nat_tests, common_steps, attempt_closes, attempted_only)

  -- after an attempt the core stands as its answer says
  abbrev Stands : Answer × CoreState × Mail → Type 0
  Stands x = StandsAfter x.0 core x.1

  module _ (c number capacity : ℕ) (mail : Mail) where
    asked_stands : (b : Bool) (new : Mail) →
        Stands (cond b (answer.Requested, record core { is_out = true }, new)
        (answer.Refused refusal.NetworkFull, core, mail))
    asked_stands true new = refl
    asked_stands false new = refl

    attempted_stands : (op : Op) (tries : Option Attempt × CoreState) → Closes tries →
        Stands (applied_attempt c number capacity mail core (step.attempted core op tries))
    attempted_stands op (None, after) closes = refl
    attempted_stands op (Some (attempted.Completed received ts), after) closes = closes
    attempted_stands op (Some (attempted.NeedShared pts version), after) closes =
        asked_stands (has_capacity capacity mail) _
    attempted_stands op (Some (attempted.NeedExclusive version), after) closes =
        asked_stands (has_capacity capacity mail) _
    attempted_stands op (Some _, after) closes = refl

    pub attempt_stands : Stands (applied_attempt c number capacity mail core (step.attempt_open core core.open_op))
    attempt_stands = grind (arith, nat_tests, common_steps, attempt_closes, attempted_stands)

  -- what holds of the core and of each core that a step makes
  pub kept : (made : CoreState → Type 0) → made core → (capacity : ℕ) (mail : Mail) (n : Option ℕ)
      (s : Step CoreState) → Only made s → made (applied capacity core mail n s).1
  kept made same capacity mail n (step.Makes why consumes sends after) only =
      grind (arith, nat_tests, common_steps, cond_both)
  kept made same capacity mail n step.Exhausts only = same
  kept made same capacity mail n _ only = same

  -- the core's time goes on
  pub advance_only : Only SameStatus (step.advanced (core_table.advance core))
  advance_only = cond_both (fits (core.pts + 1)) (Some tt, record core { pts = core.pts + 1 }) (None, core)
      (λ x. Only SameStatus (step.advanced x)) (λ t. (refl, refl)) (λ t. tt)

  -- a copy leaves the core's cache
  pub evict_only : (line : ℕ) → Only SameStatus (step.copy_evicted (core_table.evict core line))
  evict_only line = grind (arith, nat_tests)

  -- a message reaches the core
  pub core_only : (message : Message) → Only SameOpen (step.reacted (core_table core message))
  core_only message = grind (arith, nat_tests)
