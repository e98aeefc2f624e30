-- Every event of the machine's table is a move of one part, or changes nothing.
use Rattle.std.proofs.Common.{◌≡◌, ℕ, ◌<◌, Bool, cond, List, [], ◌∷◌, ◌++◌, length, Option, Some, None, refl, ap, ◌∙◌}
use Rattle.std.proofs.Common.{subst, arith, slice_get}
use Rattle.std.specs.FinMap.{entries}
use Rattle.std.proofs.lemmas.Bool.{cond_both}
use Rattle.std.proofs.lemmas.Option.{get_or_from_slice_get, slice_get_within}
use Rattle.network.specs.declared.message.Node.{Node}
use Rattle.network.specs.declared.message.Node.TheVariants as node
use Rattle.network.specs.declared.message.Message.{Message}
use Rattle.core_pts.specs.CoreTable as core_table
use Rattle.core_pts.specs.CoreTable.{CoreState, core_has_case}
use Rattle.llc_bank.specs.BankTable.{bank_has_case}
use Rattle.dram_mts.specs.Table.{dram_has_case}
use Rattle.machine_table.specs.declared.event.Answer.{Answer}
use Rattle.machine_table.specs.declared.event.Event.{Event}
use Rattle.machine_table.specs.declared.event.Refusal.TheVariants as refusal
use Rattle.machine_table.specs.Machine.{Machine, with_core, with_bank, with_dram}
use Rattle.machine_table.specs.Opening.{dram_of, open_bank}
use Rattle.machine_table.specs.Posted.{can_post, left, posted}
use Rattle.machine_table.specs.Step as step
use Rattle.machine_table.specs.Step.{Step, Completes, core_step, bank_step, dram_step, message_of}
use Rattle.machine_table.specs.Transition.{refused, changed, transition, tried}
use Rattle.machine_table.proofs.Lemmas as outcome
use Rattle.machine_table.proofs.Lemmas.{IsGiven, Outcome, Fits, Keeping, Making, waits, requests}
use Rattle.machine_theorem.specs.Bags.{bag_of}
use Rattle.machine_theorem.specs.Kept.{Invariant}
use Rattle.protocol.specs.Machine.{with_at}
use Rattle.machine_theorem.specs.States.{State, Same, seen}
use Rattle.machine_theorem.specs.Moves as moves
use Rattle.machine_theorem.specs.Moves.{AreBeside, Move, StepsTo, issues, completes, core_steps, bank_steps, dram_steps}
use Rattle.machine_theorem.specs.Effects.{Effect, IsMove}
use Rattle.machine_theorem.proofs.Bags.{bag-taken}
use Rattle.machine_theorem.proofs.PartChanges.{itself, core_put, bank_put, dram_put, issue_put, completion_put, bag_put}
use Rattle.machine_theorem.proofs.PartChanges.{posted_put}

module _ (m : Machine) (s : Invariant m) where
  abbrev a : State
  a = seen m

  abbrev Goes : Answer × Machine → Type 0
  Goes o = Effect m o.0 o.1

  unchanged : Same a a
  unchanged = itself a

  -- what is answered to a step that changes nothing, and to one that is a move
  kept_goes : (why : Answer) → Keeping why → Effect m why m
  kept_goes why waits = unchanged
  kept_goes why _ = unchanged

  made_goes : (why : Answer) (after : Machine) → Making why → IsMove m after → Effect m why after
  made_goes why after requests k = k
  made_goes why after _ k = k

  -- the messages beside the delivered one
  abbrev rest : Option ℕ → List Message
  rest n = bag_of (left m.mail n).messages

  beside : {S : Type 0} (to : Node) (has_case : S → Message → Bool) (x part : S) → x ≡ part →
      (message : Option Message) (n : Option ℕ) → IsGiven m to (has_case part) message n →
      AreBeside a.bag to (has_case x) message (rest n)
  beside to has_case x part e None None given = refl
  beside to has_case x part e (Some message) (Some n) given = grind (arith, bag-taken n m.mail.messages message given.0)
  beside to has_case x part e _ _ given = absurd given

  -- a step of a part of any kind, if it is a move
  step_goes : {S : Type 0} (n : Option ℕ) (put : S → Machine) (puts : S → State) →
      ((part : S) → Same (puts part) (seen (put part))) → ((part : S) → (puts part).counts ≡ m.mail.counts) →
      (s : Step S) → Fits s → ((after : State) → StepsTo a puts (rest n) s after → Move m.config a after) →
      Goes (changed m put n s)
  step_goes n put puts here counts step.Exhausts fits move = unchanged
  step_goes n put puts here counts (step.Keeps why) fits move = kept_goes why fits
  step_goes n put puts here counts step.Drops fits move =
      record {
        to = record a { bag = rest n };
        move = move _ refl;
        same = bag_put a m unchanged (rest n) (left m.mail n) (λ h. refl) refl;
      }
  step_goes n put puts here counts (step.Makes why consumes sends part) fits move =
      cond_both (can_post m.config.messages m.mail consumes sends)
      (why, record (put part) { mail = posted m.mail n consumes sends }) (refused m refusal.NetworkFull)
      Goes
      (λ e. made_goes why _ fits (record {
        to = moves.with_answer (puts part) (cond consumes (rest n) a.bag) sends;
        move = move _ refl;
        same = posted_put (puts part) (put part) (here part) a.bag (rest n) m.mail n (λ h. refl) (λ h. refl)
            (counts part) consumes sends;
      })) (λ e. unchanged)

  -- a core that is there
  module _ (c : ℕ) (core : CoreState) (at : slice_get m.cores c ≡ Some core) where
    is_core : a.cores c ≡ core
    is_core = get_or_from_slice_get m.cores c core _ at

    listed : c < length m.cores
    listed = slice_get_within m.cores c core at

    below : c < m.config.cores
    below = let many = s.core_count in let lt = listed in omega arith

  pub goes : (event : Event) (o : Answer × Machine) → Outcome m event o → Goes o
  goes event o (outcome.refuses why so) = unchanged
  goes event o (outcome.issues c op core after at is) =
      record {
        to = record (moves.with_core a c after) { issued = with_at a.issued c (a.issued c ++ op ∷ []) };
        move = issues c op after (below c core at) (ap (λ x. core_table.issue x op) (is_core c core at) ∙ is);
        same = issue_put a m unchanged c op after (listed c core at)
            (let many = s.lists in let lt = below c core at in omega arith);
      }
  goes event o (outcome.completes c op received ts core after at is) =
      subst (λ (x : CoreState). Goes (tried m c x (Completes op received ts after))) (is_core c core at)
      (record {
        to = moves.with_completion a c op received ts after;
        move = completes c op received ts after (below c core at)
            (ap (λ x. core_step x step.Attempting) (is_core c core at) ∙ is);
        same = completion_put a m unchanged c op received ts (a.cores c) after (listed c core at);
      })
  goes event o (outcome.core_steps c core act n done at given is fits) =
      let e = is_core c core at in
      step_goes n (with_core m c) (moves.with_core a c) (λ part. core_put a m unchanged c part (listed c core at))
      (λ part. refl) done fits
      (λ after. core_steps c act (rest n) done (below c core at)
      (beside (node.Core c) core_has_case (a.cores c) core e (message_of act) n given)
      (ap (λ x. core_step x act) e ∙ is))
  goes event o (outcome.bank_steps b bank act n done at given is fits) =
      let e = get_or_from_slice_get m.banks b bank (open_bank m.config b) at in
      let listed = slice_get_within m.banks b bank at in
      step_goes n (with_bank m b) (moves.with_bank a b) (λ part. bank_put a m unchanged b part listed)
      (λ part. refl) done fits
      (λ after. bank_steps b act (rest n) done (let many = s.bank_count in omega arith)
      (beside (node.Bank b) bank_has_case (a.banks b) bank e (message_of act) n given)
      (ap (λ x. bank_step x act) e ∙ is))
  goes event o (outcome.dram_steps b lines act n done at given is fits) =
      let e = get_or_from_slice_get m.drams b lines (dram_of m.config b (entries m.opening)) at in
      let listed = slice_get_within m.drams b lines at in
      step_goes n (with_dram m b) (moves.with_dram a b) (λ part. dram_put a m unchanged b part listed)
      (λ part. refl) done fits
      (λ after. dram_steps b act (rest n) done (let many = s.dram_count in omega arith)
      (beside (node.Dram b) dram_has_case (a.drams b) lines e (message_of act) n given)
      (ap (λ x. dram_step x act) e ∙ is))

  pub transition_goes : (event : Event) → Goes (transition m event)
  transition_goes event = goes event _ (outcome.transition_outcome m event)
