-- Every reached state keeps the invariant, and its messages find their parts.
use Rattle.std.proofs.Common.{◌≡◌, ℕ, true, List, [], ◌∷◌, ◌∙◌, sym, subst, nat_cmp}
use Rattle.std.specs.FinMap.{FinMap}
use Rattle.std.specs.List.{AllByRecursion as Each}
use Rattle.physiological_order.specs.declared.operation.Record.{Record}
use Rattle.physiological_order.specs.Order.{Arrangement}
use Rattle.network.specs.declared.message.Message.{Message}
use Rattle.machine_table.specs.declared.config.Config.{Config}
use Rattle.machine_table.specs.SetUp.{is_good}
use Rattle.machine_theorem.specs.Bags.{SameBag}
use Rattle.machine_theorem.specs.States.{State, Same}
use Rattle.machine_theorem.specs.Moves.{Reached, opens, goes_on, same}
use Rattle.machine_theorem.specs.Ownership.{coherent}
use Rattle.machine_theorem.specs.Consistent.{FindsPart}
use Rattle.machine_theorem.specs.Kept.{IsKept}
use Rattle.machine_theorem.proofs.Openings.{fair, initial_kept}
use Rattle.machine_theorem.proofs.KeptSteps.{kept_reordered, kept_same}
use Rattle.machine_theorem.proofs.KeptMoves.{move_kept}
use Rattle.machine_theorem.proofs.FoundCases.{bag_finds}
use Rattle.machine_theorem.proofs.Consistency.{state_consistent}

module _ (config : Config) (opening : FinMap nat_cmp ℕ) where
  pub reached_kept : is_good config ≡ true → (a : State) → Reached config opening a → IsKept config opening a
  reached_kept good a opens = initial_kept config opening (fair config good)
  reached_kept good b (goes_on {a} r move) = move_kept config opening a (reached_kept good a r) b move
  reached_kept good b (same {a} r e) = kept_same config opening a b e (reached_kept good a r)

  -- the messages in any order
  pub find_parts : (a : State) → IsKept config opening a → (xs : List Message) → SameBag a.bag xs →
      Each (FindsPart config a) xs
  find_parts a s xs bag =
      each xs (bag_finds config opening (record a { bag = xs }) (kept_reordered config opening a xs bag s))
    where
      each : (ys : List Message) → Each (FindsPart config (record a { bag = xs })) ys → Each (FindsPart config a) ys
      each [] k = tt
      each (y ∷ ys) k = (record { endpoints = k.0.endpoints; found = k.0.found }, each ys k.1)

  -- the coherent values are those of the records, and so of every state that is the same
  pub value_same : (a b : State) → IsKept config opening a → Same a b → (word : ℕ) →
      coherent config opening a word ≡ coherent config opening b word
  value_same a b s e word =
      let before = state_consistent config opening a s in
      let after = state_consistent config opening b (kept_same config opening a b e s) in
      let arranged = before.legal.arranged in
      before.coherent arranged before.legal.arrangement word
      ∙ sym (after.coherent arranged
      (subst (λ (rs : List Record). Arrangement rs arranged) e.records before.legal.arrangement) word)
