-- What is known of every reached state, in one record: the laws of states that the laws of seats use.
use Rattle.std.specs.Prelude.{◌≡◌, ℕ, ◌+◌, ◌<◌, true, List, length, Some, slice_get}
use Rattle.std.specs.List.{AllByRecursion}
use Rattle.std.specs.Ordering.{nat_cmp}
use Rattle.std.specs.FinMap.{FinMap}
use Rattle.physiological_order.specs.declared.operation.Record.{Record}
use Rattle.physiological_order.specs.Order.{of_core}
use Rattle.network.specs.declared.message.Message.{Message}
use Rattle.protocol.specs.Issued.{IsIssued, listed}
use Rattle.machine_table.specs.declared.config.Config.{Config}
use Rattle.machine_table.specs.SetUp.{is_good}
use Rattle.machine_theorem.specs.Bags.{SameBag}
use Rattle.machine_theorem.specs.Shape.{IsCore, IsBank}
use Rattle.machine_theorem.specs.States.{State, initial_state}
use Rattle.machine_theorem.specs.Moves.{Reached}
use Rattle.machine_theorem.specs.Consistent.{Consistent, FindsPart}

-- of every reached state of a machine with a good set-up
abbrev pub OfEach : (Config → FinMap nat_cmp ℕ → State → Type 0) → Type 0
OfEach holds =
    (config : Config) (opening : FinMap nat_cmp ℕ) (a : State) → is_good config ≡ true →
    Reached config opening a → holds config opening a

pub record StateLaws : Type 0 where
  -- the initial state is reached
  pub opens : (config : Config) (opening : FinMap nat_cmp ℕ) → Reached config opening (initial_state config opening)
  -- a reached state is consistent
  pub consistent : OfEach Consistent
  -- its messages, in any order, go to parts that there are and have a case for them
  pub found : OfEach (λ config opening a. (messages : List Message) → SameBag a.bag messages →
      AllByRecursion (FindsPart config a) messages)
  -- its parts have their shape
  pub cores : OfEach (λ config opening a. (c : ℕ) → c < config.cores → IsCore config c (a.issued c) (a.cores c))
  pub banks : OfEach (λ config opening a. (b : ℕ) → b < config.banks → IsBank config b (a.banks b))
  -- each core was issued the operations of its records, and then the open one, and counts them
  pub issued : OfEach (λ config opening a. (c : ℕ) → c < config.cores →
      IsIssued (a.issued c) (of_core c a.records) (a.cores c).open_op)
  pub count : OfEach (λ config opening a. (c : ℕ) → c < config.cores →
      (a.cores c).issued ≡ length (of_core c a.records) + length (listed (a.cores c).open_op))
  -- the number of a record is how many come before it
  pub in_order : OfEach (λ config opening a. (k : ℕ) (done : Record) → slice_get a.records k ≡ Some done →
      done.number ≡ k)
