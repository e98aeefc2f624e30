-- What is known of each message of a seat.
use Rattle.std.specs.Prelude.{◌≡◌, ℕ, ◌+◌, ◌<◌, true, List, ◌∷◌, Some, slice_get}
use Rattle.network.specs.declared.message.Node.TheVariants.{Core, Bank, Dram}
use Rattle.network.specs.declared.message.Message.{Message}
use Rattle.network.specs.Routes.{has_endpoints}
use Rattle.core_pts.specs.CoreTable.{core_has_case}
use Rattle.llc_bank.specs.BankTable.{bank_has_case}
use Rattle.dram_mts.specs.Table.{dram_has_case}
use Rattle.machine_table.specs.SetUp.{is_good}
use Rattle.machine_theorem.specs.Bags.{SameBag}
use Rattle.seat_rule.specs.declared.views.SetUp.{SetUp}
use Rattle.seat_rule.specs.declared.views.Hold.{Hold}
use Rattle.seat_rule.specs.Rule.{bag_of_hold}
use Rattle.seat_rule.specs.Plays.{Standing}

-- It goes between nodes of its kind. If it goes to the seat's own core or bank, or to the DRAM behind its bank, this
-- part is there and has a case for it.
pub record FindsHere (z : SetUp) (id : ℕ) (a : Hold) (m : Message) : Type 0 where
  pub endpoints : has_endpoints z.config.cores z.config.banks m ≡ true
  pub core : m.to ≡ Core id → (id < z.config.cores) × (core_has_case a.core m ≡ true)
  pub bank : (b : ℕ) → id ≡ z.config.cores + b → m.to ≡ Bank b →
      (b < z.config.banks) × (bank_has_case a.bank m ≡ true)
  pub dram : (b : ℕ) → id ≡ z.config.cores + b → m.to ≡ Dram b →
      (b < z.config.banks) × (dram_has_case a.dram m ≡ true)

-- of every seat that holds a part of a reached state of a machine with a good set-up
abbrev pub OfStanding : (SetUp → ℕ → Hold → Type 0) → Type 0
OfStanding holds = (z : SetUp) (n id : ℕ) (a : Hold) → is_good z.config ≡ true → Standing z n id a → holds z id a

-- each message of such a seat finds its part there: one that goes out, the one in the hand, one that waits
pub record MessagesFindParts : Type 0 where
  pub any : OfStanding (λ z id a. (m : Message) (others : List Message) → SameBag (bag_of_hold a) (m ∷ others) →
      FindsHere z id a m)
  pub outbox : OfStanding (λ z id a. (i : ℕ) (m : Message) → slice_get a.outbox i ≡ Some m → FindsHere z id a m)
  pub hand : OfStanding (λ z id a. (m : Message) → a.hand ≡ Some m → FindsHere z id a m)
  pub held : OfStanding (λ z id a. (i : ℕ) (m : Message) → slice_get a.held i ≡ Some m → FindsHere z id a m)
