-- Between which nodes the messages go that parts send.
use Rattle.std.proofs.Common.{◌≡◌, ℕ, ◌<◌, Bool, true, false, ◌&&◌, refl, rules}
use Rattle.std.proofs.lemmas.Bool.{and_parts, lt-ltb, ltb-true}
use Rattle.network.specs.declared.message.Node.{Node}
use Rattle.network.specs.declared.message.Node.TheVariants.{Core, Bank, Dram}
use Rattle.network.specs.declared.message.Body.{Body}
use Rattle.network.specs.Routes.{is_core_to_bank, is_bank_to_dram, has_route}

pub both : (a b : Bool) → a ≡ true → b ≡ true → (a && b) ≡ true
both true b p q = q
both false b p q = absurd (let z : false ≡ true = p in cc)

-- what a core sends to a bank, and a bank to a core
abbrev pub GoesUp : Body → Type 0
GoesUp sent = (cores banks : ℕ) (from to : Node) → has_route cores banks from to sent ≡ is_core_to_bank
    cores banks from to

abbrev pub GoesDown : Body → Type 0
GoesDown sent = (cores banks : ℕ) (from to : Node) → has_route cores banks from to sent ≡ is_core_to_bank
    cores banks to from

pub core_and_bank : (cores banks c b : ℕ) → c < cores → b < banks → is_core_to_bank cores banks (Core c) (Bank b) ≡ true
core_and_bank cores banks c b p q = both _ _ (lt-ltb c cores p) (lt-ltb b banks q)

-- the endpoints of a message between a core and a bank
pub record UpEnds (cores banks : ℕ) (from to : Node) : Type 0 where
  pub core : ℕ
  pub bank : ℕ
  pub from_core : from ≡ Core core
  pub to_bank : to ≡ Bank bank
  pub some_core : core < cores
  pub some_bank : bank < banks

pub up_ends : (cores banks : ℕ) (from to : Node) → is_core_to_bank cores banks from to ≡ true →
    UpEnds cores banks from to
up_ends cores banks (Core c) (Bank b) h = search (rules, ltb-true, and_parts)
up_ends cores banks _ _ h = absurd (let z : false ≡ true = h in cc)

-- and of one between a bank and its DRAM
pub record BackEnds (banks : ℕ) (from to : Node) : Type 0 where
  pub bank : ℕ
  pub dram : ℕ
  pub from_bank : from ≡ Bank bank
  pub to_dram : to ≡ Dram dram
  pub some_bank : bank < banks

pub back_ends : (banks : ℕ) (from to : Node) → is_bank_to_dram banks from to ≡ true → BackEnds banks from to
back_ends banks (Bank b) (Dram d) h =
    record { bank = b; dram = d; from_bank = refl; to_dram = refl; some_bank = ltb-true b banks (and_parts _ _ h).0 }
back_ends banks _ _ h = absurd (let z : false ≡ true = h in cc)
