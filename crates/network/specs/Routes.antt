-- Between which nodes each kind of message goes.
use Rattle.std.specs.Prelude.{ℕ, Bool, false, ◌&&◌, ◌==◌, nat_lt, List, [], ◌∷◌, IsTrue}
use Rattle.network.specs.declared.message.Node.{Node}
use Rattle.network.specs.declared.message.Node.TheVariants.{Core, Bank, Dram}
use Rattle.network.specs.declared.message.Body.{Body}
use Rattle.network.specs.declared.message.Body.TheVariants.{ShReq, ExReq, ShRep, ExRep, RenewRep, UpgradeRep}
use Rattle.network.specs.declared.message.Body.TheVariants.{FlushReq, WbReq, FlushRep, WbRep, DramLd, DramLdRep}
use Rattle.network.specs.declared.message.Body.TheVariants.{DramSt, DramStRep}
use Rattle.network.specs.declared.message.Message.{Message}

-- from a core to a bank, both of those that there are
abbrev pub is_core_to_bank : ℕ → ℕ → Node → Node → Bool
is_core_to_bank cores banks (Core c) (Bank b) = nat_lt c cores && nat_lt b banks
is_core_to_bank cores banks _ _ = false

-- from a bank to the DRAM behind it
abbrev pub is_bank_to_dram : ℕ → Node → Node → Bool
is_bank_to_dram banks (Bank b) (Dram d) = nat_lt b banks && (b == d)
is_bank_to_dram banks _ _ = false

-- the endpoints of each kind of message
abbrev pub has_route : ℕ → ℕ → Node → Node → Body → Bool
has_route cores banks from to (ShReq pts version) = is_core_to_bank cores banks from to
has_route cores banks from to (ExReq version) = is_core_to_bank cores banks from to
has_route cores banks from to (FlushRep line) = is_core_to_bank cores banks from to
has_route cores banks from to (WbRep line) = is_core_to_bank cores banks from to
has_route cores banks from to (ShRep line) = is_core_to_bank cores banks to from
has_route cores banks from to (ExRep line) = is_core_to_bank cores banks to from
has_route cores banks from to (RenewRep rts) = is_core_to_bank cores banks to from
has_route cores banks from to (UpgradeRep rts) = is_core_to_bank cores banks to from
has_route cores banks from to FlushReq = is_core_to_bank cores banks to from
has_route cores banks from to (WbReq rts) = is_core_to_bank cores banks to from
has_route cores banks from to DramLd = is_bank_to_dram banks from to
has_route cores banks from to (DramSt words) = is_bank_to_dram banks from to
has_route cores banks from to (DramLdRep words) = is_bank_to_dram banks to from
has_route cores banks from to DramStRep = is_bank_to_dram banks to from

-- whether a message goes between nodes that its kind goes between, in a machine with these cores and banks
abbrev pub has_endpoints : ℕ → ℕ → Message → Bool
has_endpoints cores banks m = has_route cores banks m.from m.to m.body

-- each of the messages has the endpoints of its kind
abbrev pub AllHaveEndpoints : ℕ → ℕ → List (ℕ × Message) → Type 0
AllHaveEndpoints cores banks [] = Unit {0}
AllHaveEndpoints cores banks (x ∷ xs) = IsTrue (has_endpoints cores banks x.1) × AllHaveEndpoints cores banks xs
