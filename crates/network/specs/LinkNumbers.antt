-- The links, by number: those from banks to DRAM come first, then those from DRAM to banks, from cores to banks, and
-- from banks to cores.
use Rattle.std.specs.Prelude.{ℕ, ◌+◌, ◌*◌, Bool, false, ◌&&◌, ◌==◌, nat_lt, Option, Some, None, if◌then◌else◌}
use Rattle.network.specs.declared.message.Node.{Node}
use Rattle.network.specs.declared.message.Node.TheVariants.{Core, Bank, Dram}
use Rattle.network.specs.declared.message.Message.{Message}

-- how many links there are between these cores and banks, and between the banks and the DRAM behind each
abbrev pub count_links : ℕ → ℕ → ℕ
count_links cores banks = 2 * banks + 2 * (cores * banks)

-- the number of the link from the one node to the other, if there is one
abbrev pub link_of : ℕ → ℕ → Node → Node → Option ℕ
link_of cores banks (Bank b) (Dram d) = if nat_lt b banks && (b == d) then Some b else None
link_of cores banks (Dram d) (Bank b) = if nat_lt b banks && (b == d) then Some (banks + b) else None
link_of cores banks (Core c) (Bank b) =
    if nat_lt c cores && nat_lt b banks then Some (2 * banks + (c * banks + b)) else None
link_of cores banks (Bank b) (Core c) =
    if nat_lt c cores && nat_lt b banks then Some (2 * banks + cores * banks + (c * banks + b)) else None
link_of cores banks _ _ = None

-- whether a link has the number
abbrev pub has_link : ℕ → Option ℕ → Bool
has_link l None = false
has_link l (Some k) = k == l

-- whether a message goes over the link of a number
abbrev pub is_on : ℕ → ℕ → ℕ → Message → Bool
is_on cores banks l m = has_link l (link_of cores banks m.from m.to)

-- whether a link has a number below n
abbrev pub has_link_below : ℕ → Option ℕ → Bool
has_link_below n None = false
has_link_below n (Some k) = nat_lt k n

-- whether a message goes over one of the first n links
abbrev pub is_below : ℕ → ℕ → ℕ → Message → Bool
is_below cores banks n m = has_link_below n (link_of cores banks m.from m.to)
