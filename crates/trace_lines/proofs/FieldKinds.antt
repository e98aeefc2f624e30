-- Fields of a kind, and what reading makes of them.
use Rattle.std.proofs.Common.{◌≡◌, ℕ, ◌^◌, List, Some, inl, inr}
use Rattle.trace_lines.specs.declared.steps.Access.{Access}
use Rattle.trace_lines.specs.declared.steps.Access.TheVariants as access
use Rattle.trace_lines.specs.Reading.{decimal_in, address_in, access_in}
use Rattle.trace_lines.specs.Causes.{HasCoreNumber, HasPlaceNumber, HasAddress, HasValue, IsAccess}
use Rattle.trace_lines.proofs.Spellings.{letter_of, number-again, address-again, access-again}

pub core-spelled : (cores : ℕ) (field : List ℕ) → HasCoreNumber cores field → (n : ℕ) ×
    (decimal_in 2 cores field ≡ Some n)
core-spelled cores field h = (h.0, number-again 2 cores field h.0 h.1)

pub place-spelled : (field : List ℕ) → HasPlaceNumber field → (n : ℕ) × (decimal_in 20 (2 ^ 32) field ≡ Some n)
place-spelled field h = (h.0, number-again 20 (2 ^ 32) field h.0 h.1)

pub value-spelled : (field : List ℕ) → HasValue field → (n : ℕ) × (decimal_in 20 (2 ^ 64) field ≡ Some n)
value-spelled field h = (h.0, number-again 20 (2 ^ 64) field h.0 h.1)

pub address-spelled : (field : List ℕ) → HasAddress field → (word : ℕ) × (address_in field ≡ Some word)
address-spelled field h = (h.0, address-again field h.0 h.1)

pub access-spelled : (field : List ℕ) → IsAccess field → (x : Access) × (access_in field ≡ Some x)
access-spelled field (inl e) = (access.Read, access-again field access.Read e)
access-spelled field (inr (inl e)) = (access.Write, access-again field access.Write e)
access-spelled field (inr (inr e)) = (access.Swap, access-again field access.Swap e)

pub access-stands : (field : List ℕ) (x : Access) → field ≡ letter_of x → IsAccess field
access-stands field access.Read e = inl e
access-stands field access.Write e = inr (inl e)
access-stands field access.Swap e = inr (inr e)
