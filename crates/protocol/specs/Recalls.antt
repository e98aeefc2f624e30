-- What the bank's entry says of the owner, and what is on the way while the bank recalls a line.
use Rattle.std.specs.Prelude.{◌≡◌, ℕ, ◌≤◌, ◌==◌, ◌⊎◌, if◌then◌else◌}
use Rattle.protocol.specs.Machine.{Entry, Exclusive, Recalling, Message, ExRep, UpgradeRep, FlushReq, WbReq}
use Rattle.protocol.specs.Machine.{FlushRep, WbRep, Line, owns, tally}

-- a recall, that is, a request of the bank that this core return the line
abbrev pub recall_to : ℕ → Message → ℕ
recall_to c (FlushReq d) = if d == c then 1 else 0
recall_to c (WbReq d until) = if d == c then 1 else 0
recall_to c _ = 0

-- a grant: it makes this core the owner
abbrev pub grant_to : ℕ → Message → ℕ
grant_to c (ExRep d line) = if d == c then 1 else 0
grant_to c (UpgradeRep d rts) = if d == c then 1 else 0
grant_to c _ = 0

-- a return: this core was the owner
abbrev pub return_of : ℕ → Message → ℕ
return_of c (FlushRep d line) = if d == c then 1 else 0
return_of c (WbRep d line) = if d == c then 1 else 0
return_of c _ = 0

-- a core is the owner, or will be when its grant comes
abbrev pub OwnsOrWill : ℕ → Line → Type 0
OwnsOrWill c x = (owns (x.copies c) ≡ 1) ⊎ (1 ≤ tally (grant_to c) x.messages)

-- An Exclusive entry names the core that is or will be the owner, or whose return is on the way. While a line is being
-- recalled, that return is on the way, or the recall itself is, and finds its core as the owner, now or after its
-- grant.
abbrev pub OwnerAnswers : Line → Entry → Type 0
OwnerAnswers x (Exclusive c) = (1 ≤ tally (return_of c) x.messages) ⊎ OwnsOrWill c x
OwnerAnswers x (Recalling c) =
    (1 ≤ tally (return_of c) x.messages) ⊎ ((1 ≤ tally (recall_to c) x.messages) × OwnsOrWill c x)
OwnerAnswers x _ = Unit {0}
