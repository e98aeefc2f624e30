-- What a turn of a seat of either kind does: it puts, serves and takes.
use Rattle.std.specs.Prelude.{◌≡◌, ℕ, zero, suc, Bool, true, false, Result, Ok, Err}
use Rattle.machine_table.specs.declared.event.Refusal.{Refusal}
use Rattle.inbox.specs.declared.answer.Served.{Served}
use Rattle.inbox.specs.declared.answer.Served.TheVariants as served
use Rattle.mailboxes.specs.declared.taken.Take.{Take}
use Rattle.mailboxes.specs.declared.taken.Take.TheVariants.{Taken, Nothing, HandFull}
use Rattle.mailboxes.specs.declared.turning.Turn.{Turn}

-- no held message was served, or there are none
abbrev pub is_idle : Result Served Refusal → Bool
is_idle (Ok served.Held) = true
is_idle (Ok served.Nothing) = true
is_idle (Ok served.Delivered) = false
is_idle (Ok served.Dropped) = false
is_idle (Ok served.Started) = false
is_idle (Err r) = false

-- this many messages were put, one after the other
abbrev pub PutSo : {S : Type 0} → (Bool → S → S → Type 0) → ℕ → S → S → Type 0
PutSo puts zero p q = q ≡ p
PutSo {S} puts (suc n) p q = (r : S) × PutSo puts n p r × puts true r q

-- this many were put, and then none was left whose link had a free slot
abbrev pub PutAll : {S : Type 0} → (Bool → S → S → Type 0) → ℕ → S → S → Type 0
PutAll {S} puts n p q = (r : S) × PutSo puts n p r × puts false r q

-- what a serving and a take of the seat do
module _ {S : Type 0} (serves : Result Served Refusal → S → S → Type 0) (takes : Take → S → S → Type 0) where
  -- with what the take left in the hand: a message there is served; with none, the earlier answer is the turn's
  abbrev pub Ends : Take → Result Served Refusal → S → Result Served Refusal → S → Type 0
  Ends Taken before p result q = serves result p q
  Ends HandFull before p result q = serves result p q
  Ends Nothing before p result q = (result ≡ before) × (q ≡ p)

  -- a message is taken, and then served
  abbrev pub Follows : Result Served Refusal → S → Result Served Refusal → S → Type 0
  Follows before p result q = (t : Take) × (r : S) × takes t p r × Ends t before r result q

  -- that, if no held message was served; otherwise the earlier answer is the turn's
  abbrev pub Goes : Bool → Result Served Refusal → S → Result Served Refusal → S → Type 0
  Goes true before p result q = Follows before p result q
  Goes false before p result q = (result ≡ before) × (q ≡ p)

  -- a full hand is served; with an empty one, a held message is served first
  abbrev pub Rests : Bool → S → Result Served Refusal → S → Type 0
  Rests true p result q = serves result p q
  Rests false p result q =
      (before : Result Served Refusal) × (r : S) × serves before p r × Goes (is_idle before) before r result q

  -- what can be put is put, and then the seat serves
  module _ (full : S → Bool) (puts : Bool → S → S → Type 0) where
    abbrev pub TurnsBy : ℕ → S → Result Served Refusal → S → Type 0
    TurnsBy n p result q = (r : S) × PutAll puts n p r × Rests (full r) r result q

    abbrev pub Turns : S → Result Turn Refusal → S → Type 0
    Turns p (Ok turn) q = TurnsBy turn.put p (Ok turn.served) q
    Turns p (Err refusal) q = (n : ℕ) × TurnsBy n p (Err refusal) q
