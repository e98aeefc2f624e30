-- What each call of a turn keeps, the turn keeps.
use Rattle.std.proofs.Common.{◌≡◌, ℕ, zero, suc, Bool, true, false, Result, Ok, Err}
use Rattle.machine_table.specs.declared.event.Refusal.{Refusal}
use Rattle.inbox.specs.declared.answer.Served.{Served}
use Rattle.mailboxes.specs.declared.taken.Take.{Take}
use Rattle.mailboxes.specs.declared.taken.Take.TheVariants.{Taken, Nothing, HandFull}
use Rattle.mailboxes.specs.declared.turning.Turn.{Turn}
use Rattle.mailboxes.specs.Turns.{PutSo, PutAll, Ends, Goes, Rests, Turns, TurnsBy, is_idle}

-- seats, the calls of their turns, and what each call keeps
module _ {S : Type 0} (serves : Result Served Refusal → S → S → Type 0) (takes : Take → S → S → Type 0)
    (full : S → Bool) (puts : Bool → S → S → Type 0) (Keeps : S → S → Type 0)
    (same : (p q : S) → q ≡ p → Keeps p q) (on : (p r q : S) → Keeps p r → Keeps r q → Keeps p q)
    (serve : (result : Result Served Refusal) (p q : S) → serves result p q → Keeps p q)
    (take : (t : Take) (p q : S) → takes t p q → Keeps p q)
    (put : (b : Bool) (p q : S) → puts b p q → Keeps p q) where
  puts_keep : (n : ℕ) (p q : S) → PutSo puts n p q → Keeps p q
  puts_keep zero p q e = same p q e
  puts_keep (suc n) p q (r, so, last) = on p r q (puts_keep n p r so) (put true r q last)

  put_all_keeps : (n : ℕ) (p q : S) → PutAll puts n p q → Keeps p q
  put_all_keeps n p q (r, so, last) = on p r q (puts_keep n p r so) (put false r q last)

  ends_keep : (t : Take) (before result : Result Served Refusal) (p q : S) →
      Ends serves takes t before p result q → Keeps p q
  ends_keep Taken before result p q c = serve result p q c
  ends_keep HandFull before result p q c = serve result p q c
  ends_keep Nothing before result p q c = same p q c.1

  goes_keep : (b : Bool) (before result : Result Served Refusal) (p q : S) →
      Goes serves takes b before p result q → Keeps p q
  goes_keep true before result p q (t, r, took, ends) =
      on p r q (take t p r took) (ends_keep t before result r q ends)
  goes_keep false before result p q c = same p q c.1

  rests_keep : (b : Bool) (result : Result Served Refusal) (p q : S) → Rests serves takes b p result q → Keeps p q
  rests_keep true result p q c = serve result p q c
  rests_keep false result p q (before, r, served, goes) =
      on p r q (serve before p r served) (goes_keep (is_idle before) before result r q goes)

  turn_keeps : (n : ℕ) (result : Result Served Refusal) (p q : S) → TurnsBy serves takes full puts n p result q →
      Keeps p q
  turn_keeps n result p q (r, all, rests) =
      on p r q (put_all_keeps n p r all) (rests_keep (full r) result r q rests)

  pub turns_keep : (result : Result Turn Refusal) (p q : S) → Turns serves takes full puts p result q → Keeps p q
  turns_keep (Ok turn) p q c = turn_keeps turn.put (Ok turn.served) p q c
  turns_keep (Err refusal) p q c = turn_keeps c.0 (Err refusal) p q c.1
