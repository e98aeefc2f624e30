-- What a turn puts, and what it looked at.
use Rattle.std.proofs.Common.{◌≡◌, ℕ, suc, ◌+◌, ◌*◌, Bool, true, false, List, [], ◌∷◌, ◌++◌, append_assoc, append-nil}
use Rattle.std.proofs.Common.{length}
use Rattle.std.proofs.Common.{Result, Ok, Err, ap, arith}
use Rattle.std.proofs.lemmas.List.{length-append}
use Rattle.std.proofs.lemmas.List.Edits.{length-remove}
use Rattle.std.proofs.lemmas.Option.{slice_get_within}
use Rattle.std.proofs.lemmas.Bool.Decides.{nat_tests}
use Rattle.std.proofs.lemmas.Grind.{common_steps}
use Rattle.network.specs.declared.message.Message.{Message}
use Rattle.machine_table.specs.declared.event.Refusal.{Refusal}
use Rattle.inbox.specs.declared.answer.Served.{Served}
use Rattle.seat_rule.specs.declared.views.SetUp.{SetUp}
use Rattle.mailboxes.specs.declared.mailbox.Mailbox.{Mailbox}
use Rattle.mailboxes.specs.declared.taken.Take.{Take}
use Rattle.mailboxes.specs.declared.taken.Take.TheVariants.{Taken, Nothing, HandFull}
use Rattle.mailboxes.specs.BoxMoves.{PutNothing, Puts, Stays, Takes, hold}
use Rattle.mailboxes.specs.Places.{found_full, link_to}
use Rattle.mailboxes.specs.declared.turning.Turn.{Turn}
use Rattle.mailboxes.specs.Turns.{Turns, TurnsBy}
use Rattle.seat_edges.specs.TurnLaws.{BankTurnsPut, CoreTurnsPut, CountsPut, PutsFirst}
use Rattle.mailboxes.proofs.Lemmas.{no_change}
use Rattle.seat_edges.proofs.Calls.{Calls, bank_calls, core_calls, full}
use Rattle.seat_edges.proofs.Turns.{put-count, rests}

-- so many messages of those out were put, and these are left
pub record PutSum (p : Mailbox) (out : List Message) (n : ℕ) (q : Mailbox) (rest : List Message) : Type 0 where
  pub stays : Stays p q
  pub left : length rest + n ≡ length out
  pub put : length (hold q).put ≡ length (hold p).put + n

pub none_put : (p : Mailbox) (out : List Message) → PutSum p out 0 p out
none_put p out = record { stays = no_change p; left = omega arith; put = omega arith }

pub one_put : (p : Mailbox) (out : List Message) (n : ℕ) (q r : Mailbox) (rest less : List Message) → Stays q r →
    Puts true q rest r less → PutSum p out n q rest → PutSum p out (suc n) r less
one_put p out n q r rest less stays put sum =
    let i = put.0 in
    let into = put.3 in
    let fewer = ap (λ (xs : List Message). length xs) into.2 in
    let one = length-remove rest i (slice_get_within rest i put.2 into.1) in
    let more = ap (λ (xs : List (ℕ × Message)). length xs) into.3 in
    let longer = length-append (hold q).put
    ((4 * link_to q.cores q.banks q.number put.2.to + put.1, put.2) ∷ []) in
    let left = sum.left in
    let count = sum.put in
    grind (arith, nat_tests, i, into, fewer, one, more, longer, left, count)

-- what a take adds to the looks
pub take_adds : (z : SetUp) (t : Take) (p q : Mailbox) → Takes z t p q →
    (l : List (ℕ × ℕ)) × ((hold q).looks ≡ (hold p).looks ++ l) × ((hold q).put ≡ (hold p).put)
take_adds z Taken p q t = (_, t.1.3.3, t.1.3.4.put)
take_adds z Nothing p q t = (_, t.1.0, t.1.4.put)
take_adds z HandFull p q t = grind (arith, nat_tests, common_steps, append-nil)

-- after the puts, and after the rest of the turn
pub put_first : (p : Mailbox) (out : List Message) (n : ℕ) (q r u : Mailbox) (rest left : List Message) →
    PutSum p out n q rest → PutNothing (found_full q.cores q.banks q.number rest) q rest r left →
    (l : List (ℕ × ℕ)) × ((hold u).looks ≡ (hold r).looks ++ l) × ((hold u).put ≡ (hold r).put) →
    PutsFirst p out u × (length (hold p).put + n ≡ length (hold u).put)
put_first p out n q r u rest left sum none adds = grind (arith, nat_tests, common_steps, append_assoc)

module _ {S : Type 0} {z : SetUp} {mail : S → Mailbox} {out : S → List Message} {puts : Bool → S → S → Type 0}
    {serves : Result Served Refusal → S → S → Type 0} {takes : Take → S → S → Type 0}
    (calls : Calls z mail out puts serves takes) where
  abbrev Sum : S → ℕ → S → Type 0
  Sum p n q = PutSum (mail p) (out p) n (mail q) (out q)

  one_more : (p : S) (n : ℕ) (q r : S) → puts true q r → Sum p n q → Sum p (suc n) r
  one_more p n q r put sum =
      let e = calls.put true q r put in
      one_put (mail p) (out p) n (mail q) (mail r) (out q) (out r) e.0 e.1 sum

  pub turn_puts : (n : ℕ) (p q : S) (told : Result Served Refusal) → TurnsBy serves takes (full mail) puts n p told q →
      PutsFirst (mail p) (out p) (mail q) × (length (hold (mail p)).put + n ≡ length (hold (mail q)).put)
  turn_puts n p q told t =
      let r = t.0 in
      let s = t.1.0 in
      put_first (mail p) (out p) n (mail s) (mail r) (mail q) (out s) (out r)
      (put-count serves takes (full mail) puts (Sum p) (one_more p) n p s t.1.1 (none_put (mail p) (out p)))
      (calls.put false s r t.1.2).1
      (rests serves takes (full mail) puts (λ c. (hold (mail c)).looks) (λ c. (hold (mail c)).put)
      (λ told c d e. let same = calls.serve told c d e in (same.looks, same.put))
      (λ k c d e. take_adds z k (mail c) (mail d) (calls.take k c d e).1) (full mail r) r q told t.2)

  turns_put : (p q : S) (result : Result Turn Refusal) → Turns serves takes (full mail) puts p result q →
      PutsFirst (mail p) (out p) (mail q) × CountsPut result (mail p) (mail q)
  turns_put p q (Ok turn) t = turn_puts turn.put p q (Ok turn.served) t
  turns_put p q (Err refusal) t = ((turn_puts t.0 p q (Err refusal) t.1).0, tt)

pub cores_put : CoreTurnsPut
cores_put m p q result t = turns_put (core_calls m) p q result t

pub banks_put : BankTurnsPut
banks_put m p q result t = turns_put (bank_calls m) p q result t
