-- What a list of events issues and sends.
use Rattle.std.proofs.Common.{◌≡◌, inl, inr, ℕ, ◌+◌, ◌++◌, get_or, replicate, Bool, cond, List, [], ◌∷◌, refl, sym, ap}
use Rattle.std.proofs.Common.{◌∙◌, subst, arith}
use Rattle.std.proofs.lemmas.Bool.{cases_lt}
use Rattle.std.proofs.lemmas.List.{append-nil, append_assoc, get_or-replicate, get_or_past, length-replicate}
use Rattle.std.proofs.lemmas.Bool.Decides.{nat_tests}
use Rattle.std.proofs.lemmas.Grind.{common_steps}
use Rattle.physiological_order.specs.declared.operation.Op.{Op}
use Rattle.network.specs.declared.counts.Counts.{Counts}
use Rattle.network.specs.declared.message.Body.{Body}
use Rattle.network.specs.declared.message.Body.TheVariants.{RenewRep, UpgradeRep, FlushRep, WbRep}
use Rattle.network.specs.declared.message.Message.{Message}
use Rattle.network.specs.Mail.{Mail, counted, sent}
use Rattle.machine_table.specs.declared.event.Event.{Event}
use Rattle.machine_table.specs.declared.event.Answer.{Answer}
use Rattle.machine_table.specs.Machine.{Machine}
use Rattle.machine_theorem.specs.Kept.{Invariant}
use Rattle.interleaving_core.specs.IssuedOps.{issued_at_event, issued_in}
use Rattle.interleaving_core.specs.SentMessages.{last_of, newly_sent, all_sent, AreNext, AreCounted, how_many}
use Rattle.interleaving_core.specs.SentMessages.{is_renewal, is_upgrade, is_flush, is_write_back}
use Rattle.interleaving_core.specs.StepAnswers.{Ran}
use Rattle.interleaving_core.proofs.Coherence.{step_invariant}
use Rattle.interleaving_core.proofs.Told.{SendsOne, step_told}

abbrev no_ops : List Op
no_ops = []

-- of lists that are all empty each is, also one past the last
pub none_at : (n i : ℕ) → get_or (replicate n no_ops) i no_ops ≡ no_ops
none_at n i = grind (arith, nat_tests, common_steps, cases_lt, get_or-replicate, get_or_past, length-replicate)

pub run_issues : (events : List Event) (answers : List Answer) (m after : Machine) → Invariant m →
    Ran m events answers after → (core : ℕ) →
    get_or after.issued core [] ≡ get_or m.issued core [] ++ issued_in core events answers
run_issues [] [] m after invariant ran core =
    ap (λ (n : Machine). get_or n.issued core []) ran ∙ sym (append-nil (get_or m.issued core []))
run_issues (event ∷ events) (answer ∷ answers) m after invariant (next, step, rest) core =
    let now = (step_told m event answer next step).issues (invariant.lists ∙ sym invariant.core_count) core in
    run_issues events answers next after (step_invariant m event answer next invariant step) rest core
    ∙ ap (λ ops. ops ++ issued_in core events answers) now
    ∙ append_assoc (get_or m.issued core []) (issued_at_event core event answer) (issued_in core events answers)
run_issues [] (answer ∷ answers) m after invariant never core = absurd never
run_issues (event ∷ events) [] m after invariant never core = absurd never

-- the last one of a list is the one that was added
last_added : (messages : List (ℕ × Message)) (message : ℕ × Message) →
    last_of (messages ++ message ∷ []) ≡ message ∷ []
last_added [] message = refl
last_added (x ∷ []) message = refl
last_added (x ∷ y ∷ messages) message = last_added (y ∷ messages) message

-- numbers and counts after messages that were sent
pub record AreSent (mail : Mail) (messages : List (ℕ × Message)) (after : Mail) : Type 0 where
  pub next : AreNext mail.next messages after.next
  pub counts : AreCounted mail.counts messages after.counts

none_sent : (mail after : Mail) → after.next ≡ mail.next → after.counts ≡ mail.counts → AreSent mail [] after
none_sent mail after next counts = grind (arith, nat_tests)

-- one more message is one more of its kind, if that is counted
rises : (counts : Counts) (body : Body) →
    ((counted counts body).renewals ≡ counts.renewals + cond (is_renewal body) 1 0)
    × ((counted counts body).upgrades ≡ counts.upgrades + cond (is_upgrade body) 1 0)
    × ((counted counts body).flushes ≡ counts.flushes + cond (is_flush body) 1 0)
    × ((counted counts body).write_backs ≡ counts.write_backs + cond (is_write_back body) 1 0)
rises counts (RenewRep rts) = (omega arith, omega arith, omega arith, omega arith)
rises counts (UpgradeRep rts) = (omega arith, omega arith, omega arith, omega arith)
rises counts (FlushRep line) = (omega arith, omega arith, omega arith, omega arith)
rises counts (WbRep line) = (omega arith, omega arith, omega arith, omega arith)
rises counts _ = (omega arith, omega arith, omega arith, omega arith)

-- the last message of those in flight after one was sent
one_sent : (mail before : Mail) (message : Message) → before.next ≡ mail.next → before.counts ≡ mail.counts →
    AreSent mail (last_of (sent before message).messages) (sent before message)
one_sent mail before message next counts = grind (arith, nat_tests, common_steps, last_added, rises)

newly : (mail after : Mail) → SendsOne mail after → AreSent mail (newly_sent mail after) after
newly mail after (inl (next, counts)) = let q0 = none_sent mail after next counts in grind (arith, nat_tests, q0)
newly mail after (inr (before, message, next, counts, is)) =
    let q0 = one_sent mail before message next counts in grind (arith, nat_tests, q0)

-- one list after another
next_joined : (xs ys : List (ℕ × Message)) (n k l : ℕ) → AreNext n xs k → AreNext k ys l → AreNext n (xs ++ ys) l
next_joined [] ys n k l first second = subst (λ i. AreNext i ys l) first second
next_joined (x ∷ xs) ys n k l first second = (first.0, next_joined xs ys (n + 1) k l first.1 second)

many_joined : (is : Body → Bool) (xs ys : List (ℕ × Message)) → how_many is (xs ++ ys) ≡ how_many is
    xs + how_many is ys
many_joined is [] ys = omega arith
many_joined is (x ∷ xs) ys = let rest = many_joined is xs ys in omega arith

joined : (first second third : Mail) (xs ys : List (ℕ × Message)) → AreSent first xs second →
    AreSent second ys third → AreSent first (xs ++ ys) third
joined first second third xs ys a b = grind (arith, nat_tests, common_steps, many_joined, next_joined)

pub run_sends : (events : List Event) (answers : List Answer) (m after : Machine) (ran : Ran m events answers after) →
    AreSent m.mail (all_sent m events answers after ran) after.mail
run_sends [] [] m after ran =
    none_sent m.mail after.mail (ap (λ (n : Machine). n.mail.next) ran) (ap (λ (n : Machine). n.mail.counts) ran)
run_sends (event ∷ events) (answer ∷ answers) m after (next, step, rest) =
    joined m.mail next.mail after.mail _ _ (newly m.mail next.mail (step_told m event answer next step).sends)
    (run_sends events answers next after rest)
run_sends [] (answer ∷ answers) m after never = absurd never
run_sends (event ∷ events) [] m after never = absurd never
