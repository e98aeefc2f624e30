-- What a part answers to a message, and what its seat sends then.
use Rattle.std.proofs.Common.{◌≡◌, ℕ, Bool, true, false, cond, List, [], ◌∷◌, ◌++◌, Option, Some, None}
use Rattle.std.proofs.Common.{refl, sym, subst, true≢false, option_to_list, arith}
use Rattle.std.proofs.lemmas.Bool.{cond_both}
use Rattle.std.specs.Ordering.{nat_cmp}
use Rattle.std.specs.FinMap.{FinMap}
use Rattle.network.specs.declared.message.Body.{Body}
use Rattle.network.specs.declared.message.Body.TheVariants.{DramLd, DramSt}
use Rattle.network.specs.declared.message.Node.{Node}
use Rattle.network.specs.declared.message.Node.TheVariants.{Core, Bank, Dram}
use Rattle.network.specs.declared.message.Message.{Message}
use Rattle.network.specs.declared.part.Reaction.{Reaction}
use Rattle.network.specs.declared.part.Reaction.TheVariants as does
use Rattle.network.specs.Mail.{counted}
use Rattle.network.specs.Sends.{sent_by}
use Rattle.core_pts.specs.CoreTable.{core_table}
use Rattle.llc_bank.specs.BankTable.{bank_table}
use Rattle.dram_mts.specs.Table.{dram_case, dram_table}
use Rattle.machine_table.specs.Step.{Stays}
use Rattle.machine_theorem.specs.Bags.{SameBag}
use Rattle.inbox.specs.declared.answer.Answer.{Answer}
use Rattle.inbox.specs.declared.answer.Answer.TheVariants.{Delivered, Dropped, Started, Held, Refused}
use Rattle.inbox.specs.declared.answer.Refusal.TheVariants.{Full, NoMemory, Exhausted}
use Rattle.inbox.specs.Serving.{is_quiet, sent_list}
use Rattle.inbox.specs.Effects.{LeavesPart, NeverNoMemory}
use Rattle.seat_rule.proofs.Lemmas.{weigh-append}
use Rattle.seat_rule.specs.Serving.{counted_if}
use Rattle.machine_theorem.specs.Staying.{BanksStay, CoresStay}
use Rattle.closed_machine.specs.Sending.{OutboxState, noted, sent_out}
use Rattle.mailboxes.specs.declared.sending.SendingBank.{SendingBank}
use Rattle.mailboxes.specs.BankServing.{reacts_at, sending_bank_table}
use Rattle.mailboxes.specs.CoreServing.{sending_core_table}
use Rattle.mailboxes.specs.PartServing.{finds_places, leaves, posted_if, reacts, replied, told_if}

-- This was sent, if anything: it is among the seat's messages, in the outbox or for the held list, and it is counted.
pub record Sends (is_core : Bool) (out : OutboxState) (answer sent : Option Message) (o : OutboxState) : Type 0 where
  pub outbox : o ≡ posted_if is_core out answer
  pub told_is : sent ≡ told_if is_core answer
  pub counts : o.counts ≡ counted_if out.counts answer
  pub bag : (xs : List Message) →
      SameBag (o.messages ++ (sent_list sent ++ xs)) (option_to_list answer ++ (out.messages ++ xs))

posted_bag : (b : Bool) (out : OutboxState) (m : Message) (xs : List Message) →
    SameBag ((cond b (sent_out out m) (noted out m)).messages ++ (sent_list (cond b None (Some m)) ++ xs))
    (m ∷ (out.messages ++ xs))
posted_bag true out m xs f =
    let a = weigh-append f (out.messages ++ m ∷ []) xs in
    let b = weigh-append f out.messages (m ∷ []) in
    let c = weigh-append f out.messages xs in
    omega arith
posted_bag false out m xs f =
    let a = weigh-append f out.messages (m ∷ xs) in
    let b = weigh-append f out.messages xs in
    omega arith

posted_counts : (b : Bool) (out : OutboxState) (m : Message) →
    (cond b (sent_out out m) (noted out m)).counts ≡ counted out.counts m.body
posted_counts true out m = refl
posted_counts false out m = refl

pub sends : (is_core : Bool) (out : OutboxState) (answer : Option Message) →
    Sends is_core out answer (told_if is_core answer) (posted_if is_core out answer)
sends is_core out None = record { outbox = refl; told_is = refl; counts = refl; bag = λ xs f. refl }
sends is_core out (Some m) = record {
  outbox = refl;
  told_is = refl;
  counts = posted_counts (leaves is_core m.to) out m;
  bag = posted_bag (leaves is_core m.to) out m;
}

pub sends_none : (is_core : Bool) (out o : OutboxState) → o ≡ out → Sends is_core out None None o
sends_none is_core out o same = subst (Sends is_core out None None) (sym same) (sends is_core out None)

module _ (is_core : Bool) {P : Type 0} (out : OutboxState) (p : P) (r : Option (Reaction × P)) where
  -- what the part's table says where this is answered, and what was sent
  abbrev pub Did : Answer Message → P → OutboxState → Type 0
  Did (Delivered sent) q o =
      (answer : Option Message) × (r ≡ Some (does.Done answer, q)) × Sends is_core out answer sent o
  Did Dropped q o = (r ≡ Some (does.Dropped, q)) × Sends is_core out None None o
  Did (Started sent) q o = (s : Message) × (r ≡ Some (does.HeldAfter s, q)) × Sends is_core out (Some s) sent o
  Did Held q o = (r ≡ Some (does.Held, q)) × (o ≡ out)
  Did (Refused e) q o = (q ≡ p) × (o ≡ out) × (e ≡ NoMemory → ⊥)

  -- a part that holds a message stays as it is, and so does the outbox
  quiet : Stays p r → (answer : Answer Message) (q : P) (o : OutboxState) →
      Did answer q o → is_quiet answer ≡ true → (q ≡ p) × (o ≡ out)
  quiet stays (Delivered sent) q o d h = absurd (true≢false (sym h))
  quiet stays Dropped q o d h = absurd (true≢false (sym h))
  quiet stays (Started sent) q o d h = absurd (true≢false (sym h))
  quiet stays Held q o d h = (subst (Stays p) d.0 stays, d.1)
  quiet stays (Refused e) q o d h = (d.0, d.1)

module _ (is_core : Bool) {P : Type 0} (out : OutboxState) (p : P) where
  abbrev Does : Option (Reaction × P) → Answer Message × P × OutboxState → Type 0
  Does r x = Did is_core out p r x.0 x.1 x.2

  replied_did : (r : Option (Reaction × P)) → Does r (replied is_core out p r)
  replied_did None = (refl, refl, λ e. let no : Exhausted ≡ NoMemory = e in cc)
  replied_did (Some (does.Done answer, q)) = (answer, refl, sends is_core out answer)
  replied_did (Some (does.Dropped, q)) = (refl, sends is_core out None)
  replied_did (Some (does.Held, q)) = (refl, refl)
  replied_did (Some (does.HeldAfter s, q)) = (s, refl, sends is_core out (Some s))

  reacts_did : (n : ℕ) (r : Option (Reaction × P)) → Does r (reacts is_core out n p r)
  reacts_did n r =
      cond_both {A = Answer Message × P × OutboxState} (finds_places is_core out n (sent_by r))
      (replied is_core out p r) (Refused Full, p, out) (Does r) (λ t. replied_did r)
      (λ t. (refl, refl, λ e. let no : Full ≡ NoMemory = e in cc))

  pub did : (n : ℕ) (r : Option (Reaction × P)) (answer : Answer Message) (q : P) (o : OutboxState) →
      reacts is_core out n p r ≡ (answer, q, o) → Did is_core out p r answer q o
  did n r answer q o e = subst (Does r) e (reacts_did n r)

  -- a message that isn't consumed and starts nothing leaves both
  leaves_both : (n : ℕ) (r : Option (Reaction × P)) → Stays p r →
      is_quiet (reacts is_core out n p r).0 ≡ true →
      ((reacts is_core out n p r).1 ≡ p) × ((reacts is_core out n p r).2 ≡ out)
  leaves_both n r stays h =
      let x = reacts is_core out n p r in quiet is_core out p r stays x.0 x.1 x.2 (reacts_did n r) h

  -- the table never says that memory is lacking
  no_memory : (n : ℕ) (r : Option (Reaction × P)) → (reacts is_core out n p r).0 ≡ Refused NoMemory → ⊥
  no_memory n r e =
      let x = reacts is_core out n p r in
      (subst (λ a. Did is_core out p r a x.1 x.2) e (reacts_did n r)).2 refl

-- Cores

pub core_leaves_part : CoresStay → LeavesPart sending_core_table
core_leaves_part stay p m n h =
    let q = leaves_both true p.outbox p.core n (core_table p.core m) (stay.stays p.core m) h in
    λ i. record p { core = q.0 i; outbox = q.1 i }

pub core_never : NeverNoMemory sending_core_table
core_never p m n e = no_memory true p.outbox p.core n (core_table p.core m) e

-- Banks with their DRAMs

-- a DRAM that doesn't answer stays as it is
pub dram_stays : (lines : FinMap nat_cmp (List ℕ)) (m : Message) (b : Body) → Stays lines (dram_case lines m b)
dram_stays lines m DramLd = tt
dram_stays lines m (DramSt words) = tt
dram_stays lines m _ = refl

bank_leaves : BanksStay → (to : Node) (p : SendingBank) (m : Message) (n : ℕ) → is_quiet (reacts_at to p m n).0 ≡ true →
    (reacts_at to p m n).1 ≡ p
bank_leaves stay (Core c) p m n h = refl
bank_leaves stay (Bank b) p m n h =
    let q = leaves_both false p.outbox p.bank n (bank_table p.bank m) (stay.stays p.bank m) h in
    λ i. record p { bank = q.0 i; outbox = q.1 i }
bank_leaves stay (Dram d) p m n h =
    let q = leaves_both false p.outbox p.dram n (dram_table p.dram m) (dram_stays p.dram m m.body) h in
    λ i. record p { dram = q.0 i; outbox = q.1 i }

pub bank_leaves_part : BanksStay → LeavesPart sending_bank_table
bank_leaves_part stay p m n h = bank_leaves stay m.to p m n h

bank_answers : (to : Node) (p : SendingBank) (m : Message) (n : ℕ) → (reacts_at to p m n).0 ≡ Refused NoMemory → ⊥
bank_answers (Core c) p m n e = let no : Held ≡ Refused NoMemory = e in cc
bank_answers (Bank b) p m n e = no_memory false p.outbox p.bank n (bank_table p.bank m) e
bank_answers (Dram d) p m n e = no_memory false p.outbox p.dram n (dram_table p.dram m) e

pub bank_never : NeverNoMemory sending_bank_table
bank_never p m n e = bank_answers m.to p m n e
