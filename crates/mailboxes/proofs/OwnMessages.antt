-- What comes in to a seat goes to its own core or bank.
use Rattle.std.proofs.Common.{◌≡◌, ℕ, ◌+◌, ◌-◌, ◌==◌, ◌&&◌, Bool, true, false, cond, nat_lt, Some}
use Rattle.std.proofs.Common.{ap, ◌∙◌, arith, sym, refl}
use mathlib.Core.Logic.{dite}
use native.Mathlib.Decide.{dec_lt}
use Rattle.std.specs.Prelude.{slice_get}
use Rattle.std.proofs.lemmas.Bool.{lt-ltb, le-ltb, eq-eqb}
use Rattle.network.specs.declared.message.Node.TheVariants.{Core, Bank}
use Rattle.network.specs.declared.message.Message.{Message}
use Rattle.inbox.specs.Inboxes.{InboxState, inbox}
use Rattle.seat_views.proofs.Lemmas.{some_is}
use Rattle.seat_rule.specs.declared.views.SetUp.{SetUp}
use Rattle.seat_rule.specs.declared.views.Stage.TheVariants.{Reading}
use Rattle.seat_rule.specs.Plays.{SeatState}
use Rattle.seat_rule.specs.Rule.{node_of}
use Rattle.mailboxes.specs.BoxMoves.{FindsFull}
use Rattle.mailboxes.specs.Places.{AllOwn, is_own}

both : (a b : Bool) → a ≡ true → b ≡ true → (a && b) ≡ true
both true b p q = q
both false b p q = absurd (let z : false ≡ true = p in cc)

pub own_node : (z : SetUp) (number : ℕ) → is_own z.config.cores number (node_of z number) ≡ true
unfolding node_of
own_node z number =
    let cores : ℕ = z.config.cores in
    dite (dec_lt number cores)
    (λ l.
    ap (λ b. is_own cores number (cond b (Core number) (Bank (number - cores)))) (lt-ltb number cores l)
    ∙ both (nat_lt number cores) (number == number) (lt-ltb number cores l) (eq-eqb number number refl))
    (λ no.
    ap (λ b. is_own cores number (cond b (Core number) (Bank (number - cores)))) (le-ltb number cores (omega arith))
    ∙ eq-eqb (cores + (number - cores)) number (omega arith))

-- a message that came to the node of the seat is in the hand
pub own_taken : (z : SetUp) (cores number : ℕ) (b c : InboxState Message) (m : Message) → cores ≡ z.config.cores →
    m.to ≡ node_of z number → AllOwn cores number b → c.hand ≡ Some m → c.held ≡ b.held → AllOwn cores number c
own_taken z cores number b c m same to all hand held =
    let mine : is_own cores number m.to ≡ true =
    ap (is_own cores number) to ∙ ap (λ k. is_own k number (node_of z number)) same ∙ own_node z number in
    record {
      hand = λ x e. ap (λ (y : Message). is_own cores number y.to) (some_is (sym e ∙ hand)) ∙ mine;
      held = λ i x e. all.held i x (ap (λ xs. slice_get xs i) (sym held) ∙ e);
    }

-- the message of a slot that was found full is in the hand
pub own_after : (z : SetUp) (cores number start slots : ℕ) (f : ℕ × ℕ) (old new : SeatState) (message : Message)
    (b c : InboxState Message) → cores ≡ z.config.cores → FindsFull z number start slots f old new →
    new.0.mine.stage ≡ Reading f.0 message → AllOwn cores number b → c ≡ inbox (Some message) b.held →
    AllOwn cores number c
own_after z cores number start slots f old new message b c alike found stage all is =
    let same : Reading f.0 found.1 ≡ Reading f.0 message =
    sym (ap (λ (s : SeatState). s.0.mine.stage) found.6) ∙ stage in
    let one : found.1 ≡ message = cc in
    own_taken z cores number b c message alike (ap (λ (m : Message). m.to) (sym one) ∙ found.5) all
    (ap (λ (y : InboxState Message). y.hand) is)
    (ap (λ (y : InboxState Message). y.held) is)
