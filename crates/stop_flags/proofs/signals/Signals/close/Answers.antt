use Rattle.std.proofs.Common.{rules}
use Rattle.std.proofs.Common.{◌≡◌, ℕ, List, [], ◌∷◌, ap, ◌∙◌, subst}
use Rattle.std.specs.Mem.Slots.{slots_items}
use Rattle.std.specs.Prelude.{slice_get}
use Rattle.atomic_table.specs.Table.{Final, Seen}
use Rattle.seat_views.specs.declared.views.View.{View}
use Rattle.stop_flags.specs.declared.signaler.Signaler.{Signaler}
use Rattle.stop_flags.specs.declared.words.Voice.{Voice}
use Rattle.stop_flags.specs.Ties.{FlagSeat}
use Rattle.stop_flags.specs.Told.{FlagsHold}
use Rattle.stop_flags.specs.Heard.{knows_all}
use Rattle.seat_views.proofs.Lemmas.{get_front, split_of}
use Rattle.stop_flags.proofs.Endings.{all_heard}
use Rattle.stop_flags.proofs.signals.Signals.close.Goals as goal

pub unwrap-requires : goal.unwrap-requires
unwrap-requires c = search rules

pub join_signalers-requires-clause-signalers : goal.join_signalers-requires-clause-signalers
join_signalers-requires-clause-signalers c i s e =
    let rest : List Signaler = c.pop-last.new.self.items in
    let last : Signaler = c.unwrap.result in
    let split = split_of c.args.signalers.items rest _ last c.pop-last.ensures.items c.unwrap.ensures in
    (c.requires.each i s (ap (λ z. slice_get z i) split ∙ get_front rest (last ∷ []) i s e)).0.0

pub free-requires : goal.free-requires
free-requires c = search rules

pub returns : goal.returns
returns c =
    let m = c.args.self in
    let n : ℕ = m.workers in
    let all : List Signaler = c.args.signalers.items in
    let rest : List Signaler = c.pop-last.new.self.items in
    let last : Signaler = c.unwrap.result in
    let split = split_of all rest _ last c.pop-last.ensures.items c.unwrap.ensures in
    let view : c.join_signalers.new.seat.me.0 ≡ knows_all last.seat.me.0 rest =
    ap (λ y. y.0) c.join_signalers.ensures.met ∙ ap (λ (y : FlagSeat). knows_all y.me.0 rest)
    c.seat_of_signaler-seat.ensures in
    let words : List ℕ = slots_items c.close_with-closed.result.words in
    let slots : List (Unit {0}) = slots_items c.close_with-closed.result.slots in
    let id : ℕ = c.join_signalers.new.seat.id in
    let end : Final (Seen (FlagsHold n) id (knows_all last.seat.me.0 rest)) words slots =
    subst (λ (y : ℕ × View Voice). Final (Seen (FlagsHold y.0) id y.1) words slots) (λ i. (m.keyed i, view i))
    c.close_with-closed.ensures.values.2 in
    all_heard n id all rest last words slots split c.requires.long (λ i s e. (c.requires.each i s e).1) end
