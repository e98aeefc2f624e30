-- A delivery to a core keeps the invariant.
use Rattle.std.proofs.Common.{◌≡◌, ◌≢◌, ℕ, ◌%◌, ◌<◌, true, false, List, ◌∷◌, Option, Some, None, refl, sym, ap, ◌∙◌}
use Rattle.std.proofs.Common.{subst, nat_cmp, IsPermutation}
use Rattle.std.proofs.lemmas.Bool.{and_parts}
use Rattle.std.specs.FinMap.{FinMap}
use Rattle.std.proofs.lemmas.List.Sorted.{IsPermutation-refl}
use Rattle.network.specs.declared.message.Node.TheVariants as node
use Rattle.network.specs.declared.message.Body.{Body}
use Rattle.network.specs.declared.message.Body.TheVariants as body
use Rattle.network.specs.declared.message.Message.{Message}
use Rattle.network.specs.Mail.{counted}
use Rattle.line_sets.specs.SetTable.{Sets}
use Rattle.private_cache.specs.declared.line_copy.LineCopy.{LineCopy}
use Rattle.private_cache.specs.CopyTable.{copy_of, place_for, with_used, with_changed}
use Rattle.core_pts.specs.declared.decision.CoreReaction.{CoreReaction}
use Rattle.core_pts.specs.declared.decision.CoreReaction.TheVariants.{Arrives, Grants, Returns, Drops, NoCase}
use Rattle.core_pts.specs.CoreTable as core_table
use Rattle.core_pts.specs.CoreTable.{CoreState, to_bank, pinned_line, is_pinned, kept_in, is_this_core, comes_to_core}
use Rattle.core_pts.specs.OnCopy.{at_core}
use Rattle.llc_bank.specs.BankTable.{core_of}
use Rattle.machine_table.specs.declared.config.Config.{Config}
use Rattle.machine_table.specs.Step.{reacted}
use Rattle.protocol.specs.Machine as by_line
use Rattle.protocol.specs.Machine.{Line, with_at, IsPinned, Answers, answer}
use Rattle.machine_theorem.specs.States.{State}
use Rattle.machine_theorem.specs.Moves.{with_core, with_answer}
use Rattle.machine_theorem.specs.View.{copy_seen, copy_or_none, body_seen, messages_of, core_seen, set_up, line_seen}
use Rattle.machine_theorem.specs.View.{view}
use Rattle.machine_theorem.specs.Shape.{IsCore}
use Rattle.machine_theorem.specs.Kept.{IsKept}
use Rattle.machine_theorem.proofs.KeptSteps.{shape_with, Turned, Goes}
use Rattle.machine_theorem.proofs.Lookups.{IsNow, put_now, change_now, drop_now, messages_here, messages_there}
use Rattle.machine_theorem.proofs.Turns.{by_turn, delivering, core_turn, core_move, bag_turn}
use Rattle.machine_theorem.proofs.OnCopies.{CoreFits, core_fits}
use Rattle.machine_theorem.proofs.Rooms.{place-changed, place-without}
use Rattle.machine_theorem.proofs.CoreMoves as moves

-- what comes to a core has no sender
came_to : (core : CoreState) (l from to : ℕ) (b : Body) → comes_to_core core l b ≡ true →
    body_seen from to b ≡ body_seen 0 to b
came_to core l from to (body.ShReq pts v) has = absurd (let z : false ≡ true = has in cc)
came_to core l from to (body.ExReq v) has = absurd (let z : false ≡ true = has in cc)
came_to core l from to (body.FlushRep y) has = absurd (let z : false ≡ true = has in cc)
came_to core l from to (body.WbRep y) has = absurd (let z : false ≡ true = has in cc)
came_to core l from to _ has = refl

-- the message comes first in the bag
module _ (config : Config) (opening : FinMap nat_cmp ℕ) (before : State) (message : Message) (rest : List Message)
    (s : IsKept config opening (record before { bag = message ∷ rest })) (c : ℕ) (below : c < config.cores) where
  abbrev a : State
  a = record before { bag = message ∷ rest }

  abbrev core : CoreState
  core = a.cores c

  abbrev l : ℕ
  l = message.line

  abbrev v : by_line.Machine
  v = view config a

  others : (k : ℕ) → k ≢ l → messages_of a.bag k ≡ messages_of rest k
  others k ne = sym (messages_there message rest k ne)

  is : IsCore config c (a.issued c) core
  is = moves.is config opening a s c below

  -- a reply is taken, and with it a copy
  replied : (kept : Sets LineCopy) (copy : LineCopy) → IsNow (λ k. k) core.cache.sets kept.sets l (Some copy) →
      Answers c (line_seen config a l) (record (line_seen config a l) {
        copies = with_at (line_seen config a l).copies c (Some (copy_seen copy));
        messages = messages_of rest l;
      }) → Turned config opening delivering a
      (with_answer (with_core a c (record core { is_out = false; cache = kept })) rest None)
  replied kept copy now answers =
      let y : Line = record (v.lines l) {
        copies = with_at ((v.lines l).copies) c (Some (copy_seen copy));
        messages = messages_of rest l;
      } in
      record {
        shape = moves.shape config opening a s c below core.pts core.open_op false kept now.some
            (λ p o q. absurd (let z : false ≡ true = q in cc)) rest a.records a.counts s.shape.each_message.1;
        leads = core_turn config opening a c (record core { is_out = false; cache = kept }) l y
            (record (core_seen core) { out = false }) rest a.records
            (ap (λ (o : Option LineCopy). record y { copies = with_at ((v.lines l).copies) c (copy_or_none o) })
            (sym now.here)) refl (λ k ne. ap copy_or_none (now.there k ne)) others
            (by_turn (answer {m = v} c l y answers));
      }

  kept_now : (old : LineCopy) → copy_of core.cache l ≡ Some old → (kept : Option LineCopy) →
      IsNow (λ k. k) core.cache.sets (kept_in core l kept).sets l kept
  kept_now old there None = drop_now (λ k. k) core.cache.sets is.sets l
  kept_now old there (Some copy) = change_now (λ k. k) core.cache.sets is.sets l copy old there

  kept_room : (old : LineCopy) → copy_of core.cache l ≡ Some old → (kept : Option LineCopy) (k : ℕ) → k ≢ l →
      place_for core.cache k ≡ true → place_for (kept_in core l kept) k ≡ true
  kept_room old there None k ne place = place-without core.cache is.sets l k ne place
  kept_room old there (Some copy) k ne place = place-changed core.cache is.sets l k ne place copy old there

  abbrev Fits : CoreReaction → Type 0
  Fits = CoreFits config.lease (IsPinned (set_up config opening) v.cores l) (v.mts (l % config.banks)) c
      (line_seen config a l) (messages_of rest l) (is_pinned (pinned_line core) l) (copy_of core.cache l)

  reaction_goes : (r : CoreReaction) → Fits r →
      Goes config opening delivering a (with_core a c) rest (reacted (core_table.after_reaction core l r))
  reaction_goes (Arrives copy) fit =
      replied (with_used core.cache l copy) copy (put_now (λ k. k) core.cache.sets is.sets l copy) fit
  reaction_goes (Grants copy) fit =
      replied (with_changed core.cache l copy) copy
      (change_now (λ k. k) core.cache.sets is.sets l copy fit.0.0 fit.0.1) fit.1
  reaction_goes (Returns kept sent) fit =
      let back = to_bank core l sent in
      let new : CoreState = record core { cache = kept_in core l kept } in
      let now = kept_now fit.0.0 fit.0.1 kept in
      record {
        shape = moves.shape config opening a s c below core.pts core.open_op core.is_out (kept_in core l kept)
            now.some (λ p o q. kept_room fit.0.0 fit.0.1 kept (core_table.line_of core p)
            (moves.off_line config opening a s c below l fit.1 p o) (is.room p o q)) (back ∷ rest) a.records
            (counted a.counts sent) (moves.home config opening a s c below l sent fit.2, s.shape.each_message.1);
        leads = core_move config opening a None c new l (copy_or_none kept) (body_seen c 0 sent ∷ messages_of rest l)
            (back ∷ rest) refl (sym (ap copy_or_none now.here)) (λ k ne. ap copy_or_none (now.there k ne))
            (moves.sent config opening a s c below l sent rest)
            (λ k ne. others k ne ∙ messages_there back rest k ne) fit.3;
      }
  reaction_goes Drops fit =
      record {
        shape = shape_with config opening a rest s.shape.each_message.1 s.shape;
        leads = bag_turn config opening a l rest others fit;
      }
  reaction_goes NoCase fit = absurd fit
  reaction_goes _ fit = tt

  pub core_delivery : message.to ≡ node.Core c → core_table.core_has_case core message ≡ true →
      Goes config opening delivering a (with_core a c) rest (reacted (core_table.core_table core message))
  core_delivery to has =
      let b = is_pinned (pinned_line core) l in
      let comes = (and_parts (is_this_core core.number message.to) (comes_to_core core l message.body) has).1 in
      let first : messages_of a.bag l ≡ body_seen 0 c message.body ∷ messages_of rest l =
      messages_here message rest ∙ ap (λ (m : by_line.Message). m ∷ messages_of rest l)
      (ap (λ (k : ℕ). body_seen (core_of message.from) k message.body) (ap core_of to)
      ∙ came_to core l (core_of message.from) c message.body comes) in
      reaction_goes (at_core core.lease b (copy_of core.cache l) message.body)
      (subst (λ (lease : ℕ). Fits (at_core lease b (copy_of core.cache l) message.body)) (sym is.lease)
      (core_fits config.lease (IsPinned (set_up config opening) v.cores l) (v.mts (l % config.banks)) c
      (line_seen config a l) (messages_of rest l) b core l message.body
      (λ e. moves.unpinned config opening a s c below l e) comes refl
      (subst (λ (xs : List by_line.Message). IsPermutation (messages_of a.bag l) xs) first
      (IsPermutation-refl (messages_of a.bag l)))))
