-- What a bank's table does with one line is moves of the line.
use Rattle.std.proofs.Common.{◌≡◌, ℕ, ◌+◌, max, Bool, true, false, ◌&&◌, cond, List, ◌∷◌, Option, Some, None, refl, ap}
use Rattle.std.proofs.Common.{◌∙◌, subst, IsPermutation, eqb-true}
use Rattle.network.specs.declared.message.Node.TheVariants.{Core}
use Rattle.network.specs.declared.message.Message as network
use Rattle.network.specs.declared.part.Reaction.{Reaction}
use Rattle.network.specs.declared.part.Reaction.TheVariants.{Done, Held, HeldAfter}
use Rattle.network.specs.declared.message.TimedLine.{TimedLine}
use Rattle.network.specs.declared.message.Body.{Body}
use Rattle.network.specs.declared.message.Body.TheVariants as body
use Rattle.timestamp_manager.specs.Lease.{fits, is_version}
use Rattle.llc_bank.specs.declared.entry.Entry.{Entry}
use Rattle.llc_bank.specs.declared.entry.Entry.TheVariants as entry
use Rattle.llc_bank.specs.OnEntry as on_entry
use Rattle.llc_bank.specs.BankTable.{BankState, entry_of, with_used, with_changed, without_entry, from_bank, to_dram}
use Rattle.llc_bank.specs.BankTable.{after_decision, comes_to_bank, is_owned}
use Rattle.protocol.specs.Machine.{Message, Absent, Loading, Shared, Recalling, ShReq, ExReq, DramLd, DramLdRep}
use Rattle.protocol.specs.Machine.{DramStRep, Line, load_starts, renewed, leased, upgraded, granted, wb_starts}
use Rattle.protocol.specs.Machine.{flush_starts, flush_returns, wb_returns, loaded, stored}
use Rattle.machine_theorem.proofs.Routes.{GoesDown}
use Rattle.machine_theorem.proofs.Turns.{Changes}
use Rattle.machine_theorem.specs.View.{timed, entry_seen, body_seen}

-- an entry that is owned by this core, if by any
abbrev pub IsFor : ℕ → Entry → Type 0
IsFor c (entry.Exclusive owner) = owner ≡ c
IsFor c (entry.Recalling owner) = owner ≡ c
IsFor c _ = Unit {0}

-- what is known of requests
abbrev pub AtRequest : Type 0 → Body → Type 0
AtRequest Known (body.ShReq pts version) = Known
AtRequest Known (body.ExReq version) = Known
AtRequest Known _ = Unit {0}

-- whatever holds after each move that a bank may decide on, holds after its table: rest are the messages of the line
-- but the delivered one, c the core that this is from
module _ (lease : ℕ) (pinned : ℕ → Type 0) (t : ℕ) (x : Line) (rest : List Message) (c : ℕ) (bank : BankState)
    (m : network.Message) (Up : Type 0) (P : Option (Reaction × BankState) → Type 0)
    (seen : x.entry ≡ entry_seen (entry_of bank m.line))
    (waits : P (Some (Held, bank)))
    (late : P None)
    (loads : Changes lease pinned None t x t (record x { entry = Loading; messages = DramLd ∷ x.messages }) →
    P (Some (HeldAfter (to_dram bank m.line body.DramLd), with_used bank m.line entry.Loading)))
    (recalls : (owner : ℕ) (sent : Body) → GoesDown sent → entry_of bank m.line ≡ Some (entry.Exclusive owner) →
    Changes lease pinned None t x t (record x {
      entry = Recalling owner;
      messages = body_seen 0 owner sent ∷ x.messages;
    }) →
    P (Some (HeldAfter (from_bank bank m.line (Core owner) sent), with_changed bank m.line (entry.Recalling owner))))
    (grants : (e : Entry) (sent : Body) → GoesDown sent → IsFor c e → Up →
    Changes lease pinned None t x t (record x {
      entry = entry_seen (Some e);
      messages = body_seen 0 c sent ∷ rest;
    }) →
    P (Some (Done (Some (from_bank bank m.line m.from sent)), with_used bank m.line e)))
    (becomes : (dirty : Bool) (line : TimedLine) (old : Entry) → entry_of bank m.line ≡ Some old →
    Changes lease pinned None t x t (record x { entry = Shared dirty (timed line); messages = rest }) →
    P (Some (Done None, with_changed bank m.line (entry.Shared dirty line))))
    (leaves : Changes lease pinned None t x t (record x { entry = Absent; messages = rest }) →
    P (Some (Done None, without_entry bank m.line)))
  where
    is : (e : Option Entry) → entry_of bank m.line ≡ e → x.entry ≡ entry_seen e
    is e at = seen ∙ ap entry_seen at

    -- a request of a line that the bank doesn't have
    load_goes : (room : Bool) → x.entry ≡ Absent → P (after_decision bank m (on_entry.loaded room))
    load_goes true absent = loads (load_starts absent, refl)
    load_goes false absent = waits

    -- a reader of a line is given a lease
    lease_goes : (pts : ℕ) (version : Option ℕ) (dirty : Bool) (line : TimedLine) → Up →
        x.entry ≡ Shared dirty (timed line) → IsPermutation x.messages (ShReq c pts version ∷ rest) →
        (b : Bool) → is_version line.wts version ≡ b → P (after_decision bank m
        (on_entry.leased dirty line (Some (max (max line.rts (line.wts + lease)) (pts + lease), b))))
    lease_goes pts None dirty line up at p true v = absurd (let z : false ≡ true = v in cc)
    lease_goes pts (Some w) dirty line up at p true v = grants _ _ (λ cs bs f g. refl) tt up (
      renewed c pts dirty (timed line) rest at
          (subst (λ (u : ℕ). IsPermutation x.messages (ShReq c pts (Some u) ∷ rest)) (eqb-true w line.wts v) p),
      refl,
    )
    lease_goes pts version dirty line up at p false v =
        grants _ _ (λ cs bs f g. refl) tt up (leased c pts version dirty (timed line) rest at p, refl)

    leases_go : (pts : ℕ) (version : Option ℕ) (dirty : Bool) (line : TimedLine) → Up →
        x.entry ≡ Shared dirty (timed line) → IsPermutation x.messages (ShReq c pts version ∷ rest) → (b : Bool) →
        P (after_decision bank m
        (on_entry.leased dirty line
        (cond b (Some (max (max line.rts (line.wts + lease)) (pts + lease), is_version line.wts version)) None)))
    leases_go pts version dirty line up at p true =
        lease_goes pts version dirty line up at p (is_version line.wts version) refl
    leases_go pts version dirty line up at p false = late

    back_goes : (owner pts : ℕ) → entry_of bank m.line ≡ Some (entry.Exclusive owner) → (b : Bool) →
        P (after_decision bank m (on_entry.asked_back owner (cond b (Some (pts + lease)) None)))
    back_goes owner pts at true = recalls owner _ (λ cs bs f g. refl) at (wb_starts owner (pts + lease) (is _ at), refl)
    back_goes owner pts at false = late

    shared_goes : (room : Bool) (pts : ℕ) (v : Option ℕ) (e : Option Entry) → Up →
        entry_of bank m.line ≡ e → IsPermutation x.messages (ShReq c pts v ∷ rest) →
        P (after_decision bank m (on_entry.shared_request lease room pts v e))
    shared_goes room pts v None up at p = load_goes room (is _ at)
    shared_goes room pts v (Some (entry.Shared dirty line)) up at p =
        leases_go pts v dirty line up (is _ at) p (fits (line.wts + lease) && fits (pts + lease))
    shared_goes room pts v (Some (entry.Exclusive o)) up at p = back_goes o pts at (fits (pts + lease))
    shared_goes room pts v _ up at p = waits

    grant_goes : (v : Option ℕ) (dirty : Bool) (line : TimedLine) → Up →
        x.entry ≡ Shared dirty (timed line) → IsPermutation x.messages (ExReq c v ∷ rest) →
        (b : Bool) → is_version line.wts v ≡ b →
        P (Some (
          Done (Some (from_bank bank m.line m.from (cond b (body.UpgradeRep line.rts) (body.ExRep line)))),
          with_used bank m.line (entry.Exclusive c),
        ))
    grant_goes None dirty line up at p true v = absurd (let z : false ≡ true = v in cc)
    grant_goes (Some w) dirty line up at p true v = grants _ _ (λ cs bs f g. refl) refl up (
      upgraded c dirty (timed line) rest at (subst (λ (u : ℕ). IsPermutation x.messages (ExReq c (Some u) ∷ rest))
          (eqb-true w line.wts v) p),
      refl,
    )
    grant_goes version dirty line up at p false v =
        grants _ _ (λ cs bs f g. refl) refl up (granted c version dirty (timed line) rest at p, refl)

    exclusive_goes : (room : Bool) (v : Option ℕ) (e : Option Entry) → Up →
        entry_of bank m.line ≡ e → IsPermutation x.messages (ExReq c v ∷ rest) →
        P (after_decision bank m (on_entry.exclusive_request room c v e))
    exclusive_goes room v None up at p = load_goes room (is _ at)
    exclusive_goes room v (Some (entry.Shared dirty line)) up at p =
        grant_goes v dirty line up (is _ at) p (is_version line.wts v) refl
    exclusive_goes room v (Some (entry.Exclusive o)) up at p =
        recalls o _ (λ cs bs f g. refl) at (flush_starts o (is _ at), refl)
    exclusive_goes room v _ up at p = waits

    returns_go : (line : TimedLine) (e : Option Entry) → entry_of bank m.line ≡ e → is_owned e ≡ true →
        Changes lease pinned None t x t (record x { entry = Shared true (timed line); messages = rest }) →
        P (after_decision bank m (on_entry.given_back line e))
    returns_go line (Some (entry.Exclusive o)) at h mv = becomes _ _ _ at mv
    returns_go line (Some (entry.Recalling o)) at h mv = becomes _ _ _ at mv
    returns_go line _ at h mv = absurd (let z : false ≡ true = h in cc)

    words_go : (ws : List ℕ) (e : Option Entry) → entry_of bank m.line ≡ e →
        comes_to_bank m.from (body.DramLdRep ws) e ≡ true → IsPermutation x.messages (DramLdRep ws ∷ rest) →
        P (after_decision bank m (on_entry.filled t ws e))
    words_go ws (Some entry.Loading) at h p = becomes _ _ _ at (loaded ws rest p, refl)
    words_go ws _ at h p = absurd (let z : false ≡ true = h in cc)

    stored_goes : (e : Option Entry) → comes_to_bank m.from body.DramStRep e ≡ true →
        IsPermutation x.messages (DramStRep ∷ rest) → P (after_decision bank m (on_entry.stored e))
    stored_goes (Some entry.Storing) h p = leaves (stored rest p, refl)
    stored_goes _ h p = absurd (let z : false ≡ true = h in cc)

    pub bank_goes : (room : Bool) (b : Body) → comes_to_bank m.from b (entry_of bank m.line) ≡ true →
        AtRequest Up b → IsPermutation x.messages (body_seen c 0 b ∷ rest) →
        P (after_decision bank m (on_entry.at_bank lease t room c (entry_of bank m.line) b))
    bank_goes room (body.ShReq pts v) has up p = shared_goes room pts v _ up refl p
    bank_goes room (body.ExReq v) has up p = exclusive_goes room v _ up refl p
    bank_goes room (body.FlushRep y) has up p = returns_go y _ refl has (flush_returns c (timed y) rest p, refl)
    bank_goes room (body.WbRep y) has up p = returns_go y _ refl has (wb_returns c (timed y) rest p, refl)
    bank_goes room (body.DramLdRep ws) has up p = words_go ws _ refl has p
    bank_goes room body.DramStRep has up p = stored_goes _ has p
    bank_goes room _ has up p = absurd (let z : false ≡ true = has in cc)
