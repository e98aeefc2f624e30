-- A core takes its reply, and with it a copy.
use Rattle.std.proofs.Common.{◌≡◌, ℕ, suc, ◌<◌, Bool, true, false, ◌&&◌, List, ◌∷◌, length, Option, Some, None, refl}
use Rattle.std.proofs.Common.{sym, ap, ◌∙◌, subst, nat_cmp}
use Rattle.std.specs.FinMap.{FinMap}
use Rattle.physiological_order.specs.declared.operation.Op.{Op}
use Rattle.network.specs.declared.message.Node.TheVariants as node
use Rattle.network.specs.declared.message.Body.{Body}
use Rattle.network.specs.declared.message.Body.TheVariants as body
use Rattle.network.specs.declared.message.Message.{Message}
use Rattle.line_sets.specs.SetTable.{Sets}
use Rattle.private_cache.specs.declared.line_copy.LineCopy.{LineCopy}
use Rattle.private_cache.specs.declared.line_copy.CopyState.TheVariants as cache_state
use Rattle.private_cache.specs.CopyTable as cache
use Rattle.private_cache.specs.CopyTable.{copy_of, is_pinned, with_used}
use Rattle.core_pts.specs.declared.decision.CoreReaction.TheVariants.{Arrives, Grants}
use Rattle.core_pts.specs.OnCopy as on_copy
use Rattle.core_pts.specs.OnCopy.{at_core}
use Rattle.core_pts.specs.CoreTable as core_table
use Rattle.core_pts.specs.CoreTable.{CoreState, pinned_line, comes_to_core, is_shared_copy}
use Rattle.machine_table.specs.declared.config.Config.{Config}
use Rattle.machine_table.specs.declared.event.Answer.TheVariants.{Delivered}
use Rattle.machine_table.specs.SetUp.{is_good}
use Rattle.machine_table.specs.Step.{Makes, Does, Getting, core_step}
use Rattle.protocol.proofs.Lemmas.{with_at_same}
use Rattle.machine_theorem.specs.Bags.{SameBag}
use Rattle.machine_theorem.specs.States.{State}
use Rattle.machine_theorem.specs.Moves.{with_core, Move, core_steps, Reached, goes_on}
use Rattle.machine_theorem.specs.Consistent.{FindsCase}
use Rattle.machine_theorem.specs.Kept.{IsKept}
use Rattle.machine_theorem.proofs.Services.{IsService}
use Rattle.machine_theorem.proofs.Bags.{as_many}
use Rattle.machine_theorem.proofs.Lookups.{put_now, change_now}
use Rattle.machine_theorem.proofs.ReachedStates.{reached_kept}
use Rattle.machine_theorem.proofs.Consistency.{state_consistent}
use Rattle.machine_theorem.proofs.Deliveries.{and_right, core_decided, owner_serves, IsReply, Suits, reads}

module _ (config : Config) (good : is_good config ≡ true) (opening : FinMap nat_cmp ℕ) (c : ℕ)
    (below : c < config.cores) where
  kept : (a : State) → Reached config opening a → IsKept config opening a
  kept a r = reached_kept config opening good a r

  -- what the core does with its reply
  pub record Takes (core : CoreState) (r : Message) : Type 0 where
    pub cache : Sets LineCopy
    pub held : LineCopy
    pub has : copy_of cache r.line ≡ Some held
    pub serves : (op : Op) → Suits op core.pts r.body → on_copy.serves op core.pts held ≡ true
    pub done : core_step core (Getting r)
        ≡ Does (Makes Delivered true None (record core { cache = cache; is_out = false }))

  pub takes : (a : State) → Reached config opening a → (r : Message) (rest : List Message) → SameBag a.bag (r ∷ rest) →
      r.to ≡ node.Core c → IsReply r.body → Takes (a.cores c) r
  takes a reached r rest same to reply = go r.body refl reply
    where
      core : CoreState
      core = a.cores c

      case : comes_to_core core r.line r.body ≡ true
      case = and_right (core_table.is_this_core core.number r.to) _ (subst (FindsCase config a r) to
          ((state_consistent config opening a (kept a reached)).cases r rest same)).1

      some : 0 < length core.cache.sets
      some = ((kept a reached).shape.each_core c).sets

      -- a copy arrives
      arrives : (b : Body) (held : LineCopy) → r.body ≡ b →
          at_core core.lease (is_pinned (pinned_line core) r.line) (copy_of core.cache r.line) b ≡ Arrives held →
          ((op : Op) → Suits op core.pts b → on_copy.serves op core.pts held ≡ true) → Takes core r
      arrives b held e decides serves = record {
        cache = with_used core.cache r.line held;
        held = held;
        has = (put_now (λ k. k) core.cache.sets some r.line held).here;
        serves = rw e serves;
        done = core_decided core r b _ _ (Arrives held) e refl refl decides;
      }

      -- the copy that is there is granted more
      grants : (b : Body) (more : LineCopy → LineCopy) → r.body ≡ b → comes_to_core core r.line b
          ≡ (core_table.waits_for core r.line && is_shared_copy (copy_of core.cache r.line)) →
          ((p : Bool) (old : LineCopy) → at_core core.lease p (Some old) b ≡ Grants (more old)) →
          ((op : Op) (old : LineCopy) → Suits op core.pts b → on_copy.serves op core.pts (more old) ≡ true) →
          Takes core r
      grants b more e by decides serves = by_held (copy_of core.cache r.line) refl
          (and_right (core_table.waits_for core r.line) _ (sym by ∙ rw e at case))
        where
          by_held : (o : Option LineCopy) → copy_of core.cache r.line ≡ o →
              is_shared_copy (copy_of core.cache r.line) ≡ true → Takes core r
          by_held None is shared = absurd (let z : false ≡ true = rw is at shared in cc)
          by_held (Some old) is shared = record {
            cache = cache.with_changed core.cache r.line (more old);
            held = more old;
            has = (change_now (λ k. k) core.cache.sets some r.line (more old) old is).here;
            serves = rw e (λ op s. serves op old s);
            done = core_decided core r b _ (Some old) (Grants (more old)) e refl is (decides _ old);
          }

      go : (b : Body) → r.body ≡ b → IsReply b → Takes core r
      go (body.ShRep line) e rep =
          let held = cache.arrived cache_state.Shared line in
          arrives (body.ShRep line) held e refl (λ op s. reads op core.pts s.0 held s.1 s.2)
      go (body.ExRep line) e rep =
          let held = cache.arrived cache_state.Exclusive line in
          arrives (body.ExRep line) held e refl (λ op s. owner_serves core.pts held refl op)
      go (body.RenewRep rts) e rep =
          grants (body.RenewRep rts) (cache.renewed rts) e refl (λ p old. refl)
          (λ op old s. reads op core.pts s.0 (cache.renewed rts old) s.1 s.2)
      go (body.UpgradeRep rts) e rep =
          grants (body.UpgradeRep rts) (cache.upgraded rts) e refl (λ p old. refl)
          (λ op old s. owner_serves core.pts (cache.upgraded rts old) refl op)
      go _ e rep = absurd rep

  module _ (op : Op) where
    -- the core after its reply
    pub record Taken (a : State) (r : Message) : Type 0 where
      pub to : State
      pub move : Move config a to
      pub is : IsService move
      pub reached : Reached config opening to
      pub opens : (to.cores c).open_op ≡ (a.cores c).open_op
      pub quiet : (to.cores c).is_out ≡ false
      pub time : (to.cores c).pts ≡ (a.cores c).pts
      pub records : to.records ≡ a.records
      pub fewer : suc (length to.bag) ≡ length a.bag
      pub held : LineCopy
      pub has : copy_of (to.cores c).cache r.line ≡ Some held
      pub serves : Suits op (a.cores c).pts r.body → on_copy.serves op (a.cores c).pts held ≡ true

    pub taken : (a : State) → Reached config opening a → (r : Message) (rest : List Message) →
        SameBag a.bag (r ∷ rest) → r.to ≡ node.Core c → IsReply r.body → Taken a r
    taken a reached r rest same to reply =
        let t = takes a reached r rest same to reply in
        let after : CoreState = record (a.cores c) { cache = t.cache; is_out = false } in
        let case = (subst (FindsCase config a r) to
        ((state_consistent config opening a (kept a reached)).cases r rest same)).1 in
        let move : Move config a (record (with_core a c after) { bag = rest }) = core_steps c (Getting r) rest
        (Makes Delivered true None after) below (same, to, case) t.done refl in
        let now = with_at_same a.cores c after in
        record {
          to = record (with_core a c after) { bag = rest };
          move = move;
          is = λ z. cc;
          reached = goes_on reached move;
          opens = ap (λ (k : CoreState). k.open_op) now;
          quiet = ap (λ (k : CoreState). k.is_out) now;
          time = ap (λ (k : CoreState). k.pts) now;
          records = refl;
          fewer = sym (as_many a.bag (r ∷ rest) same);
          held = t.held;
          has = ap (λ (k : CoreState). copy_of k.cache r.line) now ∙ t.has;
          serves = t.serves op;
        }
