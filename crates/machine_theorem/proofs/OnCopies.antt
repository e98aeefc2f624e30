-- What a core's table does with one line: operations use copies as the protocol by lines says, and what is done at a
-- message is a reply to the core or a move of the line.
use Rattle.std.proofs.Common.{◌≡◌, ℕ, ◌+◌, ◌%◌, max, Bool, true, false, ◌&&◌, cond, leb, List, ◌∷◌, Option, Some, None}
use Rattle.std.proofs.Common.{refl, sym, ◌∙◌, subst, arith, IsPermutation}
use Rattle.std.proofs.lemmas.Bool.{and_parts, cond_both, or_parts, leb-true}
use Rattle.physiological_order.specs.declared.operation.Op.{Op}
use Rattle.physiological_order.specs.declared.operation.Op.TheVariants.{Load, Store, Swap}
use Rattle.physiological_order.specs.Order.{address}
use Rattle.network.specs.declared.message.Body.{Body}
use Rattle.network.specs.declared.message.Body.TheVariants as body
use Rattle.private_cache.specs.declared.line_copy.LineCopy.{LineCopy}
use Rattle.private_cache.specs.CopyTable.{copy_of, renewed, upgraded}
use Rattle.timestamp_manager.specs.Lease.{fits}
use Rattle.core_pts.specs.CoreTable.{CoreState, comes_to_core, waits_for, is_shared_copy}
use Rattle.core_pts.specs.OnCopy as on_copy
use Rattle.core_pts.specs.OnCopy.{is_exclusive, serves, time_of, received_at, copy_after, at_core}
use Rattle.core_pts.specs.declared.decision.CoreReaction.{CoreReaction}
use Rattle.core_pts.specs.declared.decision.CoreReaction.TheVariants.{Arrives, Grants, Returns, Drops, NoCase}
use Rattle.protocol.specs.Machine.{Config, Message, RenewRep, UpgradeRep, FlushReq, WbReq, Line, with_at, CannotUse}
use Rattle.protocol.specs.Machine.{NotOwned, dropped, wb_dropped, flushed, written_back, Answers, shared, exclusive}
use Rattle.protocol.specs.Machine.{renews, upgrades, Uses, load_hit, load_own, store_own, swap_own}
use Rattle.protocol.proofs.Lemmas.{Some_injective}
use Rattle.machine_theorem.proofs.Routes.{GoesUp}
use Rattle.machine_theorem.proofs.Turns.{Changes}
use Rattle.machine_theorem.specs.View.{copy_seen, copy_or_none, body_seen}

-- the time of a write, where it fits
write_time_is : (b c : Bool) (x y ts : ℕ) → cond b (Some x) (cond c (Some y) None) ≡ Some ts → cond b x y ≡ ts
write_time_is true c x y ts h = Some_injective x ts h
write_time_is false true x y ts h = Some_injective y ts h
write_time_is false false x y ts h = absurd (cc)

-- a copy that serves is used as the protocol says
module _ (f : Config) (pts : ℕ) (copy : LineCopy) where
  abbrev Used : Op → ℕ → ℕ → Type 0
  Used op i ts = Uses f pts (copy_seen copy) op (received_at i op copy) ts (copy_seen (copy_after i ts op copy))

  load_uses : (a : ℕ) → serves (Load a) pts copy ≡ true → Used (Load a) (a % f.line_words) (max pts copy.wts)
  load_uses a h = cond_both (is_exclusive copy.state) _ _ (λ new. Uses f pts (copy_seen copy) (Load a)
      (received_at (a % f.line_words) (Load a) copy) (max pts copy.wts) (copy_seen new)) (λ ex. load_own a ex)
      (λ sh. load_hit a sh (leb-true pts copy.rts (rw sh at h)))

  pub serves_uses : (op : Op) (ts : ℕ) → serves op pts copy ≡ true → time_of f.private_write pts op copy ≡ Some ts →
      Used op (address op % f.line_words) ts
  serves_uses (Load a) ts h t = grind (arith, max pts copy.wts, load_uses a h)
  serves_uses (Store a v) ts h t =
      subst (Used (Store a v) (a % f.line_words)) (write_time_is (f.private_write && copy.written)
      (fits (copy.rts + 1)) (max pts copy.rts) (max pts (copy.rts + 1)) ts t) (store_own a v h)
  serves_uses (Swap a v) ts h t =
      subst (Used (Swap a v) (a % f.line_words)) (write_time_is (f.private_write && copy.written)
      (fits (copy.rts + 1)) (max pts copy.rts) (max pts (copy.rts + 1)) ts t) (swap_own a v h)

-- one that doesn't, can't be used
pub serves_not : (op : Op) (pts : ℕ) (copy : LineCopy) → serves op pts copy ≡ false →
    CannotUse op pts (Some (copy_seen copy))
serves_not (Load a) pts copy h = grind (arith, or_parts (is_exclusive copy.state) (leb pts copy.rts) h)
serves_not _ pts copy h = (h, tt)

pub serves_clash : (op : Op) (pts : ℕ) (copy : LineCopy) → serves op pts copy ≡ true →
    CannotUse op pts (Some (copy_seen copy)) → ⊥
serves_clash (Load a) pts copy h k = omega (arith, leb-true pts copy.rts (rw k.0 at h))
serves_clash _ pts copy h k = let z : true ≡ false = sym h ∙ k.0 in cc

-- what a reaction is: a reply to the core, or a move
abbrev IsThere : Option LineCopy → Type 0
IsThere o = (old : LineCopy) × (o ≡ Some old)

abbrev pub CoreFits : ℕ → (ℕ → Type 0) → ℕ → ℕ → Line → List Message → Bool → Option LineCopy → CoreReaction → Type 0
CoreFits lease pinned t c x rest b o (Arrives copy) =
    Answers c x (record x { copies = with_at x.copies c (Some (copy_seen copy)); messages = rest })
CoreFits lease pinned t c x rest b o (Grants copy) =
    IsThere o × Answers c x (record x { copies = with_at x.copies c (Some (copy_seen copy)); messages = rest })
CoreFits lease pinned t c x rest b o (Returns kept sent) = IsThere o × (b ≡ false) × GoesUp sent ×
    Changes lease pinned None t x t (record x {
      copies = with_at x.copies c (copy_or_none kept);
      messages = body_seen c 0 sent ∷ rest;
    })
CoreFits lease pinned t c x rest b o Drops = Changes lease pinned None t x t (record x { messages = rest })
CoreFits lease pinned t c x rest b o NoCase = ⊥
CoreFits lease pinned t c x rest b o _ = Unit {0}

module _ (lease : ℕ) (pinned : ℕ → Type 0) (t c : ℕ) (x : Line) (rest : List Message) (b : Bool) where
  renewed_fits : (rts : ℕ) (o : Option LineCopy) → x.copies c ≡ copy_or_none o → is_shared_copy o ≡ true →
      IsPermutation x.messages (RenewRep c rts ∷ rest) →
      CoreFits lease pinned t c x rest b o (on_copy.with_copy (renewed rts) o)
  renewed_fits rts None is sh p = absurd (cc)
  renewed_fits rts (Some copy) is sh p = ((copy, refl), renews rts (copy_seen copy) rest p is)

  upgraded_fits : (rts : ℕ) (o : Option LineCopy) → x.copies c ≡ copy_or_none o → is_shared_copy o ≡ true →
      IsPermutation x.messages (UpgradeRep c rts ∷ rest) →
      CoreFits lease pinned t c x rest b o (on_copy.with_copy (upgraded rts) o)
  upgraded_fits rts None is sh p = absurd (cc)
  upgraded_fits rts (Some copy) is sh p = ((copy, refl), upgrades rts (copy_seen copy) rest p is)

  -- a core without an Exclusive copy has no right to the line
  without_copy : x.copies c ≡ None → NotOwned (x.copies c)
  without_copy is copy e = let z : None ≡ Some copy = sym is ∙ e in absurd (cc)

  with_shared : (held : LineCopy) → x.copies c ≡ Some (copy_seen held) → is_exclusive held.state ≡ false →
      NotOwned (x.copies c)
  with_shared held is sh copy e = grind arith

  flush_fits : (o : Option LineCopy) → x.copies c ≡ copy_or_none o → b ≡ false → (pinned c → ⊥) →
      IsPermutation x.messages (FlushReq c ∷ rest) → CoreFits lease pinned t c x rest b o (on_copy.flushed o)
  flush_fits None is off un p = (dropped c rest p (un, without_copy is), refl)
  flush_fits (Some copy) is off un p =
      cond_both (is_exclusive copy.state) _ _ (CoreFits lease pinned t c x rest b (Some copy))
      (λ ex. ((copy, refl), off, (λ cores banks from to. refl), (flushed c rest (copy_seen copy) p un is ex, refl)))
      (λ sh. (dropped c rest p (un, with_shared copy is sh), refl))

  back_fits : (until : ℕ) (o : Option LineCopy) → x.copies c ≡ copy_or_none o → b ≡ false → (pinned c → ⊥) →
      IsPermutation x.messages (WbReq c until ∷ rest) → CoreFits lease pinned t c x rest b o
      (on_copy.written_back lease until o)
  back_fits until None is off un p = (wb_dropped c until rest p (un, without_copy is), refl)
  back_fits until (Some copy) is off un p =
      cond_both (is_exclusive copy.state) _ _ (CoreFits lease pinned t c x rest b (Some copy))
      (λ ex. cond_both (fits (copy.wts + lease)) _ _
      (λ rts. CoreFits lease pinned t c x rest b (Some copy) (on_copy.returned copy rts))
      (λ fit. (
        (copy, refl),
        off,
        (λ cores banks from to. refl),
        (written_back c until rest (copy_seen copy) p un is ex, refl),
      ))
      (λ late. tt))
      (λ sh. (wb_dropped c until rest p (un, with_shared copy is sh), refl))

  pub core_fits : (core : CoreState) (line : ℕ) (m : Body) → (b ≡ false → pinned c → ⊥) → comes_to_core core line
      m ≡ true → x.copies c ≡ copy_or_none (copy_of core.cache line) → IsPermutation x.messages
      (body_seen 0 c m ∷ rest) →
      CoreFits lease pinned t c x rest b (copy_of core.cache line) (at_core lease b (copy_of core.cache line) m)
  core_fits core line (body.ShRep y) un has is p = shared (record { wts = y.wts; rts = y.rts; words = y.words }) rest p
  core_fits core line (body.ExRep y) un has is p =
      exclusive (record { wts = y.wts; rts = y.rts; words = y.words }) rest p
  core_fits core line (body.RenewRep rts) un has is p =
      renewed_fits rts _ is (and_parts (waits_for core line) _ has).1 p
  core_fits core line (body.UpgradeRep rts) un has is p =
      upgraded_fits rts _ is (and_parts (waits_for core line) _ has).1 p
  core_fits core line body.FlushReq un has is p = cond_both b _ _ (CoreFits lease pinned t c x rest b _) (λ z. tt)
      (λ e. flush_fits _ is e (un e) p)
  core_fits core line (body.WbReq until) un has is p = cond_both b _ _ (CoreFits lease pinned t c x rest b _)
      (λ z. tt) (λ e. back_fits until _ is e (un e) p)
  core_fits core line _ un has is p = absurd (let z : false ≡ true = has in cc)
