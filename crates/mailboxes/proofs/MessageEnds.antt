-- Where the messages go that a seat's part sends: there is a link to there, or they are the seat's own.
use Rattle.std.proofs.Common.{◌≡◌, ℕ, ◌+◌, ◌%◌, ◌<◌, ◌==◌, ◌⊎◌, inl, inr, Bool, true, false, nat_le, nat_lt, cond}
use Rattle.std.proofs.Common.{List, Option, Some, None, refl, sym, ap, ◌∙◌, subst, true≢false, arith}
use Rattle.std.proofs.lemmas.Bool.{and_from, and_parts, eq-eqb, eqb-true, le-leb, lt-ltb, ltb-true}
use Rattle.std.specs.Ordering.{nat_cmp}
use Rattle.std.specs.FinMap.{FinMap}
use Rattle.network.specs.declared.message.Node.{Node}
use Rattle.network.specs.declared.message.Node.TheVariants.{Core, Bank, Dram}
use Rattle.network.specs.declared.message.Body.{Body}
use Rattle.network.specs.declared.message.Body.TheVariants as body
use Rattle.network.specs.declared.message.Message.{Message}
use Rattle.network.specs.declared.part.Reaction.{Reaction}
use Rattle.network.specs.declared.part.Reaction.TheVariants as does
use Rattle.network.specs.Routes.{is_core_to_bank, is_bank_to_dram, has_route, has_endpoints}
use Rattle.network.specs.Sends.{sent_by}
use Rattle.core_pts.specs.declared.decision.CoreReaction.{CoreReaction}
use Rattle.core_pts.specs.declared.decision.CoreReaction.TheVariants as reaction
use Rattle.core_pts.specs.CoreTable.{CoreState, after_reaction, core_table}
use Rattle.core_pts.specs.CoreTable as at_core
use Rattle.llc_bank.specs.declared.decision.Decision.{Decision}
use Rattle.llc_bank.specs.declared.decision.Decision.TheVariants as decision
use Rattle.llc_bank.specs.BankTable.{BankState, after_decision, bank_table, decided}
use Rattle.dram_mts.specs.Table.{dram_case, dram_table}
use Rattle.mailboxes.specs.PartServing.{leaves}
use Rattle.mailboxes.specs.Places.{end_of, has_link_to, is_own}

-- The ends of messages

-- from a core to a bank, from a bank to a core, from a bank to its DRAM, or back
data Ends (cores banks : ℕ) (from to : Node) : Type 0 where
  up : (b : ℕ) → leaves false from ≡ true → to ≡ Bank b → b < banks → Ends cores banks from to
  down : (c : ℕ) → to ≡ Core c → c < cores → Ends cores banks from to
  out : (b : ℕ) → end_of from ≡ b → to ≡ Dram b → Ends cores banks from to
  back : (b : ℕ) → end_of from ≡ b → to ≡ Bank b → b < banks → Ends cores banks from to

module _ (cores banks : ℕ) where
  goes_up : (from to : Node) → is_core_to_bank cores banks from to ≡ true → Ends cores banks from to
  goes_up (Core c) (Bank b) e = up b refl refl (ltb-true b banks (and_parts (nat_lt c cores) (nat_lt b banks) e).1)
  goes_up (Core c) (Core d) e = absurd (true≢false (sym e))
  goes_up (Core c) (Dram d) e = absurd (true≢false (sym e))
  goes_up (Bank b) to e = absurd (true≢false (sym e))
  goes_up (Dram b) to e = absurd (true≢false (sym e))

  goes_down : (from to : Node) → is_core_to_bank cores banks to from ≡ true → Ends cores banks from to
  goes_down (Bank b) (Core c) e = down c refl (ltb-true c cores (and_parts (nat_lt c cores) (nat_lt b banks) e).0)
  goes_down (Core d) (Core c) e = absurd (true≢false (sym e))
  goes_down (Dram d) (Core c) e = absurd (true≢false (sym e))
  goes_down from (Bank b) e = absurd (true≢false (sym e))
  goes_down from (Dram b) e = absurd (true≢false (sym e))

  goes_out : (from to : Node) → is_bank_to_dram banks from to ≡ true → Ends cores banks from to
  goes_out (Bank b) (Dram d) e = out d (eqb-true b d (and_parts (nat_lt b banks) (b == d) e).1) refl
  goes_out (Bank b) (Core d) e = absurd (true≢false (sym e))
  goes_out (Bank b) (Bank d) e = absurd (true≢false (sym e))
  goes_out (Core c) to e = absurd (true≢false (sym e))
  goes_out (Dram b) to e = absurd (true≢false (sym e))

  goes_back : (from to : Node) → is_bank_to_dram banks to from ≡ true → Ends cores banks from to
  goes_back (Dram d) (Bank b) e =
      let x = and_parts (nat_lt b banks) (b == d) e in back b (sym (eqb-true b d x.1)) refl (ltb-true b banks x.0)
  goes_back (Core d) (Bank b) e = absurd (true≢false (sym e))
  goes_back (Bank d) (Bank b) e = absurd (true≢false (sym e))
  goes_back from (Core c) e = absurd (true≢false (sym e))
  goes_back from (Dram d) e = absurd (true≢false (sym e))

  ends_of : (from to : Node) (b : Body) → has_route cores banks from to b ≡ true → Ends cores banks from to
  ends_of from to (body.ShReq pts v) e = goes_up from to e
  ends_of from to (body.ExReq v) e = goes_up from to e
  ends_of from to (body.FlushRep y) e = goes_up from to e
  ends_of from to (body.WbRep y) e = goes_up from to e
  ends_of from to (body.ShRep y) e = goes_down from to e
  ends_of from to (body.ExRep y) e = goes_down from to e
  ends_of from to (body.RenewRep r) e = goes_down from to e
  ends_of from to (body.UpgradeRep r) e = goes_down from to e
  ends_of from to body.FlushReq e = goes_down from to e
  ends_of from to (body.WbReq r) e = goes_down from to e
  ends_of from to body.DramLd e = goes_out from to e
  ends_of from to (body.DramSt ws) e = goes_out from to e
  ends_of from to (body.DramLdRep ws) e = goes_back from to e
  ends_of from to body.DramStRep e = goes_back from to e

  module _ (number : ℕ) where
    -- there is a link to where the message goes, if it leaves the seat; else it is the seat's own
    abbrev pub Goes : Bool → Node → Type 0
    Goes is_core to = cond (leaves is_core to) (has_link_to cores banks number to) (is_own cores number to) ≡ true

    -- what a core sends to a bank
    pub core_goes : (s : Message) (b : ℕ) → number < cores → s.to ≡ Bank b → has_endpoints cores banks s ≡ true →
        Goes true s.to
    core_goes s b lt to e = by (ends_of s.from s.to s.body e)
      where
        by : Ends cores banks s.from s.to → Goes true s.to
        by (up d f t less) =
            ap (has_link_to cores banks number) t
            ∙ and_from (nat_lt number cores) (nat_lt d banks) (lt-ltb number cores lt) (lt-ltb d banks less)
        by (down c t less) = absurd (let no : Core c ≡ Bank b = sym t ∙ to in cc)
        by (out d f t) = absurd (let no : Dram d ≡ Bank b = sym t ∙ to in cc)
        by (back d f t less) =
            ap (has_link_to cores banks number) t
            ∙ and_from (nat_lt number cores) (nat_lt d banks) (lt-ltb number cores lt) (lt-ltb d banks less)

    module _ (i : ℕ) (named : number ≡ cores + i) where
      -- what a bank sends, or the DRAM behind it
      pub bank_goes : (s : Message) → (s.from ≡ Bank i) ⊎ (s.from ≡ Dram i) → has_endpoints cores banks s ≡ true →
          Goes false s.to
      bank_goes s from e = by (ends_of s.from s.to s.body e)
        where
          here : end_of s.from ≡ i
          here = elim from [ inl f ↦ ap end_of f | inr f ↦ ap end_of f ]

          no_core : leaves false s.from ≡ false
          no_core = elim from [ inl f ↦ ap (leaves false) f | inr f ↦ ap (leaves false) f ]

          own : (b : ℕ) → end_of s.from ≡ b → (cores + b == number) ≡ true
          own b f = let same : i ≡ b = sym here ∙ f in eq-eqb (cores + b) number (omega (arith, same, named))

          by : Ends cores banks s.from s.to → Goes false s.to
          by (up b f t less) = absurd (true≢false (sym f ∙ no_core))
          by (down c t less) =
              subst (Goes false) (sym t)
              (and_from (nat_le cores number) (nat_lt c cores) (le-leb cores number (omega (arith, named)))
              (lt-ltb c cores less))
          by (out b f t) = subst (Goes false) (sym t) (own b f)
          by (back b f t less) = subst (Goes false) (sym t) (own b f)

      -- what goes to the seat itself goes to its bank or its DRAM
      pub own_ends : (to : Node) → is_own cores number to ≡ true → (to ≡ Bank i) ⊎ (to ≡ Dram i)
      own_ends (Core c) h =
          let x = and_parts (nat_lt c cores) (c == number) h in
          let below : c < cores = ltb-true c cores x.0 in
          let same : c ≡ number = eqb-true c number x.1 in
          absurd (omega (arith, named))
      own_ends (Bank b) h =
          let same : cores + b ≡ number = eqb-true (cores + b) number h in inl (ap Bank (omega (arith, named)))
      own_ends (Dram b) h =
          let same : cores + b ≡ number = eqb-true (cores + b) number h in inr (ap Dram (omega (arith, named)))

-- a message of a core's seat is its core's
pub own_core : (cores number : ℕ) (to : Node) → number < cores → is_own cores number to ≡ true → to ≡ Core number
own_core cores number (Core c) lt e = ap Core (eqb-true c number (and_parts (nat_lt c cores) (c == number) e).1)
own_core cores number (Bank b) lt e = absurd (let z = eqb-true (cores + b) number e in omega (arith, lt))
own_core cores number (Dram b) lt e = absurd (let z = eqb-true (cores + b) number e in omega (arith, lt))

-- What parts send

-- the part sends this
abbrev pub IsSent : {P : Type 0} → Option (Reaction × P) → Message → Type 0
IsSent {P} r s = (q : P) × ((r ≡ Some (does.Done (Some s), q)) ⊎ (r ≡ Some (does.HeldAfter s, q)))

module _ {P : Type 0} where
  abbrev sender : Option (Reaction × P) → Option Node
  sender None = None
  sender (Some (does.Done None, q)) = None
  sender (Some (does.Done (Some s), q)) = Some s.from
  sender (Some (does.Dropped, q)) = None
  sender (Some (does.Held, q)) = None
  sender (Some (does.HeldAfter s, q)) = Some s.from

  sender_of : (r : Option (Reaction × P)) (s : Message) → IsSent r s → sender r ≡ Some s.from
  sender_of r s is = elim is.1 [ inl e ↦ ap sender e | inr e ↦ ap sender e ]

  sent_to : (r : Option (Reaction × P)) (s : Message) → IsSent r s → (stays : Bool) × (sent_by r ≡ Some (s.to, stays))
  sent_to r s is = elim is.1 [ inl e ↦ (false, ap sent_by e) | inr e ↦ (true, ap sent_by e) ]

-- a core answers to the bank of the line
abbrev target_in : Node → Option (Node × Bool) → Node
target_in other None = other
target_in other (Some sent) = sent.0

reply_goes : (core : CoreState) (line : ℕ) (d : CoreReaction) (n : Node) (stays : Bool) →
    sent_by (after_reaction core line d) ≡ Some (n, stays) → n ≡ Bank (line % core.banks)
reply_goes core line (reaction.Arrives copy) n stays e = cc
reply_goes core line (reaction.Grants copy) n stays e = cc
reply_goes core line (reaction.Returns kept sent) n stays e = sym (ap (target_in n) e)
reply_goes core line reaction.Drops n stays e = cc
reply_goes core line _ n stays e = cc

pub core_sends_to : (core : CoreState) (m s : Message) → IsSent (core_table core m) s →
    s.to ≡ Bank (m.line % core.banks)
core_sends_to core m s is =
    let to = sent_to (core_table core m) s is in
    reply_goes core m.line (at_core.decided core m.line m.body) s.to to.0 to.1

-- what a bank sends comes from it
decided_sender : (bank : BankState) (m : Message) (d : Decision) (n : Node) →
    sender (after_decision bank m d) ≡ Some n → n ≡ Bank bank.number
decided_sender bank m decision.Waits n e = cc
decided_sender bank m _ n e = cc

pub bank_sends : (bank : BankState) (m s : Message) → IsSent (bank_table bank m) s → s.from ≡ Bank bank.number
bank_sends bank m s is = decided_sender bank m (decided bank m) s.from (sender_of (bank_table bank m) s is)

-- and what a DRAM sends comes from where the message went
case_sender : (lines : FinMap nat_cmp (List ℕ)) (m : Message) (b : Body) (n : Node) →
    sender (dram_case lines m b) ≡ Some n → n ≡ m.to
case_sender lines m body.DramLd n e = cc
case_sender lines m (body.DramSt words) n e = cc
case_sender lines m _ n e = cc

pub dram_sends : (lines : FinMap nat_cmp (List ℕ)) (m s : Message) → IsSent (dram_table lines m) s → s.from ≡ m.to
dram_sends lines m s is = case_sender lines m m.body s.from (sender_of (dram_table lines m) s is)
