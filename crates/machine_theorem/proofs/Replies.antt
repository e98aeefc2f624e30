-- The bank of a line that a core asks for makes room, loads the line, gets it back, and replies.
use Rattle.std.proofs.Common.{◌≡◌, ◌≢◌, ℕ, suc, ◌+◌, ◌/◌, ◌%◌, ◌≤◌, Bool, true, false, ◌&&◌, cond, List, ◌∷◌, length}
use Rattle.std.proofs.Common.{Option, Some, None, refl, sym, ap, ◌∙◌, subst, arith, ⊎_elim, is_some}
use Rattle.std.proofs.lemmas.Bool.{cases_Bool, cond_both, cases_eq, lt-ltb, ltb-false}
use Rattle.physiological_order.specs.Order.{of_core}
use Rattle.network.specs.declared.message.Node.TheVariants as node
use Rattle.network.specs.declared.message.Body.{Body}
use Rattle.network.specs.declared.message.Body.TheVariants as body
use Rattle.network.specs.declared.message.Message.{Message}
use Rattle.network.specs.declared.message.TimedLine.{TimedLine}
use Rattle.line_sets.specs.SetTable.{Sets, set_at, has_room}
use Rattle.llc_bank.specs.declared.entry.Entry.{Entry}
use Rattle.llc_bank.specs.declared.entry.Entry.TheVariants as entry
use Rattle.llc_bank.specs.declared.decision.Decision.{Decision}
use Rattle.llc_bank.specs.declared.decision.Decision.TheVariants as decision
use Rattle.llc_bank.specs.OnEntry as on_entry
use Rattle.llc_bank.specs.BankTable as bank_table
use Rattle.llc_bank.specs.BankTable.{BankState, core_of, entry_of, from_bank, bank_has_case}
use Rattle.network.specs.Mail.{counted}
use Rattle.timestamp_manager.specs.Lease.{shared_lease, is_version, fits as fits_time}
use Rattle.core_pts.specs.CoreTable as core_table
use Rattle.core_pts.specs.CoreTable.{CoreState, comes_to_core}
use Rattle.dram_mts.specs.Table.{comes_to_dram}
use Rattle.machine_table.specs.declared.event.Answer.TheVariants.{Delivered}
use Rattle.machine_table.specs.Step.{Makes, Getting, bank_step, reacted}
use Rattle.protocol.proofs.Lemmas.{Some_injective}
use Rattle.machine_theorem.specs.Bags.{SameBag}
use Rattle.machine_theorem.specs.States.{State}
use Rattle.machine_theorem.specs.Moves.{with_bank, Move, bank_steps, Reached, goes_on, AreBeside}
use Rattle.machine_theorem.specs.View.{core_seen}
use Rattle.machine_theorem.proofs.Services.{a_bank, LeadsTo, leads_after, leads_for, leads_here, leads_late, leads_on}
use Rattle.machine_theorem.proofs.Services.{leads_within}
use Rattle.machine_theorem.proofs.Bags.{as_many}
use Rattle.machine_theorem.proofs.SetSizes.{Fits}
use Rattle.machine_theorem.proofs.Sizes.{reached_sized, lines_fewer, first_there}
use Rattle.machine_theorem.proofs.Openings.{fair}
use Rattle.machine_theorem.proofs.Deliveries.{Found, found, ToBank, to_bank}
use Rattle.line_sets.specs.Order.{is_there}
use Rattle.machine_theorem.proofs.Ways.{Setting, AsksFor, Stands, Comes, Way, way_here, kept, IsShared, IsGone, decided}
use Rattle.machine_theorem.proofs.Ways.{by_loading, by_storing, Path, path_of, path_then, bank_moves, put}
use Rattle.machine_theorem.proofs.Recalled.{Waits, by_recalling, by_exclusive, emptied}
use Rattle.machine_theorem.specs.Rounds.{IsRequest}

module _ (who : Setting) where
  open who use {config, opening, n, c, l, K}

  -- a reply that brings what was asked
  pub record Replied (Suits : Body → Type 0) (b : State) : Type 0 where
    pub reached : Reached config opening b
    pub core_is : core_seen (b.cores c) ≡ K
    pub few : length b.bag ≤ n
    pub reply : Message
    pub rest : List Message
    pub taken : SameBag b.bag (reply ∷ rest)
    pub line : reply.line ≡ l
    pub to : reply.to ≡ node.Core c
    pub suits : Suits reply.body

  -- services that bring a reply
  abbrev pub Answered : (Body → Type 0) → ℕ → State → Type 0
  Answered Suits k a = LeadsTo config (suc n) k (λ b. Replied Suits b × (of_core c b.records ≡ of_core c a.records)) a

module _ (who : Setting) (how : Waits who) where
  open who use {config, good, opening, n, c, l, w}

  abbrev home : ℕ → ℕ
  home h = h % config.banks

  -- room for the line of the core's request in its bank, which doesn't have it
  abbrev pub HasRoom : State → Type 0
  HasRoom a = (entry_of (a.banks (home l)) l ≡ None) ×
      (has_room (a.banks (home l)).table (bank_table.set_of (a.banks (home l)) l) ≡ true)

  -- a line that a bank has is one of its own, in its set
  module _ (a : State) (st : Stands who a) (b : ℕ) where
    abbrev the_bank : BankState
    the_bank = a.banks b

    fits : Fits config.bank_sets config.bank_ways (λ line. line / the_bank.banks) the_bank.table
    fits = (reached_sized config good opening a st.reached).banks b

    set_is : (k : ℕ) → bank_table.set_of the_bank k ≡ (k / config.banks) % config.bank_sets
    set_is k = ap (λ (m : ℕ). (k / m) % length the_bank.table.sets) ((kept who a st).shape.each_bank b).banks
        ∙ ap (λ (m : ℕ). (k / config.banks) % m) fits.as_many_sets

    in_set : (i k : ℕ) → is_there (set_at the_bank.table.sets i) k ≡ true →
        (bank_table.set_of the_bank k ≡ i) × (is_some (entry_of the_bank k) ≡ true) × (home k ≡ b)
    in_set i k there =
        let of = fits.homes i k there in
        let some = subst (λ (j : ℕ). is_there (set_at the_bank.table.sets j) k ≡ true) (sym of) there in (
          of,
          some,
          ⊎_elim (λ (e : home k ≡ b). e)
              (λ (ne : home k ≡ b → ⊥). absurd (let z : true ≡ false =
              sym some ∙ ap is_some (((kept who a st).shape.each_bank b).own k ne) in cc))
              (cases_eq (home k) b),
        )

  room_made : (a : State) → Stands who a → length a.bag ≤ n → entry_of (a.banks (home l)) l ≡ None →
      Path who 8 HasRoom a
  room_made a st size gone = by_room (has_room bank' i) refl
    where
      b : ℕ
      b = home l

      bank' : Sets Entry
      bank' = (a.banks b).table

      i : ℕ
      i = bank_table.set_of (a.banks b) l

      by_line' : (h : ℕ) → is_there (set_at bank'.sets i) h ≡ true → Path who 8 HasRoom a
      by_line' h there =
          let its = in_set a st b i h there in
          path_of who (emptied who how a st size h) (λ s x. cleared s x its.2
          (λ e. let z : true ≡ false = sym its.1 ∙ ap is_some (ap (entry_of (a.banks b)) e ∙ gone) in cc) there)
        where
          cleared : (s : State) → Comes who h (IsGone who h) a s → home h ≡ b → h ≢ l →
              is_there (set_at bank'.sets i) h ≡ true → HasRoom s
          cleared s x at_home apart was =
              let still = x.beside.others l (λ e. apart (sym e)) ∙ gone in
              let same_set : bank_table.set_of (s.banks b) l ≡ i =
              set_is s x.stands b l ∙ sym (set_is a st b l) in
              let now = fits s x.stands b in
              let before = fits a st b in
              let less = lines_fewer (set_at (s.banks b).table.sets i) (set_at bank'.sets i) h (now.distinct i) was
              (λ k k_there.
              let k_in = in_set s x.stands b i k k_there in
              let ne : k ≢ h = λ e. let z : true ≡ false = sym k_in.1 ∙ ap is_some
              (ap (entry_of (s.banks b)) e ∙ sym (ap (λ (m : ℕ). entry_of (s.banks m) h) at_home) ∙ x.goal) in cc in
              let then : entry_of (a.banks b) k ≡ entry_of (s.banks b) k =
              sym (subst (λ (m : ℕ). entry_of (s.banks m) k ≡ entry_of (a.banks m) k) k_in.2 (x.beside.others k ne)) in
              let old_set : bank_table.set_of (a.banks b) k ≡ i =
              set_is a st b k ∙ sym (set_is s x.stands b k) ∙ k_in.0 in (
                subst (λ (m : ℕ). is_there (set_at bank'.sets m) k ≡ true) old_set (ap is_some then ∙ k_in.1),
                ne,
              )) in
              let most = before.sizes i in
              let ways : (s.banks b).table.ways ≡ bank'.ways = now.as_many_ways ∙ sym before.as_many_ways in (
                still,
                ap (has_room (s.banks b).table) same_set
                    ∙ lt-ltb (length (set_at (s.banks b).table.sets i)) (s.banks b).table.ways
                    (omega (arith, less, most, ways)),
              )

      by_room : (r : Bool) → has_room bank' i ≡ r → Path who 8 HasRoom a
      by_room true room = leads_here (record { stands = st; records = refl; few = size; goal = (gone, room) })
      by_room false full =
          let le = ltb-false (length (set_at bank'.sets i)) bank'.ways full in
          let some = (fair config good).some_bank_ways in
          let ways = (fits a st b).as_many_ways in
          let k = first_there (set_at bank'.sets i) (omega (arith, le, some, ways)) in by_line' k.0 k.1

  -- the core's request is delivered
  module _ (a : State) (st : Stands who a) where
    request : Found w a.bag
    request = found w a.bag (let z = st.asked in let one = how.one_needed in omega arith)

    abbrev q : Message
    q = request.message

    is_request : AsksFor c l q
    is_request = who.w_asks q request.weighs

    asks_bank : (b : Body) → IsRequest b → ((core : CoreState) (line : ℕ) →
        core_table.comes_to_core core line b ≡ false)
        × (comes_to_dram b ≡ false)
    asks_bank (body.ShReq pts version) ask = (λ k i. refl, refl)
    asks_bank (body.ExReq version) ask = (λ k i. refl, refl)
    asks_bank _ ask = absurd ask

    at_bank : ToBank config opening a (kept who a st) q request.rest request.taken
    at_bank = let z = asks_bank q.body is_request.asks in
        to_bank config opening a (kept who a st) q request.rest request.taken q.body refl z.0 z.1

    -- its bank has a case for it
    beside : AreBeside a.bag (node.Bank (home q.line)) (bank_has_case (a.banks (home q.line))) (Some q) request.rest
    beside = (request.taken, at_bank.to, at_bank.has)

  -- the bank has room for its line, and loads it
  loads_it : (a : State) → Stands who a → length a.bag ≤ n → HasRoom a → Path who 3 (IsShared who l) a
  loads_it a st size room =
      path_of who (subst (λ (i : ℕ). Way who i 3 (IsShared who i) a) line (go x.body refl (is_request a st).asks))
      (λ b k. k.goal)
    where
      x : Message
      x = q a st

      line : x.line ≡ l
      line = (is_request a st).line

      bank' : BankState
      bank' = a.banks (home x.line)

      started : (b : Body) → x.body ≡ b →
          ((core : ℕ) → on_entry.at_bank bank'.lease bank'.mts true core None b ≡ decision.Loads) →
          Way who x.line 3 (IsShared who x.line) a
      started b is by =
          let room' : (entry_of bank' x.line ≡ None) × (has_room bank'.table (bank_table.set_of bank' x.line) ≡ true) =
          subst (λ (i : ℕ). (entry_of (a.banks (home i)) i ≡ None)
          × (has_room (a.banks (home i)).table (bank_table.set_of (a.banks (home i)) i) ≡ true)) (sym line) room in
          let loads : on_entry.at_bank bank'.lease bank'.mts (has_room bank'.table (bank_table.set_of bank' x.line))
          (core_of x.from) (entry_of bank' x.line) x.body ≡ decision.Loads =
          rw (is, room'.1, room'.0) (by (core_of x.from)) in
          bank_moves who a st x.line (Getting x) (request a st).rest (beside a st)
          (ap (λ (e : Decision). reacted (bank_table.after_decision bank' x e)) loads)
          (put who a st x.line entry.Loading) st.asked size
          (λ s same ss less now. by_loading who s ss less x.line now)

      go : (b : Body) → x.body ≡ b → IsRequest b → Way who x.line 3 (IsShared who x.line) a
      go (body.ShReq pts version) is ask = started (body.ShReq pts version) is (λ core. refl)
      go (body.ExReq version) is ask = started (body.ExReq version) is (λ core. refl)
      go _ is ask = absurd ask

  -- whatever the entry of the line is, its bank comes to share it
  comes_to_share : (a : State) → Stands who a → length a.bag ≤ n → Path who 13 (IsShared who l) a
  comes_to_share a st size = by_entry (entry_of (a.banks (home l)) l) refl
    where
      loaded : (s : State) → Stands who s → length s.bag ≤ n → IsGone who l s → Path who 11 (IsShared who l) s
      loaded s ss less gone =
          path_then who (room_made s ss less gone) (λ t x. loads_it t x.stands x.few x.goal) (omega arith)

      way : {k : ℕ} {G : State → Type 0} → Way who l k G a → Path who k G a
      way x = path_of who x (λ b y. y.goal)

      by_entry : (e : Option Entry) → entry_of (a.banks (home l)) l ≡ e → Path who 13 (IsShared who l) a
      by_entry None is = leads_within (loaded a st size is) (omega arith)
      by_entry (Some entry.Loading) is = leads_within (way (by_loading who a st (omega arith) l is)) (omega arith)
      by_entry (Some (entry.Shared dirty line)) is = way (way_here who st size (dirty, line, is))
      by_entry (Some (entry.Exclusive o)) is = leads_within (way (by_exclusive who how a st size l o is)) (omega arith)
      by_entry (Some (entry.Recalling o)) is =
          leads_within (way (by_recalling who how a st (omega arith) l o is)) (omega arith)
      by_entry (Some entry.Storing) is =
          path_then who (way (by_storing who a st (omega arith) l is)) (λ b x. loaded b x.stands x.few x.goal)
          (omega arith)

  -- what a reply must bring, given what was asked
  module _ (Suits : Body → Type 0)
      (shared_suits : (m : Message) → 1 ≤ w m → (pts : ℕ) (version : Option ℕ) → m.body ≡ body.ShReq pts version →
      (x : TimedLine) → pts ≤ x.rts → Suits (body.ShRep x) × Suits (body.RenewRep x.rts))
      (owner_suits : (m : Message) → 1 ≤ w m → (version : Option ℕ) → m.body ≡ body.ExReq version →
      ((x : TimedLine) → Suits (body.ExRep x)) × ((rts : ℕ) → Suits (body.UpgradeRep rts))) where
    replies : (a : State) → Stands who a → length a.bag ≤ n → IsShared who l a → Answered who Suits 1 a
    replies a st size (dirty, line', is) = go x.body refl (is_request a st).asks
      where
        x : Message
        x = q a st

        rest : List Message
        rest = (request a st).rest

        bank' : BankState
        bank' = a.banks (home x.line)

        there : entry_of bank' x.line ≡ Some (entry.Shared dirty line')
        there = subst (λ (i : ℕ). entry_of (a.banks (home i)) i ≡ Some (entry.Shared dirty line'))
            (sym (is_request a st).line) is

        granted : (e : Entry) (sent : Body) → Suits sent →
            bank_step bank' (Getting x) ≡ reacted (bank_table.after_decision bank' x (decision.Grants e sent)) →
            Answered who Suits 1 a
        granted e sent suits done =
            let new : BankState = bank_table.with_used bank' x.line e in
            let r = from_bank bank' x.line x.from sent in
            let s : State = record (with_bank a (home x.line) new) { bag = r ∷ rest; counts = counted a.counts sent } in
            let move : Move config a s = bank_steps (home x.line) (Getting x) rest (Makes Delivered true (Some r) new)
            (at_bank a st).below (beside a st) done refl in
            let few = as_many a.bag (x ∷ rest) (request a st).taken in
            leads_after move tt (omega arith) (leads_here (
              record {
                reached = goes_on st.reached move;
                core_is = st.core_is;
                few = omega arith;
                reply = r;
                rest = rest;
                taken = λ h. refl;
                line = (is_request a st).line;
                to = (is_request a st).from;
                suits = suits;
              },
              refl {a = of_core c a.records},
            ))

        go : (b : Body) → x.body ≡ b → IsRequest b → Answered who Suits 1 a
        go (body.ShReq pts version) e ask = by_lease _ refl
          where
            by_lease : (o : Option (ℕ × Bool)) →
                shared_lease line'.wts line'.rts pts version bank'.lease ≡ o → Answered who Suits 1 a
            by_lease None t =
                leads_late (a_bank (home x.line) (Getting x) rest (at_bank a st).below (beside a st)
                (decided who bank' x (body.ShReq pts version) (Some (entry.Shared dirty line')) decision.TooLate e there
                (λ room. ap (on_entry.leased dirty line') t)))
            by_lease (Some lease) t =
                let longer : TimedLine = record line' { rts = lease.0 } in
                let suits = shared_suits x (request a st).weighs pts version e longer
                (lease_reaches line'.wts line'.rts pts version bank'.lease lease t) in
                granted (entry.Shared dirty longer) (on_entry.read_answer lease.1 longer)
                (cond_both lease.1 _ _ Suits (λ renewed. suits.1) (λ read. suits.0))
                (decided who bank' x (body.ShReq pts version) (Some (entry.Shared dirty line'))
                (decision.Grants (entry.Shared dirty longer) (on_entry.read_answer lease.1 longer)) e there
                (λ room. ap (on_entry.leased dirty line') t))
              where
                lease_reaches : (wts rts pts : ℕ) (version : Option ℕ) (lease : ℕ) (given : ℕ × Bool) →
                    shared_lease wts rts pts version lease ≡ Some given → pts ≤ given.0
                lease_reaches wts rts pts version lease given t = ⊎_elim
                    (λ (fit : (fits_time (wts + lease) && fits_time (pts + lease)) ≡ true).
                    let z = ap (λ (g : ℕ × Bool). g.0) (Some_injective _ given (rw fit at t)) in omega arith)
                    (λ (late : (fits_time (wts + lease) && fits_time (pts + lease)) ≡ false).
                    absurd (let z = rw late at t in cc)) (cases_Bool _)
        go (body.ExReq version) e ask =
            let its = owner_suits x (request a st).weighs version e in
            let sent = cond (is_version line'.wts version) (body.UpgradeRep line'.rts) (body.ExRep line') in
            granted (entry.Exclusive (core_of x.from)) sent
            (cond_both (is_version line'.wts version) _ _ Suits (λ upgraded. its.1 line'.rts) (λ sent. its.0 line'))
            (decided who bank' x (body.ExReq version) (Some (entry.Shared dirty line'))
            (decision.Grants (entry.Exclusive (core_of x.from)) sent) e there (λ room. refl))
        go _ e ask = absurd ask

    -- whatever the entry is, a reply comes
    pub reply_comes : (a : State) → Stands who a → length a.bag ≤ n → Answered who Suits 14 a
    reply_comes a st size = leads_on (comes_to_share a st size)
        (λ b x. leads_for (replies b x.stands x.few x.goal) (λ d y. (y.0, y.1 ∙ x.records))) (omega arith)
