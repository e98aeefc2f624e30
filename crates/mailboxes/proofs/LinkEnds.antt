-- The ends of a link, from its number.
use Rattle.std.proofs.Common.{◌≡◌, ℕ, ◌+◌, ◌-◌, ◌*◌, ◌/◌, ◌%◌, ◌<◌, ◌≤◌, Bool, true, cond, ltb, leb}
use Rattle.std.proofs.Common.{sym, refl, ap, ◌∙◌, subst, arith, mod-eq_of_lt, mul_comm, mul_assoc, lt-ltb, le-ltb}
use mathlib.Core.Logic.{dite}
use native.Mathlib.Decide.{dec_lt}
use Rattle.std.proofs.Math.Nat.{mul-add-mod_self_right}
use Rattle.std.proofs.lemmas.Nat.{div-mul-add, mul-add-lt}
use Rattle.std.proofs.lemmas.Bool.{and_parts, ltb-true, leb-true, false≢true}
use Rattle.network.specs.declared.message.Node.{Node}
use Rattle.network.specs.declared.message.Node.TheVariants.{Core, Bank, Dram}
use Rattle.machine_table.specs.declared.config.Config.{Config}
use Rattle.seat_rule.specs.declared.views.SetUp.{SetUp}
use Rattle.seat_rule.specs.Rule.{source, target, node_of, to_of}
use Rattle.mailboxes.specs.Places.{EndsAt, has_link_to, link_to, incoming, incoming_count}

-- a link from a core to a bank, and one from a bank to a core, are among the links
down_below : (cores banks c b : ℕ) → c < cores → b < banks → c * banks + b < cores * banks
down_below cores banks c b lc lb =
    subst (λ k. c * banks + b < k) (mul_comm banks cores) (mul-add-lt c banks b cores lc lb)

pub down_within : (cores banks c b : ℕ) → c < cores → b < banks → 4 * (c * banks + b) + 4 ≤ 8 * cores * banks
down_within cores banks c b lc lb =
    let all = mul_assoc 8 cores banks in
    let below = down_below cores banks c b lc lb in
    omega arith

pub up_within : (cores banks b c : ℕ) → b < banks → c < cores →
    4 * (cores * banks + (b * cores + c)) + 4 ≤ 8 * cores * banks
up_within cores banks b c lb lc =
    let all = mul_assoc 8 cores banks in
    let below = mul-add-lt b cores c banks lb lc in
    omega arith

-- from a core to a bank
down_link : (z : SetUp) (c b : ℕ) → c < z.config.cores → b < z.config.banks →
    (source z (c * z.config.banks + b) ≡ c) × (target z (c * z.config.banks + b) ≡ z.config.cores + b)
unfolding source target
down_link z c b lc lb =
    let cores : ℕ = z.config.cores in
    let banks : ℕ = z.config.banks in
    let t = lt-ltb (c * banks + b) (cores * banks) (down_below cores banks c b lc lb) in (
      rw t (div-mul-add c banks b lb),
      rw t (ap (λ k. cores + k) (mul-add-mod_self_right c banks b ∙ mod-eq_of_lt lb)),
    )

-- from a bank to a core
up_link : (z : SetUp) (b c : ℕ) → b < z.config.banks → c < z.config.cores →
    (source z (z.config.cores * z.config.banks + (b * z.config.cores + c)) ≡ z.config.cores + b)
    × (target z (z.config.cores * z.config.banks + (b * z.config.cores + c)) ≡ c)
unfolding source target
up_link z b c lb lc =
    let cores : ℕ = z.config.cores in
    let p : ℕ = cores * z.config.banks in
    let k : ℕ = b * cores + c in
    let t = le-ltb (p + k) p (omega arith) in
    let back : (p + k) - p ≡ k = omega arith in (
      rw (t, back) (ap (λ q. cores + q) (div-mul-add b cores c lc)),
      rw (t, back) (mul-add-mod_self_right b cores c ∙ mod-eq_of_lt lc),
    )

-- the node of a core's seat, and of a bank's
core_node : (z : SetUp) (c : ℕ) → c < z.config.cores → Core c ≡ node_of z c
unfolding node_of
core_node z c lc = rw (lt-ltb c z.config.cores lc) refl

bank_node : (z : SetUp) (b : ℕ) → Bank b ≡ node_of z (z.config.cores + b)
unfolding node_of
bank_node z b =
    let t = le-ltb (z.config.cores + b) z.config.cores (omega arith) in
    let back : z.config.cores + b - z.config.cores ≡ b = omega arith in
    rw (t, back) refl

-- where there is a link to a node, it joins the seat and that node
joins : (z : SetUp) (number : ℕ) (to : Node) → number < z.config.cores + z.config.banks →
    has_link_to z.config.cores z.config.banks number to ≡ true →
    (source z (link_to z.config.cores z.config.banks number to) ≡ number)
    × (to ≡ node_of z (target z (link_to z.config.cores z.config.banks number to)))
joins z number (Core c) below has =
    let cores : ℕ = z.config.cores in
    let p = and_parts (leb cores number) (ltb c cores) has in
    let le = leb-true cores number p.0 in
    let lt = ltb-true c cores p.1 in
    let back : cores + (number - cores) ≡ number = omega arith in
    let up = up_link z (number - cores) c (omega arith) lt in
    (up.0 ∙ back, core_node z c lt ∙ ap (node_of z) (sym up.1))
joins z number (Bank b) below has =
    let banks : ℕ = z.config.banks in
    let p = and_parts (ltb number z.config.cores) (ltb b banks) has in
    let down = down_link z number b (ltb-true number z.config.cores p.0) (ltb-true b banks p.1) in
    (down.0, bank_node z b ∙ ap (node_of z) (sym down.1))
joins z number (Dram d) below has = absurd (false≢true has)

-- the same of a machine that is set up so
pub joined : (c : Config) (number : ℕ) (to : Node) → number < c.cores + c.banks →
    has_link_to c.cores c.banks number to ≡ true → (z : SetUp) → z.config ≡ c →
    (source z (link_to c.cores c.banks number to) ≡ number)
    × (to ≡ node_of z (target z (link_to c.cores c.banks number to)))
joined c number to below has z is =
    subst
    (λ (y : Config).
    number < y.cores + y.banks → has_link_to y.cores y.banks number to ≡ true →
    (source z (link_to y.cores y.banks number to) ≡ number)
    × (to ≡ node_of z (target z (link_to y.cores y.banks number to))))
    is (joins z number to) below has

-- the links that come in to a core, and to a bank, end there
few_ends : (cores banks number from : ℕ) (is_core : Bool) → ltb number cores ≡ is_core →
    4 * from < incoming_count cores banks number → from < cond is_core banks cores
few_ends cores banks number from is_core t few =
    let f : 4 * from < 4 * cond is_core banks cores =
    subst (λ b. 4 * from < 4 * cond b banks cores) t few in
    omega arith

pub core_in : (cores banks number from : ℕ) → number < cores → 4 * from < incoming_count cores banks number →
    from < banks
core_in cores banks number from lt few =
    few_ends cores banks number from true (lt-ltb number cores lt) few

pub bank_in : (cores banks number from : ℕ) → cores ≤ number → 4 * from < incoming_count cores banks number →
    from < cores
bank_in cores banks number from le few =
    few_ends cores banks number from _ (le-ltb number cores le) few

pub core_end : (c : Config) (number from : ℕ) → number < c.cores → from < c.banks → (z : SetUp) → z.config ≡ c →
    target z (c.cores * c.banks + (from * c.cores + number)) ≡ number
core_end c number from lt near z is =
    subst
    (λ (y : Config).
    number < y.cores → from < y.banks → target z (y.cores * y.banks + (from * y.cores + number)) ≡ number)
    is (λ l f. (up_link z from number f l).1) lt near

pub bank_end : (c : Config) (number from : ℕ) → c.cores ≤ number → number < c.cores + c.banks → from < c.cores →
    (z : SetUp) → z.config ≡ c → target z (from * c.banks + (number - c.cores)) ≡ number
bank_end c number from le lt near z is =
    subst
    (λ (y : Config).
    y.cores ≤ number → number < y.cores + y.banks → from < y.cores →
    target z (from * y.banks + (number - y.cores)) ≡ number)
    is
    (λ l a f.
    let cores : ℕ = z.config.cores in
    let back : cores + (number - cores) ≡ number = omega arith in
    (down_link z from (number - cores) f (omega arith)).1 ∙ back)
    le lt near

-- the slots of a link are numbered after it
pub slot_link : (z : SetUp) (link place : ℕ) → to_of z (4 * link + place % 4) ≡ target z link
slot_link z link place = ap (target z) (omega arith)

-- a slot that comes in to a core's seat, or to a bank's, is one of the machine, and ends there
core_slot : (z : SetUp) (number place : ℕ) → number < z.config.cores →
    place < incoming_count z.config.cores z.config.banks number →
    EndsAt z (incoming z.config.cores z.config.banks number place) number
core_slot z number place lt few =
    let cores : ℕ = z.config.cores in
    let banks : ℕ = z.config.banks in
    let near = core_in cores banks number (place / 4) lt (omega (arith, few)) in
    let within = up_within cores banks (place / 4) number near lt in
    rw (lt-ltb number cores lt) (
      omega (arith, within),
      slot_link z (cores * banks + (place / 4 * cores + number)) place
          ∙ core_end z.config number (place / 4) lt near z refl,
    )

bank_slot : (z : SetUp) (number place : ℕ) → z.config.cores ≤ number → number < z.config.cores + z.config.banks →
    place < incoming_count z.config.cores z.config.banks number →
    EndsAt z (incoming z.config.cores z.config.banks number place) number
bank_slot z number place le below few =
    let cores : ℕ = z.config.cores in
    let banks : ℕ = z.config.banks in
    let near = bank_in cores banks number (place / 4) le (omega (arith, few)) in
    let within = down_within cores banks (place / 4) (number - cores) near (omega (arith, le, below)) in
    rw (le-ltb number cores le) (
      omega (arith, within),
      slot_link z (place / 4 * banks + (number - cores)) place
          ∙ bank_end z.config number (place / 4) le below near z refl,
    )

-- each slot that comes in to a seat is one of the machine, and ends there
pub slot_ends : (z : SetUp) (number place : ℕ) → number < z.config.cores + z.config.banks →
    place < incoming_count z.config.cores z.config.banks number →
    EndsAt z (incoming z.config.cores z.config.banks number place) number
slot_ends z number place below few =
    dite (dec_lt number z.config.cores) (λ lt. core_slot z number place lt few)
    (λ no. bank_slot z number place (omega arith) below few)
