-- A lease that is given is the one that is tested.
use Rattle.std.proofs.Common.{◌≡◌, ℕ, ◌+◌, ◌≤◌, Bool, true, false, cond, max, Some, None, arith}
use Rattle.timestamp_manager.specs.LeaseLaws.{Covers, Reaches}

pub covers :
    (b v : Bool) (wts rts pts lease : ℕ) (given : ℕ × Bool) →
    cond b (Some (max (max rts (wts + lease)) (pts + lease), v)) None ≡ Some given → Covers wts rts pts lease given.0
covers true v wts rts pts lease given h = let e : max (max rts (wts + lease)) (pts + lease) ≡ given.0 =
    cc in record { before = omega arith; from_write = omega arith; from_reader = omega arith }
covers false v wts rts pts lease given h = cc

pub never : (b : Bool) (time : ℕ) (given : ℕ × Bool) → cond b (Some (time, false)) None ≡ Some given → given.1 ≡ false
never true time given h = cc
never false time given h = cc

pub reaches :
    (b : Bool) (wts rts until lease given : ℕ) → cond b (Some (max (max rts (wts + lease)) until)) None ≡ Some given →
    Reaches wts rts until lease given
reaches true wts rts until lease given h = let e : max (max rts (wts + lease)) until ≡ given =
    cc in record { before = omega arith; from_write = omega arith; asked = omega arith }
reaches false wts rts until lease given h = cc

pub covers-shortest :
    (b v : Bool) (wts rts pts lease : ℕ) (given : ℕ × Bool) →
    cond b (Some (max (max rts (wts + lease)) (pts + lease), v)) None ≡ Some given → (time : ℕ) → rts ≤ time →
    wts + lease ≤ time → pts + lease ≤ time → given.0 ≤ time
covers-shortest true v wts rts pts lease given h time from_lease from_write from_reader =
    let e : max (max rts (wts + lease)) (pts + lease) ≡ given.0 = cc in omega arith
covers-shortest false v wts rts pts lease given h time from_lease from_write from_reader = cc

pub reaches-shortest :
    (b : Bool) (wts rts until lease given : ℕ) → cond b (Some (max (max rts (wts + lease)) until)) None ≡ Some given →
    (time : ℕ) → rts ≤ time → wts + lease ≤ time → until ≤ time → given ≤ time
reaches-shortest true wts rts until lease given h time from_lease from_write asked =
    let e : max (max rts (wts + lease)) until ≡ given = cc in omega arith
reaches-shortest false wts rts until lease given h time from_lease from_write asked = cc
