-- Why a seat answers that memory is wanted.
use Rattle.std.proofs.Common.{◌≡◌, Result, Err, refl, ap, sym, ◌∙◌}
use Rattle.machine_table.specs.declared.event.Refusal.{Refusal}
use Rattle.machine_table.specs.declared.event.Refusal.TheVariants.{NetworkFull, NoMemory, Exhausted}
use Rattle.inbox.specs.declared.answer.Refusal.{Refusal as ServingRefusal}
use Rattle.inbox.specs.declared.answer.Refusal.TheVariants as serving
use Rattle.inbox.specs.declared.answer.Served.{Served}
use Rattle.mailboxes.specs.SeatServing.{seat_refusal}

wanted : (r : ServingRefusal) → seat_refusal r ≡ NoMemory → r ≡ serving.NoMemory
wanted serving.Full e = absurd (let no : NetworkFull ≡ NoMemory = e in cc)
wanted serving.NoMemory e = refl
wanted serving.Exhausted e = absurd (let no : Exhausted ≡ NoMemory = e in cc)

-- it is the serving's answer
pub memory-of : (served : Result Served ServingRefusal) (r : ServingRefusal) (told : Refusal) → served ≡ Err r →
    told ≡ seat_refusal r → ◌≡◌ {A = Result Served Refusal} (Err told) (Err NoMemory) → served ≡ Err serving.NoMemory
memory-of served r told is gives e =
    let same : told ≡ NoMemory = cc in
    is ∙ ap (λ x. Err x) (wanted r (sym gives ∙ same))
