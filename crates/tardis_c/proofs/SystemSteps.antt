-- An event of a machine that is there.
use Rattle.std.specs.Prelude.{◌≡◌, Option, Some}
use Rattle.std.proofs.Common.{refl, sym, subst}
use Rattle.machine_table.specs.declared.event.Answer.{Answer}
use Rattle.machine_table.specs.declared.event.Event.{Event}
use Rattle.machine_table.specs.Machine.{Machine}
use Rattle.interleaving_core.specs.StepAnswers.{Stepped}
use Rattle.tardis_c.specs.SystemParts.{c_answer}
use Rattle.tardis_c.specs.Systems.{Steps}
use Rattle.tardis_c.specs.declared.system_parts.CAnswer.{CAnswer}

pub stepped : {old new : Option Machine} (before : CAnswer) {after : CAnswer} {machine next : Machine}
    (event : Event) {answer : Answer} → old ≡ Some machine → Stepped machine event answer next → new ≡ Some next →
    after ≡ c_answer answer → Steps old new before after 0 event
stepped {new = new} before {after = after} {next = next} event {answer = answer} is step left told =
    subst (λ (old : Option Machine). Steps old new before after 0 event) (sym is)
    (answer, next, step, left, told, refl)
