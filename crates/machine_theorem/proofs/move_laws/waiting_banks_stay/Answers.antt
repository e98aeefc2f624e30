use Rattle.machine_theorem.proofs.StayingParts.{bank_stays, bank_drops, dram_answers}
use Rattle.machine_theorem.proofs.move_laws.waiting_banks_stay.Goals as goal

pub returns : goal.returns
returns c = record { stays = bank_stays; dropped = bank_drops; answered = dram_answers }
