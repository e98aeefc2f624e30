use Rattle.std.proofs.Common.{refl}
use Rattle.interleaving_core.proofs.MaskedCores.{first_masks}
use Rattle.interleaving_core.proofs.core_masks.idle_core_masks.Goals as goal

pub returns : goal.returns
returns c config = first_masks config c.args.cores _ c.requires.most refl
