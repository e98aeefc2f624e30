use Rattle.std.proofs.Common.{◌≡◌, take}
use Rattle.tardis_c.specs.Plain.{words_of}
use Rattle.tardis_c.proofs.histories.memory_of_opening_words.Given as goal

abbrev pub invariant-loop-word : goal.invariant-loop-word
invariant-loop-word l = l.memory ≡ words_of (take l.word-index l.opening)
