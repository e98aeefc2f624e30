use Rattle.std.proofs.Common.{◌≡◌, ◌++◌}
use Rattle.std.specs.List.{zip}
use Rattle.report.proofs.words.values_of_words.Given as goal

-- the pairs so far, with those that are left, are all of them
abbrev pub invariant-loop-word : goal.invariant-loop-word
invariant-loop-word g l =
    l.pairs.items ++ zip l.word-iterator.a.rest.now l.word-iterator.b.rest.now ≡ zip l.initial.word-iterator.a.rest.now
    l.initial.word-iterator.b.rest.now
