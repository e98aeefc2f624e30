use Rattle.std.proofs.Common.{◌≡◌, false, length}
use Rattle.std.specs.List.{list_any}
use Rattle.std.specs.FinMap as finite
use Rattle.litmus_reader.specs.OpeningMemory.{is_of_location, words_opened}
use Rattle.litmus_reader.specs.Litmus.{settings_of}
use Rattle.litmus_reader.specs.TestViews.{test_of}
use Rattle.litmus_reader.proofs.contents.Test.opening.Given as goal

-- the words so far, with those of the items that are left, are all of them; and none of these sets a location if none
-- does
abbrev pub invariant-loop-item : goal.invariant-loop-item
invariant-loop-item l =
    (words_opened (settings_of l.left) l.memory ≡ words_opened (test_of l.fn.self).items finite.empty)
    × (list_any (λ item. is_of_location item.0) (test_of l.fn.self).items ≡ false →
    list_any (λ item. is_of_location item.0) (settings_of l.left) ≡ false)

abbrev pub decreases-loop-item : goal.decreases-loop-item
decreases-loop-item l = length l.left
