use Rattle.mailboxes.proofs.DramWords.{one_more_word}
use Rattle.mailboxes.proofs.opened_dram.open_dram.Goals as goal

pub loop-done-preserved : goal.loop-done-preserved
loop-done-preserved c =
    one_more_word c.args.config.now c.args.number c.args.words.now c.loop-done.done c.index-words-words.result
    c.loop-done.dram c.set_own_word.new.dram c.loop-done-test.true c.index-words-words.is c.loop-done.invariant
    c.in_ok-set_own_word.ensures
