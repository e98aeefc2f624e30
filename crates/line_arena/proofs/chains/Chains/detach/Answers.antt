use Rattle.line_arena.proofs.Shows.{lacks_from}
use Rattle.line_arena.proofs.chains.Chains.detach.Goals as goal

pub returns-clause-lacks : goal.returns-clause-lacks
returns-clause-lacks g c =
    let d = c.unlink_node.ensures in (
      lacks_from c.args.cell c.args.self.now c.unlink_node.new.self c.requires.arena c.requires.cell c.requires.on
          d.tied
          d.total d.uses.0 d.uses.1 d.sizes d.lists,
      d.uses.1,
    )
