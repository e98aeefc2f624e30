-- What a part would send.
use Rattle.std.specs.Prelude.{Bool, true, false, Option, Some, None}
use Rattle.network.specs.declared.message.Node.{Node}
use Rattle.network.specs.declared.part.Reaction.{Reaction}
use Rattle.network.specs.declared.part.Reaction.TheVariants.{Done, Dropped, Held, HeldAfter}

-- the node that a reaction sends to, and whether the delivered message stays
abbrev pub sent_in : Reaction → Option (Node × Bool)
sent_in (Done None) = None
sent_in (Done (Some m)) = Some (m.to, false)
sent_in Dropped = None
sent_in Held = None
sent_in (HeldAfter m) = Some (m.to, true)

abbrev pub sent_by : {S : Type 0} → Option (Reaction × S) → Option (Node × Bool)
sent_by None = None
sent_by (Some r) = sent_in r.0
