use Rattle.std.proofs.Common.{◌∙◌, ap, map}
use Rattle.physiological_order.specs.declared.operation.Record.{Record}
use Rattle.physiological_order.specs.Order.{replay_end}
use Rattle.protocol.proofs.laws.every_reached_machine_is_consistent.Goals as goal
use Rattle.physiological_order.proofs.Lemmas.{one_arrangement, arrangement_of}
use Rattle.protocol.proofs.Headline.{legal, reachable_ok}
use Rattle.protocol.proofs.InProgram.{what_is_issued}
use Rattle.protocol.proofs.Owners.{at_most_one}
use Rattle.protocol.proofs.Coherent.{coherent_is}
use Rattle.protocol.proofs.BlockedRequests.{reachable_blocked}
use Rattle.protocol.proofs.Cases.{messages_have_cases}
use Rattle.protocol.proofs.Recalls.{owners_answer}

pub returns-clause-legal : goal.returns-clause-legal
returns-clause-legal c = λ f m good r. legal f good m r

pub returns-clause-issued : goal.returns-clause-issued
returns-clause-issued c = λ f m good r core. what_is_issued f good m r core

pub returns-clause-owners : goal.returns-clause-owners
returns-clause-owners c = λ f m good r cores line. at_most_one f good m r cores line

pub returns-clause-coherent : goal.returns-clause-coherent
returns-clause-coherent c = λ f m good r cores none arr is a.
    coherent_is f good m r cores none a
    ∙ ap (λ rs. replay_end f.opening (map (λ (r : Record). r.op) rs) a) (one_arrangement m.records _ arr
    (arrangement_of f.opening m.issued m.records (reachable_ok f good m r).kept) is)

pub returns-clause-blocked : goal.returns-clause-blocked
returns-clause-blocked c = λ f m r core op. (reachable_blocked f m r).blocked core op

pub returns-clause-cases : goal.returns-clause-cases
returns-clause-cases c = λ f m good r l. messages_have_cases f good m r l

pub returns-clause-recalls : goal.returns-clause-recalls
returns-clause-recalls c = λ f m good strict r l. owners_answer f good strict m r l
