use Rattle.mailboxes.proofs.completions.complete_operation.Given as goal

abbrev pub ghosts-complete_operation_as : goal.ghosts-complete_operation_as
ghosts-complete_operation_as a =
    record { set_up = a.table.now.key; op = a.op.now; received = a.received; ts = a.ts; core = a.core.now }
