mod DoneOps
