mod AddedUp
mod EndedRuns
mod OneMore
mod FirstItems
