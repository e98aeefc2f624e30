mod Effects
mod HandFirst
mod HeldLists
mod Walks
