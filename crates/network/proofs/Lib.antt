mod Powers
mod RisingLists
mod SlotChanges
mod StoredMessages
mod LinkLaws
mod FirstMessages
mod StoredChanges
