pub mod Effects
pub mod Inboxes
pub mod Queues
pub mod Serving
pub mod Walks
