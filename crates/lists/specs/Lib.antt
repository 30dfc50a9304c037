pub mod Entries
pub mod Rooms
pub mod Queues
pub mod Views
pub mod Wakings
