pub mod InMemory
pub mod CardRooms
pub mod Reading
pub mod Finding
pub mod AddedGains
