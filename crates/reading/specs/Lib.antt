pub mod Message
pub mod Items
pub mod Reading
