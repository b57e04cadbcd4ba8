-- Line 12, and the twelve lines together
pub mod Rooms
