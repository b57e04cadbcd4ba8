-- What a gap segment meets among a register's reservations, and where a walk stands
pub mod Ways
pub mod Meeting
pub mod Standing
pub mod Gaps
