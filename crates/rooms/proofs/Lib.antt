-- The twelve lines: exactly what is refused, and what an accepted job satisfies
pub mod Refused
pub mod Cases
