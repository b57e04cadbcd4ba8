-- What the checks share
pub mod Walk
pub mod Reading
pub mod UseLists
pub mod Sound
pub mod SoundUses
pub mod LastUse
