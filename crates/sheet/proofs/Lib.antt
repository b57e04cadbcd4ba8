-- The laws that the proofs of several functions cite.
pub mod Lists
pub mod KindLaws
pub mod FieldLaws
pub mod LineLaws
pub mod NextLaws
pub mod CheckLaws
pub mod SoundLaws
pub mod CompleteLaws
pub mod FillLaws
pub mod CellLaws
pub mod ReadLaws
pub mod WriteLaws
pub mod Prefix
pub mod Sizes
pub mod Exact
