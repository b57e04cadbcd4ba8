-- What the layout of words and columns is, in cases; the law of evictions over words
pub mod Pinned
pub mod Entered
