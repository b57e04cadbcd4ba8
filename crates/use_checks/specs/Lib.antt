-- Line 7 of all uses at once, for private functions
pub mod AllUses
