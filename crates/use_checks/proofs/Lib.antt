-- Why no use is bad where the counts fit
pub mod AllUses
