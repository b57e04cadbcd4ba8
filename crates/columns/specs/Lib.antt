-- Tables that are lent as columns: rows, the first place, what is over the numbers below n
pub mod Table
pub mod First
pub mod Below
