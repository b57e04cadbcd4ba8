-- Growth and its walkers from try to try
pub mod Growing
