-- Answers as words: Words says how an answer is laid out, Entered what the law of evictions says of words
pub mod Words
pub mod Entered
