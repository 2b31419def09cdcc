-- Lists and numbers, and loops along them: a search, a fold, a test of each element, the slots of a bucket.
pub mod Lists
pub mod Tests
pub mod Walks
pub mod Loops
pub mod Along
pub mod Lowest
