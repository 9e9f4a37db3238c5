pub mod MapWhile
