pub mod Places
pub mod Closed
pub mod Rows
pub mod Leading
pub mod Memory
pub mod Automata
