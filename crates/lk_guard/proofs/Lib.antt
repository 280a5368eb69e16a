pub mod Balances
pub mod Looks
pub mod Appends
pub mod Rounds
pub mod Begins
pub mod PvBegins
pub mod Crossing
