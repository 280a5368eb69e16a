-- What the steps of a paravirtual domain rest on.
pub mod Names
pub mod Unmarked
pub mod OnStates
pub mod OnMarks
pub mod plays
pub mod PvSwaps
pub mod Fails
pub mod PvEntries
pub mod Spared
pub mod Quits
pub mod PvRunning
pub mod PvSeating
pub mod HashMaps
pub mod OnHash
pub mod OnSeeks
pub mod Kicked
pub mod ways
