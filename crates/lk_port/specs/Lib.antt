pub mod Shares
pub mod Standing
pub mod Asking
pub mod Ports
pub mod Opened
