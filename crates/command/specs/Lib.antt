pub mod Ping
pub mod Init
pub mod Diagnostic
pub mod Command
pub mod Cost
pub mod Codes
