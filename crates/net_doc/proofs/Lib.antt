pub mod Readings
pub mod Names
pub mod Forms
pub mod Drafted
pub mod Refused
pub mod SameService
pub mod OldPolicies
pub mod OneProtocol
