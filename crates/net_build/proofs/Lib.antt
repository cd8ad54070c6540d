mod AppendedLines
mod AskingMore
mod FewFaces
mod ValidRows
mod ValidLists
mod ValidSessions
mod ValidNetwork
mod Tries
mod OneRefusal
mod SettingForms
pub mod FacesApart
mod WellFormed
pub mod OneAnswer
mod OtherKinds
pub mod NetworkTried
