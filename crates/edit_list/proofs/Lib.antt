mod HostNetworks
pub mod Counts
pub mod PriceSteps
pub mod Placing
pub mod NewListFacts
pub mod RowFacts
pub mod OneEditList
pub mod Apart
pub mod EditsFrom
pub mod EditsApart
