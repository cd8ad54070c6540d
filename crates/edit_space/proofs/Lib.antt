mod NameSets
pub mod FreeNames
mod Keys
mod PlacesFound
pub mod Naming
mod Picking
pub mod NamedFacts
pub mod ListKinds
mod ListPlaces
pub mod Bound
mod Whole
mod AfterValid
mod Sorting
pub mod SomeNames
pub mod SomeAfter
pub mod OneAfter
mod NewNames
