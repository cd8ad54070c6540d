pub mod Boxes
pub mod Answers
pub mod Cases
pub mod Trails
pub mod Paths
pub mod Cuts
pub mod Sides
pub mod Order
