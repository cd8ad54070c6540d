pub mod Again
pub mod Forms
pub mod Fronts
pub mod Printed
pub mod Within
pub mod Zeros
