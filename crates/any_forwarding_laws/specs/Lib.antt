pub mod Forwardings
pub mod Copies
pub mod Hubs
pub mod HubExample
pub mod Laws
