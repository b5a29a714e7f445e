pub mod Laws
pub mod Carriers
pub mod Summing
pub mod Agreeing
