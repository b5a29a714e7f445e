pub mod Signer
pub mod Locating
