pub mod Goes
pub mod Walks
pub mod Laws
pub mod Examples
