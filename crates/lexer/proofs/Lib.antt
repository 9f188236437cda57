-- The proofs that tokens are read as the definitions of texts say.
pub mod Tokens
pub mod Places
