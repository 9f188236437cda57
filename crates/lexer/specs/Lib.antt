-- What the contracts of private functions cite beside the definitions of texts.
pub mod Bytes
