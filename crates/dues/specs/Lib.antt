-- What the contracts of telling what is due cite beside the definitions of texts.
pub mod Parts
