-- What the contracts of telling faults cite beside the definitions of texts.
pub mod Parts
