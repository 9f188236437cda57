-- What the contracts of lines cite beside the definitions of texts.
pub mod Lines
