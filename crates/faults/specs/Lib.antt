-- The reasons by which a text is refused.
pub mod Reasons
