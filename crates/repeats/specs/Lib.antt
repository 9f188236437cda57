-- What the contract of looking for a repeated name cites, and the law that fixes it.
pub mod FirstRepeat
