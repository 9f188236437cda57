-- What stands at an offset.
pub mod Bytes
-- Where terms end, node by node.
pub mod Nodes
-- Where a term that is written ends.
pub mod Extents
