-- What the contracts of extents cite.
--
--   Bytes      what stands at an offset
--   Extents    where a term ends
--   Nodes      what the private functions promise each other
pub mod Bytes
pub mod Extents
pub mod Nodes
