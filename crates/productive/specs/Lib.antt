-- What the contracts of the two tests by a table of settled result kinds cite, and the laws that fix them.
pub mod Tests
