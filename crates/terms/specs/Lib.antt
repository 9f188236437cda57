-- The theory of document 01 on trees, with no byte in it. Each file rests only on those before it.
-- What has to be believed:
pub mod Lists
pub mod Signature
pub mod Term
pub mod Filling
pub mod Substitution
pub mod Replacing
pub mod Instance
pub mod Inhabited
pub mod Listing
pub mod Book
-- Ways to compute it, each with the law that fixes it:
pub mod Matcher
pub mod Emptiness
pub mod Productive
-- What is proved of it:
pub mod Laws
