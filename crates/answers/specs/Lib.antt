-- What the contracts of answers cite beside the promise in texts. What has to be believed:
pub mod Answered
-- What its functions promise each other:
pub mod Asked
