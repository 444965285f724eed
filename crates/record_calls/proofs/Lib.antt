-- Laws that belong to no one function.
pub mod AcceptTold
pub mod Determined
pub mod ReplyTold
pub mod PollTold
