pub mod Limits
pub mod Outcomes
pub mod ReplyText
pub mod Kinds
pub mod Names
pub mod NearReply
pub mod TreeReply
pub mod Found
