pub mod Decisions
pub mod Limits
pub mod Findings
pub mod Unfit
pub mod Why
pub mod WhyText
pub mod Explanation
