-- The readers of replies are exact.
pub mod Cases
pub mod FaultLemmas
pub mod RefusalLemmas
pub mod DataLemmas
pub mod ReplyLemmas
pub mod RowLemmas
pub mod Read
pub mod Steps
pub mod LawLemmas
pub mod Worked
