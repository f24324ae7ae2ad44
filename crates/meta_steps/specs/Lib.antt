-- What a disk that keeps account of its calls keeps of them, and that its account grows call by call.
pub mod Account
pub mod Accounts
