-- The grammar of the program's words (`Grammar`); and what stands between it and `clap`: the program as `clap` sees it
-- (`Program`), and what is read off its matches (`Matches`).
pub mod Grammar
pub mod Program
pub mod Matches
