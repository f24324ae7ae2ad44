-- The grammar of the viewer's words (`Grammar`); and what stands between it and `clap`: the command as `clap` sees it
-- (`Command`), and what is read off its matches (`Matches`).
pub mod Grammar
pub mod Command
pub mod Matches
