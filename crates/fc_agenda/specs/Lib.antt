-- What is still to be asked, and how a history goes on, to be read top to bottom.
pub mod Rules
pub mod Goes
