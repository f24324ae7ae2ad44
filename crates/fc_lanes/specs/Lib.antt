-- What contracts over all lanes cite.
pub mod Dealing
pub mod AllLanes
pub mod Asking
pub mod Working
