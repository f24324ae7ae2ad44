-- When a store stands for what is told, and what its steps are.
pub mod Store
pub mod Apart
pub mod Arming
pub mod Quiet
pub mod Armed
pub mod Phase
pub mod Settling
pub mod Leading
pub mod Logged
pub mod Passing
