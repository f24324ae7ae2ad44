-- What the contracts of groups cite beside `fc_books`.
pub mod States
pub mod Found
