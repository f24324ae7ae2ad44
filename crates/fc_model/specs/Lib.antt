-- What contracts of the plain sheet cite, beside the definitions of the chains.
pub mod Lanes
pub mod Graph
