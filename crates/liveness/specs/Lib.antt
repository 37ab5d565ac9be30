pub mod Queue
pub mod Graph
