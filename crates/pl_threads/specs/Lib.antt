pub mod NodesViews
pub mod Running
pub mod Cores
pub mod Turning
pub mod Serving
