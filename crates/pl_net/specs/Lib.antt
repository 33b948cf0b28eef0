pub mod NodesViews
pub mod Nets
pub mod Stations
pub mod Numbers
