pub mod DrivenNets
