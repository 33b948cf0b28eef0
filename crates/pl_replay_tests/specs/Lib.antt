pub mod CountingStage
