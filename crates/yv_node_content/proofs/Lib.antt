pub mod StepSets
