mod FrameStack
mod StepCuts
mod StepErrors
mod EachStep
mod CompleteExpressions
mod PartSteps
mod Reductions
mod OpenExpressions
pub mod AlikeParts
