mod DroppedBlocks
mod NextCalls
mod MutedRefusals
mod UntilTurn
mod UntilCalls
mod UntilErrors
