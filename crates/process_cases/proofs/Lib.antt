mod Few
mod Parts
