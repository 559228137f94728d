mod Giving
mod Whole
mod InBlocks
mod Delivered
