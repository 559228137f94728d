mod Windows
mod Supplying
mod Giving
mod Settling
mod Going
