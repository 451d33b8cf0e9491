mod Blocks
mod Compared
