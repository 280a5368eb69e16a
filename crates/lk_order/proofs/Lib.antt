mod Nesting
mod Inside
mod Claimed
