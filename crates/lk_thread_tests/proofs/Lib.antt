mod Halted
mod Homes
mod TakenOff
mod Written
mod Pages
