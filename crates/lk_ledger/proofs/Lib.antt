mod LineTexts
mod Parts
mod Obeyed
mod Answered
mod Came
