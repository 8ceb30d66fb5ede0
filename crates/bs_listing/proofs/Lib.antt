mod Fronts
mod BySide
mod TreeTexts
mod Lines
mod Replies
