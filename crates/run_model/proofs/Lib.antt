mod Replaced
mod Steps
mod Histories
