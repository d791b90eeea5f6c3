pub mod Words
pub mod Unfoldings
mod Backslashes
mod Case
mod Classes
mod Escape
mod SetMatcher
mod Literals
mod ParentDirectories
mod Recursive
mod RegexTexts
mod Separator
mod SmallRegex
mod Wildcards
