mod Values
mod Visits
