mod JobCounts
mod Deeds
mod Places
mod Gathered
mod Outcomes
mod Starts
mod PvStarts
