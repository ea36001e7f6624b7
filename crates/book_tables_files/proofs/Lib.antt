mod Making
mod Seeing
mod Commits
mod Rising
