mod Common
mod Comparisons
mod ReadingBack
