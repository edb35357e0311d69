mod Totals
mod Walks
mod Weights
