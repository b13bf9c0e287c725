pub mod GoodStays
