pub mod GoodStays
pub mod MotorReports
pub mod GoodUnderReports
pub mod MoveDemands
pub mod GoodUnderCommands
pub mod OnlyShows
