-- Where the maps of each section stand in the map table.
pub mod Places
pub mod Found
