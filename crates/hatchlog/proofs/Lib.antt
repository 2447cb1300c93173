pub mod NightLeft
