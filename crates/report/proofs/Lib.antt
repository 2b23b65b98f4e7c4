pub mod NotShown
