pub mod HexPrints
pub mod Hexes
pub mod HexLaws
pub mod HexReads
pub mod LineLaws
pub mod Splits
