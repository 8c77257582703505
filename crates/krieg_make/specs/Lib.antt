pub mod Named
pub mod Start
pub mod MadePositions
pub mod MadeSheets
pub mod MadeSessions
pub mod MadeTexts
pub mod Laws
