pub mod PlanMeasures
pub mod Trees
pub mod Order
pub mod Nodes
pub mod Roots
pub mod Plans
pub mod OneTurn
