mod Common
mod Branches
mod PlayForms
pub mod KeyForms
mod Edges
mod BranchForms
mod NodeGrammars
mod NodeSpellings
mod NodesAgain
mod PlanOrder
mod Headings
mod PlanGrammars
mod PlanSpellings
mod NodeWriting
mod PlansAgain
mod HeardLines
pub mod HeardSpellings
pub mod TextSizes
mod PlanSizes
pub mod ReadSizes
