pub mod InnerPlans
pub mod InnerBatch
