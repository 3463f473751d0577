pub mod BeforeTermLaws
pub mod BoundLaws
pub mod GrowthLaws
pub mod MonthLaws
pub mod PaymentLaws
pub mod PlanBoundLaws
pub mod SecondLaws
